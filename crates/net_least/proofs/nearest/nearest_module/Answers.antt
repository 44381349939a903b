use Rattle.std.proofs.Common.{◌≡◌, ◌<◌, Some, get_or, length, slice_get, take, ap, sym, ◌∙◌, subst}
use Rattle.std.proofs.lemmas.List.{take_all, take_more}
use Rattle.std.proofs.lemmas.Option.{slice_get-get_or, slice_get_within}
use Rattle.list_defs.proofs.Members.{IsIn-slice_get}
use Rattle.net_sizes.proofs.Sizing.{leads_within}
use Rattle.net_least.specs.Nearest.{AreAllNear, IsNear, IsWayTo, near_at}
use Rattle.net_least.proofs.nearest.nearest_module.Goals as goal

pub loop-number-preserved : goal.loop-number-preserved
loop-number-preserved c s names apart is types named order_is =
    let order = c.args.order.now in
    let place = c.loop-number.number-index in
    let n = get_or order place 0 in
    let there : slice_get order place ≡ Some n = slice_get-get_or order place 0 c.loop-number-test.true in
    let m = leads_within s c.args.top n named (order_is.reached n (IsIn-slice_get order place n there)) in
    let within : n < length s.modules = slice_get_within s.modules n m.0 m.1 in
    let known = c.loop-number.invariant s names apart is types named order_is in
    subst (AreAllNear s c.args.own.now c.args.modules.now.symbols c.put_nearest.new.links c.put_nearest.new.nears.items) (sym (take_more order place 0 c.loop-number-test.true))
    (c.in_ok-put_nearest.ensures s (take place order) names apart is types within (λ k holds. order_is.behind place n k there holds) known)

pub returns : goal.returns
returns c s names apart is types named order_is =
    let own = c.args.own.now in
    let symbols = c.args.modules.now.symbols in
    let known = c.loop-number.invariant s names apart is types named order_is in
    let all = subst (AreAllNear s own symbols c.loop-number.links c.loop-number.nears.items) (take_all c.loop-number.number-index c.args.order.now c.loop-number-test.false) known in
    subst (IsNear symbols c.loop-number.links (IsWayTo s own c.args.top)) (ap (λ ns. near_at ns c.args.top) (sym c.as_slice.ensures.value) ∙ sym c.near_at.ensures ∙ c.in-None.is)
    (all.each c.args.top order_is.with_top)
