use Rattle.std.proofs.Common.{[], ◌∷◌, ◌++◌, set, sym, subst}
use Rattle.net_least.specs.Nearest.{AreAllNear, AreHeldNear, IsNear, IsWayTo}
use Rattle.net_least.proofs.Nears.{all_near_more}
use Rattle.net_least.proofs.nearest.put_nearest.Goals as goal

pub returns : goal.returns
returns c s done names apart is types within held all =
    let own = c.args.own.now in
    let symbols = c.args.modules.now.symbols in
    let links = c.args.links.now in
    let nears = c.args.nears.now.items in
    let n = c.args.number in
    let more = c.in_ok-near.ensures.grown in
    let below = subst (λ ns. AreHeldNear s own symbols links ns n) (sym c.as_slice.ensures.value) (λ k holds. all.each k (held k holds)) in
    let near = c.in_ok-near.ensures.near s names apart is types below in
    subst (λ ns. AreAllNear s own symbols c.nearest_below.new.links ns (done ++ n ∷ [])) (sym c.set_near.ensures)
    (subst (λ ls. AreAllNear s own symbols ls (set nears n c.in_ok-near.near) (done ++ n ∷ [])) (sym more.1)
    (all_near_more s own symbols links more.0 nears done n c.in_ok-near.near all within
    (subst (λ ls. IsNear symbols ls (IsWayTo s own n) c.in_ok-near.near) more.1 near)))
