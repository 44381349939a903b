use Rattle.std.proofs.Common.{◌≡◌, ℕ, true, false, sym, ◌∙◌, subst}
use Rattle.std.proofs.lemmas.Option.{same_Some}
use Rattle.pw_defs.specs.declared.design.Body.{Body}
use Rattle.pw_defs.specs.declared.design.PortBit.{PortBit}
use Rattle.design_defs.specs.Drivers.{begins_signal_in, passes_on_in}
use Rattle.design_rows.specs.declared.tables.Feed.TheVariants.{Through}
use Rattle.design_rows.specs.View.{design_of}
use Rattle.net_frames.specs.Feeding.{IsFeed, IsPlainPort}
use Rattle.net_frames.proofs.owners.port_feed.Goals as goal

pub returns-then-begins : goal.returns-then-begins
returns-then-begins c at place is =
    let r = c.args.rows.now in
    let q : PortBit = record { inst = c.args.inst; port = c.args.port; place = place } in
    let P : Body → Type 0 = λ body. begins_signal_in (design_of r) body q ≡ true in
    IsFeed.begins q is (subst P c.requires.body (c.begins.ensures place ∙ c.if-begins.true))

pub returns-then-passes : goal.returns-then-passes
returns-then-passes c at place is =
    let r = c.args.rows.now in
    let q : PortBit = record { inst = c.args.inst; port = c.args.port; place = place } in
    let P : Body → Type 0 = λ body. passes_on_in (design_of r) body q ≡ true in
    let Q : ℕ → Type 0 = λ bit. IsFeed r c.args.inst at c.args.linked (Through bit) in
    let through = c.in_ok-bit.ensures in
    subst Q (sym through.0) (IsFeed.passes q c.args.through is (subst P c.requires.body (c.passes.ensures c.args.inst place ∙ c.if-passes.true)) through.1)

pub returns : goal.returns
returns c at place is =
    let r = c.args.rows.now in
    let q : PortBit = record { inst = c.args.inst; port = c.args.port; place = place } in
    let P : Body → Type 0 = λ body. begins_signal_in (design_of r) body q ≡ false in
    let Q : Body → Type 0 = λ body. passes_on_in (design_of r) body q ≡ false in
    let plain : IsPlainPort r c.args.inst q = record {
      no_signal = subst P c.requires.body (c.begins.ensures place ∙ c.if-begins.false);
      not_passing = subst Q c.requires.body (c.passes.ensures c.args.inst place ∙ c.if-passes.false);
    } in
    IsFeed.by_link (λ other there. subst (IsPlainPort r c.args.inst) (same_Some q other (sym is ∙ there)) plain)
