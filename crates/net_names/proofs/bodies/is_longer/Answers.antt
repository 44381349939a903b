use Rattle.std.proofs.Common.{List, ℕ, subst, sym, ◌∙◌}
use Rattle.std.proofs.lemmas.Option.{same_Some}
use Rattle.net_names.specs.Bodies.{AreFree}
use Rattle.net_names.specs.Marks.{IsFree}
use Rattle.net_names.proofs.bodies.is_longer.Goals as goal

pub returns-else-goes_on : goal.returns-else-goes_on
returns-else-goes_on c none name is =
    let symbols = c.args.modules.now.symbols in
    let spelled = c.spelling-name.result.now in
    let slash = subst (λ (ms : List ℕ). IsFree symbols ms c.args.stamp 47 spelled) c.as_slice.ensures.value (c.goes_on.ensures c.if-goes_on.false) in
    let bracket = subst (λ (ms : List ℕ). IsFree symbols ms c.args.stamp 91 spelled) c.as_slice-else-goes_on.ensures.value (c.goes_on-else-goes_on.ensures none) in
    subst (AreFree symbols c.args.marks.now c.args.stamp) (same_Some spelled name (sym c.spelling-name.ensures ∙ is)) (record { slash = slash; bracket = bracket })
