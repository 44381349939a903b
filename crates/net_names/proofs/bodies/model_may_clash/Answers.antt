use Rattle.std.proofs.Common.{List, ℕ, subst, true, ◌≡◌}
use Rattle.list_defs.specs.Members.{all_differ, same_name}
use Rattle.net_names.proofs.EachBody.{model_looked}
use Rattle.net_names.proofs.bodies.model_may_clash.Goals as goal

pub returns-in-Some : goal.returns-in-Some
returns-in-Some c none =
    let P : List (List ℕ) → Type 0 = λ names. all_differ same_name names ≡ true in
    model_looked c.args.model.now c.in_ok-index.field-0 c.in-Some.index c.as_slice.result.now c.as_slice-in-Some.result.now c.as_slice.ensures.items c.as_slice-in-Some.ensures.items
    c.in_ok-index.ensures c.in-Some.is (subst P c.index.view_is c.index.invariant.differ) (c.has_bracketed.ensures none)
