use Rattle.std.proofs.Common.{◌≡◌, ◌<◌, ◌+◌, not, length, inl, inr, ap, ◌∙◌, subst, arith}
use Rattle.std.proofs.lemmas.Bool.{false≢true}
use Rattle.std.proofs.lemmas.Option.{get_or_from_slice_get, slice_get-get_or}
use Rattle.pw_defs.specs.declared.netlist.Expr.TheVariants.{Const as ConstExpr}
use Rattle.pw_defs.specs.declared.netlist.Assign.{Assign}
use Rattle.list_defs.proofs.Members.{IsIn-slice_get}
use Rattle.design_defs.specs.Places.{names_in}
use Rattle.module_rows.specs.Reads.{assign_at, module_at, no_assign, numbered_expr}
use Rattle.net_hierarchy.proofs.Places.{in_take_more}
use Rattle.net_widths.specs.Refusals.{IsFirstName}
use Rattle.net_widths.proofs.TargetLemmas.{none_first, some_first}
use Rattle.net_widths.proofs.targets.has_targets.Goals as goal

pub returns-then-is_none : goal.returns-then-is_none
returns-then-is_none c =
    let n = c.args.modules.now in
    let assigns = (module_at n c.args.holder).assigns in
    let k = c.loop-assign.assign in
    let a = assign_at n c.args.holder k in
    let within : k < length assigns = omega (arith, c.loop-assign-test.true, c.module-assign-end.ensures.assigns) in
    let one = IsIn-slice_get assigns k a (slice_get-get_or assigns k no_assign within) in
    let is_left : numbered_expr n c.assign-left.result.left ≡ a.left = get_or_from_slice_get n.exprs c.assign-left.result.left a.left (ConstExpr 0) c.assign-left.ensures.left in
    let first = subst (λ e. IsFirstName n.symbols (names_in e) c.first_name.result) is_left c.first_name.ensures in
    let none = none_first n.symbols (names_in a.left) c.first_name.result first (c.is_none.ensures ∙ ap not c.if-is_none.true) in
    (λ never. absurd (false≢true never), λ has. absurd (has a one none))

pub loop-assign-preserved : goal.loop-assign-preserved
loop-assign-preserved c = λ b there none.
    let n = c.args.modules.now in
    let assigns = (module_at n c.args.holder).assigns in
    let k = c.loop-assign.assign in
    let a = assign_at n c.args.holder k in
    let is_left : numbered_expr n c.assign-left.result.left ≡ a.left = get_or_from_slice_get n.exprs c.assign-left.result.left a.left (ConstExpr 0) c.assign-left.ensures.left in
    let first = subst (λ e. IsFirstName n.symbols (names_in e) c.first_name.result) is_left c.first_name.ensures in
    let some = some_first n.symbols (names_in a.left) c.first_name.result first (c.is_none.ensures ∙ ap not c.if-is_none.false) in
    elim (in_take_more b assigns k (k + 1) (omega arith) there) [
      | inl old ↦ c.loop-assign.invariant b old none
      | inr at ↦ some (ap (λ (x : Assign). names_in x.left) (get_or_from_slice_get assigns k b no_assign at) ∙ none)
    ]
