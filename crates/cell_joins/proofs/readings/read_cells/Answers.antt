use Rattle.std.proofs.Common.{◌∙◌, Ok, Err, subst}
use Rattle.std.proofs.lemmas.Result.{err_from_is_err_and}
use Rattle.cell_joins.specs.Unions.{ChecksRoles, JoinsPlaced}
use Rattle.cell_joins.proofs.PlacedLaws.{joined_read, odd_read}
use Rattle.cell_joins.proofs.readings.read_cells.Goals as goal

pub returns-in_err-checked_roles : goal.returns-in_err-checked_roles
returns-in_err-checked_roles c =
    let p = err_from_is_err_and c.from_residual-in_err-checked_roles.result c.from_residual-in_err-checked_roles.ensures.1 in
    let e = c.in_err-checked_roles.field-0.0 in
    let m = c.in_ok-placed.ensures in
    rw (p.1, p.2)
    (odd_read c.args.text.now m.0 m.1 e (subst (λ l. ChecksRoles l (Err e)) (c.as_slice.ensures.items ∙ m.2) c.in_err-checked_roles.ensures))

pub returns : goal.returns
returns c =
    let m = c.in_ok-placed.ensures in
    joined_read c.args.text.now m.0 m.1
    (subst (λ l. ChecksRoles l (Ok c.in_ok-checked_roles.field-0)) (c.as_slice.ensures.items ∙ m.2) c.in_ok-checked_roles.ensures)
    c.joined_groups.result (subst (λ l. JoinsPlaced l c.joined_groups.result) (c.as_slice-2.ensures.items ∙ m.2) c.joined_groups.ensures)
