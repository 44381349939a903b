use Rattle.std.proofs.Common.{Err, [], subst}
use Rattle.std.proofs.lemmas.Result.{err_from_is_err_and}
use Rattle.cell_joins.specs.Unions.{IsUnionOf, TakesAll}
use Rattle.cell_joins.proofs.UnionLaws.{left_fault, right_fault}
use Rattle.cell_joins.proofs.unions.join_cells.Goals as goal

pub returns-in_err-take_all : goal.returns-in_err-take_all
returns-in_err-take_all c =
    let p = err_from_is_err_and c.from_residual.result c.from_residual.ensures.1 in
    let e = c.in_err-take_all.field-0.0 in
    rw (p.1, p.2)
    (left_fault c.args.all.now c.args.more.now c.new-union.result c.take_all.new.self e c.new-union.ensures
    (subst (λ l. TakesAll c.new-union.result l (Err e) c.take_all.new.self) c.as_slice.ensures.items c.in_err-take_all.ensures.takes))

pub returns-in_err-take_all-2 : goal.returns-in_err-take_all-2
returns-in_err-take_all-2 c =
    let p = err_from_is_err_and c.from_residual-in_err-take_all-2.result c.from_residual-in_err-take_all-2.ensures.1 in
    let e = c.in_err-take_all-2.field-0.0 in
    rw (p.1, p.2)
    (right_fault c.args.all.now c.args.more.now c.take_all.new.self c.take_all-2.new.self e
    (subst (λ l. IsUnionOf l c.take_all.new.self) c.as_slice.ensures.items (c.in_ok-take_all.ensures.takes [] c.new-union.ensures))
    (subst (λ l. TakesAll c.take_all.new.self l (Err e) c.take_all-2.new.self) c.as_slice-2.ensures.items c.in_err-take_all-2.ensures.takes))
