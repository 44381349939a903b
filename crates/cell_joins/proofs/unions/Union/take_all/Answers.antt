use Rattle.std.proofs.Common.{◌<◌, length, sym, subst, arith}
use Rattle.std.proofs.lemmas.List.{append-nil}
use Rattle.cell_joins.specs.Unions.{IsUnionOf, Takes}
use Rattle.cell_joins.proofs.UnionLaws.{cell_told}
use Rattle.cell_joins.proofs.unions.Union.take_all.Goals as goal

pub loop-cell-init : goal.loop-cell-init
loop-cell-init c = record {
  names = c.requires;
  joined = λ before are. subst (λ l. IsUnionOf l c.args.self.now) (sym (append-nil before)) are;
}

pub returns-then-not-taken-clause-takes : goal.returns-then-not-taken-clause-takes
returns-then-not-taken-clause-takes c =
    let within : c.loop-cell.cell-index < length c.args.cells.now = omega arith in
    cell_told c.args.self.now c.take.new.self c.args.cells.now c.loop-cell.cell-index c.cell-item.result c.loop-cell.self c.given_otherwise.result within c.cell-item.is c.loop-cell.invariant.joined
    (subst (λ taken. Takes c.loop-cell.self c.cell-item.result taken c.take.new.self) c.if-not-taken.true c.in-Ok.ensures.takes) c.given_otherwise.ensures
