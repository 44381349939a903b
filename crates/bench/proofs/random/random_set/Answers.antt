use Rattle.std.proofs.Common.{◌≡◌, ℕ, List, get_or, subst, sym, ap, ◌∙◌, arith}
use Rattle.diagram_defs.specs.Diagrams.{IsSet}
use Rattle.bench.proofs.RowLemmas.{IsRow, row_number}
use Rattle.bench.proofs.random.random_set.Goals as goal

pub returns-clause-number : goal.returns-clause-number
returns-clause-number c =
    let end : c.loop-level.level ≡ 0 = omega arith in
    let first = c.number_at.ensures ∙ ap (λ (row : List ℕ). get_or row 0 0) c.as_slice-2.ensures.value in
    subst (IsSet c.loop-level.pool 0) (sym first) (row_number c.loop-level.pool 0 c.loop-level.row.items 0 (subst (λ (l : ℕ). IsRow c.loop-level.pool l c.loop-level.row.items) end c.loop-level.invariant.row))
