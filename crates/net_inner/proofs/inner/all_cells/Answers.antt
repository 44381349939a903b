use Rattle.std.proofs.Common.{◌≡◌, ◌∙◌, ◌+◌, ℕ, Some, ap, length, slice_get, sym, arith}
use Rattle.std.proofs.lemmas.List.{length_push}
use Rattle.std.proofs.lemmas.Option.{slice_get-get_or, slice_get_within}
use Rattle.pw_defs.specs.declared.cells.Cell.{Cell}
use Rattle.pw_defs.specs.declared.cells.Cells.{Cells}
use Rattle.pw_defs.specs.declared.design.Body.TheVariants.{Cell as CellBody}
use Rattle.net_inner.specs.Inside.{HasSources}
use Rattle.net_inner.proofs.InnerLemmas.{sources_more}
use Rattle.net_inner.proofs.inner.all_cells.Goals as goal

pub loop-number-preserved : goal.loop-number-preserved
loop-number-preserved c = record {
  count = ap length c.in_ok-push.ensures.ok ∙ length_push c.loop-number.rows c.in_ok-cell_sources.field-0 ∙ ap (λ (n : ℕ). n + 1) c.loop-number.invariant.count;
  each = λ s plans k cell less at.
      let p = c.args.placed.now in
      let number : ℕ = c.loop-number.number in
      let cells = p.cells.now.cells in
      let here : slice_get s.cells.cells number ≡ Some c.index-cells-number.result =
      ap (λ (cs : Cells). slice_get cs.cells number) plans.of_sources.1 ∙ ap (λ xs. slice_get xs number) (sym c.as_slice-cells.ensures.items)
      ∙ slice_get-get_or c.as_slice-cells.result.now number c.index-cells-number.result c.loop-number-test.true ∙ ap Some (sym c.index-cells-number.is) in
      sources_more (λ n row. (x : Cell) → slice_get cells n ≡ Some x → HasSources s p (CellBody n) row) c.loop-number.rows c.push.new.self c.in_ok-cell_sources.field-0 number
      c.loop-number.invariant.count c.in_ok-push.ensures.ok (λ n low x at_x. c.loop-number.invariant.each s plans n x low at_x)
      (λ x at_x. c.in_ok-cell_sources.ensures s plans here) k less cell at;
}

pub returns : goal.returns
returns c s plans k cell at =
    c.loop-number.invariant.each s plans k cell
    (omega (arith, slice_get_within c.args.placed.now.cells.now.cells k cell at, c.loop-number-test.false, ap length c.as_slice-cells.ensures.items)) at
