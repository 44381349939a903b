use Rattle.std.proofs.Common.{◌≡◌, ◌∙◌, ◌+◌, ℕ, true, List, Some, ap, length, slice_get, sym, arith}
use Rattle.std.proofs.lemmas.List.{length_push}
use Rattle.std.proofs.lemmas.Option.{slice_get-get_or, slice_get_within}
use Rattle.pw_defs.specs.declared.design.Body.TheVariants.{Model as ModelBody}
use Rattle.pw_defs.specs.declared.model.Model.{Model}
use Rattle.net_inner.specs.Inside.{HasSources}
use Rattle.net_inner.proofs.InnerLemmas.{sources_more}
use Rattle.net_inner.proofs.inner.all_models.Goals as goal

pub loop-number-preserved : goal.loop-number-preserved
loop-number-preserved c = record {
  count = ap length c.in_ok-push.ensures.ok ∙ length_push c.loop-number.rows c.in_ok-sources_if.field-0 ∙ ap (λ (n : ℕ). n + 1) c.loop-number.invariant.count;
  each = λ s plans k model less at.
      let p = c.args.placed.now in
      let number : ℕ = c.loop-number.number in
      let models = p.models.now in
      let here : slice_get s.models number ≡ Some c.index-models-number.result =
      ap (λ (ms : List Model). slice_get ms number) plans.of_sources.2 ∙ ap (λ xs. slice_get xs number) (sym c.as_slice-models.ensures.items)
      ∙ slice_get-get_or c.as_slice-models.result.now number c.index-models-number.result c.loop-number-test.true ∙ ap Some (sym c.index-models-number.is) in
      sources_more (λ n row. (x : Model) → slice_get models n ≡ Some x → slice_get c.args.used.now n ≡ Some true → HasSources s p (ModelBody n) row) c.loop-number.rows c.push.new.self
      c.in_ok-sources_if.field-0 number c.loop-number.invariant.count c.in_ok-push.ensures.ok (λ n low x at_x mark. c.loop-number.invariant.each s plans n x low at_x mark)
      (λ x at_x mark. c.in_ok-sources_if.ensures s plans here (c.is_used.ensures mark)) k less model at;
}

pub returns : goal.returns
returns c s plans k model at mark =
    c.loop-number.invariant.each s plans k model
    (omega (arith, slice_get_within c.args.placed.now.models.now k model at, c.loop-number-test.false, ap length c.as_slice-models.ensures.items)) at mark
