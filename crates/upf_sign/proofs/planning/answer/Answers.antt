use Rattle.std.proofs.Common.{subst, inl}
use Rattle.upf_sign.specs.Answers.{IsAnswer}
use Rattle.upf_sign.specs.declared.answers.Answer.TheVariants.{OtherForm}
use Rattle.upf_sign.proofs.Ends.{on_same}
use Rattle.upf_sign.proofs.planning.answer.Goals as goal

pub returns-in_ok-refusal-in-OtherForm : goal.returns-in_ok-refusal-in-OtherForm
returns-in_ok-refusal-in-OtherForm c =
    let nothing = subst (IsAnswer c.as_slice.result.now c.as_slice-2.result.now c.as_slice-3.result.now c.as_bytes.result.now) c.in-OtherForm.is c.in_ok-answer.ensures in
    inl (on_same OtherForm c.as_slice.ensures.value c.as_slice-2.ensures.value c.as_slice-3.ensures.value c.as_bytes.ensures.value nothing, c.in_ok-refusal-in-OtherForm.ensures)
