use Rattle.std.proofs.Common.{◌≡◌, List, ℕ, ap, ◌∙◌, arith, rules}
use Rattle.state_conditions.specs.declared.named.Found.{Found}
use Rattle.state_conditions.specs.Keys.{key_of, own_key}
use Rattle.state_conditions.proofs.KeyLemmas.{added}
use Rattle.state_conditions.proofs.named.add.Goals as goal
use Rattle.state_conditions.proofs.named.add.Goals.{then-place-len+in_ok-push, else-place-len}

pub returns : goal.returns
returns c = λ states count found.
    let own : c.as_slice-3.result.now ≡ own_key c.args.state.now =
    c.as_slice-3.ensures.value ∙ c.in_ok-key.ensures ∙ ap (λ (x : List ℕ). key_of x c.as_slice-2.result.now) c.as_slice.ensures.bytes
    ∙ ap (key_of c.args.state.now.object) c.as_slice-2.ensures.bytes in
    added states c.args.state.now c.args.found.now c.if-place-len.found c.as_slice-3.result.now c.number.new.self c.in_ok-place.place c.args.number count own found
    c.in_ok-place.ensures.number c.in_ok-place.ensures.names
    (elim c.if-place-len.branch [ then-place-len+in_ok-push w ↦ (search rules) | else-place-len w ↦ (search rules) ])
    (λ new. elim c.if-place-len.branch [ then-place-len+in_ok-push w ↦ ap (λ (f : Found). f.firsts.items) w.found-is ∙ w.in_ok-push.ensures.items | else-place-len w ↦ absurd (omega (arith, w.if-place-len.false)) ])
    (λ old. elim c.if-place-len.branch [ then-place-len+in_ok-push w ↦ absurd (old (omega (arith, w.if-place-len.true))) | else-place-len w ↦ ap (λ (f : Found). f.firsts.items) w.found-is ])
