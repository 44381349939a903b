-- How a run ends.
use Rattle.std.proofs.Common.{◌≡◌, ℕ, List, subst}
use Rattle.upf_sign.specs.declared.answers.Answer.{Answer}
use Rattle.upf_sign.specs.Answers.{IsAnswer}

-- what is answered on texts is answered on the same texts
pub on_same : (a : Answer) {l l' n n' s s' t t' : List ℕ} → l' ≡ l → n' ≡ n → s' ≡ s → t' ≡ t → IsAnswer l' n' s' t' a → IsAnswer l n s t a
on_same a {l} {l'} {n} {n'} {s} {s'} {t} {t'} p q r u is =
    subst (λ x. IsAnswer x n s t a) p (subst (λ x. IsAnswer l' x s t a) q (subst (λ x. IsAnswer l' n' x t a) r (subst (λ x. IsAnswer l' n' s' x a) u is)))
