use Rattle.std.proofs.Common.{Option, List, ℕ, MatchOption, subst, refl, false}
use Rattle.upf_commands.specs.Commands.{HasKey}
use Rattle.upf_reader.proofs.KeyLemmas.{same_key_so}
use Rattle.upf_reader.proofs.WordLemmas.{says_no}
use Rattle.upf_reader.proofs.keys.has_key.Goals as goal

pub returns-in-Some : goal.returns-in-Some
returns-in-Some c =
    let text = c.args.text.now in
    let has = subst (λ (r : Option (List ℕ)). MatchOption r ((key : List ℕ) → ¬ HasKey text key) (HasKey text)) c.in-Some.is c.in_ok-other.ensures in
    same_key_so text c.in-Some.other c.as_slice.result.now c.args.key.now c.eq.result has c.as_slice.ensures.bytes c.eq.ensures

pub returns-in-None : goal.returns-in-None
returns-in-None c =
    let text = c.args.text.now in
    let never = subst (λ (r : Option (List ℕ)). MatchOption r ((key : List ℕ) → ¬ HasKey text key) (HasKey text)) c.in-None.is c.in_ok-other.ensures in
    says_no false refl (never c.args.key.now)
