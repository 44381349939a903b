-- The first declaration that a module cannot have, as a loop finds it.
use Rattle.std.proofs.Common.{◌≡◌, ℕ, ◌+◌, Bool, true, false, List, ◌∷◌, ◌++◌, length, is_some, sym, ap, ◌∙◌, subst}
use Rattle.net_text.specs.NetlistGrammar.{Named}
use Rattle.net_text.specs.ModulesMeant.{shape_of}
use Rattle.net_text.specs.SecondDeclarations.{Declaration, IsRefused, named_in}
use Rattle.net_modules.specs.Refusals.{IsRefusedFirst}
use Rattle.net_modules.specs.Sayings.{Saying, is_refused, said_of}
use Rattle.net_modules.proofs.PlaceLaws.{AreClearTo, clear_front, clear_here, clear_step}
use Rattle.net_modules.proofs.RefusedLaws.{told}
use Rattle.net_modules.proofs.Telling.{Tells}

module _ (all before : List Declaration) (d : Declaration) (behind : List Declaration) (n : ℕ) (split : all ≡ before ++ d ∷ behind) (long : length before ≡ n)
    (clear : AreClearTo IsRefused all n) (answer : Bool) (s p : Saying) (is : answer ≡ is_refused s (is_some p.shape) d)
    (says : s ≡ said_of (named_in d).text before) (ports : p.shape ≡ shape_of (named_in d).text all) where
  tells : Tells answer (IsRefused before d behind)
  tells =
      let name = (named_in d).text in
      let path = is ∙ ap (λ (t : Saying). is_refused t (is_some p.shape) d) says ∙ ap (λ o. is_refused (said_of name before) (is_some o) d) ports
      ∙ ap (λ (l : List Declaration). is_refused (said_of name before) (is_some (shape_of name l)) d) split in
      subst (λ (b : Bool). Tells b (IsRefused before d behind)) (sym path) (told before d behind (clear_front IsRefused all before d behind n split long clear))

  pub refused_here : answer ≡ true → (named : Named) → named ≡ named_in d → IsRefusedFirst all named
  refused_here e named same =
      record {
        declaration = d;
        first = clear_here IsRefused all before d behind n split long clear (subst (λ (b : Bool). Tells b (IsRefused before d behind)) e tells);
        same = sym same;
      }

  pub clear_on : answer ≡ false → AreClearTo IsRefused all (n + 1)
  clear_on e = clear_step IsRefused all before d behind n split long clear (subst (λ (b : Bool). Tells b (IsRefused before d behind)) e tells)
