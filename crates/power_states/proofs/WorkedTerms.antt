-- Expressions that were read by hand.
use Rattle.std.proofs.Common.{◌≡◌, ℕ, Bool, true, List, [], ◌∷◌, Some, None, Ok, Err, codes, refl, sym, subst, lit≤, lit<}
use Rattle.pw_defs.specs.declared.conditions.Cond.TheVariants.{On as IsOn, Not as NotCond}
use Rattle.pw_defs.specs.declared.terms.Term.{Term}
use Rattle.pw_defs.specs.declared.terms.Term.TheVariants.{Is, Volt, Not, All, Any}
use Rattle.pw_defs.specs.declared.terms.TermNames.{TermNames}
use Rattle.pw_defs.specs.declared.values.Value.TheVariants.{On as OnValue}
use Rattle.text_defs.specs.Volts.{IsVolts}
use Rattle.upf_commands.specs.Voltages.{one}
use Rattle.power_states.specs.ExpressionWords.{Token, word, opens, shuts, bang, both, either, same, differs, brace, unbrace, none, white, a_word, an_opens, a_shuts, a_bang, a_differs, a_both, an_either, a_same, a_brace, an_unbrace}
use Rattle.power_states.specs.Expressions.{supply, closes, plain, IsSupplyValue, at, of_power, IsComparison, in_state, not_in_state, has, IsOne, compared, negated, grouped, AreBoth, last_both, more_both, AreEither, last_either, more_either, ReadsAsSupplyTerm, ReadsAsLogicTerm, HasNoTerm}
use Rattle.power_states.specs.TermMeaning.{IsConstraintOf, NamesNoState, state, no_state, opposite, any, part, faulty}
use Rattle.power_states.proofs.TokenReading.{only_tokens}

-- an object in a state
pub in_a_state : ReadsAsLogicTerm (codes "SA == up") (Is (codes "SA") (codes "up"))
in_a_state =
    record {
      tokens = word (codes "SA") ∷ same ∷ word (codes "up") ∷ [];
      cut =
          a_word 83 (65 ∷ []) (codes " == up") _ refl refl
          (white 32 (codes "== up") _ refl (a_same (codes " up") _ (white 32 (codes "up") _ refl (a_word 117 (112 ∷ []) [] [] refl refl none))));
      parts = Is (codes "SA") (codes "up") ∷ [];
      parts_are = last_either 100 _ [] _ (last_both 100 _ [] _ (compared 100 _ [] _ (in_state (codes "SA") (codes "up") [])) refl) refl;
      joined = refl;
    }

eight_tenths : IsVolts (codes "0.8") 800000
eight_tenths = record { digits = (lit< tt, (lit< tt, (lit< tt, tt))); decimals = lit≤ tt; value = refl; limit = lit≤ tt }

-- a function at a voltage
pub at_a_voltage : ReadsAsSupplyTerm (codes "power == {FULL_ON 0.8}") (Volt true (OnValue 800000))
at_a_voltage =
    record {
      tokens = word (codes "power") ∷ same ∷ brace ∷ word (codes "FULL_ON") ∷ word (codes "0.8") ∷ unbrace ∷ [];
      cut =
          a_word 112 (codes "ower") (codes " == {FULL_ON 0.8}") _ refl refl
          (white 32 (codes "== {FULL_ON 0.8}") _ refl (a_same (codes " {FULL_ON 0.8}") _ (white 32 (codes "{FULL_ON 0.8}") _ refl
          (a_brace (codes "FULL_ON 0.8}") _ (a_word 70 (codes "ULL_ON") (codes " 0.8}") _ refl refl
          (white 32 (codes "0.8}") _ refl (a_word 48 (codes ".8") (codes "}") _ refl refl (an_unbrace [] [] none))))))));
      parts = Volt true (OnValue 800000) ∷ [];
      parts_are =
          last_either 100 _ [] _
          (
          last_both 100 _ [] _
          (
          compared 100 _ [] _
          (has (codes "power") true _ [] _ of_power (at _ [] (codes "0.8" ∷ []) 800000 (plain (codes "0.8") _ [] [] (closes [])) (one (codes "0.8") 800000 eight_tenths)))
          )
          refl
          )
          refl;
      joined = refl;
    }

-- of several parts: `||` joins what `&&` joins, and `!=` is the opposite of `==`
abbrev mixed : List ℕ
mixed = codes "a==b&&!(c!=d)||e==f"

abbrev mixed_tokens : List Token
mixed_tokens =
    word (codes "a") ∷ same ∷ word (codes "b") ∷ both ∷ bang ∷ opens ∷ word (codes "c") ∷ differs ∷ word (codes "d") ∷ shuts ∷ either ∷ word (codes "e") ∷ same
    ∷ word (codes "f") ∷ []

pub parts_in_order : ReadsAsLogicTerm mixed (Any (All (Is (codes "a") (codes "b") ∷ Not (Not (Is (codes "c") (codes "d"))) ∷ []) ∷ Is (codes "e") (codes "f") ∷ []))
parts_in_order =
    record {
      tokens = mixed_tokens;
      cut =
          a_word 97 [] (codes "==b&&!(c!=d)||e==f") _ refl refl (a_same (codes "b&&!(c!=d)||e==f") _
          (a_word 98 [] (codes "&&!(c!=d)||e==f") _ refl refl (a_both (codes "!(c!=d)||e==f") _ (a_bang (codes "(c!=d)||e==f") _ refl
          (an_opens (codes "c!=d)||e==f") _ (a_word 99 [] (codes "!=d)||e==f") _ refl refl (a_differs (codes "d)||e==f") _
          (a_word 100 [] (codes ")||e==f") _ refl refl (a_shuts (codes "||e==f") _ (an_either (codes "e==f") _
          (a_word 101 [] (codes "==f") _ refl refl (a_same (codes "f") _ (a_word 102 [] [] [] refl refl none)))))))))))));
      parts = All (Is (codes "a") (codes "b") ∷ Not (Not (Is (codes "c") (codes "d"))) ∷ []) ∷ Is (codes "e") (codes "f") ∷ [];
      parts_are =
          more_either 100 _ _ [] (Is (codes "a") (codes "b") ∷ Not (Not (Is (codes "c") (codes "d"))) ∷ []) _
          (
          more_both 100 _ _ _ _ _ (compared 100 _ _ _ (in_state (codes "a") (codes "b") _))
          (
          last_both 100 _ _ _
          (
          negated 99 _ _ _
          (
          grouped 98 _ _ (Not (Is (codes "c") (codes "d")) ∷ [])
          (last_either 98 _ _ (Not (Is (codes "c") (codes "d")) ∷ [])
          (last_both 98 _ _ _ (compared 98 _ _ _ (not_in_state (codes "c") (codes "d") _)) refl) refl)
          )
          )
          refl
          )
          )
          (last_either 100 _ [] (Is (codes "e") (codes "f") ∷ []) (last_both 100 _ [] _ (compared 100 _ [] _ (in_state (codes "e") (codes "f") [])) refl) refl);
      joined = refl;
    }

abbrev partial : List Token
partial = word (codes "power") ∷ same ∷ word (codes "PARTIAL_ON") ∷ []

no_value : (p : Bool) (term : Term) (left : List Token) → IsSupplyValue p (word (codes "PARTIAL_ON") ∷ []) term left → ⊥
no_value p term left h = elim h [ ]

no_comparison : (term : Term) (left : List Token) → IsComparison supply partial term left → ⊥
no_comparison term left (has f p rest more t fp v) = no_value p t more v

no_one : (depth : ℕ) (term : Term) (left : List Token) → IsOne supply depth partial term left → ⊥
no_one depth term left (compared d t l u h) = no_comparison u l h

no_both : (depth : ℕ) (terms : List Term) (left : List Token) → AreBoth supply depth partial terms left → ⊥
no_both depth terms left (last_both d t l u h stop) = no_one d u l h
no_both depth terms left (more_both d t r l u us h hs) = no_one d u (both ∷ r) h

no_either : (depth : ℕ) (terms : List Term) (left : List Token) → AreEither supply depth partial terms left → ⊥
no_either depth terms left (last_either d t l us h stop) = no_both d us l h
no_either depth terms left (more_either d t r l us ts h hs) = no_both d us (either ∷ r) h

-- `PARTIAL_ON` is no value of a function
pub partial_on : HasNoTerm supply (codes "power == PARTIAL_ON")
partial_on term h =
    let tokens : Some h.tokens ≡ Some partial = sym (only_tokens (codes "power == PARTIAL_ON") h.tokens h.cut 20 (lit< tt)) in
    no_either 100 h.parts [] (subst (λ ts. AreEither supply 100 ts h.parts []) (let same : h.tokens ≡ partial = cc in same) h.parts_are)

-- a state that is there, and one that isn't
abbrev one_state : TermNames
one_state = record { power = None; ground = None; states = record { object = codes "SA"; state = codes "up"; cond = IsOn 3 } ∷ [] }

pub named_state : IsConstraintOf (Not (Is (codes "SA") (codes "up"))) one_state (NotCond (IsOn 3))
named_state = opposite (Is (codes "SA") (codes "up")) (Ok (IsOn 3)) (state (codes "SA") (codes "up") (IsOn 3) refl)

pub absent_state : NamesNoState (Any (Is (codes "SA") (codes "up") ∷ Is (codes "SA") (codes "down") ∷ Is (codes "SB") (codes "up") ∷ [])) one_state (codes "down")
absent_state =
    any _ (Err (codes "down"))
    (
    part (Is (codes "SA") (codes "up")) _ (IsOn 3) (Err (codes "down")) (state (codes "SA") (codes "up") (IsOn 3) refl)
    (faulty (Is (codes "SA") (codes "down")) _ (codes "down") (no_state (codes "SA") (codes "down") refl))
    )
