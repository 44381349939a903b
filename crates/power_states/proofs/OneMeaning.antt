-- A term stands for one condition, or names one state that isn't there.
use Rattle.std.proofs.Common.{◌≡◌, ℕ, Bool, List, [], ◌∷◌, map, Option, Some, None, Ok, Err, refl, sym, ◌∙◌, ap}
use Rattle.pw_defs.specs.declared.conditions.Cond.{Cond}
use Rattle.pw_defs.specs.declared.conditions.Cond.TheVariants.{True, Is as IsValue, On as IsOn, Not as NotCond, All as AllConds, Any as AnyConds}
use Rattle.pw_defs.specs.declared.terms.Term.{Term}
use Rattle.pw_defs.specs.declared.terms.Term.TheOpen.{Term-F}
use Rattle.pw_defs.specs.declared.terms.Term.TheFolds.{fold-Term, fold-roll-Term}
use Rattle.pw_defs.specs.declared.terms.Term.TheVariants.{Is, Volt, On, Not, All, Any, rolls-Is, rolls-Volt, rolls-On, rolls-Not, rolls-All, rolls-Any}
use Rattle.pw_defs.specs.declared.terms.TermNames.{TermNames}
use Rattle.pw_defs.specs.declared.values.Value.{Value}
use Rattle.power_states.specs.Laws.{TermsMeanOneThing}
use Rattle.power_states.specs.TermMeaning.{state_of, supply_of, Meaning, made, Means, state, no_state, value, on, opposite, all, any, EachMeans, none, part, faulty}

-- the conditions in order, or the first state that isn't there
abbrev each_of : List (Meaning Cond) → Meaning (List Cond)
each_of [] = Ok []
each_of (Ok cond ∷ more) = made (λ conds. cond ∷ conds) (each_of more)
each_of (Err name ∷ more) = Err name

abbrev state_meaning : List ℕ → Option Cond → Meaning Cond
state_meaning name (Some cond) = Ok cond
state_meaning name None = Err name

abbrev supply_meaning : (ℕ → Cond) → Option ℕ → Meaning Cond
supply_meaning f (Some supply) = Ok (f supply)
supply_meaning f None = Ok True

-- one level of a term, with the meanings of its parts in their place
abbrev meaning_at : TermNames → Term-F (Meaning Cond) → Meaning Cond
meaning_at names (Term-F.Is object name) = state_meaning name (state_of names object name)
meaning_at names (Term-F.Volt power v) = supply_meaning (λ supply. IsValue supply v) (supply_of names power)
meaning_at names (Term-F.On power) = supply_meaning IsOn (supply_of names power)
meaning_at names (Term-F.Not inner) = made NotCond inner
meaning_at names (Term-F.All parts) = made AllConds (each_of parts)
meaning_at names (Term-F.Any parts) = made AnyConds (each_of parts)

unfoldable meaning : TermNames → Term → Meaning Cond
meaning names = fold-Term (Meaning Cond) (meaning_at names)

at_is : (names : TermNames) (object name : List ℕ) → meaning names (Is object name) ≡ state_meaning name (state_of names object name)
unfolding meaning
at_is names object name = ap (meaning names) (sym (rolls-Is object name)) ∙ fold-roll-Term (Meaning Cond) (meaning_at names) (Term-F.Is object name)

at_volt : (names : TermNames) (power : Bool) (v : Value) → meaning names (Volt power v) ≡ supply_meaning (λ supply. IsValue supply v) (supply_of names power)
unfolding meaning
at_volt names power v = ap (meaning names) (sym (rolls-Volt power v)) ∙ fold-roll-Term (Meaning Cond) (meaning_at names) (Term-F.Volt power v)

at_on : (names : TermNames) (power : Bool) → meaning names (On power) ≡ supply_meaning IsOn (supply_of names power)
unfolding meaning
at_on names power = ap (meaning names) (sym (rolls-On power)) ∙ fold-roll-Term (Meaning Cond) (meaning_at names) (Term-F.On power)

at_not : (names : TermNames) (term : Term) → meaning names (Not term) ≡ made NotCond (meaning names term)
unfolding meaning
at_not names term = ap (meaning names) (sym (rolls-Not term)) ∙ fold-roll-Term (Meaning Cond) (meaning_at names) (Term-F.Not term)

at_all : (names : TermNames) (terms : List Term) → meaning names (All terms) ≡ made AllConds (each_of (map (meaning names) terms))
unfolding meaning
at_all names terms = ap (meaning names) (sym (rolls-All terms)) ∙ fold-roll-Term (Meaning Cond) (meaning_at names) (Term-F.All terms)

at_any : (names : TermNames) (terms : List Term) → meaning names (Any terms) ≡ made AnyConds (each_of (map (meaning names) terms))
unfolding meaning
at_any names terms = ap (meaning names) (sym (rolls-Any terms)) ∙ fold-roll-Term (Meaning Cond) (meaning_at names) (Term-F.Any terms)

-- a meaning is the one that is computed
mutual
  only_meaning : (names : TermNames) (term : Term) (meant : Meaning Cond) → Means names term meant → meaning names term ≡ meant
  only_meaning names term meant (state object name cond e) = at_is names object name ∙ ap (state_meaning name) e
  only_meaning names term meant (no_state object name e) = at_is names object name ∙ ap (state_meaning name) e
  only_meaning names term meant (value power v supply e) = at_volt names power v ∙ ap (supply_meaning (λ s. IsValue s v)) e
  only_meaning names term meant (on power supply e) = at_on names power ∙ ap (supply_meaning IsOn) e
  only_meaning names term meant (opposite t m h) = at_not names t ∙ ap (made NotCond) (only_meaning names t m h)
  only_meaning names term meant (all ts m h) = at_all names ts ∙ ap (made AllConds) (only_meanings names ts m h)
  only_meaning names term meant (any ts m h) = at_any names ts ∙ ap (made AnyConds) (only_meanings names ts m h)

  only_meanings : (names : TermNames) (terms : List Term) (meant : Meaning (List Cond)) → EachMeans names terms meant
      → each_of (map (meaning names) terms) ≡ meant
  only_meanings names terms meant none = refl
  only_meanings names terms meant (part t ts cond m h hs) =
      ap (λ x. each_of (x ∷ map (meaning names) ts)) (only_meaning names t (Ok cond) h) ∙ ap (made (λ conds. cond ∷ conds)) (only_meanings names ts m hs)
  only_meanings names terms meant (faulty t ts name h) = ap (λ x. each_of (x ∷ map (meaning names) ts)) (only_meaning names t (Err name) h)

pub one_meaning : TermsMeanOneThing
one_meaning names term m n h k = sym (only_meaning names term m h) ∙ only_meaning names term n k
