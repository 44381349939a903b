-- The condition that an expression stands for.
use Rattle.std.specs.Prelude.{◌≡◌, ℕ, Bool, true, false, ◌&&◌, List, [], ◌∷◌, Option, Some, None, Result, Ok, Err, find}
use Rattle.std.specs.Option.{option_map}
use Rattle.std.specs.Str.{bytes_eq}
use Rattle.pw_defs.specs.declared.conditions.Cond.{Cond}
use Rattle.pw_defs.specs.declared.conditions.Cond.TheVariants.{Is as IsValue, On as IsOn, Not as NotCond, All as AllConds, Any as AnyConds}
use Rattle.pw_defs.specs.declared.terms.Term.{Term}
use Rattle.pw_defs.specs.declared.terms.Term.TheVariants.{Is, Volt, On, Not, All, Any}
use Rattle.pw_defs.specs.declared.terms.TermNames.{TermNames}
use Rattle.pw_defs.specs.declared.values.Value.{Value}

-- the condition of an object's state, where it is there
abbrev pub state_of : TermNames → List ℕ → List ℕ → Option Cond
state_of names object state = option_map (λ s. s.cond) (find (λ s. bytes_eq s.object object && bytes_eq s.state state) names.states)

-- the supply of a function: the power or the ground
abbrev pub supply_of : TermNames → Bool → Option ℕ
supply_of names true = names.power
supply_of names false = names.ground

-- a condition, or the name of the first state that isn't there
abbrev pub Meaning : Type 0 → Type 0
Meaning X = Result X (List ℕ)

-- what is made of a meaning
abbrev pub made : {X Y : Type 0} → (X → Y) → Meaning X → Meaning Y
made f (Ok x) = Ok (f x)
made f (Err state) = Err state

-- The term means this. A state stands for its own condition, and the shape of the term is kept.
mutual
  pub data Means (names : TermNames) : Term → Meaning Cond → Type 0 where
    state : (object name : List ℕ) (cond : Cond) → state_of names object name ≡ Some cond → Means names (Is object name) (Ok cond)
    no_state : (object name : List ℕ) → state_of names object name ≡ None → Means names (Is object name) (Err name)
    value : (power : Bool) (v : Value) (supply : ℕ) → supply_of names power ≡ Some supply → Means names (Volt power v) (Ok (IsValue supply v))
    on : (power : Bool) (supply : ℕ) → supply_of names power ≡ Some supply → Means names (On power) (Ok (IsOn supply))
    opposite : (term : Term) (meant : Meaning Cond) → Means names term meant → Means names (Not term) (made NotCond meant)
    all : (terms : List Term) (meant : Meaning (List Cond)) → EachMeans names terms meant → Means names (All terms) (made AllConds meant)
    any : (terms : List Term) (meant : Meaning (List Cond)) → EachMeans names terms meant → Means names (Any terms) (made AnyConds meant)

  pub data EachMeans (names : TermNames) : List Term → Meaning (List Cond) → Type 0 where
    none : EachMeans names [] (Ok [])
    part : (term : Term) (terms : List Term) (cond : Cond) (meant : Meaning (List Cond)) → Means names term (Ok cond) → EachMeans names terms meant
        → EachMeans names (term ∷ terms) (made (λ conds. cond ∷ conds) meant)
    faulty : (term : Term) (terms : List Term) (name : List ℕ) → Means names term (Err name) → EachMeans names (term ∷ terms) (Err name)

-- the term stands for the condition
abbrev pub IsConstraintOf : Term → TermNames → Cond → Type 0
IsConstraintOf term names cond = Means names term (Ok cond)

-- the term names a state that isn't there, and this is the first such state
abbrev pub NamesNoState : Term → TermNames → List ℕ → Type 0
NamesNoState term names absent = Means names term (Err absent)
