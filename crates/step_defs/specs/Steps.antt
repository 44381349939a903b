-- Steps, which give a value or have a fault, and steps one after another.
use Rattle.std.specs.Prelude.{◌≡◌, ◌⊎◌, List, [], ◌∷◌, Option, Some, Result, Ok, Err}

-- A step, by the values that it gives and the faults that it has.
pub record Step (A F : Type 0) : Type 1 where
  pub gives : A → Type 0
  pub faults : F → Type 0

-- what a step answers: a value that it gives, or a fault that it has
abbrev pub Answers : {A F : Type 0} → Step A F → Result A F → Type 0
Answers step (Ok value) = step.gives value
Answers step (Err fault) = step.faults fault

-- the step that gives this value and has no fault
abbrev pub just : {A F : Type 0} → A → Step A F
just value = record { gives = λ other. other ≡ value; faults = λ fault. ⊥ }

-- the step that gives each value with a property, and has no fault
abbrev pub giving : {A F : Type 0} → (A → Type 0) → Step A F
giving P = record { gives = P; faults = λ fault. ⊥ }

-- the step that has these faults, and gives nothing but leave to go on where there is none of them
abbrev pub refusing : {F : Type 0} → (F → Type 0) → Step (Unit {0}) F
refusing {F} P = record { gives = λ _. (fault : F) → P fault → ⊥; faults = P }

-- One step and then the one that its value leads to: the fault is that of the first, and where the first gives a value
-- that of the second.
abbrev pub and_then : {A B F : Type 0} → Step A F → (A → Step B F) → Step B F
and_then {A} first next = record {
  gives = λ other. (value : A) × first.gives value × (next value).gives other;
  faults = λ fault. first.faults fault ⊎ ((value : A) × first.gives value × (next value).faults fault);
}

-- the step with another value made from its own
abbrev pub with_value : {A B F : Type 0} → (A → B) → Step A F → Step B F
with_value to step = and_then step (λ value. just (to value))

-- the step with another fault made from its own, where one can be made of it
abbrev pub with_fault : {A F G : Type 0} → (F → Option G) → Step A F → Step A G
with_fault {A} {F} to step = record {
  gives = step.gives;
  faults = λ other. (fault : F) × step.faults fault × (to fault ≡ Some other);
}

-- the same step for each thing of a list, in order: it gives all their values, or has the fault of the first that has one
abbrev pub for_each : {X A F : Type 0} → (X → Step A F) → List X → Step (List A) F
for_each step [] = just []
for_each step (x ∷ xs) = and_then (step x) (λ value. with_value (λ values. value ∷ values) (for_each step xs))

-- a step for each thing of a list, in order, from what the one before gave
abbrev pub in_turn : {X S F : Type 0} → (S → X → Step S F) → S → List X → Step S F
in_turn step start [] = just start
in_turn step start (x ∷ xs) = and_then (step start x) (λ value. in_turn step value xs)
