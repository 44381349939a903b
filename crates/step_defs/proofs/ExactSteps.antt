-- Steps made of steps with one answer have one answer.
use Rattle.std.proofs.Common.{◌≡◌, inl, inr, List, [], ◌∷◌, refl, sym, ap, subst, ◌∙◌}
use Rattle.std.specs.Prelude.{Option, Result, Ok, Err}
use Rattle.std.proofs.lemmas.Option.{same_Some}
use Rattle.step_defs.specs.Steps.{Step, Answers, just, giving, refusing, and_then, with_value, with_fault, for_each, in_turn}
use Rattle.step_defs.specs.Exact.{IsExact}

-- a step with one answer has one answer
pub one_answer : {A F : Type 0} (step : Step A F) → IsExact step → (x y : Result A F) → Answers step x → Answers step y → x ≡ y
one_answer step one (Ok a) (Ok b) p q = ap Ok (one.one_value a b p q)
one_answer step one (Ok a) (Err f) p q = absurd (one.not_both a f p q)
one_answer step one (Err f) (Ok a) p q = absurd (one.not_both a f q p)
one_answer step one (Err f) (Err g) p q = ap Err (one.one_fault f g p q)

pub exact_just : {A F : Type 0} (value : A) → IsExact (just {F = F} value)
exact_just value = record { one_value = λ a b p q. p ∙ sym q; one_fault = λ f g p q. absurd p; not_both = λ a f p q. q }

pub exact_giving : {A F : Type 0} (P : A → Type 0) → ((a b : A) → P a → P b → a ≡ b) → IsExact (giving {F = F} P)
exact_giving P one = record { one_value = one; one_fault = λ f g p q. absurd p; not_both = λ a f p q. q }

pub exact_refusing : {F : Type 0} (P : F → Type 0) → ((f g : F) → P f → P g → f ≡ g) → IsExact (refusing P)
exact_refusing P one = record { one_value = λ a b p q. refl; one_fault = one; not_both = λ a f none there. none f there }

-- one step and then another has one answer
pub exact_and_then : {A B F : Type 0} (first : Step A F) (next : A → Step B F) → IsExact first
    → ((value : A) → first.gives value → IsExact (next value)) → IsExact (and_then first next)
exact_and_then {A} {B} {F} first next one others = record {
  one_value = λ b c p q. (others q.0 q.1).one_value b c (subst (λ (a : A). (next a).gives b) (one.one_value p.0 q.0 p.1 q.1) p.2) q.2;
  one_fault = one_fault;
  not_both = not_both;
}
  where
    one_fault : (f g : F) → (and_then first next).faults f → (and_then first next).faults g → f ≡ g
    one_fault f g (inl p) (inl q) = one.one_fault f g p q
    one_fault f g (inl p) (inr q) = absurd (one.not_both q.0 f q.1 p)
    one_fault f g (inr p) (inl q) = absurd (one.not_both p.0 g p.1 q)
    one_fault f g (inr p) (inr q) = (others q.0 q.1).one_fault f g (subst (λ (a : A). (next a).faults f) (one.one_value p.0 q.0 p.1 q.1) p.2) q.2

    not_both : (b : B) (f : F) → (and_then first next).gives b → (and_then first next).faults f → ⊥
    not_both b f p (inl q) = one.not_both p.0 f p.1 q
    not_both b f p (inr q) = (others q.0 q.1).not_both b f (subst (λ (a : A). (next a).gives b) (one.one_value p.0 q.0 p.1 q.1) p.2) q.2

pub exact_with_value : {A B F : Type 0} (to : A → B) (step : Step A F) → IsExact step → IsExact (with_value to step)
exact_with_value to step one = exact_and_then step (λ value. just (to value)) one (λ value _. exact_just (to value))

pub exact_with_fault : {A F G : Type 0} (to : F → Option G) (step : Step A F) → IsExact step → IsExact (with_fault to step)
exact_with_fault to step one = record {
  one_value = one.one_value;
  one_fault = λ f g p q. same_Some f g (sym p.2 ∙ ap to (one.one_fault p.0 q.0 p.1 q.1) ∙ q.2);
  not_both = λ a f p q. one.not_both a q.0 p q.1;
}

pub exact_for_each : {X A F : Type 0} (step : X → Step A F) → ((x : X) → IsExact (step x)) → (xs : List X) → IsExact (for_each step xs)
exact_for_each step one [] = exact_just []
exact_for_each {X} {A} step one (x ∷ xs) =
    exact_and_then (step x) (λ value. with_value (λ (values : List A). value ∷ values) (for_each step xs)) (one x)
    (λ value _. exact_with_value (λ (values : List A). value ∷ values) (for_each step xs) (exact_for_each step one xs))

pub exact_in_turn : {X S F : Type 0} (step : S → X → Step S F) → ((s : S) (x : X) → IsExact (step s x)) → (start : S) (xs : List X)
    → IsExact (in_turn step start xs)
exact_in_turn step one start [] = exact_just start
exact_in_turn step one start (x ∷ xs) = exact_and_then (step start x) (λ value. in_turn step value xs) (one start x)
    (λ value _. exact_in_turn step one value xs)
