-- Worked steps: numbers are read from a list, and a zero is a fault that says where it stands.
use Rattle.std.proofs.Common.{◌≡◌, ◌≢◌, ℕ, ◌<◌, ◌≤◌, List, [], ◌∷◌, inl, inr, refl, sym, ◌∙◌, arith}
use Rattle.std.specs.Prelude.{Ok, Err}
use Rattle.step_defs.specs.Steps.{Step, Answers, refusing, for_each, in_turn}
use Rattle.step_defs.specs.Exact.{IsExact}
use Rattle.step_defs.proofs.ExactSteps.{exact_for_each}

-- a number other than 0 is given back, and 0 is the fault 7
abbrev number : ℕ → Step ℕ ℕ
number n = record { gives = λ m. (m ≡ n) × (n ≢ 0); faults = λ f. (n ≡ 0) × (f ≡ 7) }

pub two_numbers_are_given : Answers (for_each number (3 ∷ 5 ∷ [])) (Ok (3 ∷ 5 ∷ []))
two_numbers_are_given = (3, (refl, λ e. cc), (5 ∷ [], (5, (refl, λ e. cc), ([], refl, refl)), refl))

pub the_first_zero_is_the_fault : Answers (for_each number (3 ∷ 0 ∷ 0 ∷ [])) (Err 7)
the_first_zero_is_the_fault = inr (3, (refl, λ e. cc), inl (inl (refl, refl)))

pub behind_a_zero_nothing_is_given : (values : List ℕ) → Answers (for_each number (0 ∷ 5 ∷ [])) (Ok values) → ⊥
behind_a_zero_nothing_is_given values given = given.1.1 refl

-- a number has one answer
one_number : (n : ℕ) → IsExact (number n)
one_number n = record { one_value = λ a b p q. p.0 ∙ sym q.0; one_fault = λ f g p q. p.1 ∙ sym q.1; not_both = λ a f p q. p.1 q.0 }

pub numbers_have_one_answer : (ns : List ℕ) → IsExact (for_each number ns)
numbers_have_one_answer ns = exact_for_each number one_number ns

-- what was read so far is less than each number behind it, or that number is the fault
abbrev rising : ℕ → ℕ → Step ℕ ℕ
rising last n = record { gives = λ m. (m ≡ n) × (last < n); faults = λ f. (n ≤ last) × (f ≡ n) }

pub rising_numbers_end_at_the_last : Answers (in_turn rising 0 (1 ∷ 4 ∷ [])) (Ok 4)
rising_numbers_end_at_the_last = (1, (refl, omega arith), (4, (refl, omega arith), refl))

pub a_number_that_falls_is_the_fault : Answers (in_turn rising 0 (4 ∷ 1 ∷ 0 ∷ [])) (Err 1)
a_number_that_falls_is_the_fault = inr (4, (refl, omega arith), inl (omega arith, refl))

pub no_fault_gives_leave : Answers (refusing (λ (f : ℕ). f < 0)) (Ok tt)
no_fault_gives_leave = λ f below. omega (arith, below)
