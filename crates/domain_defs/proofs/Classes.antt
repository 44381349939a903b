-- Which class a strategy has: the name that comes nearest to the bit decides, and without elements the directions.
use Rattle.std.proofs.Common.{◌≡◌, ℕ, ◌≤◌, true, false, ◌&&◌, List, Some, None, subst, arith}
use Rattle.pw_defs.specs.declared.design.Named.{Named}
use Rattle.pw_defs.specs.declared.design.Named.TheVariants.{Instance, Port, PortBit as NamedBit}
use Rattle.pw_defs.specs.declared.design.PortBit.{PortBit}
use Rattle.pw_defs.specs.declared.strategies.Strategy.{Strategy}
use Rattle.list_defs.specs.Members.{IsIn}
use Rattle.domain_defs.specs.Candidates.{Contain, Matches, IsClass}

-- names that don't contain the bit by its own name contain it in class 3 at most, and so on
at_most_bit : (names : List Named) (bit : PortBit) (class : ℕ) → Contain names bit class → class ≤ 4
at_most_bit names bit _ (Contain.by_bit i) = omega arith
at_most_bit names bit _ (Contain.by_port i) = omega arith
at_most_bit names bit _ (Contain.by_instance i) = omega arith

at_most_port : (names : List Named) (bit : PortBit) (class : ℕ) → ¬ IsIn (NamedBit bit) names → Contain names bit class → class ≤ 3
at_most_port names bit _ off (Contain.by_bit i) = absurd (off i)
at_most_port names bit _ off (Contain.by_port i) = omega arith
at_most_port names bit _ off (Contain.by_instance i) = omega arith

at_most_instance : (names : List Named) (bit : PortBit) (class : ℕ) → ¬ IsIn (NamedBit bit) names → ¬ IsIn (Port bit.inst bit.port) names
    → Contain names bit class → class ≤ 2
at_most_instance names bit _ off off' (Contain.by_bit i) = absurd (off i)
at_most_instance names bit _ off off' (Contain.by_port i) = absurd (off' i)
at_most_instance names bit _ off off' (Contain.by_instance i) = omega arith

-- with elements only these count
by_elements : (s : Strategy) (bit : PortBit) (names : List Named) (most : ℕ) → s.elements ≡ Some names
    → ((class : ℕ) → Contain names bit class → class ≤ most) → (class : ℕ) → Matches s bit class → class ≤ most
by_elements s bit names most given within _ (Matches.named names' class given' contain) =
    let same : names' ≡ names = cc in
    let C : List Named → Type 0 = λ n. Contain n bit class in
    within class (subst C same contain)
by_elements s bit names most given within _ (Matches.one_way none one) = cc
by_elements s bit names most given within _ (Matches.both_ways none both) = cc

pub class_of_bit : (s : Strategy) (bit : PortBit) (names : List Named) → s.elements ≡ Some names → IsIn (NamedBit bit) names → IsClass s bit 4
class_of_bit s bit names given here = record {
  matches = Matches.named names 4 given (Contain.by_bit here);
  highest = by_elements s bit names 4 given (at_most_bit names bit);
}

pub class_of_port : (s : Strategy) (bit : PortBit) (names : List Named) → s.elements ≡ Some names → ¬ IsIn (NamedBit bit) names
    → IsIn (Port bit.inst bit.port) names → IsClass s bit 3
class_of_port s bit names given off here = record {
  matches = Matches.named names 3 given (Contain.by_port here);
  highest = by_elements s bit names 3 given (λ class. at_most_port names bit class off);
}

pub class_of_instance : (s : Strategy) (bit : PortBit) (names : List Named) → s.elements ≡ Some names → ¬ IsIn (NamedBit bit) names
    → ¬ IsIn (Port bit.inst bit.port) names → IsIn (Instance bit.inst) names → IsClass s bit 2
class_of_instance s bit names given off off' here = record {
  matches = Matches.named names 2 given (Contain.by_instance here);
  highest = by_elements s bit names 2 given (λ class. at_most_instance names bit class off off');
}

-- names that contain none of the three match nothing
pub no_class : (s : Strategy) (bit : PortBit) (names : List Named) → s.elements ≡ Some names → ¬ IsIn (NamedBit bit) names
    → ¬ IsIn (Port bit.inst bit.port) names → ¬ IsIn (Instance bit.inst) names → (class : ℕ) → ¬ Matches s bit class
no_class s bit names given off off' off'' _ (Matches.named names' class given' contain) =
    let same : names' ≡ names = cc in
    let C : List Named → Type 0 = λ n. Contain n bit class in
    none class (subst C same contain)
  where
    none : (c : ℕ) → ¬ Contain names bit c
    none _ (Contain.by_bit i) = off i
    none _ (Contain.by_port i) = off' i
    none _ (Contain.by_instance i) = off'' i
no_class s bit names given off off' off'' _ (Matches.one_way none one) = cc
no_class s bit names given off off' off'' _ (Matches.both_ways none both) = cc

pub class_one_way : (s : Strategy) (bit : PortBit) → s.elements ≡ None → (s.inputs && s.outputs) ≡ false → IsClass s bit 1
class_one_way s bit none one = record { matches = Matches.one_way none one; highest = λ class m. by class m }
  where
    by : (class : ℕ) → Matches s bit class → class ≤ 1
    by _ (Matches.named names class given contain) = cc
    by _ (Matches.one_way none' one') = omega arith
    by _ (Matches.both_ways none' both) = omega arith

pub class_both_ways : (s : Strategy) (bit : PortBit) → s.elements ≡ None → (s.inputs && s.outputs) ≡ true → IsClass s bit 0
class_both_ways s bit none both = record { matches = Matches.both_ways none both; highest = λ class m. by class m }
  where
    by : (class : ℕ) → Matches s bit class → class ≤ 0
    by _ (Matches.named names class given contain) = cc
    by _ (Matches.one_way none' one) = cc
    by _ (Matches.both_ways none' both') = omega arith
