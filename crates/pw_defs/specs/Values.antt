-- What the values of a supply mean: their order, when a supply is on, and when one is above another.
use Rattle.std.specs.Prelude.{ℕ, ◌+◌, Bool, true, false, List, Option, Some, None, nat_eq, nat_lt}
use Rattle.std.specs.Ordering.{nat_cmp}
use Rattle.std.specs.Cmp.Lexicographic.{slice_cmp}
use Rattle.std.specs.declared.cmp.Ordering.{Ordering}
use Rattle.std.specs.declared.cmp.Ordering.TheVariants.{Less, Equal, Greater}
use Rattle.pw_defs.specs.declared.values.Value.{Value}
use Rattle.pw_defs.specs.declared.values.Value.TheVariants.{Off, On}

-- off comes first, then on by voltage
abbrev pub value_cmp : Value → Value → Ordering
value_cmp Off Off = Equal
value_cmp Off (On v) = Less
value_cmp (On v) Off = Greater
value_cmp (On v) (On w) = nat_cmp v w

-- lists of values are compared place by place
abbrev pub state_cmp : List Value → List Value → Ordering
state_cmp = slice_cmp value_cmp

-- whether a supply that has the value is on
abbrev pub is_on : Value → Bool
is_on Off = false
is_on (On v) = true

-- whether two values are the same
abbrev pub same_value : Value → Value → Bool
same_value Off Off = true
same_value Off (On v) = false
same_value (On v) Off = false
same_value (On v) (On w) = nat_eq v w

-- the least voltage that a supply with the value can have
abbrev pub low_end : Value → Option ℕ
low_end Off = None
low_end (On v) = Some v

-- the greatest voltage that a supply with the value can have
abbrev pub high_end : Value → Option ℕ
high_end Off = None
high_end (On v) = Some v

-- both ends are there, and the second is more than `above` higher than the first
abbrev pub ends_exceed : Option ℕ → Option ℕ → ℕ → Bool
ends_exceed None high above = false
ends_exceed (Some low) None above = false
ends_exceed (Some low) (Some high) above = nat_lt (low + above) high

-- both are on, and the second can be more than `above` higher than the first
abbrev pub exceeds : Value → Value → ℕ → Bool
exceeds low high above = ends_exceed (low_end low) (high_end high) above
