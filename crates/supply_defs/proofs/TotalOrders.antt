-- The orders of values and of states are total.
use Rattle.std.proofs.Common.{◌≡◌, refl}
use Rattle.std.specs.Cmp.{IsTotalOrder}
use Rattle.std.specs.Ordering.{ordering_reverse}
use Rattle.std.specs.declared.cmp.Ordering.TheVariants.{Less, Equal}
use Rattle.std.proofs.lemmas.Cmp.{nat_cmp_total, lists_total}
use Rattle.pw_defs.specs.Values.{value_cmp}
use Rattle.pw_defs.specs.declared.values.Value.{Value}
use Rattle.pw_defs.specs.declared.values.Value.TheVariants.{Off, On}
use Rattle.pw_defs.specs.Values.{state_cmp}

antisymm : (v w : Value) → value_cmp v w ≡ ordering_reverse (value_cmp w v)
antisymm Off Off = refl
antisymm Off (On b) = refl
antisymm (On a) Off = refl
antisymm (On a) (On b) = nat_cmp_total.antisymm a b

trans : (u v w : Value) → value_cmp u v ≡ Less → value_cmp v w ≡ Less → value_cmp u w ≡ Less
trans Off Off Off p q = p
trans Off Off (On c) p q = refl
trans Off (On b) Off p q = cc
trans Off (On b) (On c) p q = refl
trans (On a) Off Off p q = cc
trans (On a) Off (On c) p q = cc
trans (On a) (On b) Off p q = cc
trans (On a) (On b) (On c) p q = nat_cmp_total.trans a b c p q

congr : (u v w : Value) → value_cmp u v ≡ Equal → value_cmp u w ≡ value_cmp v w
congr Off Off w p = refl
congr Off (On b) w p = cc
congr (On a) Off w p = cc
congr (On a) (On b) Off p = refl
congr (On a) (On b) (On c) p = nat_cmp_total.congr a b c p

pub value_cmp_total : IsTotalOrder value_cmp
value_cmp_total = record { antisymm = antisymm; trans = trans; congr = congr }

pub state_cmp_total : IsTotalOrder state_cmp
state_cmp_total = lists_total value_cmp_total
