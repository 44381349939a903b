-- What feeds a bit where no signal begins and none is passed on.
use Rattle.std.proofs.Common.{◌≡◌, ℕ, List, Option, Some, None, slice_get, subst}
use Rattle.std.proofs.lemmas.Option.{same_Some}
use Rattle.pw_defs.specs.declared.design.Bit.{Bit}
use Rattle.pw_defs.specs.declared.design.Feeder.TheVariants.{Bit as BitFeeder, Constant, Nothing}
use Rattle.design_defs.specs.Bits.{IsSpot, Spot}
use Rattle.design_defs.specs.DesignFaults.{IsFaultless}
use Rattle.design_defs.specs.Designs.{IsFeederOf, IsLinked, IsPlainBit, begins_signal_at, passes_on_at}
use Rattle.design_defs.specs.Hierarchy.{Sources}
use Rattle.design_defs.proofs.OneDesign.{one_source, early_of}
use Rattle.design_laws.proofs.Feeders.{true_or_false}

-- a bit that is linked to one feeds it
pub fed_by_bit : (s : Sources) → IsFaultless s → (spots : List Spot) (x : Spot) → IsSpot s x → (b : Bit) → IsFeederOf s spots x b → IsPlainBit s x b
    → (source : Spot) → IsLinked s x (Some source) → (n : ℕ) × (slice_get spots n ≡ Some source) × (b.feeder ≡ BitFeeder n)
fed_by_bit s faultless spots x there b (IsFeederOf.driver p port signal f) plain source link =
    absurd (true_or_false (begins_signal_at s x.way p) signal (plain.no_signal p port))
fed_by_bit s faultless spots x there b (IsFeederOf.through p from n port passes pin at f) plain source link =
    absurd (true_or_false (passes_on_at s x.way p) passes (plain.not_passing p port))
fed_by_bit s faultless spots x there b (IsFeederOf.bit from n plain' own at f) plain source link =
    let same : from ≡ source = same_Some from source (one_source s (early_of s faultless) x there (Some from) (Some source) own link) in
    (n, subst (λ y. slice_get spots n ≡ Some y) same at, f)
fed_by_bit s faultless spots x there b (IsFeederOf.constant plain' own f) plain source link =
    let none = one_source s (early_of s faultless) x there (Some source) None link own in
    cc
fed_by_bit s faultless spots x there b (IsFeederOf.nothing plain' none f) plain source link = absurd (none (Some source) link)

pub fed_by_constant : (s : Sources) → IsFaultless s → (spots : List Spot) (x : Spot) → IsSpot s x → (b : Bit) → IsFeederOf s spots x b → IsPlainBit s x b
    → IsLinked s x None → b.feeder ≡ Constant
fed_by_constant s faultless spots x there b (IsFeederOf.driver p port signal f) plain link =
    absurd (true_or_false (begins_signal_at s x.way p) signal (plain.no_signal p port))
fed_by_constant s faultless spots x there b (IsFeederOf.through p from n port passes pin at f) plain link =
    absurd (true_or_false (passes_on_at s x.way p) passes (plain.not_passing p port))
fed_by_constant s faultless spots x there b (IsFeederOf.bit from n plain' own at f) plain link =
    let none = one_source s (early_of s faultless) x there (Some from) None own link in
    cc
fed_by_constant s faultless spots x there b (IsFeederOf.constant plain' own f) plain link = f
fed_by_constant s faultless spots x there b (IsFeederOf.nothing plain' none f) plain link = absurd (none None link)

pub fed_by_nothing : (s : Sources) (spots : List Spot) (x : Spot) (b : Bit) → IsFeederOf s spots x b → IsPlainBit s x b
    → ((source : Option Spot) → IsLinked s x source → ⊥) → b.feeder ≡ Nothing
fed_by_nothing s spots x b (IsFeederOf.driver p port signal f) plain none = absurd (true_or_false (begins_signal_at s x.way p) signal (plain.no_signal p port))
fed_by_nothing s spots x b (IsFeederOf.through p from n port passes pin at f) plain none =
    absurd (true_or_false (passes_on_at s x.way p) passes (plain.not_passing p port))
fed_by_nothing s spots x b (IsFeederOf.bit from n plain' own at f) plain none = absurd (none (Some from) own)
fed_by_nothing s spots x b (IsFeederOf.constant plain' own f) plain none = absurd (none None own)
fed_by_nothing s spots x b (IsFeederOf.nothing plain' none' f) plain none = f
