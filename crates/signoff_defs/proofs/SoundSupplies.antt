-- What the report on a sound intent rests on.
use Rattle.pw_defs.specs.declared.design.Design.{Design}
use Rattle.pw_defs.specs.declared.intent.Intent.{Intent}
use Rattle.design_defs.specs.Sound.{IsSoundDesign}
use Rattle.supply_defs.specs.Network.{HasNoFeederRing, HasFeedersInRange}
use Rattle.supply_defs.specs.UnitLists.{AreUnitLists, OutersAreSmaller}
use Rattle.domain_defs.specs.SoundIntent.{IsSoundIntent}
use Rattle.domain_defs.proofs.SoundIntentLaws.{feeders_in_range, outers_are_smaller}

-- The supplies of an intent are sound: feeders are supplies and make no ring, the lists of values are those of the
-- network, and each unit comes behind the one that it is in.
pub record HasSoundSupplies (i : Intent) : Type 0 where
  pub no_ring : HasNoFeederRing i.supplies
  pub in_range : HasFeedersInRange i.supplies
  pub lists : AreUnitLists i.supplies i.units i.lists
  pub outers : OutersAreSmaller i.units

pub sound_supplies : (d : Design) (i : Intent) → IsSoundDesign d → IsSoundIntent d i → HasSoundSupplies i
sound_supplies d i good sound = record {
  no_ring = sound.network.no_ring;
  in_range = feeders_in_range d i sound;
  lists = sound.lists;
  outers = outers_are_smaller d i good sound;
}
