-- A design that is made from sources that were read, without faults and with full names, is sound.
use Rattle.pw_defs.specs.declared.design.Design.{Design}
use Rattle.design_defs.specs.DesignFaults.{IsFaultless}
use Rattle.design_defs.specs.Designs.{IsMadeFrom}
use Rattle.design_defs.specs.Hierarchy.{Sources}
use Rattle.design_defs.specs.Inputs.{AreReadSources}
use Rattle.design_defs.specs.Sound.{IsSoundDesign}
use Rattle.design_laws.proofs.Feeders.{has_drivers_there, has_through_there}
use Rattle.design_laws.proofs.InRange.{has_numbers_in_range, has_well_formed_models}
use Rattle.design_laws.proofs.ModulesAlike.{has_modules_alike}
use Rattle.design_laws.proofs.NoRing.{has_no_ring}
use Rattle.design_laws.proofs.OwnNames.{have_own_names}
use Rattle.design_laws.proofs.PortBits.{has_port_bits}
use Rattle.design_laws.proofs.Top.{has_parents_first, has_top}
use Rattle.design_laws.specs.FullNames.{HaveFullNames}

-- THE LAW.
pub made_sound : (s : Sources) (d : Design) → AreReadSources s → HaveFullNames s → IsFaultless s → IsMadeFrom s d → IsSoundDesign d
made_sound s d read full faultless made =
    record {
      numbers = has_numbers_in_range s d read made;
      top = has_top s d faultless made;
      parents_first = has_parents_first s d made;
      port_bits = has_port_bits s d faultless made;
      own_names = have_own_names s d faultless made;
      models = has_well_formed_models s d read made;
      no_ring = has_no_ring s d read faultless made;
      through_there = has_through_there s d faultless made;
      drivers_there = has_drivers_there s d made;
      modules_alike = has_modules_alike s d read faultless full made;
    }
