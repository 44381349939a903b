-- What an answer says of the faults of a design.
use Rattle.std.specs.Prelude.{◌≡◌, ◌⊎◌}
use Rattle.pw_defs.specs.declared.faults.DesignFault.{DesignFault}
use Rattle.pw_defs.specs.declared.faults.DesignFault.TheVariants.{Memory}
use Rattle.design_defs.specs.DesignFaults.{HasFirstFault}
use Rattle.design_defs.specs.Hierarchy.{Sources}

-- memory ran out, or this is the first fault
abbrev pub IsCause : Sources → DesignFault → Type 0
IsCause s fault = (fault ≡ Memory) ⊎ HasFirstFault s fault
