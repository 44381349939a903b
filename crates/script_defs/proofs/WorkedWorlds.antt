-- The worlds of the worked scripts, their supplies and their constraints.
use Rattle.std.proofs.Common.{◌≡◌, [], ◌∷◌, ◌++◌, map, refl}
use Rattle.std.specs.Prelude.{codes}
use Rattle.std.specs.Fmt.{digits}
use Rattle.pw_defs.specs.declared.intent.Want.{Want}
use Rattle.worked_jobs.specs.Designs.{pair, chip, bits}
use Rattle.worked_jobs.specs.Intents.{pair as pair_intent}
use Rattle.script_defs.specs.World.{SupplyKey}
use Rattle.script_defs.specs.Runs.{first_frame, fresh}
use Rattle.script_defs.specs.LookUps.{whole_name}
use Rattle.script_defs.specs.Numbers.{supplies_of, unit_paths}
use Rattle.script_defs.specs.Constraints.{constraints}
use Rattle.script_defs.specs.Worked.{pair_statements, bits_statements, chip_statements, macro_statements, chip_connections}
use Rattle.script_defs.proofs.Behind.{base, pair_world, faults_on_the_way, chip_frame, macro_frame, before_macro, behind_macro, chip_world}

-- the script of the two blocks makes these objects, in order
pub objects_of_pair :
    map whole_name pair_world.objects ≡ codes "VA" ∷ codes "VB" ∷ codes "VSS" ∷ codes "SA" ∷ codes "SB" ∷ codes "PT" ∷ codes "PA" ∷ codes "PB" ∷ []
objects_of_pair = refl

-- none of its lines has a fault
pub pair_has_no_fault : faults_on_the_way pair base (fresh pair) pair_statements ≡ []
pair_has_no_fault = refl

-- it makes the supplies of its intent
pub supplies_of_pair : supplies_of pair pair_world ≡ pair_intent.supplies
supplies_of_pair = refl

-- and its constraints: the stated values of each net, in order of the lines
pub constraints_of_pair : constraints pair pair_world Want.Check pair_intent.lists ≡ pair_intent.conds
constraints_of_pair = refl

-- the script of the block with a vector port has no fault either
pub bits_has_no_fault : faults_on_the_way bits (first_frame (codes "bits.upf")) (fresh bits) bits_statements ≡ []
unfolding digits
bits_has_no_fault = refl

-- the chip and its macro are two units, and no line has a fault
pub units_of_chip : unit_paths chip chip_world ≡ [] ∷ codes "m" ∷ []
units_of_chip = refl

pub chip_has_no_fault :
    faults_on_the_way chip chip_frame (fresh chip) chip_statements ++ faults_on_the_way chip macro_frame before_macro macro_statements
    ++ faults_on_the_way chip chip_frame behind_macro chip_connections ≡ []
chip_has_no_fault = refl

-- a port of the macro is made in the macro's scope, and the chip's net feeds it
pub port_is_fed : chip_world.links ≡ record { fed = SupplyKey.made (codes "m/VA"); by = SupplyKey.made (codes "V1") } ∷ record {
  fed = SupplyKey.made
      (codes "m/VB");
  by = SupplyKey.made (codes "V2");
} ∷ []
port_is_fed = refl
