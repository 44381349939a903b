-- Rows of the script of the two blocks, which stand for the objects that its lines make.
use Rattle.std.proofs.Common.{◌≡◌, ℕ, true, false, List, [], ◌∷◌, Some, None, refl}
use Rattle.std.specs.Prelude.{codes}
use Rattle.std.specs.Box.{with_value}
use Rattle.std.specs.Global.{Box}
use Rattle.pw_defs.specs.declared.supplies.SupplyKind.TheVariants.{Net}
use Rattle.script_defs.specs.LookUps.{HandleName, is_taken, set_at}
use Rattle.script_defs.specs.Statements.{Clause, Parts}
use Rattle.script_defs.specs.SupplySteps.{after_handle}
use Rattle.script_defs.specs.Worked.{clause, ground_clause, power_clause}
use Rattle.script_defs.specs.World.{World}
use Rattle.script_defs.proofs.Behind.{pair_world}
use Rattle.script_world.specs.declared.bodies.Body.{Body}
use Rattle.script_world.specs.declared.bodies.Body.TheVariants.{Supply, Set, Domain}
use Rattle.script_world.specs.declared.bodies.DomainBody.{DomainBody}
use Rattle.script_world.specs.declared.bodies.ObjectRow.{ObjectRow}
use Rattle.script_world.specs.declared.bodies.SetBody.{SetBody}
use Rattle.script_world.specs.declared.parts.GivenClause.{GivenClause}
use Rattle.script_world.specs.declared.parts.Origin.{Origin}
use Rattle.script_world.specs.declared.states.PowerStates.{PowerStates}
use Rattle.script_world.specs.Objects.{known_by, object_seen, objects_seen, world_of}

-- the scope and the file of the script's lines
abbrev places : List (List ℕ)
places = codes "" ∷ codes "base.upf" ∷ []

abbrev at_line : ℕ → Origin
at_line n = record { file = 1; line = n; home = 0 }

abbrev row : ℕ → Body → ObjectRow
row n body = record { scope = 0; origin = at_line n; body = body }

abbrev given : ℕ → Clause → GivenClause
given n c = record { clause = c; scope = 0; origin = at_line n }

abbrev no_states : PowerStates
no_states = record { rows = None; complete = None }

abbrev set_body : ℕ → Clause → SetBody
set_body n power = record { given = given n power ∷ given n (ground_clause (codes "ground VSS") (codes "VSS")) ∷ []; states = no_states }

-- a domain of one element, whose primary is the set of a number
abbrev domain_body : ℕ → List ℕ → List ℕ → List ℕ → ℕ → DomainBody
domain_body n element bytes set number = record {
  given = given n (clause (codes "-elements") element (Parts.names (element ∷ []))) ∷ given n (clause (codes "-supply") bytes (Parts.pair (codes "primary") set)) ∷ [];
  primary = Some (record { set = number; line = n });
  isolation = None;
  states = no_states;
}

module _ (a b : Box SetBody) (t u v : Box DomainBody) where
  abbrev rows : List (List ℕ × ObjectRow)
  rows =
      (codes "VA", row 1 (Supply Net)) ∷ (codes "VB", row 2 (Supply Net)) ∷ (codes "VSS", row 3 (Supply Net))
      ∷ (codes "SA", row 7 (Set (with_value a (set_body 7 (power_clause (codes "power VA") (codes "VA"))))))
      ∷ (codes "SB", row 8 (Set (with_value b (set_body 8 (power_clause (codes "power VB") (codes "VB"))))))
      ∷ (codes "PT", row 9 (Domain (with_value t (domain_body 9 (codes ".") (codes "primary SB") (codes "SB") 4))))
      ∷ (codes "PA", row 10 (Domain (with_value u (domain_body 10 (codes "u_a") (codes "primary SA") (codes "SA") 3))))
      ∷ (codes "PB", row 11 (Domain (with_value v (domain_body 11 (codes "u_b") (codes "primary SB") (codes "SB") 4))))
      ∷ []

  -- they stand for what the lines make
  pub objects_of_pair : objects_seen places rows ≡ record { places = places; objects = pair_world.objects }
  objects_of_pair = refl

  abbrev world : World
  world = world_of (objects_seen places rows).objects

  -- a handle stands for its set
  pub set_of_handle : set_at world (codes "PA.primary") ≡ Some (codes "SA")
  set_of_handle = refl

  -- the other handle of the domain has none yet, and stands for what it is given
  pub no_isolation_set : set_at world (codes "PA.default_isolation") ≡ None
  no_isolation_set = refl

  pub isolation_set : set_at (after_handle world (codes "PA", HandleName.default_isolation) (codes "SB") 12) (codes "PA.default_isolation") ≡ Some (codes "SB")
  isolation_set = refl

  -- a name is taken once it is an object's; that of a handle isn't
  pub taken : is_taken world (codes "PA") ≡ true
  taken = refl

  pub free : is_taken world (codes "PA.primary") ≡ false
  free = refl

-- further in the simple name is what stands behind the path of the scope
pub inner_name : (object_seen (known_by (codes "" ∷ codes "u_a" ∷ []) []) (codes "u_a/V", record { scope = 1; origin = record { file = 0; line = 1; home = 1 }; body = Supply Net })).name
    ≡ codes "V"
inner_name = refl
