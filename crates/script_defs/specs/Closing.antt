-- The faults of a script that are found when all of its lines have run: each of its own code, the first by its own order,
-- and of these the first in the order of codes.
use Rattle.std.specs.Prelude.{◌≡◌, ℕ, ◌<◌, ◌≤◌, ◌==◌, Bool, true, false, not, ◌&&◌, ◌||◌, List, [], ◌∷◌, ◌++◌, Some, option_to_list, is_some, map, length, slice_get, codes, if◌then◌else◌}
use Rattle.std.specs.List.{list_any, filter, before_last}
use Rattle.std.specs.Ordering.{nat_cmp, ordering_then}
use Rattle.std.specs.declared.cmp.Ordering.{Ordering}
use Rattle.pw_defs.specs.declared.design.Design.{Design}
use Rattle.pw_defs.specs.declared.faults.Code.{Code}
use Rattle.pw_defs.specs.declared.faults.Refusal.{Refusal}
use Rattle.pw_defs.specs.declared.intent.Domain.{Domain}
use Rattle.pw_defs.specs.declared.intent.RootList.{RootList}
use Rattle.pw_defs.specs.declared.intent.Unit.{Unit as PowerUnit}
use Rattle.pw_defs.specs.declared.intent.Want.{Want}
use Rattle.pw_defs.specs.declared.supplies.Supply.{Supply}
use Rattle.list_defs.specs.Members.{IsIn, same_name}
use Rattle.list_defs.specs.Orders.{name_cmp, IsLeast, IsRising}
use Rattle.design_defs.specs.Joined.{path_of}
use Rattle.domain_defs.specs.DomainFaults.{LacksDomain, CannotHave, element_cmp}
use Rattle.supply_defs.specs.Limits.{IsFlatRoot}
use Rattle.supply_defs.specs.UnitLists.{IsJobList}
use Rattle.supply_defs.specs.UnitViews.{IsRootIn}
use Rattle.supply_defs.specs.Values.{IsUnstated}
use Rattle.script_defs.specs.World.{Naming, Use, Object, World}
use Rattle.script_defs.specs.Scopes.{body_at, macros_inside, unit_of, shown_path, is_modelled}
use Rattle.script_defs.specs.LookUps.{object_at, whole_name, is_dot}
use Rattle.script_defs.specs.DesignParts.{part_from, type_name}
use Rattle.script_defs.specs.Supplies.{supply_at, port_dir, given_to}
use Rattle.script_defs.specs.Uses.{used_name, joined_word, is_of_design, is_next_scope}
use Rattle.script_defs.specs.Numbers.{domain_objects}
use Rattle.script_defs.specs.Constraints.{macro_paths}
use Rattle.script_defs.specs.IntentOf.{is_exported, insts_given}
use Rattle.script_defs.specs.SetsUsed.{lacking_objects}

-- CLOSED BOUNDARIES. The unit of a line, by the marks of the whole run.
abbrev pub unit_of_use : Design → World → Use → List ℕ
unit_of_use d w u = unit_of d w.marks u.origin.home

abbrev pub has_some : {X : Type 0} → List X → Bool
has_some [] = false
has_some (x ∷ xs) = true

-- whether something in a scope stands inside a soft macro further in than the line's unit: at or below it
abbrev pub is_inside : Design → World → Use → List ℕ → Bool
is_inside d w u scope = has_some (macros_inside d w.marks (unit_of_use d w u) scope)

-- the same for what a soft macro shows on its boundary: it must stand below
abbrev pub is_far_inside : Design → World → Use → List ℕ → Bool
is_far_inside d w u scope = has_some (filter (λ macro. not (same_name macro scope)) (macros_inside d w.marks (unit_of_use d w u) scope))

abbrev pub is_lower_set : Naming → Bool
is_lower_set Naming.lower_set = true
is_lower_set _ = false

-- A part of the design is closed where it stands inside a soft macro; the macro's own instance and ports aren't, but a
-- line doesn't make the instance its scope.
abbrev pub is_closed_part : Design → World → Use → Bool
is_closed_part d w u =
    list_any
    (λ x. if is_next_scope u.naming then is_inside d w u x.owner else is_far_inside d w u x.owner)
    (option_to_list (part_from d u.scope u.word))

-- an object is closed where it stands in a soft macro; an exported set isn't where a map names it
abbrev pub is_closed_object : Design → World → Use → Object → Bool
is_closed_object d w u o =
    if is_lower_set u.naming && is_exported d w u.scope o then is_far_inside d w u o.scope else is_inside d w u o.scope

-- a supply is closed where it stands in a soft macro; a port of the macro's own instance isn't
abbrev pub is_closed_supply : Design → World → Use → Bool
is_closed_supply d w u =
    list_any (λ e. if is_some (port_dir e) then is_far_inside d w u e.scope else is_inside d w u e.scope) (option_to_list (supply_at d w (used_name u)))

-- the objects that a name stands for, or of which it is a handle or function; those of supplies are judged as supplies
abbrev pub objects_of_use : Design → World → Use → List Object
objects_of_use d w u =
    if is_some (supply_at d w (used_name u)) then []
    else option_to_list (object_at w (used_name u)) ++ option_to_list (object_at w (before_last is_dot (used_name u)))
    ++ option_to_list (object_at w (before_last is_dot (before_last is_dot (used_name u))))

-- Whether a line names something inside a soft macro of another unit.
abbrev pub is_closed : Design → World → Use → Bool
is_closed d w u =
    if is_of_design u.naming then is_closed_part d w u
    else is_closed_supply d w u || list_any (is_closed_object d w u) (objects_of_use d w u)

-- the uses of closed names, in order of running
abbrev pub closed_uses : Design → World → List Use
closed_uses d w = filter (is_closed d w) w.uses

-- MARKS. The top of a model isn't marked.
abbrev pub IsUnmarked : World → Want → Type 0
IsUnmarked w Want.Macro = list_any (same_name []) w.marks ≡ false
IsUnmarked w Want.Check = ⊥

-- UNSTATED BOUNDARIES. Port k of unit n, a soft macro whose lines are run, has nothing but the default inside.
pub record IsUnstatedPort (d : Design) (w : World) (want : Want) (supplies : List Supply) (units : List PowerUnit) (n k : ℕ) : Type 0 where
  pub unit : PowerUnit
  pub is_unit : slice_get units n ≡ Some unit
  pub path : List ℕ
  pub at : path_of d unit.inst ≡ Some path
  pub macro : IsIn path (macro_paths d w want)
  pub own_lines : is_modelled d path ≡ false
  pub port : ℕ
  pub is_port : slice_get unit.ports k ≡ Some port
  pub root : ℕ
  pub is_root : IsRootIn supplies units n port root
  pub unstated : IsUnstated supplies units n root

-- by number, then by the number of a part
abbrev pub pair_cmp : ℕ × ℕ → ℕ × ℕ → Ordering
pair_cmp p q = ordering_then (nat_cmp p.0 q.0) (nat_cmp p.1 q.1)

-- OWN DOMAINS. Whether lines of a soft macro's own unit make a domain of which its instance is an element.
abbrev pub has_own_domain : Design → World → List ℕ → ℕ → Bool
has_own_domain d w path inst =
    list_any
    (λ o. same_name path (unit_of d w.marks o.origin.home) && list_any (λ n. n == inst) (insts_given d (codes "-elements") (given_to (Some o.body))))
    (domain_objects w)

pub record LacksOwnDomain (d : Design) (w : World) (want : Want) (inst : ℕ) : Type 0 where
  pub path : List ℕ
  pub at : path_of d inst ≡ Some path
  pub macro : IsIn path (macro_paths d w want)
  pub own_lines : is_modelled d path ≡ false
  pub none : has_own_domain d w path inst ≡ false

-- ROOTS. Each root once, and there are more than 1,024.
pub record HasManyRoots (supplies : List Supply) : Type 0 where
  pub roots : List ℕ
  pub each : (root : ℕ) → IsIn root roots → IsFlatRoot supplies root
  pub rising : IsRising nat_cmp roots
  pub many : 1024 < length roots

-- a root of this name has more than 64 values in the whole job
pub record HasManyValues (supplies : List Supply) (units : List PowerUnit) (lists : List RootList) (name : List ℕ) : Type 0 where
  pub root : ℕ
  pub is_root : IsFlatRoot supplies root
  pub list : RootList
  pub is_list : IsJobList units lists root list
  pub many : 64 < length list.values
  pub name_is : slice_get (map (λ s. s.name) supplies) root ≡ Some name

-- a refusal at line 0 of the script
abbrev pub at_script : List ℕ → Code → List ℕ → Refusal
at_script script code name = record { code = code; file = script; line = 0; name = name }

-- what the final world and the numbers of its intent are
pub record Closed : Type 0 where
  pub script : List ℕ
  pub want : Want
  pub units : List PowerUnit
  pub supplies : List Supply
  pub domains : List Domain
  pub lists : List RootList

-- The checks that are made when all lines have run.
pub data Check : Type 0 where
  closed unmarked unstated own_domain no_domain two_domains functions roots values : Check

-- their order
abbrev pub check_number : Check → ℕ
check_number Check.closed = 0
check_number Check.unmarked = 1
check_number Check.unstated = 2
check_number Check.own_domain = 3
check_number Check.no_domain = 4
check_number Check.two_domains = 5
check_number Check.functions = 6
check_number Check.roots = 7
check_number Check.values = 8

-- A check refuses the script so: the first of its code.
pub data IsClosingFault (d : Design) (w : World) (c : Closed) : Check → Refusal → Type 0 where
  closed_name : (r : Refusal) (u : Use) → slice_get (closed_uses d w) 0 ≡ Some u
      → r ≡ record { code = Code.U14; file = u.origin.file; line = u.origin.line; name = joined_word u } → IsClosingFault d w c Check.closed r
  unmarked_top : (r : Refusal) → IsUnmarked w c.want → r ≡ at_script c.script Code.U18 (type_name d (body_at d [])) → IsClosingFault d w c Check.unmarked r
  unstated_port : (r : Refusal) (p : ℕ × ℕ) (unit : PowerUnit) (port : ℕ) (name : List ℕ)
      → IsLeast pair_cmp (λ (q : ℕ × ℕ). IsUnstatedPort d w c.want c.supplies c.units q.0 q.1) p → slice_get c.units p.0 ≡ Some unit
      → slice_get unit.ports p.1 ≡ Some port → slice_get (map (λ s. s.name) c.supplies) port ≡ Some name
      → r ≡ at_script c.script Code.U15 name → IsClosingFault d w c Check.unstated r
  no_own_domain : (r : Refusal) (inst : ℕ) (path : List ℕ) → IsLeast nat_cmp (LacksOwnDomain d w c.want) inst → path_of d inst ≡ Some path
      → r ≡ at_script c.script Code.U16 (shown_path path) → IsClosingFault d w c Check.own_domain r
  without_domain : (r : Refusal) (inst : ℕ) (path : List ℕ) → IsLeast nat_cmp (LacksDomain d c.domains) inst → path_of d inst ≡ Some path
      → r ≡ at_script c.script Code.U10 (shown_path path) → IsClosingFault d w c Check.no_domain r
  in_two_domains : (r : Refusal) (p : ℕ × ℕ) (o : Object) (path : List ℕ) → IsLeast element_cmp (λ (q : ℕ × ℕ). CannotHave d c.domains q.0 q.1) p
      → slice_get (domain_objects w) p.0 ≡ Some o → path_of d p.1 ≡ Some path
      → r ≡ record { code = Code.U11; file = o.origin.file; line = o.origin.line; name = shown_path path } → IsClosingFault d w c Check.two_domains r
  without_function : (r : Refusal) (o : Object) → slice_get (lacking_objects d w) 0 ≡ Some o → r ≡ at_script c.script Code.U12 (whole_name o)
      → IsClosingFault d w c Check.functions r
  many_roots : (r : Refusal) → HasManyRoots c.supplies → r ≡ at_script c.script Code.X2 (codes "-") → IsClosingFault d w c Check.roots r
  many_values : (r : Refusal) (name : List ℕ) → IsLeast name_cmp (HasManyValues c.supplies c.units c.lists) name → r ≡ at_script c.script Code.X3 name
      → IsClosingFault d w c Check.values r

-- The first fault of a script whose lines have all run: no check before this one refuses it.
pub record HasClosingFault (d : Design) (w : World) (c : Closed) (r : Refusal) : Type 0 where
  pub check : Check
  pub refuses : IsClosingFault d w c check r
  pub first : (other : Check) (x : Refusal) → IsClosingFault d w c other x → check_number check ≤ check_number other

-- no check refuses the script
abbrev pub HasNoClosingFault : Design → World → Closed → Type 0
HasNoClosingFault d w c = (check : Check) (r : Refusal) → ¬ IsClosingFault d w c check r
