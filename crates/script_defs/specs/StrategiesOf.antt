-- The strategies, cell sets and port sets of an intent.
use Rattle.std.specs.Prelude.{◌≡◌, ℕ, ◌==◌, Bool, ◌&&◌, ◌||◌, List, ◌++◌, Option, None, Some, option_map, option_and_then, unwrap_or, map, codes, if◌then◌else◌}
use Rattle.std.specs.List.{AllZip, filter, filter_map, flat_map}
use Rattle.pw_defs.specs.declared.cells.Dir.{Dir}
use Rattle.pw_defs.specs.declared.design.Design.{Design}
use Rattle.pw_defs.specs.declared.design.Named.{Named}
use Rattle.pw_defs.specs.declared.intent.CellSet.{CellSet}
use Rattle.pw_defs.specs.declared.intent.Intent.{Intent}
use Rattle.pw_defs.specs.declared.intent.PortSet.{PortSet}
use Rattle.pw_defs.specs.declared.intent.SupplySet.{SupplySet}
use Rattle.pw_defs.specs.declared.intent.Want.{Want}
use Rattle.pw_defs.specs.declared.strategies.Act.{Act}
use Rattle.pw_defs.specs.declared.strategies.Mode.{Mode}
use Rattle.pw_defs.specs.declared.strategies.Strategy.{Strategy}
use Rattle.pw_defs.specs.declared.strategies.Tool.{Tool}
use Rattle.list_defs.specs.Members.{same_name}
use Rattle.design_defs.specs.Names.{joined}
use Rattle.design_defs.specs.Ports.{is_input, is_output, port_at}
use Rattle.domain_defs.specs.DomainFaults.{AreDomainsOf}
use Rattle.supply_defs.specs.UnitLists.{AreUnitLists}
use Rattle.script_defs.specs.Statements.{first_of, volts_in}
use Rattle.script_defs.specs.World.{Body, GivenClause, SetLine, Object, World}
use Rattle.script_defs.specs.Scopes.{path_from}
use Rattle.script_defs.specs.LookUps.{is_strategy}
use Rattle.script_defs.specs.DesignParts.{part_at}
use Rattle.script_defs.specs.Supplies.{given_to}
use Rattle.script_defs.specs.Numbers.{unit_paths, inst_number, supplies_of, domain_objects, domain_number}
use Rattle.script_defs.specs.Constraints.{constraints}
use Rattle.script_defs.specs.IntentOf.{IsSetNamed, IsSetIfNamed, IsUnitOf, IsDomainOf, given_as, words_given, pairs_given, has_option, has_flag, word_or, parts_given, set_given, filter_given}

-- whether a word is one of two
abbrev pub is_either : List ℕ → List ℕ → List ℕ → Bool
is_either word a b = same_name word a || same_name word b

-- which of the two sides an option admits, where it says `both` or one of them; `other` where it isn't given
abbrev pub admits : List ℕ → List ℕ → List ℕ → List GivenClause → Bool
admits option side other given = is_either (word_or option other given) side (codes "both")

-- whether a strategy asks never, always, or as needed
abbrev pub mode_given : List ℕ → List ℕ → List GivenClause → Mode
mode_given never force given = if has_flag never given then Mode.No else (if has_flag force given then Mode.Force else Mode.Plain)

-- the threshold, 0 where none is given
abbrev pub threshold_given : List GivenClause → ℕ
threshold_given given = unwrap_or (first_of (flat_map (λ (g : GivenClause). volts_in g.clause.parts) (given_as (codes "-threshold") given))) 0

pub record IsIsolation (d : Design) (w : World) (given : List GivenClause) (act : Act) : Type 0 where
  pub supply : Option SupplySet
  pub supply_is : IsSetIfNamed d w (set_given w (codes "-isolation_supply") given) supply
  pub act_is : act ≡ Act.Iso (mode_given (codes "-no_isolation") (codes "-force_isolation") given) supply

pub record IsShifting (d : Design) (w : World) (given : List GivenClause) (act : Act) : Type 0 where
  pub input : Option SupplySet
  pub output : Option SupplySet
  pub input_is : IsSetIfNamed d w (set_given w (codes "-input_supply") given) input
  pub output_is : IsSetIfNamed d w (set_given w (codes "-output_supply") given) output
  pub act_is : act ≡ Act.Shift (mode_given (codes "-no_shift") (codes "-force_shift") given) (admits (codes "-rule") (codes "low_to_high") (codes "both") given)
      (admits (codes "-rule") (codes "high_to_low") (codes "both") given) (threshold_given given) input output

-- what a strategy asks for
abbrev pub IsActOf : Design → World → Tool → List GivenClause → Act → Type 0
IsActOf d w Tool.Iso given act = IsIsolation d w given act
IsActOf d w Tool.Shift given act = IsShifting d w given act

abbrev pub tool_in : Body → Tool
tool_in (Body.strategy tool given) = tool
tool_in _ = Tool.Iso

-- the number of the domain that a strategy is of
abbrev pub domain_given : World → List GivenClause → ℕ
domain_given w given = unwrap_or (option_map (λ (p : List ℕ × List ℕ). domain_number w (joined p.0 p.1)) (first_of (words_given (codes "-domain") given))) 0

-- A strategy is of its domain. Without `-applies_to` it is for both directions, and without `-applies_to_boundary` for
-- the upper boundary.
pub record IsStrategyOf (d : Design) (w : World) (o : Object) (s : Strategy) : Type 0 where
  pub domain_is : s.domain ≡ domain_given w (given_to (Some o.body))
  pub elements_are : s.elements ≡ (if has_option (codes "-elements") (given_to (Some o.body)) then Some (parts_given d (codes "-elements") (given_to
      (Some o.body))) else None)
  pub excluded_are : s.excluded ≡ parts_given d (codes "-exclude_elements") (given_to (Some o.body))
  pub inputs_is : s.inputs ≡ admits (codes "-applies_to") (codes "inputs") (codes "both") (given_to (Some o.body))
  pub outputs_is : s.outputs ≡ admits (codes "-applies_to") (codes "outputs") (codes "both") (given_to (Some o.body))
  pub upper_is : s.upper ≡ admits (codes "-applies_to_boundary") (codes "upper") (codes "upper") (given_to (Some o.body))
  pub lower_is : s.lower ≡ admits (codes "-applies_to_boundary") (codes "lower") (codes "upper") (given_to (Some o.body))
  pub cells_are : s.cells ≡ map (λ (p : List ℕ × List ℕ). inst_number d (path_from p.0 p.1)) (pairs_given (codes "-instance") (given_to (Some o.body)))
  pub source_is : IsSetIfNamed d w (filter_given w (codes "-source") (given_to (Some o.body))) s.filter.source
  pub sink_is : IsSetIfNamed d w (filter_given w (codes "-sink") (given_to (Some o.body))) s.filter.sink
  pub diff_is : s.filter.diff ≡ has_flag (codes "-diff_supply_only") (given_to (Some o.body))
  pub act_is : IsActOf d w (tool_in o.body) (given_to (Some o.body)) s.act

-- CELLS AND PORTS
pub record IsCellSet (d : Design) (w : World) (l : SetLine) (c : CellSet) : Type 0 where
  pub inst_is : c.inst ≡ inst_number d l.place
  pub set_is : IsSetNamed d w l.set c.set

-- the number of a port of the top with a name, where it has the direction
abbrev pub port_if : Design → (Option Dir → Bool) → Named → Option ℕ
port_if d test (Named.Port inst port) = if inst == 0 && test (option_map (λ p. p.dir) (port_at d inst port)) then Some port else None
port_if d test _ = None

abbrev pub top_port : Design → (Option Dir → Bool) → List ℕ → Option ℕ
top_port d test name = option_and_then (λ x. port_if d test x.named) (part_at d name)

-- the lines that give a set to a port of the top, of a direction
abbrev pub port_lines : Design → (Option Dir → Bool) → List SetLine → List (ℕ × SetLine)
port_lines d test lines = filter_map (λ (l : SetLine). option_map (λ port. (port, l)) (top_port d test l.place)) lines

pub record IsPortSet (d : Design) (w : World) (l : ℕ × SetLine) (p : PortSet) : Type 0 where
  pub port_is : p.port ≡ l.0
  pub set_is : IsSetNamed d w l.1.set p.set

-- The driver supplies of the top's inputs, then the receiver supplies of its outputs; other ones aren't used.
abbrev pub used_port_lines : Design → World → List (ℕ × SetLine)
used_port_lines d w = port_lines d is_input w.driver_sets ++ port_lines d is_output w.receiver_sets

-- THE INTENT
pub record IsIntentOf (d : Design) (w : World) (want : Want) (i : Intent) : Type 0 where
  pub want_is : i.want ≡ want
  pub units_are : AllZip (IsUnitOf d w) (unit_paths d w) i.units
  pub supplies_are : i.supplies ≡ supplies_of d w
  pub lists_are : AreUnitLists i.supplies i.units i.lists
  pub domains_are : AllZip (IsDomainOf d w) (domain_objects w) i.domains
  pub members_are : AreDomainsOf d i.domains i.domain_of
  pub strategies_are : AllZip (IsStrategyOf d w) (filter (λ o. is_strategy (Some o.body)) w.objects) i.strategies
  pub cell_sets_are : AllZip (IsCellSet d w) w.cell_sets i.cell_sets
  pub port_sets_are : AllZip (IsPortSet d w) (used_port_lines d w) i.port_sets
  pub conds_are : i.conds ≡ constraints d w want i.lists
