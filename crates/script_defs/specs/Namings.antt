-- Which words of a command name something, and what each has to name.
use Rattle.std.specs.Prelude.{ℕ, ◌&&◌, List, [], ◌∷◌, ◌++◌, Option, None, option_map, map, codes, if◌then◌else◌}
use Rattle.std.specs.List.{find, filter_map, flat_map}
use Rattle.pw_defs.specs.declared.terms.Term.{Term}
use Rattle.pw_defs.specs.declared.terms.Term.TheOpen.{Term-F}
use Rattle.pw_defs.specs.declared.terms.Term.TheFolds.{fold-Term}
use Rattle.list_defs.specs.Members.{same_name}
use Rattle.script_defs.specs.Statements.{Clause, Parts, StateOption, names_in, described_in}
use Rattle.script_defs.specs.World.{Naming}

-- a command, one of its options (nothing for its own first word), and what the names there have to name
pub record NamingRow : Type 0 where
  pub command : List ℕ
  pub option : List ℕ
  pub naming : Naming

abbrev pub row : List ℕ → List ℕ → Naming → NamingRow
row command option naming = record { command = command; option = option; naming = naming }

-- the rows of a strategy, which are the same for isolation and for level shifters
abbrev pub strategy_rows : List ℕ → List NamingRow
strategy_rows command =
    row command (codes "-domain") Naming.domain
    ∷ row command (codes "-elements") Naming.part
    ∷ row command (codes "-exclude_elements") Naming.part
    ∷ row command (codes "-source") Naming.source
    ∷ row command (codes "-sink") Naming.source
    ∷ row command (codes "-instance") Naming.cell
    ∷ row command (codes "-isolation_supply") Naming.set
    ∷ row command (codes "-input_supply") Naming.set
    ∷ row command (codes "-output_supply") Naming.set
    ∷ []

-- what the words of each command have to name; words that stand in no row are names of new things, or aren't looked up
abbrev pub naming_rows : List NamingRow
naming_rows =
    row (codes "connect_supply_net") [] Naming.net
    ∷ row (codes "connect_supply_net") (codes "-ports") Naming.supply_port
    ∷ row (codes "create_supply_set") (codes "-function") Naming.net
    ∷ row (codes "associate_supply_set") [] Naming.set
    ∷ row (codes "associate_supply_set") (codes "-handle") Naming.handle
    ∷ row (codes "connect_supply_set") [] Naming.set
    ∷ row (codes "connect_supply_set") (codes "-elements") Naming.cell
    ∷ row (codes "create_power_switch") (codes "-output_supply_port") Naming.net
    ∷ row (codes "create_power_switch") (codes "-input_supply_port") Naming.net
    ∷ row (codes "add_port_state") [] Naming.supply
    ∷ row (codes "add_supply_state") [] Naming.supply
    ∷ row (codes "create_pst") (codes "-supplies") Naming.column
    ∷ row (codes "add_pst_state") (codes "-pst") Naming.table
    ∷ row (codes "create_power_domain") (codes "-elements") Naming.instance
    ∷ row (codes "create_power_domain") (codes "-exclude_elements") Naming.instance
    ∷ row (codes "create_power_domain") (codes "-supply") Naming.set
    ∷ row (codes "set_port_attributes") (codes "-ports") Naming.port
    ∷ row (codes "set_port_attributes") (codes "-driver_supply") Naming.set
    ∷ row (codes "set_port_attributes") (codes "-receiver_supply") Naming.set
    ∷ row (codes "load_upf") (codes "-scope") Naming.scope
    ∷ row (codes "set_scope") [] Naming.next_scope
    ∷ row (codes "apply_power_model") [] Naming.power_model
    ∷ row (codes "apply_power_model") (codes "-elements") Naming.scope
    ∷ row (codes "apply_power_model") (codes "-supply_map") Naming.set
    ∷ strategy_rows (codes "set_isolation") ++ strategy_rows (codes "set_level_shifter")

abbrev pub naming_in : List ℕ → List ℕ → Option Naming
naming_in command option = option_map (λ r. r.naming) (find (λ r. same_name command r.command && same_name option r.option) naming_rows)

-- the names that a value holds: of the pairs of a map of supplies these are the upper sets, of other pairs the first of each
abbrev pub words_of : Clause → List (List ℕ)
words_of c = elim c.parts as (λ p. List (List ℕ)) [
  | Parts.pairs ps ↦ (if same_name c.option (codes "-supply_map") then map (λ (p : List ℕ × List ℕ). p.1) ps else map (λ (p : List ℕ × List ℕ). p.0) ps)
  | other ↦ names_in other
]

-- one level of: the objects and their states that a term names, from the left
abbrev pub states_in_at : Term-F (List (List ℕ × List ℕ)) → List (List ℕ × List ℕ)
states_in_at (Term-F.Is left state) = (left, state) ∷ []
states_in_at (Term-F.Volt power value) = []
states_in_at (Term-F.On power) = []
states_in_at (Term-F.Not part) = part
states_in_at (Term-F.All parts) = flat_map (λ p. p) parts
states_in_at (Term-F.Any parts) = flat_map (λ p. p) parts

-- the objects and their states that a term names, from the left
unfoldable pub states_in : Term → List (List ℕ × List ℕ)
states_in = fold-Term (List (List ℕ × List ℕ)) states_in_at

-- the terms of logic expressions among the options of a state
abbrev pub logic_terms : List StateOption → List Term
logic_terms options = filter_map logic_term options
  where
    logic_term : StateOption → Option Term
    logic_term (StateOption.logic_expr t) = t
    logic_term _ = None

-- the objects that the logic expressions of a clause name
abbrev pub objects_named : Clause → List (List ℕ)
objects_named c =
    flat_map (λ (s : List ℕ × List StateOption). flat_map (λ t. map (λ (p : List ℕ × List ℕ). p.0) (states_in t)) (logic_terms s.1)) (described_in c.parts)
