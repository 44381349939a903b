-- The supply sets of leaf cells and of ports of the top.
use Rattle.std.specs.Prelude.{ℕ, Bool, true, false, ◌&&◌, ◌==◌, List, [], ◌∷◌, Option, Some, None, option_map, option_and_then, slice_get}
use Rattle.std.specs.List.{find, list_any}
use Rattle.pw_defs.specs.declared.cells.Cell.{Cell}
use Rattle.pw_defs.specs.declared.design.Body.{Body}
use Rattle.pw_defs.specs.declared.design.Body.TheVariants.{Module, Cell as CellBody, Model}
use Rattle.pw_defs.specs.declared.design.Design.{Design}
use Rattle.pw_defs.specs.declared.design.PortBit.{PortBit}
use Rattle.pw_defs.specs.declared.intent.Domain.{Domain}
use Rattle.pw_defs.specs.declared.intent.Intent.{Intent}
use Rattle.pw_defs.specs.declared.intent.SupplySet.{SupplySet}
use Rattle.pw_defs.specs.declared.strategies.Act.{Act}
use Rattle.pw_defs.specs.declared.strategies.Act.TheVariants.{Iso as Isolate, Shift as ShiftLevel}
use Rattle.pw_defs.specs.declared.strategies.Mode.TheVariants.{Plain, Force, No}
use Rattle.pw_defs.specs.declared.strategies.Strategy.{Strategy}
use Rattle.design_defs.specs.Ports.{body_of}
use Rattle.domain_defs.specs.Candidates.{default_isolation, isolation_supply}

-- the first of these that there is
abbrev pub first_there : {X : Type 0} → List (Option X) → Option X
first_there [] = None
first_there (None ∷ rest) = first_there rest
first_there (Some x ∷ rest) = Some x

-- the primary set of the domain that an instance is in
abbrev pub primary_of : Intent → ℕ → Option SupplySet
primary_of intent inst = option_and_then (λ d. option_map (λ domain. domain.primary) (slice_get intent.domains d)) (slice_get intent.domain_of inst)

-- the default isolation set of the domain that an instance is in
abbrev pub default_isolation_of : Intent → ℕ → Option SupplySet
default_isolation_of intent inst = option_and_then (default_isolation intent.domains) (slice_get intent.domain_of inst)

-- whether a strategy is an isolating one: one for isolation that doesn't forbid it
abbrev pub isolates : Act → Bool
isolates (Isolate No supply) = false
isolates (Isolate Plain supply) = true
isolates (Isolate Force supply) = true
isolates (ShiftLevel mode up down threshold input output) = false

-- whether a strategy is a shifting one: one for level shifting that doesn't forbid it
abbrev pub shifts : Act → Bool
shifts (Isolate mode supply) = false
shifts (ShiftLevel No up down threshold input output) = false
shifts (ShiftLevel Plain up down threshold input output) = true
shifts (ShiftLevel Force up down threshold input output) = true

-- whether a strategy's instances name a cell
abbrev pub names_cell : ℕ → Strategy → Bool
names_cell inst s = list_any (λ cell. cell == inst) s.cells

-- the first isolating strategy that names a cell
abbrev pub isolating_strategy : Intent → ℕ → Option Strategy
isolating_strategy intent inst = find (λ s. isolates s.act && names_cell inst s) intent.strategies

-- the first shifting strategy that names a cell
abbrev pub shifting_strategy : Intent → ℕ → Option Strategy
shifting_strategy intent inst = find (λ s. shifts s.act && names_cell inst s) intent.strategies

-- the isolation supply of what a strategy asks for
abbrev pub supply_in : List Domain → Strategy → Act → Option SupplySet
supply_in domains s (Isolate mode stated) = isolation_supply domains s stated
supply_in domains s (ShiftLevel mode up down threshold input output) = None

-- the stated supply of the input side of a shifter
abbrev pub input_in : Act → Option SupplySet
input_in (Isolate mode supply) = None
input_in (ShiftLevel mode up down threshold input output) = input

-- the stated supply of the output side of a shifter
abbrev pub output_in : Act → Option SupplySet
output_in (Isolate mode supply) = None
output_in (ShiftLevel mode up down threshold input output) = output

-- the library cell that a body stands for
abbrev pub cell_in : Design → Body → Option Cell
cell_in design (Module m) = None
cell_in design (CellBody c) = slice_get design.cells.cells c
cell_in design (Model m) = None

-- the library cell of an instance, if it is of one
abbrev pub cell_of : Design → ℕ → Option Cell
cell_of design inst = option_and_then (cell_in design) (body_of design inst)

-- what there is where a test is true
abbrev pub where_true : {X : Type 0} → Bool → Option X → Option X
where_true true x = x
where_true false x = None

-- The set of a leaf cell is the first of these that there is: the set of the first line that connects one to it; the
-- isolation supply of the first isolating strategy that names it; the output supply of the first shifting strategy that
-- names it; for an isolation cell, its domain's default isolation set; its domain's primary set.
abbrev pub cell_set : Design → Intent → ℕ → Option SupplySet
cell_set design intent inst =
    first_there (
    option_map (λ line. line.set) (find (λ line. line.inst == inst) intent.cell_sets)
    ∷ option_and_then (λ s. supply_in intent.domains s s.act) (isolating_strategy intent inst)
    ∷ option_and_then (λ s. output_in s.act) (shifting_strategy intent inst)
    ∷ option_and_then (λ cell. where_true cell.iso (default_isolation_of intent inst)) (cell_of design inst)
    ∷ primary_of intent inst ∷ [])

-- The set of a shifter's input side is the input supply of the first shifting strategy that names it, else unstated.
abbrev pub shifter_input : Intent → ℕ → Option SupplySet
shifter_input intent inst = option_and_then (λ s. input_in s.act) (shifting_strategy intent inst)

-- The set of a port of the top is that of the first line that gives one to it, else the primary set of the top's domain.
abbrev pub port_set : Intent → ℕ → Option SupplySet
port_set intent port =
    first_there (option_map (λ line. line.set) (find (λ line. line.port == port) intent.port_sets) ∷ primary_of intent 0 ∷ [])

-- the set of a port bit, by what its instance is an instance of: a port of the top and a pin of a leaf cell have one
abbrev pub set_at : Design → Intent → PortBit → Body → Option SupplySet
set_at design intent bit (Module m) = where_true (bit.inst == 0) (port_set intent bit.port)
set_at design intent bit (CellBody c) = cell_set design intent bit.inst
set_at design intent bit (Model m) = None

-- The set of a driver or receiver is that of the leaf cell that has the pin, or of the top's port.
abbrev pub end_set : Design → Intent → PortBit → Option SupplySet
end_set design intent bit = option_and_then (set_at design intent bit) (body_of design bit.inst)
