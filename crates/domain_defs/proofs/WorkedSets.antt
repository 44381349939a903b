-- Sets of the cells and ports of the worked block.
use Rattle.std.proofs.Common.{◌≡◌, ℕ, true, List, [], ◌∷◌, Option, Some, None, refl}
use Rattle.std.specs.Prelude.{codes}
use Rattle.pw_defs.specs.declared.intent.CellSet.{CellSet}
use Rattle.pw_defs.specs.declared.intent.Intent.{Intent}
use Rattle.pw_defs.specs.declared.intent.SupplySet.{SupplySet}
use Rattle.pw_defs.specs.declared.strategies.Act.TheVariants.{Iso, Shift}
use Rattle.pw_defs.specs.declared.strategies.Mode.TheVariants.{Plain, No}
use Rattle.pw_defs.specs.declared.strategies.Strategy.{Strategy}
use Rattle.domain_defs.specs.Sets.{cell_set, shifter_input, end_set}
use Rattle.domain_defs.proofs.WorkedDomains.{block, domain, two_domains, alone, strategy, intent_with, block_intent}

-- the block with these strategies and lines for cells; its cells are the buffer 2 and the isolation cell 3
abbrev with_lines : List Strategy → List CellSet → Intent
with_lines strategies cell_sets = intent_with two_domains (0 ∷ 1 ∷ 1 ∷ 1 ∷ []) strategies cell_sets

-- the block's domain with a default isolation set
abbrev with_default : List Strategy → Intent
with_default strategies =
    intent_with (domain (codes "PT") 4 (0 ∷ []) []
    ∷ record { name = codes "PB"; unit = 0; line = 5; elements = 1 ∷ []; excluded = []; primary = alone 0; default_iso = Some (alone 6) } ∷ [])
    (0 ∷ 1 ∷ 1 ∷ 1 ∷ []) strategies []

-- a strategy that names these cells and isolates with this supply
abbrev isolating : List ℕ → Option SupplySet → Strategy
isolating cells supply = strategy None cells (Iso Plain supply)

abbrev shifting : List ℕ → Option SupplySet → Option SupplySet → Strategy
shifting cells input output = strategy None cells (Shift Plain true true 0 input output)

-- a cell of which no line speaks has the primary set of its domain
pub cell_by_domain : cell_set block block_intent 2 ≡ Some (alone 0)
cell_by_domain = refl

-- of two lines that connect a set to a cell the first counts
pub cell_by_first_line : cell_set block (with_lines [] (record { inst = 2; set = alone 9 } ∷ record { inst = 2; set = alone 8 } ∷ [])) 2 ≡ Some (alone 9)
cell_by_first_line = refl

-- any leaf cell that an isolating strategy names takes its supply
pub buffer_by_strategy : cell_set block (with_lines (isolating (2 ∷ []) (Some (alone 7)) ∷ []) []) 2 ≡ Some (alone 7)
buffer_by_strategy = refl

-- The first isolating strategy decides, even where its supply is unstated: then no later one is asked, ..
pub first_strategy_decides : cell_set block (with_lines (isolating (2 ∷ []) None ∷ isolating (2 ∷ []) (Some (alone 7)) ∷ []) []) 2 ≡ Some (alone 0)
first_strategy_decides = refl

-- .. but the next kind of source is
pub then_shifting_strategy : cell_set block (with_lines (isolating (2 ∷ []) None ∷ shifting (2 ∷ []) None (Some (alone 5)) ∷ []) []) 2 ≡ Some (alone 5)
then_shifting_strategy = refl

-- an unstated isolation supply is the default of the strategy's domain, where that has one
pub unstated_is_default : cell_set block (with_default (isolating (2 ∷ []) None ∷ [])) 2 ≡ Some (alone 6)
unstated_is_default = refl

-- a strategy that forbids isolation is no isolating one
pub forbidding_is_passed_over : cell_set block (with_lines (strategy None (2 ∷ []) (Iso No (Some (alone 7))) ∷ []) []) 2 ≡ Some (alone 0)
forbidding_is_passed_over = refl

-- an isolation cell that nothing names has its domain's default isolation set, a buffer has not
pub isolation_cell_by_default : cell_set block (with_default []) 3 ≡ Some (alone 6)
isolation_cell_by_default = refl

pub buffer_without_default : cell_set block (with_default []) 2 ≡ Some (alone 0)
buffer_without_default = refl

-- the input side of a shifter is unstated where the first shifting strategy that names it states none
pub input_unstated : shifter_input (with_lines (shifting (2 ∷ []) None (Some (alone 5)) ∷ shifting (2 ∷ []) (Some (alone 4)) None ∷ []) []) 2 ≡ None
input_unstated = refl

-- a port of the top has the primary set of the top's domain, a port of the block has no set
pub top_port : end_set block block_intent (record { inst = 0; port = 0; place = 1 }) ≡ Some (alone 0)
top_port = refl

pub inner_port : end_set block block_intent (record { inst = 1; port = 0; place = 1 }) ≡ None
inner_port = refl
