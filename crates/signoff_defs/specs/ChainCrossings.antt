-- From a chain to what is judged of it: the strategies in effect at its faces.
use Rattle.std.specs.Prelude.{◌≡◌, Bool, true, false, List, [], ◌∷◌, Option, Some, None, filter, option_map, option_and_then, slice_get}
use Rattle.std.specs.List.{AllZip, filter_map, flat_map, list_any, zip}
use Rattle.pw_defs.specs.declared.chains.Chain.{Chain}
use Rattle.pw_defs.specs.declared.chains.Element.{Element}
use Rattle.pw_defs.specs.declared.chains.Element.TheVariants.{Face, Cell}
use Rattle.pw_defs.specs.declared.strategies.Act.{Act}
use Rattle.pw_defs.specs.declared.strategies.Act.TheVariants.{Iso, Shift}
use Rattle.pw_defs.specs.declared.strategies.Candidate.{Candidate}
use Rattle.pw_defs.specs.declared.strategies.Choice.{Choice}
use Rattle.domain_defs.specs.Precedence.{IsChoice}
use Rattle.signoff_defs.specs.Crossings.{Crossing, PassedCell}

abbrev pub is_for_isolation : Candidate → Bool
is_for_isolation c = for_isolation c.act
  where
    for_isolation : Act → Bool
    for_isolation (Iso mode supply) = true
    for_isolation (Shift mode up down threshold input output) = false

abbrev pub is_for_shifting : Candidate → Bool
is_for_shifting c = for_shifting c.act
  where
    for_shifting : Act → Bool
    for_shifting (Iso mode supply) = false
    for_shifting (Shift mode up down threshold input output) = true

-- the candidates at a face, those for isolation apart from those for shifting
abbrev pub candidates_at : Element → List (List Candidate)
candidates_at (Face candidates) = filter is_for_isolation candidates ∷ filter is_for_shifting candidates ∷ []
candidates_at (Cell iso shift input output) = []

-- the candidates at each face of a chain, from the driver on
abbrev pub candidates_on : Chain → List (List Candidate)
candidates_on c = flat_map candidates_at c.elements

abbrev pub passed_cell : Element → Option PassedCell
passed_cell (Face candidates) = None
passed_cell (Cell iso shift input output) = Some (record { iso = iso; shift = shift; input = input; output = output })

-- what the chosen candidate asks for
abbrev pub chosen : List Candidate × Choice → Option Act
chosen p = option_map (λ c. c.act) (option_and_then (slice_get p.0) p.1.first)

-- What is judged of a chain: at each of its faces one candidate of each tool is in effect, if any passes, and a tie at one
-- of them is a tie on the chain.
pub record IsCrossingOf (chain : Chain) (c : Crossing) : Type 0 where
  pub choices : List Choice
  pub are_choices : AllZip (λ (candidates : List Candidate) (choice : Choice). IsChoice candidates chain.from chain.to choice) (candidates_on chain) choices
  pub driver : c.driver ≡ chain.from
  pub receiver : c.receiver ≡ chain.to
  pub strategies : c.strategies ≡ filter_map chosen (zip (candidates_on chain) choices)
  pub tied : c.tied ≡ list_any (λ choice. choice.tie) choices
  pub cells : c.cells ≡ filter_map passed_cell chain.elements
