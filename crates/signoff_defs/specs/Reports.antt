-- The report on a design with its intent, which judges each chain by all kinds. It is that of a design without models: what
-- models add (pieces of walks, candidates, legal states, watches and counts) is said where reports over models are.
use Rattle.std.specs.Prelude.{◌≡◌, ℕ, Bool, List, [], Option, Some, None, filter, length, map, min, option_map, slice_get, sum_by, take, unwrap_or}
use Rattle.std.specs.List.{AllZip, flat_map, list_all, zip}
use Rattle.pw_defs.specs.declared.chains.Chain.{Chain}
use Rattle.pw_defs.specs.declared.conditions.Cond.{Cond}
use Rattle.pw_defs.specs.declared.design.Body.{Body}
use Rattle.pw_defs.specs.declared.design.Body.TheVariants.{Module, Cell, Model}
use Rattle.pw_defs.specs.declared.design.Design.{Design}
use Rattle.pw_defs.specs.declared.intent.Intent.{Intent}
use Rattle.pw_defs.specs.declared.report.Finding.{Finding}
use Rattle.pw_defs.specs.declared.report.Report.{Report}
use Rattle.pw_defs.specs.declared.values.Value.{Value}
use Rattle.list_defs.specs.Orders.{IsPutInOrder}
use Rattle.supply_defs.specs.Conditions.{holds}
use Rattle.supply_defs.specs.Places.{ArePlaces, value_at}
use Rattle.supply_defs.specs.States.{all_states}
use Rattle.signoff_defs.specs.Boundaries.{AreBoundaries}
use Rattle.signoff_defs.specs.ChainCrossings.{IsCrossingOf}
use Rattle.signoff_defs.specs.Chains.{AreAllChains}
use Rattle.signoff_defs.specs.Crossings.{Crossing}
use Rattle.signoff_defs.specs.Findings.{NamedWatch, AreFindings, finding_cmp}
use Rattle.signoff_defs.specs.RootOrders.{RootOrder, IsRootOrder}
use Rattle.signoff_defs.specs.Visibility.{supply_name}
use Rattle.signoff_defs.specs.Watches.{watches_on}
use Rattle.signoff_defs.specs.Witnesses.{LegalStates}

-- ---- the legal states

abbrev pub conds_of : Intent → List Cond
conds_of i = map (λ c. c.cond) i.conds

-- whether all constraints hold in a state, where each supply has the value at this place
abbrev pub meets_all : Intent → List ℕ → List Value → Bool
meets_all i places state = list_all (holds (value_at places state)) (conds_of i)

-- The legal states of an order of roots: of all ways to give each root one of its values those in which all constraints
-- hold.
abbrev pub legal_states : Intent → RootOrder → List ℕ → LegalStates
legal_states i order places = record {
  states = filter (meets_all i places) (all_states order.lists);
  visible = order.visible;
  value = value_at places;
}

-- The legal states of a design with its intent.
pub record AreLegalStates (d : Design) (i : Intent) (order : RootOrder) (legal : LegalStates) : Type 0 where
  pub is_order : IsRootOrder d i order
  pub places : List ℕ
  pub are_places : ArePlaces i.supplies order.roots places
  pub legal_are : legal ≡ legal_states i order places

-- ---- what is watched

abbrev pub named_watches : Chain × Crossing → List NamedWatch
named_watches p = map (λ watch. record { receiver = p.0.receiver; driver = p.0.driver; watch = watch }) (watches_on p.1)

-- the watches on all chains, in order of the chains and kinds
pub record AreWatches (d : Design) (i : Intent) (chains : List Chain) (watches : List NamedWatch) : Type 0 where
  pub crossings : List Crossing
  pub are_crossings : AllZip IsCrossingOf chains crossings
  pub all : watches ≡ flat_map named_watches (zip chains crossings)

-- ---- the report

-- the name of the module of the top
abbrev pub module_name : Design → Option Body → List ℕ
module_name d None = []
module_name d (Some (Module m)) = unwrap_or (option_map (λ x. x.name) (slice_get d.modules m)) []
module_name d (Some (Cell c)) = []
module_name d (Some (Model m)) = []

abbrev pub top_name : Design → List ℕ
top_name d = module_name d (option_map (λ i. i.body) (slice_get d.insts 0))

-- how many lines the units passed over
abbrev pub passed_lines : Intent → ℕ
passed_lines i = min (sum_by (λ u. u.passed) i.units) 4294967295

-- The report on a design with its intent.
pub record IsReport (d : Design) (i : Intent) (r : Report) : Type 0 where
  pub chains : List Chain
  pub are_chains : AreAllChains d i chains
  pub order : RootOrder
  pub legal : LegalStates
  pub are_legal : AreLegalStates d i order legal
  pub watches : List NamedWatch
  pub are_watches : AreWatches d i chains watches
  pub found : List Finding
  pub are_found : AreFindings legal watches found
  pub top : r.top ≡ top_name d
  pub chain_count : r.chains ≡ length chains
  pub passed : r.passed ≡ passed_lines i
  pub boundaries : AreBoundaries d i r.boundaries
  pub visible : r.visible ≡ map (supply_name i) (take order.visible order.roots)
  pub findings : IsPutInOrder finding_cmp found r.findings

-- no state is legal
pub record HasNoLegalState (d : Design) (i : Intent) : Type 0 where
  pub order : RootOrder
  pub legal : LegalStates
  pub are_legal : AreLegalStates d i order legal
  pub none : legal.states ≡ []
