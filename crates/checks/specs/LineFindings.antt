-- The findings of a design with its intent where there are no strategies, and the report.
use Rattle.std.specs.Prelude.{◌≡◌, ℕ, Bool, true, false, List, [], ◌∷◌, Option, Some, None, map, option_map, unwrap_or, length, take, min, sum_by, slice_get}
use Rattle.std.specs.Ordering.{nat_cmp, ordering_then}
use Rattle.std.specs.declared.cmp.Ordering.{Ordering}
use Rattle.pw_defs.specs.Kinds.{kind_number}
use Rattle.pw_defs.specs.declared.chains.Kind.TheVariants.{IsoMissing}
use Rattle.pw_defs.specs.declared.chains.Walk.{Walk}
use Rattle.pw_defs.specs.declared.conditions.Cond.{Cond}
use Rattle.pw_defs.specs.declared.design.Body.{Body}
use Rattle.pw_defs.specs.declared.design.Body.TheVariants.{Module, Cell, Model}
use Rattle.pw_defs.specs.declared.design.Design.{Design}
use Rattle.pw_defs.specs.declared.intent.Intent.{Intent}
use Rattle.pw_defs.specs.declared.report.Finding.{Finding}
use Rattle.pw_defs.specs.declared.report.Report.{Report}
use Rattle.pw_defs.specs.declared.values.State.{State}
use Rattle.pw_defs.specs.declared.values.Value.{Value}
use Rattle.list_defs.specs.Members.{IsIn}
use Rattle.list_defs.specs.Orders.{name_cmp, IsLeast, IsPutInOrder}
use Rattle.pw_defs.specs.Values.{state_cmp}
use Rattle.checks.specs.LineChains.{Ends, chains}
use Rattle.design_defs.specs.Walks.{AreWalks}
use Rattle.supply_defs.specs.Conditions.{holds}
use Rattle.supply_defs.specs.States.{value_in, legal_states}
use Rattle.checks.specs.LineWatches.{watched}

-- the values of each supply, in order of the supplies
abbrev pub lists_of : Intent → List (List Value)
lists_of i = map (λ l. l.values) i.lists

abbrev pub conds_of : Intent → List Cond
conds_of i = map (λ c. c.cond) i.conds

-- the legal states of an intent
abbrev pub legal_of : Intent → List (List Value)
legal_of i = legal_states (lists_of i) (conds_of i)

-- the names of the visible supplies: with no soft macro these are all, in order
abbrev pub visible_of : Intent → List (List ℕ)
visible_of i = map (λ s. s.name) i.supplies

-- a legal state in which a condition holds, of which `part` is what is visible
pub record Shows (legal : List (List Value)) (visible : ℕ) (cond : Cond) (part : List Value) : Type 0 where
  pub state : List Value
  pub is_legal : IsIn state legal
  pub shown : holds (value_in state) cond ≡ true
  pub seen : part ≡ take visible state

-- the least visible part of a legal state in which the condition holds
abbrev pub IsWitness : List (List Value) → ℕ → Cond → List Value → Type 0
IsWitness legal visible cond = IsLeast state_cmp (Shows legal visible cond)

abbrev pub bit_name : Design → ℕ → List ℕ
bit_name d n = unwrap_or (option_map (λ b. b.name) (slice_get d.bits n)) []

-- the finding of a chain: isolation is missing, as a legal state shows
pub record IsFindingOf (d : Design) (i : Intent) (legal : List (List Value)) (c : Ends) (f : Finding) : Type 0 where
  pub cond : Cond
  pub watch : watched i c ≡ Some cond
  pub kind : f.kind ≡ IsoMissing
  pub receiver : f.receiver ≡ bit_name d c.receiver_bit
  pub driver : f.driver ≡ bit_name d c.driver_bit
  pub forced : f.forced ≡ false
  pub state : State
  pub witness : f.witness ≡ Some state
  pub least : IsWitness legal (length i.supplies) cond state.values

-- no legal state shows what is watched on a chain
abbrev pub IsQuiet : Intent → List (List Value) → Ends → Type 0
IsQuiet i legal c = (cond : Cond) → watched i c ≡ Some cond → (s : List Value) → IsIn s legal → holds (value_in s) cond ≡ false

-- the findings of chains, in order of the chains
pub data AreFindings (d : Design) (i : Intent) (legal : List (List Value)) : List Ends → List Finding → Type 0 where
  none : AreFindings d i legal [] []
  found : (c : Ends) (f : Finding) (cs : List Ends) (fs : List Finding) → IsFindingOf d i legal c f → AreFindings d i legal cs fs → AreFindings d i legal (c ∷ cs) (f ∷ fs)
  quiet : (c : Ends) (cs : List Ends) (fs : List Finding) → IsQuiet i legal c → AreFindings d i legal cs fs → AreFindings d i legal (c ∷ cs) fs

-- findings come by receiver name, then by kind
abbrev pub finding_cmp : Finding → Finding → Ordering
finding_cmp f g = ordering_then (name_cmp f.receiver g.receiver) (nat_cmp (kind_number f.kind) (kind_number g.kind))

-- the name of the module of the top
abbrev pub module_name : Design → Option Body → List ℕ
module_name d None = []
module_name d (Some (Module m)) = unwrap_or (option_map (λ x. x.name) (slice_get d.modules m)) []
module_name d (Some (Cell c)) = []
module_name d (Some (Model m)) = []

abbrev pub top_name : Design → List ℕ
top_name d = module_name d (option_map (λ i. i.body) (slice_get d.insts 0))

-- The report on a design with its intent, which judges each chain.
pub record IsReport (d : Design) (i : Intent) (r : Report) : Type 0 where
  pub walks : List Walk
  pub are_walks : AreWalks d walks
  pub found : List Finding
  pub are_found : AreFindings d i (legal_of i) (chains d walks) found
  pub top : r.top ≡ top_name d
  pub chain_count : r.chains ≡ length (chains d walks)
  pub passed : r.passed ≡ min (sum_by (λ u. u.passed) i.units) 4294967295
  pub boundaries : r.boundaries ≡ []
  pub visible : r.visible ≡ visible_of i
  pub findings : IsPutInOrder finding_cmp found r.findings
