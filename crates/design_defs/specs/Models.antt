-- Well-formed models of soft macros, as far as their fields say it: names, numbers, and the order of their lists.
-- That the nodes are exactly the parts of the model's sets, in their order, is said where texts of models are read.
use Rattle.std.specs.Prelude.{◌≡◌, ◌≢◌, ℕ, ◌+◌, ◌<◌, ◌≤◌, Bool, true, false, not, ◌&&◌, ◌||◌, nat_le, List, [], ◌∷◌, ◌++◌, Option, Some, None, IfSome, IsTrue, map, filter, length, slice_get, slice_index, is_some}
use Rattle.std.specs.List.{list_all, flat_map, range_with_len}
use Rattle.std.specs.List.Sorted.{IsSorted}
use Rattle.std.specs.Ordering.{nat_cmp, on, flip_args, then_cmp}
use Rattle.std.specs.declared.cmp.Ordering.{Ordering}
use Rattle.plain_lists.specs.declared.kept.Kept.{Kept}
use Rattle.plain_lists.specs.declared.kept.KeptNode.{KeptNode}
use Rattle.pw_defs.specs.Kinds.{kind_number}
use Rattle.pw_defs.specs.declared.chains.Element.{Element}
use Rattle.pw_defs.specs.declared.chains.Element.TheVariants.{Face, Cell}
use Rattle.pw_defs.specs.declared.chains.Kind.{Kind}
use Rattle.pw_defs.specs.declared.chains.Kind.TheVariants.{IsoMissing, IsoRedundant, IsoSupply, IsoIntent, LsMissing, LsRedundant, LsSupply, LsIntent, Tie}
use Rattle.pw_defs.specs.declared.chains.Partial.{Partial}
use Rattle.pw_defs.specs.declared.chains.Partial.TheVariants.{Drive, Feed, Quiet, Take}
use Rattle.pw_defs.specs.declared.chains.Sense.{Sense}
use Rattle.pw_defs.specs.declared.chains.Sense.TheVariants.{WhenSome, WhenNone, Always}
use Rattle.pw_defs.specs.declared.intent.Export.{Export}
use Rattle.pw_defs.specs.declared.intent.SupplySet.{SupplySet}
use Rattle.pw_defs.specs.declared.model.KeptWatch.{KeptWatch}
use Rattle.pw_defs.specs.declared.model.Model.{Model}
use Rattle.pw_defs.specs.declared.model.ModelSupply.{ModelSupply}
use Rattle.pw_defs.specs.declared.model.OutPort.{OutPort}
use Rattle.pw_defs.specs.declared.netlist.Port.{Port}
use Rattle.pw_defs.specs.declared.strategies.Act.{Act}
use Rattle.pw_defs.specs.declared.strategies.Act.TheVariants.{Iso, Shift}
use Rattle.pw_defs.specs.declared.strategies.Candidate.{Candidate}
use Rattle.pw_defs.specs.declared.strategies.Filter.{Filter}
use Rattle.pw_defs.specs.declared.values.Value.{Value}
use Rattle.pw_defs.specs.declared.values.Value.TheVariants.{Off, On}
use Rattle.pw_defs.specs.Values.{value_cmp}
use Rattle.list_defs.specs.Members.{IsIn}
use Rattle.list_defs.specs.Orders.{IsRising, name_cmp}
use Rattle.design_defs.specs.Ports.{is_input, is_output}
use Rattle.design_defs.specs.Ranges.{width, bit_name}

-- WORDS. A word has one or more bytes from ! to ~, in ASCII.
abbrev pub is_word_byte : ℕ → Bool
is_word_byte byte = nat_le 33 byte && nat_le byte 126

-- one byte at least, and each of them in that range
abbrev pub IsWord : List ℕ → Type 0
IsWord [] = ⊥
IsWord (byte ∷ bytes) = IsTrue (list_all is_word_byte (byte ∷ bytes))

-- PORTS. Their names are words, and the ends of ranges are at most 65,535.
abbrev pub IsRange : Option (ℕ × ℕ) → Type 0
IsRange range = IfSome range (λ ends. (ends.0 ≤ 65535) × (ends.1 ≤ 65535))

-- a port as a model's text can spell it
pub record IsModelPort (p : Port) : Type 0 where
  pub name : IsWord p.name
  pub range : IsRange p.range

-- the names of the bits of a port, from the left
abbrev pub bits_of_port : Port → List (List ℕ)
bits_of_port p = map (bit_name p.name p.range) (range_with_len 0 (width p.range))

-- the names of the input bits, and of the output bits, by port and from the left
abbrev pub input_bits : List Port → List (List ℕ)
input_bits ports = flat_map bits_of_port (filter (λ p. is_input (Some p.dir)) ports)

-- the names of the output bits, in the same order
abbrev pub output_bits : List Port → List (List ℕ)
output_bits ports = flat_map bits_of_port (filter (λ p. is_output (Some p.dir)) ports)

-- SUPPLIES. The values of a supply begin with off and rise, up to 1000 V at most.
abbrev pub IsModelVoltage : Value → Type 0
IsModelVoltage Off = Unit {0}
IsModelVoltage (On v) = v ≤ 1000000000

-- the first value is off
abbrev pub BeginsOff : List Value → Type 0
BeginsOff [] = ⊥
BeginsOff (v ∷ vs) = v ≡ Off

-- a supply as a model's text can spell it
pub record IsModelSupply (s : ModelSupply) : Type 0 where
  pub name : IsWord s.name
  pub off : BeginsOff s.values
  pub rising : IsRising value_cmp s.values
  pub within : (v : Value) → IsIn v s.values → IsModelVoltage v

-- The `in` supply ports stand before the other supplies, and the names of these never fall.
pub record AreModelSupplies (supplies : List ModelSupply) : Type 0 where
  pub each : (s : ModelSupply) → IsIn s supplies → IsModelSupply s
  pub ports_first : supplies ≡ filter (λ (s : ModelSupply). s.port) supplies ++ filter (λ (s : ModelSupply). not s.port) supplies
  pub sorted : IsSorted (on (λ (s : ModelSupply). s.name) name_cmp) (filter (λ (s : ModelSupply). not s.port) supplies)

-- a set whose supplies are there
abbrev pub IsSetIn : ℕ → SupplySet → Type 0
IsSetIn supplies set = (set.power < supplies) × IfSome set.ground (λ low. low < supplies)

-- no set, or one whose supplies are there
abbrev pub IsSetInIfAny : ℕ → Option SupplySet → Type 0
IsSetInIfAny supplies set = IfSome set (IsSetIn supplies)

-- CANDIDATES. How closely a filter looks: at both sides, at the sink, at the source, or at neither.
abbrev pub rank_of_sides : Bool → Bool → ℕ
rank_of_sides true true = 3
rank_of_sides false true = 2
rank_of_sides true false = 1
rank_of_sides false false = 0

-- how closely the filter of a candidate looks
abbrev pub filter_rank : Filter → ℕ
filter_rank f = rank_of_sides (is_some f.source) (is_some f.sink)

-- isolation is the first tool, level shifting the second
abbrev pub tool_number : Act → ℕ
tool_number (Iso mode supply) = 0
tool_number (Shift mode up down threshold inp out) = 1

-- the best candidate comes first: by tool, then by class from the highest, then by filter rank from the highest
abbrev pub candidate_cmp : Candidate → Candidate → Ordering
candidate_cmp =
    then_cmp (on (λ (c : Candidate). tool_number c.act) nat_cmp)
    (then_cmp (flip_args (on (λ (c : Candidate). c.class) nat_cmp)) (flip_args (on (λ (c : Candidate). filter_rank c.filter) nat_cmp)))

-- A level shifter is asked for in one direction at least, and its threshold is at most 1000 V.
abbrev pub IsActIn : ℕ → Act → Type 0
IsActIn supplies (Iso mode supply) = IsSetInIfAny supplies supply
IsActIn supplies (Shift mode up down threshold inp out) =
    IsTrue (up || down) × (threshold ≤ 1000000000) × IsSetInIfAny supplies inp × IsSetInIfAny supplies out

-- a candidate whose class, filter and act a model's text can spell
pub record IsCandidateIn (supplies : ℕ) (c : Candidate) : Type 0 where
  pub class_most : c.class ≤ 4
  pub source : IsSetInIfAny supplies c.filter.source
  pub sink : IsSetInIfAny supplies c.filter.sink
  pub act_in : IsActIn supplies c.act

-- ELEMENTS. A face has a candidate at least, the best first. A cell isolates or shifts; the input side of a cell that
-- only isolates isn't kept.
pub record IsFaceIn (supplies : ℕ) (candidates : List Candidate) : Type 0 where
  pub some : candidates ≢ []
  pub each : (c : Candidate) → IsIn c candidates → IsCandidateIn supplies c
  pub best_first : IsSorted candidate_cmp candidates

-- an element as a model's text can spell it
abbrev pub IsElementIn : ℕ → Element → Type 0
IsElementIn supplies (Face candidates) = IsFaceIn supplies candidates
IsElementIn supplies (Cell iso shift inp out) =
    IsTrue (iso || shift) × (shift ≡ false → inp ≡ None) × IsSetInIfAny supplies inp × IsSetIn supplies out

-- each element of a walk is such a one
abbrev pub AreElementsIn : ℕ → List Element → Type 0
AreElementsIn supplies elements = (e : Element) → IsIn e elements → IsElementIn supplies e

-- OPEN WALKS. The bit of the macro at which one begins.
abbrev pub bit_of_walk : Partial → List ℕ
bit_of_walk (Drive bit pin set elements) = bit
bit_of_walk (Feed bit source elements) = bit
bit_of_walk (Quiet bit) = bit
bit_of_walk (Take bit receiver set elements) = bit

-- an output bit is driven by a pin inside, fed by an input bit, or ended by a constant or nothing
abbrev pub IsOutputWalk : List Port → ℕ → Partial → Type 0
IsOutputWalk ports supplies (Drive bit pin set elements) = IsWord pin × IsSetIn supplies set × AreElementsIn supplies elements
IsOutputWalk ports supplies (Feed bit source elements) = IsIn source (input_bits ports) × AreElementsIn supplies elements
IsOutputWalk ports supplies (Quiet bit) = Unit {0}
IsOutputWalk ports supplies (Take bit receiver set elements) = ⊥

-- a receiver inside is fed by an input bit
abbrev pub IsInputWalk : List Port → ℕ → Partial → Type 0
IsInputWalk ports supplies (Drive bit pin set elements) = ⊥
IsInputWalk ports supplies (Feed bit source elements) = ⊥
IsInputWalk ports supplies (Quiet bit) = ⊥
IsInputWalk ports supplies (Take bit receiver set elements) =
    IsIn bit (input_bits ports) × IsWord receiver × IsSetIn supplies set × AreElementsIn supplies elements

-- the receiver of a walk into the macro
abbrev pub receiver_of : Partial → List ℕ
receiver_of (Drive bit pin set elements) = []
receiver_of (Feed bit source elements) = []
receiver_of (Quiet bit) = []
receiver_of (Take bit receiver set elements) = receiver

-- First one walk from each output bit, in the order of these bits; then those into the macro, by receiver.
pub record AreOpenWalks (ports : List Port) (supplies : ℕ) (walks : List Partial) : Type 0 where
  pub outputs : List Partial
  pub inputs : List Partial
  pub all : walks ≡ outputs ++ inputs
  pub each_output : (w : Partial) → IsIn w outputs → IsOutputWalk ports supplies w
  pub each_input : (w : Partial) → IsIn w inputs → IsInputWalk ports supplies w
  pub output_order : map bit_of_walk outputs ≡ output_bits ports
  pub input_order : IsSorted (on receiver_of name_cmp) inputs

-- SETS OF STATES. n is 0 for none, or 1 for the empty rest behind the last level, or the number of an earlier node of
-- the level; nodes are numbered from 2.
pub data IsKeptSet (kept : Kept) (nodes level n : ℕ) : Type 0 where
  none : n ≡ 0 → IsKeptSet kept nodes level n
  rest : n ≡ 1 → level ≡ length kept.arities → IsKeptSet kept nodes level n
  node : (at : ℕ) (k : KeptNode) → n ≡ at + 2 → at < nodes → slice_get kept.nodes at ≡ Some k → k.level ≡ level → IsKeptSet kept nodes level n

-- A node has a child for each value of its level, of the next level; not all are 0, and no other node is the same.
pub record IsKeptNode (kept : Kept) (at : ℕ) (k : KeptNode) : Type 0 where
  pub level_in : k.level < length kept.arities
  pub arity : length k.kids ≡ slice_index kept.arities k.level
  pub below : (v : ℕ) → v < length k.kids → IsKeptSet kept at (k.level + 1) (slice_index k.kids v)
  pub some : (v : ℕ) × (slice_index k.kids v ≢ 0)
  pub alone : (other : ℕ) → slice_get kept.nodes other ≡ Some k → other ≡ at

-- a set of whole states
abbrev pub IsWholeSet : Kept → ℕ → Type 0
IsWholeSet kept n = IsKeptSet kept (length kept.nodes) 0 n

-- WATCHES. Which kinds are raised by some state, by none, or always.
abbrev pub is_kind_of_sense : Kind → Sense → Bool
is_kind_of_sense IsoMissing WhenSome = true
is_kind_of_sense IsoMissing Always = true
is_kind_of_sense IsoRedundant WhenNone = true
is_kind_of_sense IsoSupply WhenSome = true
is_kind_of_sense IsoIntent Always = true
is_kind_of_sense LsMissing WhenSome = true
is_kind_of_sense LsMissing Always = true
is_kind_of_sense LsRedundant WhenNone = true
is_kind_of_sense LsSupply WhenSome = true
is_kind_of_sense LsIntent Always = true
is_kind_of_sense Tie Always = true
is_kind_of_sense _ _ = false

-- a watch that some state raises keeps states, one that none raises may keep none, and one that is always raised has 0
abbrev pub IsWatchSet : Kept → Sense → ℕ → Type 0
IsWatchSet kept WhenSome n = IsWholeSet kept n × (n ≢ 0)
IsWatchSet kept WhenNone n = IsWholeSet kept n
IsWatchSet kept Always n = n ≡ 0

-- a watch as a model's text can spell it
pub record IsModelWatch (kept : Kept) (w : KeptWatch) : Type 0 where
  pub pair : IsTrue (is_kind_of_sense w.kind w.sense)
  pub set_in : IsWatchSet kept w.sense w.node
  pub receiver : IsWord w.receiver
  pub driver : IsWord w.driver

-- by receiver, then by kind
abbrev pub watch_cmp : KeptWatch → KeptWatch → Ordering
watch_cmp = then_cmp (on (λ (w : KeptWatch). w.receiver) name_cmp) (on (λ (w : KeptWatch). kind_number w.kind) nat_cmp)

-- a model as far as its fields say it
pub record HasWellFormedFields (m : Model) : Type 0 where
  pub name : IsWord m.module
  pub each_port : (p : Port) → IsIn p m.ports → IsModelPort p
  pub all_supplies : AreModelSupplies m.supplies
  pub each_out : (o : OutPort) → IsIn o m.outs → IsWord o.name × (o.supply < length m.supplies)
  pub each_export : (e : Export) → IsIn e m.exports → IsWord e.name × IsSetIn (length m.supplies) e.set
  pub walks : AreOpenWalks m.ports (length m.supplies) m.partials
  pub arities : m.kept.arities ≡ map (λ (s : ModelSupply). length s.values) m.supplies
  pub nodes : (at : ℕ) (k : KeptNode) → slice_get m.kept.nodes at ≡ Some k → IsKeptNode m.kept at k
  pub legal_some : m.legal ≢ 0
  pub legal_whole : IsWholeSet m.kept m.legal
  pub each_watch : (w : KeptWatch) → IsIn w m.watches → IsModelWatch m.kept w
  pub watch_order : IsSorted watch_cmp m.watches
