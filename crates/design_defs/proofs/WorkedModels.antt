-- A worked model: a macro that feeds its output from its input. It is well-formed, and small changes make it not so. Its
-- output begins a signal in a design, and is no driver.
use Rattle.std.proofs.Common.{◌≡◌, ℕ, zero, suc, ◌<◌, true, false, List, [], ◌∷◌, ◌++◌, map, Some, None, inl, inr, refl, sym, subst, arith}
use Rattle.std.specs.Prelude.{codes}
use Rattle.std.specs.List.{slice_get, slice_index}
use Rattle.plain_lists.specs.declared.kept.KeptNode.{KeptNode}
use Rattle.pw_defs.specs.declared.cells.Dir.TheVariants.{Input, Output}
use Rattle.pw_defs.specs.declared.chains.Partial.{Partial}
use Rattle.pw_defs.specs.declared.chains.Partial.TheVariants.{Feed}
use Rattle.pw_defs.specs.declared.design.Body.TheVariants.{Module as ModuleBody, Model as ModelBody}
use Rattle.pw_defs.specs.declared.design.Design.{Design}
use Rattle.pw_defs.specs.declared.intent.Export.{Export}
use Rattle.pw_defs.specs.declared.model.Model.{Model}
use Rattle.pw_defs.specs.declared.model.ModelSupply.{ModelSupply}
use Rattle.pw_defs.specs.declared.netlist.Port.{Port}
use Rattle.pw_defs.specs.declared.values.Value.TheVariants.{Off, On}
use Rattle.worked_jobs.specs.Libraries.{library}
use Rattle.list_defs.specs.Members.{IsIn}
use Rattle.design_defs.specs.Drivers.{begins_signal, drives}
use Rattle.design_defs.specs.Models.{AreOpenWalks, IsKeptNode, IsKeptSet, IsModelPort, IsModelSupply, IsModelVoltage, IsOutputWalk, IsSetIn, HasWellFormedFields, IsWord, bit_of_walk, output_bits}
use Rattle.design_defs.specs.Ports.{begins, receives}

-- a word has no blanks, and isn't empty
pub word : IsWord (codes "u_a/o[3]")
word = refl

pub no_blank_in_word : IsWord (codes "u a") → ⊥
no_blank_in_word h = cc

pub empty_is_no_word : IsWord [] → ⊥
empty_is_no_word h = h

abbrev input : Port
input = record { name = codes "p"; dir = Input; range = None }

abbrev output : Port
output = record { name = codes "q"; dir = Output; range = None }

abbrev supply : ModelSupply
supply = record { name = codes "V"; port = true; values = Off ∷ On 800000 ∷ [] }

abbrev node : KeptNode
node = record { level = 0; kids = 0 ∷ 1 ∷ [] }

abbrev exported : Export
exported = record { name = codes "S"; set = record { power = 0; ground = None } }

abbrev through : Model
through = record {
  «module» = codes "ft";
  chains = 0;
  passed = 0;
  ports = input ∷ output ∷ [];
  supplies = supply ∷ [];
  outs = [];
  exports = exported ∷ [];
  partials = Feed (codes "q") (codes "p") [] ∷ [];
  kept = record { arities = 2 ∷ []; nodes = node ∷ [] };
  legal = 2;
  watches = [];
}

one_of_one : {X : Type 0} (Q : X → Type 0) (a : X) → Q a → (x : X) → IsIn x (a ∷ []) → Q x
one_of_one Q a q x (inl e) = subst Q (sym e) q
one_of_one Q a q x (inr never) = absurd never

one_of_two : {X : Type 0} (Q : X → Type 0) (a b : X) → Q a → Q b → (x : X) → IsIn x (a ∷ b ∷ []) → Q x
one_of_two Q a b q r x (inl e) = subst Q (sym e) q
one_of_two Q a b q r x (inr (inl e)) = subst Q (sym e) r
one_of_two Q a b q r x (inr (inr never)) = absurd never

good_supply : IsModelSupply supply
good_supply = record { name = refl; off = refl; rising = ((refl, tt), (tt, tt)); within = one_of_two IsModelVoltage Off (On 800000) tt (omega arith) }

below_node : (v : ℕ) → v < 2 → IsKeptSet through.kept 0 1 (slice_index (0 ∷ 1 ∷ []) v)
below_node zero within = IsKeptSet.none refl
below_node (suc zero) within = IsKeptSet.rest refl refl
below_node (suc (suc v)) within = absurd (omega arith)

some_same : (a b : KeptNode) → Some a ≡ Some b → a ≡ b
some_same a b h = cc

only_node : (other : ℕ) → slice_get through.kept.nodes other ≡ Some node → other ≡ 0
only_node zero there = refl
only_node (suc other) there = cc

not_zero : suc zero ≡ zero → ⊥
not_zero h = cc

good_node : (at : ℕ) (k : KeptNode) → slice_get through.kept.nodes at ≡ Some k → IsKeptNode through.kept at k
good_node zero k e =
    subst (IsKeptNode through.kept 0) (some_same node k e)
    (record { level_in = omega arith; arity = refl; below = below_node; some = (1, not_zero); alone = only_node })
good_node (suc at) k e = cc

good_walks : AreOpenWalks through.ports 1 through.partials
good_walks = record {
  outputs = through.partials;
  inputs = [];
  all = refl;
  each_output = one_of_one (IsOutputWalk through.ports 1) (Feed (codes "q") (codes "p") []) (inl refl, λ e never. absurd never);
  each_input = λ w never. absurd never;
  output_order = refl;
  input_order = λ k d low high. absurd (omega arith);
}

-- the model of the macro is well-formed
pub through_is_well_formed : HasWellFormedFields through
through_is_well_formed = record {
  name = refl;
  each_port = one_of_two IsModelPort input output (record { name = refl; range = tt }) (record { name = refl; range = tt });
  all_supplies = record { each = one_of_one IsModelSupply supply good_supply; ports_first = refl; sorted = λ k d low high. absurd (omega arith) };
  each_out = λ o never. absurd never;
  each_export = one_of_one (λ (e : Export). IsWord e.name × IsSetIn 1 e.set) exported (refl, (omega arith, tt));
  walks = good_walks;
  arities = refl;
  nodes = good_node;
  legal_some = λ h. cc;
  legal_whole = IsKeptSet.node 0 node refl (omega arith) refl refl;
  each_watch = λ w never. absurd never;
  watch_order = λ k d low high. absurd (omega arith);
}

-- without a walk from its output it isn't
pub output_needs_walk : AreOpenWalks through.ports 1 [] → ⊥
output_needs_walk walks = by walks.outputs walks.inputs walks.all walks.output_order
  where
    by : (outputs inputs : List Partial) → [] ≡ outputs ++ inputs → map bit_of_walk outputs ≡ output_bits through.ports → ⊥
    by [] inputs all order = cc
    by (w ∷ outputs) inputs all order = cc

-- a design with an instance of the macro that the model stands for
abbrev with_model : Design
with_model = record {
  cells = library;
  modules = record { name = codes "top"; ports = []; nets = []; assigns = []; insts = []; line = 1 } ∷ [];
  models = through ∷ [];
  insts = record { path = []; parent = None; body = ModuleBody 0 } ∷ record { path = codes "m"; parent = Some 0; body = ModelBody 0 } ∷ [];
  bits = [];
}

-- the output of the modelled instance begins a signal and is no driver; its input begins a walk and is no receiver
pub model_output_begins_signal : begins_signal with_model (record { inst = 1; port = 1; place = 0 }) ≡ true
model_output_begins_signal = refl

pub model_output_drives_not : drives with_model (record { inst = 1; port = 1; place = 0 }) ≡ false
model_output_drives_not = refl

pub model_input_begins_walk : begins with_model (record { inst = 1; port = 0; place = 0 }) ≡ true
model_input_begins_walk = refl

pub model_input_receives_not : receives with_model (record { inst = 1; port = 0; place = 0 }) ≡ false
model_input_receives_not = refl
