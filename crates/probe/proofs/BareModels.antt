-- Models that keep nothing but what feeds their outputs are well-formed where their names, ports and walks are.
use Rattle.std.proofs.Common.{◌≡◌, ℕ, List, [], Some, None, length, map, ap, sym, subst, ◌∙◌, arith, refl}
use Rattle.std.specs.Prelude.{slice_get}
use Rattle.std.specs.List.Sorted.{IsSorted}
use Rattle.std.proofs.lemmas.List.{append-nil}
use Rattle.plain_lists.specs.declared.kept.KeptNode.{KeptNode}
use Rattle.pw_defs.specs.declared.chains.Element.{Element}
use Rattle.pw_defs.specs.declared.chains.Partial.{Partial}
use Rattle.pw_defs.specs.declared.chains.Partial.TheVariants.{Feed}
use Rattle.pw_defs.specs.declared.model.Model.{Model}
use Rattle.pw_defs.specs.declared.model.ModelSupply.{ModelSupply}
use Rattle.pw_defs.specs.declared.netlist.Port.{Port}
use Rattle.list_defs.specs.Members.{IsIn}
use Rattle.design_defs.specs.Models.{AreModelSupplies, AreOpenWalks, HasWellFormedFields, IsKeptSet, IsModelPort, IsOutputWalk, IsWholeSet, IsWord, bit_of_walk, input_bits, output_bits, watch_cmp}

-- a walk that begins at an input bit, with nothing on its way
pub fed_walk : (walk : Partial) (bit from : List ℕ) (elements : List Element) → walk ≡ Feed bit from elements → elements ≡ []
    → (ports : List Port) → IsIn from (input_bits ports) → IsOutputWalk ports 0 walk
fed_walk walk bit from elements is none ports there =
    subst (IsOutputWalk ports 0) (sym is) (there, λ (e : Element) (in_them : IsIn e elements). absurd (subst (IsIn e) none in_them))

-- one walk from each output bit, and none into the macro
pub outward_walks : (ports : List Port) (walks : List Partial) → map bit_of_walk walks ≡ output_bits ports → ((w : Partial) → IsIn w walks → IsOutputWalk ports 0 w)
    → AreOpenWalks ports 0 walks
outward_walks ports walks order each = record {
  outputs = walks;
  inputs = [];
  all = sym (append-nil walks);
  each_output = each;
  each_input = λ w never. absurd never;
  output_order = order;
  input_order = λ k d low high. absurd (omega arith);
}

-- nothing is in a list of nothing
in_none : {X : Type 0} (P : X → Type 0) (xs : List X) → xs ≡ [] → (x : X) → IsIn x xs → P x
in_none P xs none x there = absurd (subst (IsIn x) none there)

no_supplies : AreModelSupplies []
no_supplies = record { each = λ s never. absurd never; ports_first = refl; sorted = λ k d low high. absurd (omega arith) }

module _ (m : Model) (supplies : m.supplies ≡ []) (arities : m.kept.arities ≡ []) (nodes : m.kept.nodes ≡ []) (legal : m.legal ≡ 1) where
  no_supply : 0 ≡ length m.supplies
  no_supply = sym (ap length supplies)

  no_level : 0 ≡ length m.kept.arities
  no_level = sym (ap length arities)

  legal_rest : IsWholeSet m.kept m.legal
  legal_rest = IsKeptSet.rest legal no_level

  no_node : {P : Type 0} (at : ℕ) (k : KeptNode) → slice_get m.kept.nodes at ≡ Some k → P
  no_node at k there = let never : None ≡ Some k = sym (ap (λ (ks : List KeptNode). slice_get ks at) nodes) ∙ there in cc

  pub bare_well_formed : m.outs ≡ [] → m.exports ≡ [] → m.watches ≡ [] → IsWord m.module → ((p : Port) → IsIn p m.ports → IsModelPort p)
      → AreOpenWalks m.ports 0 m.partials → HasWellFormedFields m
  bare_well_formed outs exports watches name ports walks = record {
    name = name;
    each_port = ports;
    all_supplies = subst AreModelSupplies (sym supplies) no_supplies;
    each_out = in_none _ m.outs outs;
    each_export = in_none _ m.exports exports;
    walks = subst (λ (n : ℕ). AreOpenWalks m.ports n m.partials) no_supply walks;
    arities = arities ∙ sym (ap (map (λ (s : ModelSupply). length s.values)) supplies);
    nodes = λ at k there. no_node at k there;
    legal_some = λ none. let never : 1 ≡ 0 = sym legal ∙ none in cc;
    legal_whole = legal_rest;
    each_watch = in_none _ m.watches watches;
    watch_order = subst (IsSorted watch_cmp) (sym watches) (λ k d low high. absurd (omega arith));
  }
