-- The intent of the worked block is sound.
use Rattle.std.proofs.Common.{◌≡◌, ℕ, zero, suc, ◌<◌, ◌≤◌, true, List, [], ◌∷◌, Some, None, slice_get, length, inl, inr, ◌⊎◌, refl, sym, ap, ◌∙◌, subst, arith}
use Rattle.std.specs.Prelude.{codes}
use Rattle.pw_defs.specs.declared.design.Named.TheVariants.{Port, PortBit as NamedBit}
use Rattle.pw_defs.specs.declared.intent.Export.{Export}
use Rattle.pw_defs.specs.declared.intent.RootList.{RootList}
use Rattle.pw_defs.specs.declared.intent.Unit.{Unit as PowerUnit}
use Rattle.pw_defs.specs.declared.strategies.Strategy.{Strategy}
use Rattle.pw_defs.specs.declared.supplies.Said.{Said}
use Rattle.pw_defs.specs.declared.values.Value.{Value}
use Rattle.pw_defs.specs.declared.values.Value.TheVariants.{Off, On}
use Rattle.list_defs.specs.Members.{IsIn}
use Rattle.design_defs.specs.Ports.{IsPortBit}
use Rattle.list_defs.specs.Rings.{IsReached}
use Rattle.supply_defs.specs.Limits.{AreFlatRoots, IsFlatRoot}
use Rattle.supply_defs.specs.Network.{FeedersLead, IsRoot}
use Rattle.supply_defs.specs.UnitLists.{IsSeen, IsSeenRoot, AreUnitLists, AreValues}
use Rattle.supply_defs.specs.UnitViews.{IsRootIn, in_ports}
use Rattle.supply_defs.specs.Values.{HasValue, IsMentioned, IsPortWithin, IsSwitchOutput, IsUnstated}
use Rattle.supply_defs.proofs.Meaning.{speaking}
use Rattle.supply_defs.proofs.UnstatedRoots.{mentioned_stated}
use Rattle.domain_defs.specs.Ranges.{HasMembersInRange, HasNamesInRange, HasSetsInRange, HasSuppliesInRange, HasDesignNumbersInRange, HasSupplyNumbersInRange, IsNamedIn, IsUnitInRange, IsSupplyInRange, IsListInRange, IsConditionInRange}
use Rattle.domain_defs.specs.SoundIntent.{IsSoundIntent, HasUnitsNested, HasSoundNetwork, has_direction, IsWithinLimits}
use Rattle.domain_defs.proofs.WorkedDomains.{block, block_intent, domain, right_bit, by_bit, by_port, by_none}
use Rattle.domain_defs.proofs.WorkedMembers.{plain}

-- what holds of each of two, or of each of three, holds of each of their list
of_one : {X : Type 0} (P : X → Type 0) (a : X) → P a → (x : X) → IsIn x (a ∷ []) → P x
of_one P a p x (inl e) = subst P (sym e) p
of_one P a p x (inr none) = absurd none

of_two : {X : Type 0} (P : X → Type 0) (a b : X) → P a → P b → (x : X) → IsIn x (a ∷ b ∷ []) → P x
of_two P a b p q x (inl e) = subst P (sym e) p
of_two P a b p q x (inr i) = of_one P b q x i

of_three : {X : Type 0} (P : X → Type 0) (a b c : X) → P a → P b → P c → (x : X) → IsIn x (a ∷ b ∷ c ∷ []) → P x
of_three P a b c p q r x (inl e) = subst P (sym e) p
of_three P a b c p q r x (inr i) = of_two P b c q r x i

-- numbers of the design
members : (line : ℕ) (name : List ℕ) (inst : ℕ) → inst < 4 → HasMembersInRange block block_intent (domain name line (inst ∷ []) [])
members line name inst low = record {
  unit_in = omega arith;
  elements_in = λ x i. elim i [ inl e ↦ omega arith | inr none ↦ absurd none ];
  excluded_in = λ x i. absurd i;
}

names_of_bit : HasNamesInRange block block_intent by_bit
names_of_bit = record {
  domain_in = omega arith;
  elements_in = of_one (IsNamedIn block) (NamedBit right_bit) is;
  excluded_in = λ x i. absurd i;
  cells_in = λ x i. absurd i;
}
  where
    is : IsPortBit block right_bit
    is = record { of_port = _; is_port = refl; within = omega arith }

names_of_port : HasNamesInRange block block_intent by_port
names_of_port = record {
  domain_in = omega arith;
  elements_in = of_one (IsNamedIn block) (Port 1 0) (λ e. cc);
  excluded_in = λ x i. absurd i;
  cells_in = λ x i. absurd i;
}

names_of_none : HasNamesInRange block block_intent by_none
names_of_none = record { domain_in = omega arith; elements_in = tt; excluded_in = λ x i. absurd i; cells_in = λ x i. absurd i }

design_numbers : HasDesignNumbersInRange block block_intent
design_numbers = record {
  domains_in = of_two (HasMembersInRange block block_intent) (domain (codes "PT") 4 (0 ∷ []) []) (domain (codes "PB") 5 (1 ∷ []) [])
      (members 4 (codes "PT") 0 (omega arith)) (members 5 (codes "PB") 1 (omega arith));
  strategies_in = of_three (HasNamesInRange block block_intent) by_bit by_port by_none names_of_bit names_of_port names_of_none;
  cell_sets_in = λ x i. absurd i;
  port_sets_in = λ x i. absurd i;
}

-- numbers of supplies
sets : (line : ℕ) (name elements : List ℕ) → HasSetsInRange block_intent (domain name line elements [])
sets line name elements = record { primary_in = record { power_in = omega arith; ground_in = tt }; default_in = tt }

supply_numbers : HasSupplyNumbersInRange block block_intent
supply_numbers = record {
  units_in =
      of_one (IsUnitInRange block block_intent) _ (record { inst_in = omega arith; outer_in = tt; ports_in = λ x i. absurd i; exports_in = λ x i. absurd i });
  supplies_in = of_one (IsSupplyInRange block_intent) _ (record {
    unit_in = omega arith;
    feeder_in = tt;
    inputs_in = λ x i. absurd i;
    said_in = of_one (λ (s : Said). s.unit < 1) _ (omega arith);
  });
  lists_in = of_one (IsListInRange block_intent) _ (record { unit_in = omega arith; root_in = omega arith });
  domains_in = of_two (HasSetsInRange block_intent) (domain (codes "PT") 4 (0 ∷ []) []) (domain (codes "PB") 5 (1 ∷ []) [])
      (sets 4 (codes "PT") (0 ∷ [])) (sets 5 (codes "PB") (1 ∷ []));
  strategies_in = of_three (HasSuppliesInRange block_intent) by_bit by_port by_none
      (record { source_in = tt; sink_in = tt; act_in = tt })
      (record { source_in = tt; sink_in = tt; act_in = record { power_in = omega arith; ground_in = tt } })
      (record { source_in = tt; sink_in = tt; act_in = record { power_in = omega arith; ground_in = tt } });
  cell_sets_in = λ x i. absurd i;
  port_sets_in = λ x i. absurd i;
  conditions_in = of_one (IsConditionInRange block_intent) _ (record { unit_in = omega arith; supplies_in = simp speaking });
}

-- the one unit is at the top and has no outer unit
abbrev top_unit : PowerUnit
top_unit = record { inst = 0; outer = None; passed = 0; ports = []; exports = [] }

the_unit : (n : ℕ) (u : PowerUnit) → slice_get block_intent.units n ≡ Some u → (n ≡ 0) × (u ≡ top_unit)
the_unit zero u there = (refl, cc)
the_unit (suc n) u there = cc

units_nested : HasUnitsNested block block_intent.units
units_nested = record {
  top = record { unit = top_unit; there = refl; inst_is = refl };
  alone = λ n u there. (λ none. (the_unit n u there).0, λ first. ap (λ (x : PowerUnit). x.outer) (the_unit n u there).1);
  nearest = λ n outer u there is. let none : u.outer ≡ None = ap (λ (x : PowerUnit). x.outer) (the_unit n u there).1 in cc;
}

no_port : (unit inner port : ℕ) → ¬ IsPortWithin block_intent.units unit inner port
no_port unit inner port h = let none : h.macro.outer ≡ None = ap (λ (x : PowerUnit). x.outer) (the_unit inner h.macro h.there).1 in let some = h.outer in cc

-- the one supply has no feeder and is its own root
network : HasSoundNetwork block_intent
network = record { no_ring = λ a lead. ringless a a lead; top_unfed = λ u port there i. absurd (no_ports u port (the_unit 0 u there).1 i) }
  where
    ringless : (a b : ℕ) → ¬ FeedersLead block_intent.supplies a b
    ringless _ _ (IsReached.one zero b step) = cc
    ringless _ _ (IsReached.one (suc a) b step) = cc
    ringless _ _ (IsReached.more zero b c step rest) = cc
    ringless _ _ (IsReached.more (suc a) b c step rest) = cc

    no_ports : (u : PowerUnit) (port : ℕ) → u ≡ top_unit → ¬ IsIn port (in_ports block_intent.supplies u)
    no_ports u port same i = let P : PowerUnit → Type 0 = λ x. IsIn port (in_ports block_intent.supplies x) in subst P same i

flat_root : (n r : ℕ) → IsRoot block_intent.supplies [] n r → (n ≡ 0) × (r ≡ 0)
flat_root _ _ (IsRoot.stopped n here) = absurd here
flat_root _ _ (IsRoot.unfed zero none) = (refl, refl)
flat_root _ _ (IsRoot.unfed (suc n) none) = cc
flat_root _ _ (IsRoot.fed zero b r off step rest) = cc
flat_root _ _ (IsRoot.fed (suc n) b r off step rest) = cc

flat : (unit n r : ℕ) → IsRootIn block_intent.supplies block_intent.units unit n r → (n ≡ 0) × (r ≡ 0)
flat zero n r h = flat_root n r h
flat (suc unit) n r h = flat_root n r h

-- it is off or at 0.8 V
no_switch : (unit n : ℕ) → ¬ IsSwitchOutput block_intent.supplies unit n
no_switch unit zero h = let there = h.there in let kind = h.kind in cc
no_switch unit (suc n) h = let there = h.there in cc

said_here : (unit supply : ℕ) (v : Value) → IsMentioned block_intent.supplies unit supply v → v ≡ On 800000
said_here unit zero v h = elim h [ inl same ↦ ap (λ (s : Said). s.value) same | inr none ↦ absurd none ]
said_here unit (suc n) v h = absurd h

off_or_on : (unit root : ℕ) (v : Value) → HasValue block_intent.supplies block_intent.units unit root v → unit ≡ 0 → root ≡ 0 → (v ≡ Off) ⊎ (v ≡ On 800000)
off_or_on _ _ _ (HasValue.off unit root is) top at = inl refl
off_or_on _ _ _ (HasValue.mentioned unit root supply v is said) top at = inr (said_here unit supply v said)
off_or_on _ _ _ (HasValue.given unit root inner inner_root port v within is is' has) top at = absurd (no_port unit inner port within)
off_or_on _ _ _ (HasValue.switched unit root input other v switch named is has) top at = absurd (no_switch unit root switch)
off_or_on _ _ _ (HasValue.unstated unit root nothing) top at =
    let U : ℕ → Type 0 = λ n. IsUnstated block_intent.supplies block_intent.units 0 n in
    let V : ℕ → Type 0 = λ n. IsUnstated block_intent.supplies block_intent.units n root in
    absurd (mentioned_stated block_intent.supplies block_intent.units 0 0 0 (On 800000) (IsRoot.unfed 0 refl) (inl refl) (subst U at (subst V top nothing)))

abbrev the_list : RootList
the_list = record { unit = 0; root = 0; values = Off ∷ On 800000 ∷ [] }

values : AreValues block_intent.supplies block_intent.units 0 0 (Off ∷ On 800000 ∷ [])
values = record {
  rising = ((refl, tt), (tt, tt));
  each = of_two (HasValue block_intent.supplies block_intent.units 0 0) Off (On 800000) (HasValue.off 0 0 (IsRoot.unfed 0 refl))
      (HasValue.mentioned 0 0 0 (On 800000) (IsRoot.unfed 0 refl) (inl refl));
  all = λ v has. elim (off_or_on 0 0 v has refl refl) [ inl e ↦ inl e | inr e ↦ inr (inl e) ];
}

abbrev pair : ℕ → ℕ → ℕ × ℕ
pair a b = (a, b)

lists : AreUnitLists block_intent.supplies block_intent.units block_intent.lists
lists = record {
  roots = record {
    rising = (tt, tt);
    each =
        of_one (λ (p : ℕ × ℕ). IsSeenRoot block_intent.supplies block_intent.units p.0 p.1) (pair 0 0)
        (record { supply = 0; seen = IsSeen.own _ refl refl; is_root = IsRoot.unfed 0 refl });
    all = λ p seen. inl (at_first p.0 p.1 (first seen.seen) (flat p.0 seen.supply p.1 seen.is_root).1);
  };
  values = of_one (λ (l : RootList). AreValues block_intent.supplies block_intent.units l.unit l.root l.values) the_list values;
}
  where
    first : {unit supply : ℕ} → IsSeen block_intent.supplies block_intent.units unit supply → unit ≡ 0
    first {unit} {supply} (IsSeen.own s there is) = by supply there
      where
        by : (n : ℕ) → slice_get block_intent.supplies n ≡ Some s → unit ≡ 0
        by zero there = let zero_unit : s.unit ≡ 0 = cc in sym is ∙ zero_unit
        by (suc n) there = cc
    first {unit} {supply} (IsSeen.port inner within) = absurd (no_port unit inner supply within)

    at_first : (a b : ℕ) → a ≡ 0 → b ≡ 0 → pair a b ≡ pair 0 0
    at_first a b e f = cc

one_root_alone : AreFlatRoots block_intent.supplies (0 ∷ [])
one_root_alone = record {
  rising = (tt, tt);
  each = of_one (IsFlatRoot block_intent.supplies) 0 (IsRoot.unfed 0 refl);
  all = λ r is. inl (flat 0 r r is).1;
}

limits : IsWithinLimits block_intent
limits = record {
  few_roots =
      (0 ∷ [], one_root_alone, omega arith);
  few_values = λ root l is job. of_one (λ (x : RootList). length x.values ≤ 64) the_list (omega arith) l job.listed;
}

-- THE INTENT
pub block_intent_sound : IsSoundIntent block block_intent
block_intent_sound = record {
  design_numbers = design_numbers;
  supply_numbers = supply_numbers;
  units_in_order = (tt, tt);
  units_nested = units_nested;
  network = network;
  top_exports = λ u export there i. absurd (no_exports u export (the_unit 0 u there).1 i);
  entries = record { count = refl; modelled = λ inst d there is. absurd (plain inst is); member = λ inst d there not_modelled. entry_in inst d there };
  lists = lists;
  model_units = λ inst m model path body there named. absurd (plain inst (m, body));
  directions = of_three (λ (s : Strategy). has_direction s.act ≡ true) by_bit by_port by_none refl refl refl;
  limits = limits;
}
  where
    no_exports : (u : PowerUnit) (export : Export) → u ≡ top_unit → ¬ IsIn export u.exports
    no_exports u export same i = let P : PowerUnit → Type 0 = λ x. IsIn export x.exports in subst P same i

    entry_in : (inst d : ℕ) → slice_get block_intent.domain_of inst ≡ Some d → d < 2
    entry_in zero d there = let e : 0 ≡ d = cc in omega arith
    entry_in (suc zero) d there = let e : 1 ≡ d = cc in omega arith
    entry_in (suc (suc zero)) d there = let e : 1 ≡ d = cc in omega arith
    entry_in (suc (suc (suc zero))) d there = let e : 1 ≡ d = cc in omega arith
    entry_in (suc (suc (suc (suc n)))) d there = cc
