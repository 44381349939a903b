-- What comes to the roots of a whole plan along its links are the values that they may have.
use Rattle.std.proofs.Common.{◌≡◌, ℕ, List, [], ◌∷◌, map, Option, Some, None, option_map, unwrap_or, slice_get, inl, inr, refl, sym, ap, subst, ◌↔◌}
use Rattle.std.specs.List.{AllByRecursion}
use Rattle.std.specs.declared.cmp.Ordering.TheVariants.{Less}
use Rattle.pw_defs.specs.declared.intent.RootList.{RootList}
use Rattle.pw_defs.specs.declared.intent.Unit.{Unit as PowerUnit}
use Rattle.pw_defs.specs.declared.supplies.Supply.{Supply}
use Rattle.pw_defs.specs.declared.supplies.SupplyKind.TheVariants.{SwitchOut}
use Rattle.pw_defs.specs.declared.values.Value.{Value}
use Rattle.pw_defs.specs.declared.values.Value.TheVariants.{Off, On}
use Rattle.list_defs.specs.Members.{IsIn}
use Rattle.list_defs.specs.Orders.{IsRising}
use Rattle.list_defs.proofs.Members.{IsIn-map, IsIn-map_from}
use Rattle.supply_defs.specs.UnitLists.{AreUnitLists, IsSeen, IsSeenRoot, unit_and_root, unit_and_root_cmp}
use Rattle.supply_defs.specs.UnitViews.{IsRootIn, kind_at, view_ends}
use Rattle.supply_defs.specs.Values.{HasValue, IsMentioned, IsNamedInput, IsPortWithin, IsSwitchOutput, IsUnstated}
use Rattle.supply_defs.proofs.Roots.{one_root}
use Rattle.unit_lists.specs.Flow.{Reaches}
use Rattle.unit_lists.specs.Lists.{AreListsOf, BeginsBy, IsOwnValue, root_of_list}
use Rattle.unit_lists.specs.Plans.{IsGiven, IsLink, IsPortPlanned, IsSaidPlanned, IsWholePlan, view_of}
use Rattle.unit_lists.specs.Views.{view_cmp}
use Rattle.unit_lists.specs.declared.plans.Plan.{Plan}
use Rattle.unit_lists.specs.declared.views.View.{View}

module _ (supplies : List Supply) (units : List PowerUnit) (p : Plan) (whole : IsWholePlan supplies units p) where
  one_there : (unit a r s : ℕ) → IsRootIn supplies units unit a r → IsRootIn supplies units unit a s → r ≡ s
  one_there unit a r s = one_root supplies (view_ends supplies units unit) a r s

  -- a value that a line mentions begins at the root, on which something is given
  said_planned : (unit supply : ℕ) (v : Value) → IsMentioned supplies unit supply v → IsSaidPlanned supplies units p supply (record { unit = unit; value = v })
  said_planned unit supply v = by (slice_get supplies supply) refl
    where
      by : (o : Option Supply) → slice_get supplies supply ≡ o → IsIn (record { unit = unit; value = v }) (unwrap_or (option_map (λ (s : Supply). s.said) o) [])
          → IsSaidPlanned supplies units p supply (record { unit = unit; value = v })
      by None e none = absurd none
      by (Some s) e there = (whole.supplies_in supply s e).said (record { unit = unit; value = v }) there

  mention_given : (unit root supply : ℕ) (v : Value) → IsRootIn supplies units unit supply root → IsMentioned supplies unit supply v → IsIn (view_of unit root) p.given.keys
  mention_given unit root supply v is said =
      let planned : IsSaidPlanned supplies units p supply (record { unit = unit; value = v }) = said_planned unit supply v said in
      let G : ℕ → Type 0 = λ r. IsIn (view_of unit r) p.given.keys in
      subst G (one_there unit supply planned.root root planned.is_root is) planned.given

  mention_begins : (unit root supply : ℕ) (v : Value) → IsRootIn supplies units unit supply root → IsMentioned supplies unit supply v → IsIn (view_of unit root, v) p.begins.items
  mention_begins unit root supply v is said =
      let planned : IsSaidPlanned supplies units p supply (record { unit = unit; value = v }) = said_planned unit supply v said in
      let G : ℕ → Type 0 = λ r. IsIn (view_of unit r, v) p.begins.items in
      subst G (one_there unit supply planned.root root planned.is_root is) planned.begins

  port_planned : (unit inner port : ℕ) → IsPortWithin units unit inner port → IsPortPlanned supplies units p unit inner port
  port_planned unit inner port within = whole.units_in inner within.macro within.there unit within.outer port within.listed

  port_given : (unit root inner port : ℕ) → IsPortWithin units unit inner port → IsRootIn supplies units unit port root → IsIn (view_of unit root) p.given.keys
  port_given unit root inner port within is =
      let planned : IsPortPlanned supplies units p unit inner port = port_planned unit inner port within in
      let G : ℕ → Type 0 = λ r. IsIn (view_of unit r) p.given.keys in
      subst G (one_there unit port planned.root root planned.is_root is) planned.given

  -- the root of a macro's port was met, and a link goes from there
  port_link : (unit root inner inner_root port : ℕ) → IsPortWithin units unit inner port → IsRootIn supplies units unit port root → IsRootIn supplies units inner port inner_root
      → IsIn (view_of inner inner_root) p.met.keys × IsIn (view_of inner inner_root, view_of unit root) p.links.keys
  port_link unit root inner inner_root port within is inside =
      let planned : IsPortPlanned supplies units p unit inner port = port_planned unit inner port within in
      let M : ℕ → Type 0 = λ r. IsIn (view_of inner r) p.met.keys in
      let L : ℕ → Type 0 = λ r. IsIn (view_of inner r, view_of unit planned.root) p.links.keys in
      let K : ℕ → Type 0 = λ r. IsIn (view_of inner inner_root, view_of unit r) p.links.keys in
      let one : planned.inner_root ≡ inner_root = one_there inner port planned.inner_root inner_root planned.is_inner inside in
      (subst M one planned.met, subst K (one_there unit port planned.root root planned.is_root is) (subst L one planned.link))

  -- the root of a switch's input was met, and a link goes from there
  switch_link : (unit root input input_root : ℕ) → IsSwitchOutput supplies unit root → IsNamedInput supplies root input → IsRootIn supplies units unit input input_root
      → IsIn (view_of unit input_root) p.met.keys × IsIn (view_of unit input_root, view_of unit root) p.links.keys
  switch_link unit root input input_root output named is =
      let I : Option Supply → Type 0 = λ o. IsIn input (unwrap_or (option_map (λ (s : Supply). s.inputs) o) []) in
      let planned = (whole.supplies_in root output.switch output.there).inputs output.kind input (subst I output.there named) in
      let R : ℕ → Type 0 = λ u. IsRootIn supplies units u input planned.root in
      let one : planned.root ≡ input_root = one_there unit input planned.root input_root (subst R output.made_in planned.is_root) is in
      let M : ℕ → Type 0 = λ u. IsIn (view_of u planned.root) p.met.keys in
      let N : ℕ → Type 0 = λ r. IsIn (view_of unit r) p.met.keys in
      let L : ℕ → Type 0 = λ u. IsIn (view_of u planned.root, view_of u root) p.links.keys in
      let K : ℕ → Type 0 = λ r. IsIn (view_of unit r, view_of unit root) p.links.keys in
      (subst N one (subst M output.made_in planned.met), subst K one (subst L output.made_in planned.link))

  -- a root that a unit sees is in the plan, and was met
  seen_and_met : (unit root : ℕ) → IsSeenRoot supplies units unit root → IsIn (view_of unit root) p.seen.keys × IsIn (view_of unit root) p.met.keys
  seen_and_met unit root h = by h.seen
    where
      by : IsSeen supplies units unit h.supply → IsIn (view_of unit root) p.seen.keys × IsIn (view_of unit root) p.met.keys
      by (IsSeen.own s there made_in) =
          let planned = (whole.supplies_in h.supply s there).own in
          let R : ℕ → Type 0 = λ u. IsRootIn supplies units u h.supply planned.root in
          let one : planned.root ≡ root = one_there unit h.supply planned.root root (subst R made_in planned.is_root) h.is_root in
          let B : ℕ → Type 0 = λ u. IsIn (view_of u planned.root) p.seen.keys × IsIn (view_of u planned.root) p.met.keys in
          let C : ℕ → Type 0 = λ r. IsIn (view_of unit r) p.seen.keys × IsIn (view_of unit r) p.met.keys in
          subst C one (subst B made_in (planned.seen, planned.met))
      by (IsSeen.port inner within) =
          let planned = (port_planned unit inner h.supply within).seen in
          let one : planned.root ≡ root = one_there unit h.supply planned.root root planned.is_root h.is_root in
          let C : ℕ → Type 0 = λ r. IsIn (view_of unit r) p.seen.keys × IsIn (view_of unit r) p.met.keys in
          subst C one (planned.seen, planned.met)

  module _ (begins : List (View × Value)) (begun : BeginsBy supplies p.met.keys p.given.keys p.begins.items begins) where
    -- nothing is given on a root that is in no set of such ones
    unstated : (a : View) → IsIn a p.met.keys → ¬ IsIn a p.given.keys → ¬ (kind_at supplies a.supply ≡ Some SwitchOut) → IsUnstated supplies units a.unit a.supply
    unstated a met none switch = record {
      is_root = whole.plan.met a met;
      unswitched = switch;
      unmentioned = λ supply v is said. none (mention_given a.unit a.supply supply v is said);
      ungiven = λ inner port within is. none (port_given a.unit a.supply inner port within is);
    }

    own_value : (a : View) (v : Value) → IsOwnValue supplies p.met.keys p.given.keys a v → HasValue supplies units a.unit a.supply v
    own_value _ _ (IsOwnValue.off a met) = HasValue.off a.unit a.supply (whole.plan.met a met)
    own_value _ _ (IsOwnValue.zero_volts a met none switch) = HasValue.unstated a.unit a.supply (unstated a met none switch)

    linked : (a b : View) (v : Value) → IsLink supplies units a b → HasValue supplies units a.unit a.supply v → HasValue supplies units b.unit b.supply v
    linked a b v (inl l) has = HasValue.given b.unit b.supply a.unit a.supply l.port v l.within l.outside l.inside has
    linked a b v (inr l) has =
        let H : ℕ → Type 0 = λ u. HasValue supplies units u a.supply v in
        let R : ℕ → Type 0 = λ u. IsRootIn supplies units u l.input a.supply in
        HasValue.switched b.unit b.supply l.input a.supply v l.output l.named (subst R l.one_unit l.is_root) (subst H l.one_unit has)

    -- what comes to a root is a value that it may have
    reaches_value : (a : View) (v : Value) → Reaches begins p.links.keys a v → HasValue supplies units a.unit a.supply v
    reaches_value _ _ (Reaches.begun a v there) = elim (begun.only a v there) [
      | inl was ↦ (let m = whole.plan.begins a v was in HasValue.mentioned a.unit a.supply m.supply v m.is_root m.mentioned)
      | inr own ↦ own_value a v own
    ]
    reaches_value _ _ (Reaches.along a b v link reach) = linked a b v (whole.plan.links a b link) (reaches_value a v reach)

    not_given : (unit root : ℕ) → IsUnstated supplies units unit root → ¬ IsIn (view_of unit root) p.given.keys
    not_given unit root nothing there = by (whole.plan.given (view_of unit root) there)
      where
        by : IsGiven supplies units (view_of unit root) → ⊥
        by (inl m) = nothing.unmentioned m.1.supply m.0 m.1.is_root m.1.mentioned
        by (inr g) = nothing.ungiven g.inner g.port g.within g.is_root

    -- each value that a root that was met may have comes to it
    value_reaches : (unit root : ℕ) (v : Value) → HasValue supplies units unit root v → IsIn (view_of unit root) p.met.keys → Reaches begins p.links.keys (view_of unit root) v
    value_reaches _ _ _ (HasValue.off unit root is) met = Reaches.begun (view_of unit root) Off (begun.own (view_of unit root) Off (IsOwnValue.off (view_of unit root) met))
    value_reaches _ _ _ (HasValue.mentioned unit root supply v is said) met =
        Reaches.begun (view_of unit root) v (begun.kept (view_of unit root) v (mention_begins unit root supply v is said))
    value_reaches _ _ _ (HasValue.given unit root inner inner_root port v within is inside has) met =
        let link = port_link unit root inner inner_root port within is inside in
        Reaches.along (view_of inner inner_root) (view_of unit root) v link.1 (value_reaches inner inner_root v has link.0)
    value_reaches _ _ _ (HasValue.switched unit root input input_root v output named is has) met =
        let link = switch_link unit root input input_root output named is in
        Reaches.along (view_of unit input_root) (view_of unit root) v link.1 (value_reaches unit input_root v has link.0)
    value_reaches _ _ _ (HasValue.unstated unit root nothing) met =
        Reaches.begun (view_of unit root) (On 0)
        (begun.own (view_of unit root) (On 0) (IsOwnValue.zero_volts (view_of unit root) met (not_given unit root nothing) nothing.unswitched))

  -- lists that rise by their roots
  each_less : (l : RootList) (ls : List RootList) → AllByRecursion (λ b. view_cmp (root_of_list l) b ≡ Less) (map root_of_list ls)
      → AllByRecursion (λ b. unit_and_root_cmp (unit_and_root l) b ≡ Less) (map unit_and_root ls)
  each_less l [] h = tt
  each_less l (m ∷ ms) h = (h.0, each_less l ms h.1)

  rising_lists : (ls : List RootList) → IsRising view_cmp (map root_of_list ls) → IsRising unit_and_root_cmp (map unit_and_root ls)
  rising_lists [] h = tt
  rising_lists (l ∷ ls) h = (each_less l ls h.0, rising_lists ls h.1)

  -- the lists of a whole plan's roots, with what comes to these, are those of the network
  pub lists_are : (begins : List (View × Value)) (values : List (View × Value)) (lists : List RootList) → BeginsBy supplies p.met.keys p.given.keys p.begins.items begins
      → ((a : View) (v : Value) → IsIn (a, v) values ↔ Reaches begins p.links.keys a v) → AreListsOf p.seen.keys values lists → AreUnitLists supplies units lists
  lists_are begins values lists begun flow h = record {
    roots = record {
      rising = rising_lists lists (let R : List View → Type 0 = λ xs. IsRising view_cmp xs in subst R (sym h.roots) h.rising);
      each = λ q there. let found = IsIn-map_from unit_and_root q lists there in
          let S : ℕ × ℕ → Type 0 = λ x. IsSeenRoot supplies units x.0 x.1 in
          subst S (sym found.2) (whole.plan.seen (root_of_list found.0) (seen_list found.0 found.1));
      all = λ q sees. list_there q (seen_and_met q.0 q.1 sees).0;
    };
    values = λ l there.
        let listed = h.each l there in
        let met : IsIn (root_of_list l) p.met.keys = (seen_and_met l.unit l.root (whole.plan.seen (root_of_list l) (seen_list l there))).1 in
        record {
          rising = listed.rising;
          each = λ v is. reaches_value begins begun (root_of_list l) v ((flow (root_of_list l) v).0 (listed.each v is));
          all = λ v has. listed.all v ((flow (root_of_list l) v).1 (value_reaches begins begun l.unit l.root v has met));
        };
  }
    where
      seen_list : (l : RootList) → IsIn l lists → IsIn (root_of_list l) p.seen.keys
      seen_list l there = let I : List View → Type 0 = λ xs. IsIn (root_of_list l) xs in subst I h.roots (IsIn-map root_of_list l lists there)

      list_there : (q : ℕ × ℕ) → IsIn (view_of q.0 q.1) p.seen.keys → IsIn q (map unit_and_root lists)
      list_there q there =
          let I : List View → Type 0 = λ xs. IsIn (view_of q.0 q.1) xs in
          let found = IsIn-map_from root_of_list (view_of q.0 q.1) lists (subst I (sym h.roots) there) in
          let Q : ℕ × ℕ → Type 0 = λ x. IsIn x (map unit_and_root lists) in
          let same : unit_and_root found.0 ≡ q = ap (λ (a : View). (a.unit, a.supply)) (sym found.2) in
          subst Q same (IsIn-map unit_and_root found.0 lists found.1)
