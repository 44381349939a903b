-- Roots are kept as they are found, and walks up the feeders end.
use Rattle.std.proofs.Common.{◌≡◌, ℕ, ◌+◌, ◌<◌, ◌≤◌, Bool, true, false, cond, eqb, List, [], ◌∷◌, ◌++◌, take, get_or, length, slice_get, Option, Some, None, option_map, unwrap_or, is_some, IsSome, Bor, ◌⊎◌, inl, inr, refl, sym, ap, ◌∙◌, subst, arith}
use Rattle.std.specs.BTreeMap.{BTreeMap, IsEmpty, get, is_at}
use Rattle.std.specs.Map.{lookup}
use Rattle.std.specs.Option.{option_copied}
use Rattle.std.specs.Ordering.{is_eq}
use Rattle.std.proofs.lemmas.Bool.{eqb-true, eqb-false}
use Rattle.std.proofs.lemmas.Cmp.{tied_itself}
use Rattle.std.proofs.lemmas.List.Elements.{filter_more}
use Rattle.std.proofs.lemmas.Option.{slice_get_within}
use Rattle.pw_defs.specs.declared.intent.Unit.{Unit as PowerUnit}
use Rattle.pw_defs.specs.declared.supplies.Supply.{Supply}
use Rattle.list_defs.specs.Members.{IsIn}
use Rattle.list_defs.proofs.Members.{IsIn-append_left, IsIn-append_right, IsIn-append_cases}
use Rattle.supply_defs.specs.Network.{IsFedBy, IsRoot}
use Rattle.supply_defs.specs.UnitViews.{IsRootIn, in_ports, is_in_port, kind_at, view_ends}
use Rattle.supply_defs.proofs.Roots.{root_of_feeder}
use Rattle.unit_lists.specs.Roots.{AddsEnds, AreRoots, in_ports_of}
use Rattle.unit_lists.specs.Views.{view_cmp}
use Rattle.unit_lists.specs.declared.views.View.{View}
use Rattle.unit_lists.proofs.ListedLemmas.{view_cmp_total}
use Rattle.unit_lists.proofs.SetLemmas.{exact_views, equal_from}

-- a supply whose root isn't kept is no end of the view
pub no_end : (supplies : List Supply) (units : List PowerUnit) (roots : BTreeMap View ℕ) (a : View) → AreRoots supplies units roots → get view_cmp roots a ≡ None
    → ¬ IsIn a.supply (view_ends supplies units a.unit)
no_end supplies units roots a h none there = let some = h.ends a there in cc (ap is_some none)

-- a supply and its feeder have one root, where the supply's isn't kept
pub root_from_feeder : (supplies : List Supply) (units : List PowerUnit) (roots : BTreeMap View ℕ) (a : View) (feeder root : ℕ) → AreRoots supplies units roots
    → get view_cmp roots a ≡ None → IsFedBy supplies a.supply feeder → IsRootIn supplies units a.unit feeder root → IsRootIn supplies units a.unit a.supply root
root_from_feeder supplies units roots a feeder root h none fed is = IsRoot.fed a.supply feeder root (no_end supplies units roots a h none) fed is

pub root_at_feeder : (supplies : List Supply) (units : List PowerUnit) (roots : BTreeMap View ℕ) (a : View) (feeder root : ℕ) → AreRoots supplies units roots
    → get view_cmp roots a ≡ None → IsFedBy supplies a.supply feeder → IsRootIn supplies units a.unit a.supply root → IsRootIn supplies units a.unit feeder root
root_at_feeder supplies units roots a feeder root h none fed is =
    root_of_feeder supplies (view_ends supplies units a.unit) a.supply feeder root (no_end supplies units roots a h none) fed is

-- one map has what another one has, and the root of one more supply
abbrev pub Puts : BTreeMap View ℕ → BTreeMap View ℕ → View → ℕ → Type 0
Puts old new here root = (a : View) → get view_cmp new a ≡ cond (is_at (view_cmp here) a) (Some root) (get view_cmp old a)

-- what such a map has, at this supply or at another
put_cases : (old new : BTreeMap View ℕ) (here : View) (root : ℕ) → Puts old new here root → (a : View) (r : ℕ) → get view_cmp new a ≡ Some r
    → ((here ≡ a) × (root ≡ r)) ⊎ (get view_cmp old a ≡ Some r)
put_cases old new here root puts a r there = by (is_at (view_cmp here) a) refl (sym (puts a) ∙ there)
  where
    by : (b : Bool) → is_at (view_cmp here) a ≡ b → cond b (Some root) (get view_cmp old a) ≡ Some r → ((here ≡ a) × (root ≡ r)) ⊎ (get view_cmp old a ≡ Some r)
    by true e h = let same : root ≡ r = cc in inl (exact_views here a (equal_from (view_cmp here a) e), same)
    by false e h = inr h

put_kept : (old new : BTreeMap View ℕ) (here : View) (root : ℕ) → Puts old new here root → (a : View) → IsSome (get view_cmp old a) → IsSome (get view_cmp new a)
put_kept old new here root puts a there = let S : Option ℕ → Type 0 = λ x. IsSome x in subst S (sym (puts a)) (by (is_at (view_cmp here) a))
  where
    by : (b : Bool) → IsSome (cond b (Some root) (get view_cmp old a))
    by true = refl
    by false = there

put_there : (old new : BTreeMap View ℕ) (here : View) (root : ℕ) → Puts old new here root → IsSome (get view_cmp new here)
put_there old new here root puts =
    let S : Option ℕ → Type 0 = λ x. IsSome x in
    let C : Bool → Type 0 = λ b. IsSome (cond b (Some root) (get view_cmp old here)) in
    subst S (sym (puts here)) (subst C (sym (ap is_eq (tied_itself view_cmp_total here))) refl)

-- roots are kept where one more root is put to them
pub still_roots : (supplies : List Supply) (units : List PowerUnit) (old new : BTreeMap View ℕ) (here : View) (root : ℕ) → AreRoots supplies units old
    → IsRootIn supplies units here.unit here.supply root → Puts old new here root → AreRoots supplies units new
still_roots supplies units old new here root h is puts = record {
  each = λ a r there. elim (put_cases old new here root puts a r there) [
    | inl here_it ↦ (
        let A : View → Type 0 = λ x. IsRootIn supplies units x.unit x.supply r in
        let R : ℕ → Type 0 = λ x. IsRootIn supplies units here.unit here.supply x in
        subst A here_it.0 (subst R here_it.1 is)
        )
    | inr was ↦ h.each a r was
  ];
  ends = λ a there. put_kept old new here root puts a (h.ends a there);
}

-- no ends at first
pub adds_none : (supplies : List Supply) (roots : BTreeMap View ℕ) (unit : ℕ) (ports : List ℕ) → ports ≡ [] → AddsEnds supplies roots roots unit ports
adds_none supplies roots unit ports none = record {
  kept = λ a there. there;
  each = λ a root there. inl there;
  ends = λ port there. absurd (let P : List ℕ → Type 0 = λ xs. IsIn port (in_ports_of supplies xs) in subst P none there);
}

-- an `in` port more is put as its own root
pub adds_port : (supplies : List Supply) (first old new : BTreeMap View ℕ) (unit port : ℕ) (ports more : List ℕ) → AddsEnds supplies first old unit ports
    → in_ports_of supplies more ≡ in_ports_of supplies ports ++ port ∷ [] → Puts old new (record { unit = unit; supply = port }) port
    → AddsEnds supplies first new unit more
adds_port supplies first old new unit port ports more h e puts = record {
  kept = λ a there. put_kept old new end port puts a (h.kept a there);
  each = λ a root there. elim (put_cases old new end port puts a root there) [
    | inl here ↦ inr (sym (ap (λ (x : View). x.unit) here.0), sym (ap (λ (x : View). x.supply) here.0) ∙ here.1, in_more root (inr (inl (sym here.1))))
    | inr was ↦ elim (h.each a root was) [ inl before ↦ inl before | inr added ↦ inr (added.0, added.1, in_more root (inl added.2)) ]
  ];
  ends = λ p there. elim (IsIn-append_cases p (in_ports_of supplies ports) (port ∷ []) (let P : List ℕ → Type 0 = λ xs. IsIn p xs in subst P e there)) [
    | inl was ↦ put_kept old new end port puts (record { unit = unit; supply = p }) (h.ends p was)
    | inr new_one ↦ elim new_one [
      | inl same ↦ (
          let P : ℕ → Type 0 = λ x. IsSome (get view_cmp new (record { unit = unit; supply = x })) in
          subst P (sym same) (put_there old new end port puts)
          )
      | inr none ↦ absurd none
    ]
  ];
}
  where
    end : View
    end = record { unit = unit; supply = port }

    in_more : (root : ℕ) → IsIn root (in_ports_of supplies ports) ⊎ IsIn root (port ∷ []) → IsIn root (in_ports_of supplies more)
    in_more root (inl was) = let P : List ℕ → Type 0 = λ xs. IsIn root xs in subst P (sym e) (IsIn-append_left root (in_ports_of supplies ports) (port ∷ []) was)
    in_more root (inr new_one) = let P : List ℕ → Type 0 = λ xs. IsIn root xs in subst P (sym e) (IsIn-append_right root (in_ports_of supplies ports) (port ∷ []) new_one)

-- The ends of the views of some first units are kept, and nothing else.
pub record AreEndsTo (supplies : List Supply) (units : List PowerUnit) (roots : BTreeMap View ℕ) (n : ℕ) : Type 0 where
  pub each : (a : View) (root : ℕ) → get view_cmp roots a ≡ Some root → (a.supply ≡ root) × IsIn root (view_ends supplies units a.unit)
  pub ends : (a : View) → a.unit < n → IsIn a.supply (view_ends supplies units a.unit) → IsSome (get view_cmp roots a)

pub no_ends : (supplies : List Supply) (units : List PowerUnit) (roots : BTreeMap View ℕ) → IsEmpty roots → AreEndsTo supplies units roots 0
no_ends supplies units roots none = record {
  each = λ a root there. let e = ap (lookup (is_at (view_cmp a))) none in cc;
  ends = λ a below there. absurd (omega arith);
}

pub more_ends : (supplies : List Supply) (units : List PowerUnit) (old new : BTreeMap View ℕ) (n : ℕ) (unit : PowerUnit) (ports : List ℕ)
    → slice_get units n ≡ Some unit → ports ≡ unit.ports → AddsEnds supplies old new n ports → AreEndsTo supplies units old n → AreEndsTo supplies units new (n + 1)
more_ends supplies units old new n unit ports is same_ports adds h = record {
  each = λ a root there. elim (adds.each a root there) [
    | inl was ↦ h.each a root was
    | inr added ↦ (
      added.1,
      (let P : ℕ → Type 0 = λ x. IsIn root (view_ends supplies units x) in
          let Q : List ℕ → Type 0 = λ xs. IsIn root xs in
          subst P (sym added.0) (subst Q (sym ends_here) added.2)),
    )
  ];
  ends = λ a below there. by (eqb a.unit n) a refl below there;
}
  where
    ends_here : view_ends supplies units n ≡ in_ports_of supplies ports
    ends_here = ap (λ (o : Option PowerUnit). unwrap_or (option_map (in_ports supplies) o) []) is ∙ ap (in_ports_of supplies) (sym same_ports)

    by : (b : Bool) → (a : View) → eqb a.unit n ≡ b → a.unit < n + 1 → IsIn a.supply (view_ends supplies units a.unit) → IsSome (get view_cmp new a)
    by true a e below there =
        let same : a.unit ≡ n = eqb-true a.unit n e in
        let V : ℕ → Type 0 = λ x. IsIn a.supply (view_ends supplies units x) in
        let P : List ℕ → Type 0 = λ xs. IsIn a.supply xs in
        let S : ℕ → Type 0 = λ x. IsSome (get view_cmp new (record { unit = x; supply = a.supply })) in
        subst S (sym same) (adds.ends a.supply (subst P ends_here (subst V same there)))
    by false a e below there =
        let other = eqb-false a.unit n e in
        adds.kept a (h.ends a (omega arith) there)

-- all ends of views are kept as their own roots
pub roots_from_ends : (supplies : List Supply) (units : List PowerUnit) (roots : BTreeMap View ℕ) (n : ℕ) → length units ≤ n → AreEndsTo supplies units roots n
    → AreRoots supplies units roots
roots_from_ends supplies units roots n all h = record {
  each = λ a root there. let is = h.each a root there in
      let R : ℕ → Type 0 = λ x. IsRootIn supplies units a.unit x root in
      subst R (sym is.0) (IsRoot.stopped root is.1);
  ends = λ a there. h.ends a (omega (arith, below a.unit a.supply there)) there;
}
  where
    below : (unit port : ℕ) → IsIn port (view_ends supplies units unit) → unit < length units
    below unit port there = by (slice_get units unit) refl there
      where
        by : (o : Option PowerUnit) → slice_get units unit ≡ o → IsIn port (unwrap_or (option_map (in_ports supplies) o) []) → unit < length units
        by None e none = absurd none
        by (Some u) e there = slice_get_within units unit u e

-- what is kept of a supply is its root
pub kept_root : (supplies : List Supply) (units : List PowerUnit) (roots : BTreeMap View ℕ) (a : View) (found : Option (Bor ℕ)) (root : Bor ℕ)
    → AreRoots supplies units roots → found ≡ Some root → option_copied found ≡ get view_cmp roots a → IsRootIn supplies units a.unit a.supply root.now
kept_root supplies units roots a found root h is e = h.each a root.now (sym e ∙ ap option_copied is)

-- what isn't there is nothing
pub none_there : (o : Option ℕ) (b : Bool) → b ≡ is_some o → b ≡ false → o ≡ None
none_there None b e f = refl
none_there (Some r) b e f = cc

-- the `in` ports among one port more, which is an `in` port
pub more_in_ports : (supplies : List Supply) (ports : List ℕ) (i : ℕ) (b : Bool) → i < length ports → b ≡ is_in_port (kind_at supplies (get_or ports i 0)) → b ≡ true
    → in_ports_of supplies (take (i + 1) ports) ≡ in_ports_of supplies (take i ports) ++ get_or ports i 0 ∷ []
more_in_ports supplies ports i b below e f =
    filter_more (λ (port : ℕ). is_in_port (kind_at supplies port)) ports i 0 below
    ∙ ap (λ (x : Bool). in_ports_of supplies (take i ports) ++ cond x (get_or ports i 0 ∷ []) []) (sym e ∙ f)
