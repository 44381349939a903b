-- Values that roots have of their own, and lists in the order of roots.
use Rattle.std.proofs.Common.{◌≡◌, Bool, true, false, List, [], ◌∷◌, ◌++◌, map, Some, ◌⊎◌, inl, inr, refl, sym, ap, ◌∙◌, subst, append_assoc, append-nil, not}
use Rattle.std.specs.List.{AllByRecursion}
use Rattle.std.specs.List.Sorted.{IsStrictlySortedBy}
use Rattle.std.specs.declared.cmp.Ordering.TheVariants.{Less}
use Rattle.std.proofs.lemmas.Bool.{false≢true}
use Rattle.std.proofs.lemmas.List.{map-append}
use Rattle.pw_defs.specs.Values.{value_cmp}
use Rattle.pw_defs.specs.declared.intent.RootList.{RootList}
use Rattle.pw_defs.specs.declared.supplies.Supply.{Supply}
use Rattle.pw_defs.specs.declared.supplies.SupplyKind.TheVariants.{SwitchOut}
use Rattle.pw_defs.specs.declared.values.Value.{Value}
use Rattle.pw_defs.specs.declared.values.Value.TheVariants.{Off, On}
use Rattle.list_defs.specs.Members.{IsIn}
use Rattle.list_defs.specs.Orders.{AreAllRising, IsRising}
use Rattle.list_defs.proofs.Members.{IsIn-append_left, IsIn-append_right, IsIn-append_cases}
use Rattle.supply_defs.specs.UnitViews.{kind_at}
use Rattle.unit_lists.specs.Lists.{AreListsOf, IsOwnValue, root_of_list}
use Rattle.unit_lists.specs.Views.{view_cmp}
use Rattle.unit_lists.specs.declared.views.View.{View}
use Rattle.unit_lists.proofs.ListedLemmas.{rising_from_sorted}
use Rattle.unit_lists.proofs.SetLemmas.{value_ord, value_ord_is}

-- what begins once the values of all roots but those that are left were added
pub record BeginsSoFar (supplies : List Supply) (met given : List View) (old new : List (View × Value)) (left : List View) : Type 0 where
  pub kept : (a : View) (v : Value) → IsIn (a, v) old → IsIn (a, v) new
  pub own : (a : View) (v : Value) → IsOwnValue supplies met given a v → IsIn (a, v) new ⊎ IsIn a left
  pub only : (a : View) (v : Value) → IsIn (a, v) new → IsIn (a, v) old ⊎ IsOwnValue supplies met given a v
  pub there : (a : View) → IsIn a left → IsIn a met

-- what a root may have of its own
own_cases : (supplies : List Supply) (met given : List View) (a b : View) (v : Value) → IsOwnValue supplies met given b v → b ≡ a
    → (v ≡ Off) ⊎ ((v ≡ On 0) × (¬ IsIn a given × ¬ (kind_at supplies a.supply ≡ Some SwitchOut)))
own_cases supplies met given a _ _ (IsOwnValue.off b is) same = inl refl
own_cases supplies met given a _ _ (IsOwnValue.zero_volts b is none switch) same =
    let N : View → Type 0 = λ x. ¬ IsIn x given × ¬ (kind_at supplies x.supply ≡ Some SwitchOut) in
    inr (refl, subst N same (none, switch))

-- a root is off, and where it may not be on at 0 V that is all
one_begun : (supplies : List Supply) (met given : List View) (old new more : List (View × Value)) (a : View) (left : List View)
    → ((v : Value) → IsIn (a, v) more → IsOwnValue supplies met given a v) → ((b : View) (v : Value) → IsIn (b, v) more → b ≡ a)
    → ((v : Value) → IsOwnValue supplies met given a v → IsIn (a, v) more)
    → BeginsSoFar supplies met given old new (a ∷ left) → BeginsSoFar supplies met given old (new ++ more) left
one_begun supplies met given old new more a left sound one all h = record {
  kept = λ b v there. IsIn-append_left (b, v) new more (h.kept b v there);
  own = λ b v is. elim (h.own b v is) [
    | inl there ↦ inl (IsIn-append_left (b, v) new more there)
    | inr then ↦ elim then [ inl here ↦ inl (IsIn-append_right (b, v) new more (at b v here is)) | inr later ↦ inr later ]
  ];
  only = λ b v there. elim (IsIn-append_cases (b, v) new more there) [
    | inl was ↦ h.only b v was
    | inr added ↦ inr (added_own b v (one b v added) added)
  ];
  there = λ b is. h.there b (inr is);
}
  where
    at : (b : View) (v : Value) → b ≡ a → IsOwnValue supplies met given b v → IsIn (b, v) more
    at b v same is =
        let O : View → Type 0 = λ x. IsOwnValue supplies met given x v in
        let I : View → Type 0 = λ x. IsIn (x, v) more in
        subst I (sym same) (all v (subst O same is))

    added_own : (b : View) (v : Value) → b ≡ a → IsIn (b, v) more → IsOwnValue supplies met given b v
    added_own b v same there =
        let O : View → Type 0 = λ x. IsOwnValue supplies met given x v in
        let I : View → Type 0 = λ x. IsIn (x, v) more in
        subst O (sym same) (sound v (subst I same there))

-- a root that may be off alone
pub off_begun : (supplies : List Supply) (met given : List View) (old new more : List (View × Value)) (a : View) (was left : List View) → was ≡ a ∷ left
    → more ≡ new ++ (a, Off) ∷ [] → ¬ (¬ IsIn a given × ¬ (kind_at supplies a.supply ≡ Some SwitchOut)) → BeginsSoFar supplies met given old new was
    → BeginsSoFar supplies met given old more left
off_begun supplies met given old new more a was left e f stated h =
    let N : List (View × Value) → Type 0 = λ xs. BeginsSoFar supplies met given old xs left in
    let L : List View → Type 0 = λ xs. BeginsSoFar supplies met given old new xs in
    let k : BeginsSoFar supplies met given old new (a ∷ left) = subst L e h in
    subst N (sym f) (one_begun supplies met given old new ((a, Off) ∷ []) a left
    (λ v there. elim there [
      | inl same ↦ (let O : Value → Type 0 = λ w. IsOwnValue supplies met given a w in subst O (sym (ap (λ (p : View × Value). p.1) same)) (IsOwnValue.off a (k.there a (inl refl))))
      | inr none ↦ absurd none
    ])
    (λ b v there. elim there [ inl same ↦ ap (λ (p : View × Value). p.0) same | inr none ↦ absurd none ])
    (λ v is. elim (own_cases supplies met given a a v is refl) [ inl off ↦ inl (ap (λ (w : Value). (a, w)) off) | inr zero ↦ absurd (stated zero.1) ]) k)

-- a root that may be on at 0 V too
pub zero_begun : (supplies : List Supply) (met given : List View) (old new off more : List (View × Value)) (a : View) (was left : List View) → was ≡ a ∷ left
    → off ≡ new ++ (a, Off) ∷ [] → more ≡ off ++ (a, On 0) ∷ [] → ¬ IsIn a given × ¬ (kind_at supplies a.supply ≡ Some SwitchOut)
    → BeginsSoFar supplies met given old new was → BeginsSoFar supplies met given old more left
zero_begun supplies met given old new off more a was left e f g unstated h =
    let both : List (View × Value) = (a, Off) ∷ (a, On 0) ∷ [] in
    let N : List (View × Value) → Type 0 = λ xs. BeginsSoFar supplies met given old xs left in
    let L : List View → Type 0 = λ xs. BeginsSoFar supplies met given old new xs in
    let k : BeginsSoFar supplies met given old new (a ∷ left) = subst L e h in
    let whole : more ≡ new ++ both = g ∙ ap (λ (xs : List (View × Value)). xs ++ (a, On 0) ∷ []) f ∙ append_assoc new ((a, Off) ∷ []) ((a, On 0) ∷ []) in
    subst N (sym whole) (one_begun supplies met given old new both a left
    (λ v there. let O : Value → Type 0 = λ w. IsOwnValue supplies met given a w in elim there [
      | inl same ↦ subst O (sym (ap (λ (p : View × Value). p.1) same)) (IsOwnValue.off a (k.there a (inl refl)))
      | inr then ↦ elim then [
        | inl same ↦ subst O (sym (ap (λ (p : View × Value). p.1) same)) (IsOwnValue.zero_volts a (k.there a (inl refl)) unstated.0 unstated.1)
        | inr none ↦ absurd none
      ]
    ])
    (λ b v there. elim there [
      | inl same ↦ ap (λ (p : View × Value). p.0) same
      | inr then ↦ elim then [ inl same ↦ ap (λ (p : View × Value). p.0) same | inr none ↦ absurd none ]
    ])
    (λ v is. elim (own_cases supplies met given a a v is refl) [
      | inl is_off ↦ inl (ap (λ (w : Value). (a, w)) is_off)
      | inr zero ↦ inr (inl (ap (λ (w : Value). (a, w)) zero.0))
    ]) k)

-- the lists of all roots but those that are left
pub record AreListsSoFar (seen : List View) (values : List (View × Value)) (lists : List RootList) (left : List View) : Type 0 where
  pub roots : map root_of_list lists ++ left ≡ seen
  pub each : (l : RootList) → IsIn l lists → AreAllRising value_cmp (λ v. IsIn (root_of_list l, v) values) l.values

-- the list of one root more
pub list_more : (seen : List View) (values : List (View × Value)) (lists more : List RootList) (l : RootList) (was left : List View) → was ≡ root_of_list l ∷ left
    → more ≡ lists ++ l ∷ [] → AreAllRising value_cmp (λ v. IsIn (root_of_list l, v) values) l.values → AreListsSoFar seen values lists was
    → AreListsSoFar seen values more left
list_more seen values lists more l was left e f is h = let M : List RootList → Type 0 = λ xs. AreListsSoFar seen values xs left in subst M (sym f) (record {
  roots = rw map-append (append_assoc (map root_of_list lists) (root_of_list l ∷ []) left ∙ ap (λ (xs : List View). map root_of_list lists ++ xs) (sym e) ∙ h.roots);
  each = λ m there. elim (IsIn-append_cases m lists (l ∷ []) there) [
    | inl old ↦ h.each m old
    | inr new ↦ elim new [
      | inl same ↦ (let A : RootList → Type 0 = λ x. AreAllRising value_cmp (λ v. IsIn (root_of_list x, v) values) x.values in subst A (sym same) is)
      | inr none ↦ absurd none
    ]
  ];
})

-- the lists of all roots
pub list_ends : (seen : List View) (values : List (View × Value)) (lists : List RootList) (left : List View) → IsStrictlySortedBy view_cmp seen → left ≡ []
    → AreListsSoFar seen values lists left → AreListsOf seen values lists
list_ends seen values lists left sorted none h = record {
  rising = rising_from_sorted view_cmp seen sorted;
  roots = sym (append-nil (map root_of_list lists)) ∙ ap (λ (xs : List View). map root_of_list lists ++ xs) (sym none) ∙ h.roots;
  each = h.each;
}

-- two things that don't hold, the second by a test
pub neither : (A B : Type 0) (b : Bool) → ¬ A → (b ≡ true → B) × (B → b ≡ true) → (not b ≡ true → ¬ A × ¬ B) × (¬ A × ¬ B → not b ≡ true)
neither A B true none decides = (λ e. cc, λ both. absurd (both.1 (decides.0 refl)))
neither A B false none decides = (λ e. (none, λ h. false≢true (decides.1 h)), λ both. refl)

pub not_neither : (A B : Type 0) (b : Bool) → A → b ≡ true → (not b ≡ true → ¬ A × ¬ B) × (¬ A × ¬ B → not b ≡ true)
not_neither A B b holds e = (λ other. let wrong : false ≡ true = cc in absurd (false≢true wrong), λ both. absurd (both.0 holds))

-- values that rise as code compares them rise
each_value_less : (v : Value) (ws : List Value) → AllByRecursion (λ w. value_ord v w ≡ Less) ws → AllByRecursion (λ w. value_cmp v w ≡ Less) ws
each_value_less v [] h = tt
each_value_less v (w ∷ ws) h = (sym (value_ord_is v w) ∙ h.0, each_value_less v ws h.1)

rising_values : (vs : List Value) → IsRising value_ord vs → IsRising value_cmp vs
rising_values [] h = tt
rising_values (v ∷ vs) h = (each_value_less v vs h.0, rising_values vs h.1)

-- the values of a root as they were listed
pub root_values : (a : View) (pairs : List (View × Value)) (found values : List Value) → values ≡ found → AreAllRising value_ord (λ v. IsIn (a, v) pairs) found
    → AreAllRising value_cmp (λ v. IsIn (a, v) pairs) values
root_values a pairs found values same h = let A : List Value → Type 0 = λ vs. AreAllRising value_cmp (λ v. IsIn (a, v) pairs) vs in
    subst A (sym same) (record { rising = rising_values found h.rising; each = h.each; all = h.all })
