-- What the tables of names say is what the faults of names are.
use Rattle.std.proofs.Common.{◌≡◌, ◌≢◌, ℕ, zero, suc, ◌<◌, ◌≤◌, ◌==◌, ◌⊎◌, Bool, true, false, not, ◌||◌, cond, List, [], ◌∷◌, Option, None, Some, option_map, slice_get, is_some, inl, inr, refl, sym, ap, ◌∙◌, subst, arith, min, ◌++◌, MatchOption}
use Rattle.std.proofs.lemmas.Bool.{false≢true, true≢false, or_cases, cases_lt, eqb-true, eq-eqb}
use Rattle.std.proofs.lemmas.Option.{same_Some}
use Rattle.list_defs.proofs.Members.{IsIn-append_cases, IsIn-append_left, IsIn-append_right}
use Rattle.list_defs.specs.Members.{IsIn, place_of, same_name}
use Rattle.list_defs.specs.Orders.{IsLeast}
use Rattle.list_defs.proofs.NameLemmas.{same_name-equal, same_name-itself}
use Rattle.pw_defs.specs.declared.model.Model.{Model}
use Rattle.pw_defs.specs.declared.netlist.Module.{Module}
use Rattle.design_defs.specs.DesignFaults.{Fault, FaultKind, IsFault, fault_cmp, kind_number, of_module, HasNoneBefore}
use Rattle.design_defs.specs.Hierarchy.{Sources, cell_named, module_at, module_named}
use Rattle.net_hierarchy.specs.ByName.{AreAlike, IsOtherAmong, lesser, AreNamedApart, HasOtherPorts, IsFirstTwice, IsLeastOther, is_at, is_twice}
use Rattle.net_hierarchy.specs.Kinds.{AreKinds, first_place}
use Rattle.net_hierarchy.specs.declared.kinds.Kinds.{Kinds}
use Rattle.net_hierarchy.proofs.FoundKinds.{cell_found, module_found}
use Rattle.net_hierarchy.proofs.NoneBefore.{IsFromModule, least_of_modules, same_or_less}

-- what stands at the first place of what passes a test
pub place_at : {X : Type 0} (test : X → Bool) (xs : List X) (n : ℕ) → place_of test xs ≡ Some n → (x : X) × (slice_get xs n ≡ Some x) × (test x ≡ true)
place_at test [] n h = cc
place_at {X} test (x ∷ xs) n h = by (test x) refl (place_of test xs) refl (place_at test xs) n h
  where
    by : (b : Bool) → test x ≡ b → (o : Option ℕ) → place_of test xs ≡ o
        → ((m : ℕ) → place_of test xs ≡ Some m → (y : X) × (slice_get xs m ≡ Some y) × (test y ≡ true))
        → (n : ℕ) → cond b (Some 0) (option_map suc o) ≡ Some n → (y : X) × (slice_get (x ∷ xs) n ≡ Some y) × (test y ≡ true)
    by true passes o e rest zero h = (x, refl, passes)
    by true passes o e rest (suc n) h = cc
    by false fails None e rest n h = cc
    by false fails (Some m) e rest zero h = cc
    by false fails (Some m) e rest (suc n) h = let same : Some m ≡ Some n = cc in rest n (e ∙ same)

-- something that passes is not before the first
pub place_upto : {X : Type 0} (test : X → Bool) (xs : List X) (k : ℕ) (x : X) → slice_get xs k ≡ Some x → test x ≡ true
    → (n : ℕ) × (place_of test xs ≡ Some n) × (n ≤ k)
place_upto test [] k x at passes = cc
place_upto test (y ∷ ys) zero x at passes = let same : y ≡ x = cc in (0, rw (ap test same ∙ passes) refl, omega arith)
place_upto test (y ∷ ys) (suc k) x at passes = by (test y) (place_upto test ys k x at passes)
  where
    by : (b : Bool) → (n : ℕ) × (place_of test ys ≡ Some n) × (n ≤ k) → (n : ℕ) × (cond b (Some 0) (option_map suc (place_of test ys)) ≡ Some n) × (n ≤ suc k)
    by true rest = (0, refl, omega arith)
    by false rest = (suc rest.0, rw rest.1 refl, omega arith)

-- the test of a place says that it is another
other_place : (n k : ℕ) → not (k == n) ≡ true → k ≢ n
other_place n k test same = let found : (k == n) ≡ true = eq-eqb k n same in absurd (false≢true (ap not (sym found) ∙ test))

at_other : (n k : ℕ) → k ≢ n → not (k == n) ≡ true
at_other n k differ = by (k == n) refl
  where
    by : (b : Bool) → (k == n) ≡ b → not b ≡ true
    by true e = absurd (differ (eqb-true k n e))
    by false e = refl

or_left : (a b : Bool) → a ≡ true → (a || b) ≡ true
or_left true b e = refl
or_left false b e = cc

or_right : (a b : Bool) → b ≡ true → (a || b) ≡ true
or_right true b e = refl
or_right false b e = e

module _ (s : Sources) (k : Kinds) (are : AreKinds s.modules s.cells s.models k) where
  -- the first module that has the name of a module
  first_of : (n : ℕ) (m : Module) → module_at s n ≡ Some m
      → (first : ℕ) × (other : Module) × (module_named s m.name ≡ Some first) × (first ≤ n) × (module_at s first ≡ Some other) × (other.name ≡ m.name)
  first_of n m there =
      let found = place_upto (λ (x : Module). same_name m.name x.name) s.modules n m there (same_name-itself m.name) in
      let at = place_at (λ (x : Module). same_name m.name x.name) s.modules found.0 found.1 in
      (found.0, at.0, found.1, found.2, at.1, sym (same_name-equal m.name at.0.name at.2))

  -- a module that the tables find twice is at fault
  pub fault_of_twice : (n : ℕ) (m : Module) → module_at s n ≡ Some m → is_twice k n m.name ≡ true → IsFault s (of_module FaultKind.module_twice n m)
  fault_of_twice n m there twice =
      elim (or_cases (is_some (first_place k.cells m.name)) (not (is_at n (first_place k.modules m.name))) twice) [
        | inl cell ↦ by_cell (cell_named s m.name) refl (ap is_some (sym (cell_found s k are m.name)) ∙ cell)
        | inr again ↦ by_module (first_of n m there) (ap (λ o. not (is_at n o)) (sym (module_found s k are m.name)) ∙ again)
      ]
    where
      by_cell : (o : Option ℕ) → cell_named s m.name ≡ o → is_some o ≡ true → IsFault s (of_module FaultKind.module_twice n m)
      by_cell None e some = absurd (false≢true some)
      by_cell (Some c) e some = IsFault.module_and_cell n c m there e

      by_module : (first : ℕ) × (other : Module) × (module_named s m.name ≡ Some first) × (first ≤ n) × (module_at s first ≡ Some other) × (other.name ≡ m.name)
          → not (is_at n (module_named s m.name)) ≡ true → IsFault s (of_module FaultKind.module_twice n m)
      by_module first other =
          let test : not (first.0 == n) ≡ true = ap (λ o. not (is_at n o)) (sym first.2) ∙ other in
          let differ : first.0 ≢ n = other_place n first.0 test in
          let le : first.0 ≤ n = first.3 in
          IsFault.module_twice n first.0 m first.1 there first.4 (omega arith) first.5

  -- a module that isn't the first of its name is found twice
  twice_by_module : (n earlier : ℕ) (m other : Module) → module_at s n ≡ Some m → module_at s earlier ≡ Some other → earlier < n → other.name ≡ m.name → is_twice k n m.name ≡ true
  twice_by_module n earlier m other there before less same =
      let found = place_upto (λ (x : Module). same_name m.name x.name) s.modules earlier other before (ap (same_name m.name) same ∙ same_name-itself m.name) in
      let le : found.0 ≤ earlier = found.2 in
      let differ : found.0 ≢ n = omega arith in
      or_right (is_some (first_place k.cells m.name)) (not (is_at n (first_place k.modules m.name)))
      (ap (λ o. not (is_at n o)) (module_found s k are m.name ∙ found.1) ∙ at_other n found.0 differ)

  twice_by_cell : (n c : ℕ) (m : Module) → cell_named s m.name ≡ Some c → is_twice k n m.name ≡ true
  twice_by_cell n c m cell =
      or_left (is_some (first_place k.cells m.name)) (not (is_at n (first_place k.modules m.name))) (ap is_some (cell_found s k are m.name ∙ cell))

  pub twice_of_fault : (g : Fault) → IsFault s g → kind_number g.kind ≡ 0
      → (n : ℕ) × (m : Module) × (g ≡ of_module FaultKind.module_twice n m) × (module_at s n ≡ Some m) × (is_twice k n m.name ≡ true)
  twice_of_fault _ (IsFault.module_twice n earlier m other there before lower same) e =
      (n, m, refl, there, twice_by_module n earlier m other there before lower same)
  twice_of_fault _ (IsFault.module_and_cell n c m there cell) e = (n, m, refl, there, twice_by_cell n c m cell)
  twice_of_fault f other e = cc

  -- the first module that is found twice is the first fault
  pub least_twice : (n : ℕ) (first : IsFirstTwice k s.modules n) → IsLeast fault_cmp (IsFault s) (of_module FaultKind.module_twice n first.m)
  least_twice n first = least_of_modules s FaultKind.module_twice n first.m (λ f is. omega arith) (fault_of_twice n first.m first.there first.twice) from
    where
      from : (g : Fault) → IsFault s g → kind_number g.kind ≡ 0 → IsFromModule s FaultKind.module_twice n first.m g
      from g is e =
          let found = twice_of_fault g is e in
          record { number = found.0; other = found.1; is = found.2; later = not_before found.0 found.1 found.3 found.4; same = one found.0 found.1 found.3 }
        where
          not_before : (number : ℕ) (other : Module) → module_at s number ≡ Some other → is_twice k number other.name ≡ true → n ≤ number
          not_before number other there twice =
              elim (cases_lt number n) [ inl less ↦ absurd (true≢false (sym twice ∙ first.first number other there less)) | inr le ↦ le ]

          one : (number : ℕ) (other : Module) → module_at s number ≡ Some other → n ≡ number → first.m ≡ other
          one number other there e = same_Some first.m other (sym first.there ∙ ap (module_at s) e ∙ there)

  -- where no module is found twice, no fault is of that kind
  pub none_twice : AreNamedApart k s.modules → HasNoneBefore FaultKind.port_mismatch s
  none_twice apart f is = by (kind_number f.kind) refl
    where
      by : (n : ℕ) → kind_number f.kind ≡ n → 1 ≤ n
      by zero e = let found = twice_of_fault f is e in absurd (true≢false (sym found.4 ∙ apart found.0 found.1 found.3))
      by (suc n) e = omega arith

  -- where no module is found twice, a module is the first of its name
  named_apart : AreNamedApart k s.modules → (n : ℕ) (m : Module) → module_at s n ≡ Some m → first_place k.modules m.name ≡ Some n
  named_apart apart n m there =
      let first = first_of n m there in
      let le : first.0 ≤ n = first.3 in
      elim (same_or_less first.0 n le) [
        | inl same ↦ module_found s k are m.name ∙ first.2 ∙ ap Some same
        | inr less ↦ absurd (true≢false (sym (twice_by_module n first.0 m first.1 there first.4 less first.5) ∙ apart n m there))
      ]

  fault_of_other : (n : ℕ) (model : Model) (other : HasOtherPorts k s.modules model n) → IsIn model s.models → IsFault s (of_module FaultKind.port_mismatch n other.m)
  fault_of_other n model other one =
      let named = place_at (λ (x : Module). same_name model.module x.name) s.modules n (sym (module_found s k are model.module) ∙ other.named) in
      let same : named.0 ≡ other.m = same_Some named.0 other.m (sym named.1 ∙ other.there) in
      IsFault.port_mismatch n other.m model other.there one (same_name-equal model.module named.0.name named.2 ∙ ap (λ (x : Module). x.name) same) other.other

  other_of_fault : AreNamedApart k s.modules → (g : Fault) → IsFault s g → kind_number g.kind ≡ 1
      → (n : ℕ) × (model : Model) × IsIn model s.models × (other : HasOtherPorts k s.modules model n) × (g ≡ of_module FaultKind.port_mismatch n other.m)
  other_of_fault apart _ (IsFault.port_mismatch n m model there one name ports) e =
      (n, model, one, record { m = m; named = ap (first_place k.modules) name ∙ named_apart apart n m there; there = there; other = ports }, refl)
  other_of_fault apart f other e = cc

  pub least_other : AreNamedApart k s.modules → (n : ℕ) (least : IsLeastOther k s.modules s.models n)
      → IsLeast fault_cmp (IsFault s) (of_module FaultKind.port_mismatch n least.other.m)
  least_other apart n least =
      least_of_modules s FaultKind.port_mismatch n least.other.m (none_twice apart) (fault_of_other n least.model least.other least.one) from
    where
      from : (g : Fault) → IsFault s g → kind_number g.kind ≡ 1 → IsFromModule s FaultKind.port_mismatch n least.other.m g
      from g is e =
          let found = other_of_fault apart g is e in
          record {
            number = found.0;
            other = found.3.m;
            is = found.4;
            later = least.least found.1 found.0 found.2 found.3;
            same = λ same. same_Some least.other.m found.3.m (sym least.other.there ∙ ap (module_at s) same ∙ found.3.there);
          }

  pub none_other : AreNamedApart k s.modules → AreAlike k s.modules s.models → HasNoneBefore FaultKind.recursion s
  none_other apart alike f is = by (kind_number f.kind) refl (none_twice apart f is)
    where
      by : (n : ℕ) → kind_number f.kind ≡ n → 1 ≤ n → 2 ≤ n
      by zero e le = omega arith
      by (suc zero) e le = let found = other_of_fault apart f is e in absurd (alike found.1 found.0 found.2 found.3)
      by (suc (suc n)) e le = omega arith

-- ONE MODEL MORE was looked at.
in_more : {X : Type 0} (x y : X) (xs : List X) → IsIn x (xs ++ y ∷ []) → IsIn x xs ⊎ (x ≡ y)
in_more x y xs there = elim (IsIn-append_cases x xs (y ∷ []) there) [ inl old ↦ inl old | inr new ↦ elim new [ inl e ↦ inr e | inr never ↦ absurd never ] ]

in_last : {X : Type 0} (y : X) (xs : List X) → IsIn y (xs ++ y ∷ [])
in_last y xs = IsIn-append_right y xs (y ∷ []) (inl refl)

lesser_of : (n a : ℕ) → ((n ≤ a) × (min n a ≡ n)) ⊎ ((a ≤ n) × (min n a ≡ a))
lesser_of n a = elim (cases_lt n a) [ inl less ↦ inl (omega arith, omega arith) | inr le ↦ inr (le, omega arith) ]

module _ (k : Kinds) (modules : List Module) where
  one_other : (model : Model) (n place : ℕ) → HasOtherPorts k modules model n → HasOtherPorts k modules model place → n ≡ place
  one_other model n place a b = same_Some n place (sym a.named ∙ b.named)

  pub other_more : (models : List Model) (model : Model) (least found : Option ℕ) → IsOtherAmong k modules models least
      → MatchOption found ((n : ℕ) → HasOtherPorts k modules model n → ⊥) (HasOtherPorts k modules model) → IsOtherAmong k modules (models ++ model ∷ []) (lesser least found)
  other_more models model None None alike none = alike_more
    where
      alike_more : AreAlike k modules (models ++ model ∷ [])
      alike_more later n there other =
          elim (in_more later model models there) [
            | inl old ↦ alike later n old other
            | inr same ↦ none n (subst (λ x. HasOtherPorts k modules x n) same other)
          ]
  other_more models model None (Some n) alike here = record { model = model; one = in_last model models; other = here; least = least }
    where
      least : (later : Model) (place : ℕ) → IsIn later (models ++ model ∷ []) → HasOtherPorts k modules later place → n ≤ place
      least later place there other =
          elim (in_more later model models there) [
            | inl old ↦ absurd (alike later place old other)
            | inr same ↦ (let e = one_other model n place here (subst (λ x. HasOtherPorts k modules x place) same other) in omega arith)
          ]
  other_more models model (Some n) None least none =
      record { model = least.model; one = IsIn-append_left least.model models (model ∷ []) least.one; other = least.other; least = still }
    where
      still : (later : Model) (place : ℕ) → IsIn later (models ++ model ∷ []) → HasOtherPorts k modules later place → n ≤ place
      still later place there other =
          elim (in_more later model models there) [
            | inl old ↦ least.least later place old other
            | inr same ↦ absurd (none place (subst (λ x. HasOtherPorts k modules x place) same other))
          ]
  other_more models model (Some n) (Some a) least here = by (lesser_of n a)
    where
      by : ((n ≤ a) × (min n a ≡ n)) ⊎ ((a ≤ n) × (min n a ≡ a)) → IsOtherAmong k modules (models ++ model ∷ []) (Some (min n a))
      by (inl old) =
          rw old.1 (record { model = least.model; one = IsIn-append_left least.model models (model ∷ []) least.one; other = least.other; least = still })
        where
          still : (later : Model) (place : ℕ) → IsIn later (models ++ model ∷ []) → HasOtherPorts k modules later place → n ≤ place
          still later place there other =
              elim (in_more later model models there) [
                | inl before ↦ least.least later place before other
                | inr same ↦ (let e = one_other model a place here (subst (λ x. HasOtherPorts k modules x place) same other) in let le = old.0 in omega arith)
              ]
      by (inr new) = rw new.1 (record { model = model; one = in_last model models; other = here; least = least_here })
        where
          least_here : (later : Model) (place : ℕ) → IsIn later (models ++ model ∷ []) → HasOtherPorts k modules later place → a ≤ place
          least_here later place there other =
              elim (in_more later model models there) [
                | inl before ↦ (let le = least.least later place before other in let lower = new.0 in omega arith)
                | inr same ↦ (let e = one_other model a place here (subst (λ x. HasOtherPorts k modules x place) same other) in omega arith)
              ]
