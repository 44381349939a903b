-- What a table finds: the names that it is of, each at its place.
use Rattle.std.proofs.Common.{◌≡◌, ◌≢◌, ◌⊎◌, ℕ, zero, suc, ◌+◌, ◌<◌, true, false, not, ◌&&◌, is_some, List, [], ◌∷◌, ◌++◌, length, get_or, Option, Some, None, IfSome, IfNone, slice_get, inl, inr, refl, sym, ap, ◌∙◌, subst, arith}
use Rattle.std.specs.List.{list_any}
use Rattle.std.proofs.lemmas.Bool.{cases_eq}
use Rattle.std.proofs.lemmas.List.{length_push}
use Rattle.std.proofs.lemmas.Option.{slice_get_within}
use Rattle.list_defs.specs.Members.{all_differ, place_of, same_name}
use Rattle.list_defs.proofs.NameLemmas.{all_differ-push, is_some-place_of, place_of-own, slice_get-place_of}
use Rattle.name_index.specs.declared.table.Link.{Link}
use Rattle.name_index.specs.declared.table.Table.{Table}
use Rattle.name_index.specs.Tables.{Finds, IsSameBut, IsSmooth, IsTable, KeepsNumbers, Leads, crowded_number, hash_of, head_of, nowhere, place_in, tag_of}

-- where neither the links nor the tree lead to a name, it isn't there
pub look_up-none : (names : List (List ℕ)) (name : List ℕ) (t : Table) (result : Option ℕ) → IsTable names t → all_differ same_name names ≡ true
    → ((n : ℕ) → Leads (tag_of name) t.links.items (head_of t name) n → slice_get names n ≢ Some name)
    → IfSome result (λ n. slice_get names n ≡ Some name)
    → IfNone result ((n : ℕ) → crowded_number t name ≡ Some n → slice_get names n ≢ Some name)
    → result ≡ place_of (same_name name) names
look_up-none names name t (Some n) table differ unlinked some none = sym (place_of-own name names n differ some)
look_up-none names name t None table differ unlinked some none = by (place_of (same_name name) names) refl
  where
    by : (o : Option ℕ) → place_of (same_name name) names ≡ o → None ≡ o
    by None e = refl
    by (Some m) e =
        let at = slice_get-place_of name names m e in
        elim (table.finds m name at) [ inl leads ↦ absurd (unlinked m leads at) | inr there ↦ absurd (none m there at) ]

-- where no two names are the same, a name has one place
one_place : (names : List (List ℕ)) (n m : ℕ) (name : List ℕ) → all_differ same_name names ≡ true → slice_get names n ≡ Some name → slice_get names m ≡ Some name → n ≡ m
one_place names n m name differ here there =
    let same = sym (place_of-own name names n differ here) ∙ place_of-own name names m differ there in
    cc

pub smooth_same : (name : List ℕ) (old new : Table) → IsSameBut name old new → IsSmooth old → IsSmooth new
smooth_same name old new same smooth = record {
  heads = λ p. omega (arith, ap length same.links, ap (λ hs. (get_or hs p nowhere).behind) same.heads, smooth.heads p);
  links = λ m. omega (arith, ap (λ ls. (get_or ls m nowhere).behind) same.links, smooth.links m);
}

pub found_same : (name : List ℕ) (old new : Table) → IsSameBut name old new → KeepsNumbers old new name
found_same name old new same = λ other n apart found.
    let head : head_of old other ≡ head_of new other = ap (λ hs. get_or hs (place_in (hash_of other) (length hs)) nowhere) (sym same.heads) in
    let P : Link → Type 0 = λ h. Leads (tag_of other) new.links.items h n in
    let Q : List Link → Type 0 = λ ls. Leads (tag_of other) ls (head_of old other) n in
    elim found [
      | inl leads ↦ inl (subst P head (subst Q (sym same.links) leads))
      | inr there ↦ inr (same.others other apart ∙ there)
    ]

-- the table that is made so far has the first names
pub record HasFirst (names : List (List ℕ)) (count : ℕ) (t : Table) : Type 0 where
  pub smooth : IsSmooth t
  pub count' : length t.links.items ≡ count
  pub places : 0 < length t.heads.items
  pub finds : (n : ℕ) (name : List ℕ) → n < count → slice_get names n ≡ Some name → Finds t name n

-- and one name more
pub first_more : (names : List (List ℕ)) (count : ℕ) (name : List ℕ) (old mid new : Table) → all_differ same_name names ≡ true → slice_get names count ≡ Some name
    → HasFirst names count old → IsSameBut name old mid → IsSmooth new → length new.heads.items ≡ length mid.heads.items → length new.links.items ≡ length mid.links.items + 1
    → Finds new name (length mid.links.items) → KeepsNumbers mid new name → HasFirst names (count + 1) new
first_more names count name old mid new differ here so_far same smooth places more found kept = record {
  smooth = smooth;
  count' = omega (arith, more, ap length same.links, so_far.count');
  places = omega (arith, places, ap length same.heads, so_far.places);
  finds = λ n other below at. by n other below at (cases_eq n count);
}
  where
    by : (n : ℕ) (other : List ℕ) → n < count + 1 → slice_get names n ≡ Some other → (n ≡ count) ⊎ (n ≢ count) → Finds new other n
    by n other below at (inl last) =
        let P : ℕ → Type 0 = λ m. Finds new name m in
        let Q : List ℕ → Type 0 = λ x. Finds new x n in
        let number : length mid.links.items ≡ n = omega (arith, ap length same.links, so_far.count', last) in
        let there : slice_get names n ≡ Some name = ap (slice_get names) last ∙ here in
        let one : name ≡ other = cc in
        subst Q one (subst P number found)
    by n other below at (inr early) =
        let R : List ℕ → Type 0 = λ x. slice_get names n ≡ Some x in
        let apart : other ≢ name = λ e. early (one_place names n count name differ (subst R e at) here) in
        kept other n apart (found_same name old mid same other n apart (so_far.finds n other (omega arith) at))

-- a table that has all names is the table of them
pub first_all : (names : List (List ℕ)) (count : ℕ) (t : Table) → count ≡ length names → HasFirst names count t → IsTable names t
first_all names count t all so_far = record {
  smooth = so_far.smooth;
  count = so_far.count' ∙ all;
  finds = λ n name at. so_far.finds n name (omega (arith, slice_get_within names n name at, all)) at;
}

-- a name that has no place is none of the names
other_name : (names : List (List ℕ)) (name other : List ℕ) (n : ℕ) → all_differ same_name names ≡ true → place_of (same_name name) names ≡ None → slice_get names n ≡ Some other → other ≢ name
other_name names name other n differ new at e =
    let P : List ℕ → Type 0 = λ x. place_of (same_name x) names ≡ Some n in
    let placed : place_of (same_name name) names ≡ Some n = subst P e (place_of-own other names n differ at) in
    cc

pub table_same : (names : List (List ℕ)) (name : List ℕ) (old new : Table) → all_differ same_name names ≡ true → place_of (same_name name) names ≡ None
    → IsSameBut name old new → IsTable names old → IsTable names new
table_same names name old new differ absent same table = record {
  smooth = smooth_same name old new same table.smooth;
  count = ap length same.links ∙ table.count;
  finds = λ n other at. found_same name old new same other n (other_name names name other n differ absent at) (table.finds n other at);
}

pushed : (xs : List (List ℕ)) (y : List ℕ) (n : ℕ) (v : List ℕ) → slice_get (xs ++ y ∷ []) n ≡ Some v → (slice_get xs n ≡ Some v) ⊎ ((n ≡ length xs) × (y ≡ v))
pushed [] y zero v at = let same : y ≡ v = cc in inr (refl, same)
pushed [] y (suc n) v at = cc
pushed (x ∷ xs) y zero v at = inl at
pushed (x ∷ xs) y (suc n) v at = elim (pushed xs y n v at) [ inl early ↦ inl early | inr last ↦ inr (ap suc last.0, last.1) ]

-- the table of one name more
pub table_more : (names more : List (List ℕ)) (name : List ℕ) (mid new : Table) → all_differ same_name names ≡ true → place_of (same_name name) names ≡ None → more ≡ names ++ name ∷ []
    → IsTable names mid → IsSmooth new → length new.links.items ≡ length mid.links.items + 1 → Finds new name (length mid.links.items) → KeepsNumbers mid new name → IsTable more new
table_more names more name mid new differ absent is table smooth count found kept = record {
  smooth = smooth;
  count = omega (arith, count, table.count, ap length is, length_push names name);
  finds = λ n other at. by n other (pushed names name n other (ap (λ ns. slice_get ns n) (sym is) ∙ at));
}
  where
    by : (n : ℕ) (other : List ℕ) → (slice_get names n ≡ Some other) ⊎ ((n ≡ length names) × (name ≡ other)) → Finds new other n
    by n other (inl early) = kept other n (other_name names name other n differ absent early) (table.finds n other early)
    by n other (inr last) =
        let P : ℕ → Type 0 = λ m. Finds new name m in
        let Q : List ℕ → Type 0 = λ x. Finds new x n in
        subst Q last.1 (subst P (table.count ∙ sym last.0) found)

pub none_there : (o : Option ℕ) → is_some o ≡ false → o ≡ None
none_there None e = refl
none_there (Some n) e = cc

-- a name that is added where it isn't leaves no two the same, and stands at the end
pub differ_more : (names more : List (List ℕ)) (name : List ℕ) → all_differ same_name names ≡ true → place_of (same_name name) names ≡ None → more ≡ names ++ name ∷ []
    → all_differ same_name more ≡ true
differ_more names more name differ absent is =
    let nowhere : list_any (same_name name) names ≡ false = sym (is_some-place_of (same_name name) names) ∙ ap is_some absent in
    ap (all_differ same_name) is ∙ all_differ-push names name ∙ ap (λ b. b && not (list_any (same_name name) names)) differ ∙ ap not nowhere

pub place_more : (names more : List (List ℕ)) (name : List ℕ) → all_differ same_name names ≡ true → place_of (same_name name) names ≡ None → more ≡ names ++ name ∷ []
    → place_of (same_name name) more ≡ Some (length names)
place_more names more name differ absent is =
    place_of-own name more (length names) (differ_more names more name differ absent is) (ap (λ ns. slice_get ns (length names)) is ∙ last names)
  where
    last : (xs : List (List ℕ)) → slice_get (xs ++ name ∷ []) (length xs) ≡ Some name
    last [] = refl
    last (x ∷ xs) = last xs
