-- Marks of names, and names that go on behind none that is marked.
use Rattle.std.proofs.Common.{◌≡◌, ◌⊎◌, ℕ, ◌+◌, ◌<◌, true, List, [], ◌∷◌, ◌++◌, Option, None, Some, get_or, length, map, option_and_then, set, slice_get, take, inl, inr, refl, sym, ap, ◌∙◌, subst}
use Rattle.std.proofs.lemmas.Bool.{cases_eq}
use Rattle.std.proofs.lemmas.List.{length-set, take_more}
use Rattle.std.proofs.lemmas.Option.{option_and_then_some, slice_get_within}
use Rattle.pw_defs.specs.declared.netlist.Port.{Port}
use Rattle.list_defs.specs.Members.{IsIn, all_differ, place_of, same_name}
use Rattle.list_defs.proofs.Longer.{slice_get-set_other, slice_get-set_same}
use Rattle.list_defs.proofs.Members.{IsIn-append_cases, IsIn-map, IsIn-map_from}
use Rattle.list_defs.proofs.NameLemmas.{place_of-own}
use Rattle.net_names.specs.Apart.{GoesOn, IsSmall}
use Rattle.net_names.specs.Marks.{AreMarked, AreVectorsMarked, IsMarked, IsVectorName, MarksVector}

-- ITEMS of a list, one after the other
pub in_more : {X : Type 0} (xs : List X) (i : ℕ) (d x : X) → i < length xs → IsIn x (take (i + 1) xs) → IsIn x (take i xs) ⊎ (x ≡ get_or xs i d)
in_more xs i d x within there =
    elim (IsIn-append_cases x (take i xs) (get_or xs i d ∷ []) (subst (IsIn x) (take_more xs i d within) there))
    [ inl early ↦ inl early | inr last ↦ elim last [ inl e ↦ inr e | inr none ↦ absurd none ] ]

pub each_more : {X : Type 0} (P : X → Type 0) (xs : List X) (i : ℕ) (d : X) → i < length xs → ((x : X) → IsIn x (take i xs) → P x) → P (get_or xs i d)
    → (x : X) → IsIn x (take (i + 1) xs) → P x
each_more P xs i d within early last x there = elim (in_more xs i d x within there) [ inl before ↦ early x before | inr e ↦ subst P (sym e) last ]

-- MARKS
-- the symbol that bears the mark of a name
record HasMark (symbols : List (List ℕ)) (marks : List ℕ) (stamp : ℕ) (name : List ℕ) : Type 0 where
  pub symbol : ℕ
  pub is_symbol : place_of (same_name name) symbols ≡ Some symbol
  pub bears : slice_get marks symbol ≡ Some stamp

has_mark : (symbols : List (List ℕ)) (marks : List ℕ) (stamp : ℕ) (name : List ℕ) → IsMarked symbols marks stamp name → HasMark symbols marks stamp name
has_mark symbols marks stamp name is =
    option_and_then_some (λ symbol. slice_get marks symbol) (place_of (same_name name) symbols) stamp is
    (λ symbol is_symbol bears. record { symbol = symbol; is_symbol = is_symbol; bears = bears })

is_marked_by : (symbols : List (List ℕ)) (marks : List ℕ) (stamp : ℕ) (name : List ℕ) (symbol : ℕ) → place_of (same_name name) symbols ≡ Some symbol
    → slice_get marks symbol ≡ Some stamp → IsMarked symbols marks stamp name
is_marked_by symbols marks stamp name symbol is bears = ap (option_and_then (λ k. slice_get marks k)) is ∙ bears

still_marked : (symbols : List (List ℕ)) (marks : List ℕ) (stamp symbol : ℕ) (name : List ℕ) → symbol < length marks → IsMarked symbols marks stamp name
    → IsMarked symbols (set marks symbol stamp) stamp name
still_marked symbols marks stamp symbol name within is = by (has_mark symbols marks stamp name is)
  where
    by : HasMark symbols marks stamp name → IsMarked symbols (set marks symbol stamp) stamp name
    by m = elim (cases_eq m.symbol symbol) [
      | inl e ↦ is_marked_by symbols (set marks symbol stamp) stamp name symbol (m.is_symbol ∙ ap Some e) (slice_get-set_same marks symbol stamp within)
      | inr other ↦ is_marked_by symbols (set marks symbol stamp) stamp name m.symbol m.is_symbol (slice_get-set_other marks symbol m.symbol stamp other ∙ m.bears)
    ]

pub none_marked : (symbols : List (List ℕ)) (marks : List ℕ) (stamp : ℕ) (P : List ℕ → Type 0) → length marks ≡ length symbols
    → ((name : List ℕ) → P name → ⊥) → AreMarked symbols marks stamp P
none_marked symbols marks stamp P count none = record { count = count; each = λ name holds. absurd (none name holds) }

-- one name more bears the mark
pub mark_more : (symbols : List (List ℕ)) (marks : List ℕ) (stamp symbol : ℕ) (last : List ℕ) (P Q : List ℕ → Type 0) → all_differ same_name symbols ≡ true
    → slice_get symbols symbol ≡ Some last → ((name : List ℕ) → Q name → P name ⊎ (name ≡ last)) → AreMarked symbols marks stamp P
    → AreMarked symbols (set marks symbol stamp) stamp Q
mark_more symbols marks stamp symbol last P Q differ is more marked = record {
  count = length-set marks symbol stamp ∙ marked.count;
  each = λ name holds. by name (more name holds);
}
  where
    within : symbol < length marks
    within = subst (λ (n : ℕ). symbol < n) (sym marked.count) (slice_get_within symbols symbol last is)

    by : (name : List ℕ) → P name ⊎ (name ≡ last) → IsMarked symbols (set marks symbol stamp) stamp name
    by name (inl before) = still_marked symbols marks stamp symbol name within (marked.each name before)
    by name (inr e) =
        subst (IsMarked symbols (set marks symbol stamp) stamp) (sym e)
        (is_marked_by symbols (set marks symbol stamp) stamp last symbol (place_of-own last symbols symbol differ is) (slice_get-set_same marks symbol stamp within))

pub mark_fewer : (symbols : List (List ℕ)) (marks : List ℕ) (stamp : ℕ) (P Q : List ℕ → Type 0) → ((name : List ℕ) → Q name → P name) → AreMarked symbols marks stamp P
    → AreMarked symbols marks stamp Q
mark_fewer symbols marks stamp P Q from marked = record { count = marked.count; each = λ name holds. marked.each name (from name holds) }

-- the names of one item more
pub name_more : {X : Type 0} (name_of : X → List ℕ) (xs : List X) (i : ℕ) (d : X) (name : List ℕ) → i < length xs → IsIn name (map name_of (take (i + 1) xs))
    → IsIn name (map name_of (take i xs)) ⊎ (name ≡ name_of (get_or xs i d))
name_more name_of xs i d name within there = by (IsIn-map_from name_of name (take (i + 1) xs) there)
  where
    by : (x : _) × IsIn x (take (i + 1) xs) × (name ≡ name_of x) → IsIn name (map name_of (take i xs)) ⊎ (name ≡ name_of (get_or xs i d))
    by found = elim (in_more xs i d found.0 within found.1) [
      | inl early ↦ inl (subst (λ n. IsIn n (map name_of (take i xs))) (sym found.2) (IsIn-map name_of found.0 (take i xs) early))
      | inr e ↦ inr (found.2 ∙ ap name_of e)
    ]

-- FREE names
parts_at : (name front rest : List ℕ) (byte : ℕ) → name ≡ front ++ byte ∷ rest → (slice_get name (length front) ≡ Some byte) × (take (length front) name ≡ front)
parts_at name front rest byte e = (ap (λ n. slice_get n (length front)) e ∙ at front, ap (take (length front)) e ∙ front_of front)
  where
    at : (xs : List ℕ) → slice_get (xs ++ byte ∷ rest) (length xs) ≡ Some byte
    at [] = refl
    at (x ∷ xs) = at xs

    front_of : (xs : List ℕ) → take (length xs) (xs ++ byte ∷ rest) ≡ xs
    front_of [] = refl
    front_of (x ∷ xs) = ap (λ ys. x ∷ ys) (front_of xs)

pub goes_nowhere : (P : List ℕ → Type 0) (byte : ℕ) (name : List ℕ) → ((at : ℕ) → at < length name → slice_get name at ≡ Some byte → P (take at name) → ⊥)
    → (front : List ℕ) → GoesOn byte front name → P front → ⊥
goes_nowhere P byte name none front on holds =
    let parts = parts_at name front on.0 byte on.1 in
    none (length front) (slice_get_within name (length front) byte parts.0) parts.0 (subst P (sym parts.1) holds)

-- PORTS whose names are marked, one after the other
pub vectors_none : (symbols : List (List ℕ)) (marks : List ℕ) (stamp : ℕ) → length marks ≡ length symbols → AreVectorsMarked symbols marks stamp []
vectors_none symbols marks stamp count = record {
  marked = none_marked symbols marks stamp (IsVectorName []) count (λ name is. is.one);
  small = λ p none. absurd none;
}

small_of : (old new : List ℕ) (symbol stamp : ℕ) (range : Option (ℕ × ℕ)) → MarksVector old symbol stamp range new → IsSmall range
small_of old new symbol stamp None marks = tt
small_of old new symbol stamp (Some r) marks = (marks.1, marks.2)

vectors_step : (symbols : List (List ℕ)) (old new : List ℕ) (stamp symbol : ℕ) (ports more : List Port) (p : Port) (range : Option (ℕ × ℕ)) → p.range ≡ range
    → all_differ same_name symbols ≡ true → slice_get symbols symbol ≡ Some p.name → ((q : Port) → IsIn q more → IsIn q ports ⊎ (q ≡ p))
    → MarksVector old symbol stamp range new → AreMarked symbols old stamp (IsVectorName ports) → AreMarked symbols new stamp (IsVectorName more)
vectors_step symbols old new stamp symbol ports more p None ranged differ is from marks marked =
    subst (λ ms. AreMarked symbols ms stamp (IsVectorName more)) (sym marks)
    (mark_fewer symbols old stamp (IsVectorName ports) (IsVectorName more) (λ name v. before name v (from v.p v.one)) marked)
  where
    none_some : (r : ℕ × ℕ) → None ≡ Some r → ⊥
    none_some r e = cc

    before : (name : List ℕ) (v : IsVectorName more name) → IsIn v.p ports ⊎ (v.p ≡ p) → IsVectorName ports name
    before name v (inl early) = record { p = v.p; range = v.range; one = early; ranged = v.ranged; same = v.same }
    before name v (inr e) = absurd (none_some v.range (sym ranged ∙ ap (λ (q : Port). q.range) (sym e) ∙ v.ranged))
vectors_step symbols old new stamp symbol ports more p (Some r) ranged differ is from marks marked =
    subst (λ ms. AreMarked symbols ms stamp (IsVectorName more)) (sym marks.0)
    (mark_more symbols old stamp symbol p.name (IsVectorName ports) (IsVectorName more) differ is (λ name v. before name v (from v.p v.one)) marked)
  where
    before : (name : List ℕ) (v : IsVectorName more name) → IsIn v.p ports ⊎ (v.p ≡ p) → IsVectorName ports name ⊎ (name ≡ p.name)
    before name v (inl early) = inl (record { p = v.p; range = v.range; one = early; ranged = v.ranged; same = v.same })
    before name v (inr e) = inr (sym v.same ∙ ap (λ (q : Port). q.name) e)

pub vectors_more : (symbols : List (List ℕ)) (old new : List ℕ) (stamp symbol : ℕ) (ports : List Port) (i : ℕ) (d : Port) (range : Option (ℕ × ℕ)) → i < length ports
    → range ≡ (get_or ports i d).range → all_differ same_name symbols ≡ true → slice_get symbols symbol ≡ Some (get_or ports i d).name
    → MarksVector old symbol stamp range new → AreVectorsMarked symbols old stamp (take i ports) → AreVectorsMarked symbols new stamp (take (i + 1) ports)
vectors_more symbols old new stamp symbol ports i d range within ranged differ is marks before = record {
  marked = vectors_step symbols old new stamp symbol (take i ports) (take (i + 1) ports) (get_or ports i d) range (sym ranged) differ is
      (λ q there. in_more ports i d q within there) marks before.marked;
  small = each_more (λ (q : Port). IsSmall q.range) ports i d within before.small (subst IsSmall ranged (small_of old new symbol stamp range marks));
}
