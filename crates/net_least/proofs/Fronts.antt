-- Ways that begin with the same instance are in the order of what is behind it.
use Rattle.std.proofs.Common.{◌≡◌, ◌≢◌, ℕ, suc, List, [], ◌∷◌, ◌++◌, map, refl, sym, ap, ◌∙◌, length, inl, inr, arith}
use Rattle.std.specs.Cmp.{nat_cmp_is}
use Rattle.std.proofs.lemmas.Bool.{cases_order}
use Rattle.std.specs.Cmp.Lexicographic.{slice_cmp}
use Rattle.std.specs.Ordering.{nat_cmp, ordering_then}
use Rattle.std.proofs.lemmas.Map.Lookups.{exact_bytes}
use Rattle.std.specs.declared.cmp.Ordering.{Ordering}
use Rattle.std.specs.declared.cmp.Ordering.TheVariants.{Less, Equal, Greater}
use Rattle.list_defs.specs.Orders.{name_cmp}
use Rattle.design_defs.specs.Hierarchy.{Way, path, paths, way_cmp}
use Rattle.design_defs.specs.Names.{joined}
use Rattle.net_least.specs.Links.{AreNamed, by_text, ends, slashed}

pub append_all : {X : Type 0} (xs : List X) → xs ++ [] ≡ xs
append_all [] = refl
append_all (x ∷ xs) = ap (λ ys. x ∷ ys) (append_all xs)

pub append_same : {X : Type 0} (xs ys zs : List X) → (xs ++ ys) ++ zs ≡ xs ++ (ys ++ zs)
append_same [] ys zs = refl
append_same (x ∷ xs) ys zs = ap (λ ws. x ∷ ws) (append_same xs ys zs)

same_number : (c : ℕ) → nat_cmp c c ≡ Equal
same_number c = sym (nat_cmp_is c c Equal refl)

pub same_front : (name p q : List ℕ) → name_cmp (name ++ p) (name ++ q) ≡ name_cmp p q
same_front [] p q = refl
same_front (c ∷ cs) p q = ap (λ o. ordering_then o (name_cmp (cs ++ p) (cs ++ q))) (same_number c) ∙ same_front cs p q

front_first : (name : List ℕ) (c : ℕ) (p : List ℕ) → name_cmp name (name ++ c ∷ p) ≡ Less
front_first [] c p = refl
front_first (d ∷ ds) c p = ap (λ o. ordering_then o (name_cmp ds (ds ++ c ∷ p))) (same_number d) ∙ front_first ds c p

front_last : (name : List ℕ) (c : ℕ) (p : List ℕ) → name_cmp (name ++ c ∷ p) name ≡ Greater
front_last [] c p = refl
front_last (d ∷ ds) c p = ap (λ o. ordering_then o (name_cmp (ds ++ c ∷ p) ds)) (same_number d) ∙ front_last ds c p

same_name : (name : List ℕ) → name_cmp name name ≡ Equal
same_name [] = refl
same_name (d ∷ ds) = ap (λ o. ordering_then o (name_cmp ds ds)) (same_number d) ∙ same_name ds

joined_there : (p name : List ℕ) → p ≢ [] → joined p name ≡ p ++ 47 ∷ name
joined_there [] name some = absurd (some refl)
joined_there (c ∷ cs) name some = refl

some_appended : (p q : List ℕ) → p ≢ [] → p ++ q ≢ []
some_appended [] q some e = some refl
some_appended (c ∷ cs) q some e = cc

some_path : (name : List ℕ) (outer : Way) → AreNamed (name ∷ outer) → path (name ∷ outer) ≢ []
some_path name outer named = by (path outer)
  where
    by : (p : List ℕ) → joined p name ≢ []
    by [] e = named.0 e
    by (c ∷ cs) e = cc

pub slashed_more : (name : List ℕ) (outer : Way) → AreNamed outer → slashed outer ++ 47 ∷ name ≡ slashed (name ∷ outer)
slashed_more name [] named = refl
slashed_more name (x ∷ outer) named = ap (λ p. 47 ∷ p) (sym (joined_there (path (x ∷ outer)) name (some_path x outer named)))

-- the path of a way by its first name
pub path_by_first : (way : Way) (name : List ℕ) → name ≢ [] → AreNamed way → path (way ++ name ∷ []) ≡ name ++ slashed way
path_by_first [] name some named = sym (append_all name)
path_by_first (x ∷ outer) name some named =
    ap (λ p. joined p x) (path_by_first outer name some named.1) ∙ joined_there (name ++ slashed outer) x (some_appended name (slashed outer) some)
    ∙ append_same name (slashed outer) (47 ∷ x) ∙ ap (λ t. name ++ t) (slashed_more x outer named.1)

behind : List ℕ → List ℕ → List ℕ
behind name p = name ++ 47 ∷ p

paths_by_first : (way : Way) (name : List ℕ) → name ≢ [] → AreNamed way → paths (way ++ name ∷ []) ≡ map (behind name) (paths way) ++ name ∷ []
unfolding behind
paths_by_first [] name some named = refl
paths_by_first (x ∷ outer) name some named =
    let one : path ((x ∷ outer) ++ name ∷ []) ≡ name ++ 47 ∷ path (x ∷ outer) = path_by_first (x ∷ outer) name some named in
    let rest = paths_by_first outer name some named.1 in
    λ i. one i ∷ rest i

same_behind : (name : List ℕ) (ps qs : List (List ℕ))
    → slice_cmp name_cmp (map (behind name) ps ++ name ∷ []) (map (behind name) qs ++ name ∷ []) ≡ slice_cmp name_cmp ps qs
unfolding behind
same_behind name [] [] = ap (λ o. ordering_then o Equal) (same_name name)
same_behind name [] (q ∷ qs) = ap (λ o. ordering_then o (slice_cmp name_cmp [] (map (behind name) qs ++ name ∷ []))) (front_first name 47 q)
same_behind name (p ∷ ps) [] = ap (λ o. ordering_then o (slice_cmp name_cmp (map (behind name) ps ++ name ∷ []) [])) (front_last name 47 p)
same_behind name (p ∷ ps) (q ∷ qs) =
    let heads : name_cmp (name ++ 47 ∷ p) (name ++ 47 ∷ q) ≡ name_cmp p q = same_front name (47 ∷ p) (47 ∷ q) ∙ ap (λ o. ordering_then o (name_cmp p q)) (same_number 47) in
    λ i. ordering_then (heads i) (same_behind name ps qs i)

pub same_first : (v w : Way) (name : List ℕ) → name ≢ [] → AreNamed v → AreNamed w → way_cmp (v ++ name ∷ []) (w ++ name ∷ []) ≡ way_cmp v w
same_first v w name some named_v named_w =
    (λ i. slice_cmp name_cmp (paths_by_first v name some named_v i) (paths_by_first w name some named_w i)) ∙ same_behind name (paths v) (paths w)

-- ONE TEXT. Of two texts in one text, the shorter comes first.
next_numbers : (a b : ℕ) → nat_cmp a b ≡ nat_cmp (suc a) (suc b)
next_numbers a b =
    elim (cases_order a b) [
      | inl e ↦ sym (nat_cmp_is a b Equal e) ∙ nat_cmp_is (suc a) (suc b) Equal (ap suc e)
      | inr o ↦
          elim o [
            | inl less ↦ sym (nat_cmp_is a b Less less) ∙ nat_cmp_is (suc a) (suc b) Less (omega arith)
            | inr more ↦ sym (nat_cmp_is a b Greater more) ∙ nat_cmp_is (suc a) (suc b) Greater (omega arith)
          ]
    ]

by_length : (a b p q : List ℕ) → a ++ p ≡ b ++ q → name_cmp a b ≡ nat_cmp (length a) (length b)
by_length [] [] p q e = refl
by_length [] (d ∷ b) p q e = nat_cmp_is 0 (suc (length b)) Less (omega arith)
by_length (c ∷ a) [] p q e = nat_cmp_is (suc (length a)) 0 Greater (omega arith)
by_length (c ∷ a) (d ∷ b) p q e =
    let heads : c ≡ d = cc in
    let rest : a ++ p ≡ b ++ q = cc in
    ap (λ o. ordering_then o (name_cmp a b)) (ap (nat_cmp c) (sym heads) ∙ same_number c) ∙ by_length a b p q rest ∙ next_numbers (length a) (length b)

by_ends : (v w : Way) (p q : List ℕ) → AreNamed v → AreNamed w → slashed v ++ p ≡ slashed w ++ q → way_cmp v w ≡ slice_cmp nat_cmp (ends v) (ends w)
by_ends [] [] p q named_v named_w e = refl
by_ends [] (y ∷ u) p q named_v named_w e = refl
by_ends (x ∷ o) [] p q named_v named_w e = refl
by_ends (x ∷ o) (y ∷ u) p q named_v named_w e =
    let texts : path (x ∷ o) ++ p ≡ path (y ∷ u) ++ q = cc in
    let heads : name_cmp (path (x ∷ o)) (path (y ∷ u)) ≡ nat_cmp (suc (length (path (x ∷ o)))) (suc (length (path (y ∷ u)))) =
    by_length (path (x ∷ o)) (path (y ∷ u)) p q texts ∙ next_numbers (length (path (x ∷ o))) (length (path (y ∷ u))) in
    let front : slashed o ++ (47 ∷ x ++ p) ≡ slashed u ++ (47 ∷ y ++ q) =
    sym (append_same (slashed o) (47 ∷ x) p) ∙ ap (λ t. t ++ p) (slashed_more x o named_v.1) ∙ e ∙ ap (λ t. t ++ q) (sym (slashed_more y u named_w.1)) ∙ append_same (slashed u) (47 ∷ y) q in
    let rest = by_ends o u (47 ∷ x ++ p) (47 ∷ y ++ q) named_v.1 named_w.1 front in
    λ i. ordering_then (heads i) (rest i)

-- ways are in the order of their texts, and those of one text in that of their ends
pub way_by_text : (v w : Way) → AreNamed v → AreNamed w → way_cmp v w ≡ by_text (slashed v) (slashed w) (ends v) (ends w)
way_by_text [] [] named_v named_w = refl
way_by_text [] (y ∷ u) named_v named_w = refl
way_by_text (x ∷ o) [] named_v named_w = refl
way_by_text (x ∷ o) (y ∷ u) named_v named_w =
    by (name_cmp (path (x ∷ o)) (path (y ∷ u))) refl
    ∙ ap (λ c. ordering_then (ordering_then c (name_cmp (path (x ∷ o)) (path (y ∷ u)))) (slice_cmp nat_cmp (ends (x ∷ o)) (ends (y ∷ u)))) (sym (same_number 47))
  where
    by : (c : Ordering) → name_cmp (path (x ∷ o)) (path (y ∷ u)) ≡ c
        → way_cmp (x ∷ o) (y ∷ u) ≡ ordering_then (name_cmp (path (x ∷ o)) (path (y ∷ u))) (slice_cmp nat_cmp (ends (x ∷ o)) (ends (y ∷ u)))
    by Less e = ap (λ c. ordering_then c (slice_cmp name_cmp (paths o) (paths u))) e ∙ sym (ap (λ c. ordering_then c (slice_cmp nat_cmp (ends (x ∷ o)) (ends (y ∷ u)))) e)
    by Greater e = ap (λ c. ordering_then c (slice_cmp name_cmp (paths o) (paths u))) e ∙ sym (ap (λ c. ordering_then c (slice_cmp nat_cmp (ends (x ∷ o)) (ends (y ∷ u)))) e)
    by Equal e =
        let same = exact_bytes (path (x ∷ o)) (path (y ∷ u)) e in
        by_ends (x ∷ o) (y ∷ u) [] [] named_v named_w (ap (λ t. (47 ∷ t) ++ []) same) ∙ sym (ap (λ c. ordering_then c (slice_cmp nat_cmp (ends (x ∷ o)) (ends (y ∷ u)))) e)
