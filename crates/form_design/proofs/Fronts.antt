-- Where all names of a module differ, its ports do, and its nets.
use Rattle.std.proofs.Common.{◌≡◌, ℕ, zero, suc, Option, Some, None, slice_get, MatchOption, Bool, true, false, not, ◌&&◌, ◌||◌, List, [], ◌∷◌, ◌++◌, map, refl, sym, ap, ◌∙◌, subst}
use Rattle.std.proofs.lemmas.Bool.{false≢true}
use Rattle.std.proofs.lemmas.List.Folds.{list_any-append}
use Rattle.std.specs.Prelude.{IsSomeAnd}
use Rattle.std.specs.List.{list_any, list_all, filter_map}
use Rattle.line_forms.specs.declared.netlist_lines.ModuleLines.{ModuleLines}
use Rattle.list_defs.specs.Members.{all_differ, same_name}
use Rattle.form_design.specs.Names.{port_names, nets, names, inst_names, wire_of}

front : (a b c d : Bool) → (not (a || b) && c) ≡ true → (c ≡ true → d ≡ true) → (not a && d) ≡ true
front true b c d h f = absurd (false≢true h)
front false true c d h f = absurd (false≢true h)
front false false c d h f = f h

differ_in_front : {X : Type 0} (same : X → X → Bool) (xs ys : List X) → all_differ same (xs ++ ys) ≡ true → all_differ same xs ≡ true
differ_in_front same [] ys h = refl
differ_in_front same (x ∷ xs) ys h =
    front (list_any (same x) xs) (list_any (same x) ys) (all_differ same (xs ++ ys)) (all_differ same xs)
    (ap (λ b. not b && all_differ same (xs ++ ys)) (sym (list_any-append (same x) xs ys)) ∙ h) (differ_in_front same xs ys)

both_true : (a b c d : Bool) → (a ≡ true → c ≡ true) → (b ≡ true → d ≡ true) → (a && b) ≡ true → (c && d) ≡ true
both_true true b c d f g h = subst (λ (e : Bool). (e && d) ≡ true) (sym (f refl)) (g h)
both_true false b c d f g h = absurd (false≢true h)

pub nets_differ : (ms : List ModuleLines) → list_all (λ m. all_differ same_name (names m)) ms ≡ true → list_all (all_differ same_name) (map nets ms) ≡ true
nets_differ [] h = refl
nets_differ (m ∷ ms) h =
    both_true (all_differ same_name (names m)) (list_all (λ n. all_differ same_name (names n)) ms) (all_differ same_name (nets m)) (list_all (all_differ same_name) (map nets ms))
    (differ_in_front same_name (nets m) (inst_names m)) (nets_differ ms) h

pub ports_differ : (ms : List ModuleLines) → list_all (λ m. all_differ same_name (names m)) ms ≡ true → list_all (all_differ same_name) (map port_names ms) ≡ true
ports_differ [] h = refl
ports_differ (m ∷ ms) h =
    both_true (all_differ same_name (names m)) (list_all (λ n. all_differ same_name (names n)) ms) (all_differ same_name (port_names m)) (list_all (all_differ same_name) (map port_names ms))
    (λ d. differ_in_front same_name (port_names m) (filter_map wire_of m.items) (differ_in_front same_name (nets m) (inst_names m) d)) (ports_differ ms) h

behind : (a c d : Bool) → (not a && c) ≡ true → (c ≡ true → d ≡ true) → d ≡ true
behind true c d h f = absurd (false≢true h)
behind false c d h f = f h

differ_behind : {X : Type 0} (same : X → X → Bool) (xs ys : List X) → all_differ same (xs ++ ys) ≡ true → all_differ same ys ≡ true
differ_behind same [] ys h = h
differ_behind same (x ∷ xs) ys h = behind (list_any (same x) (xs ++ ys)) (all_differ same (xs ++ ys)) (all_differ same ys) h (differ_behind same xs ys)

first_true : (a b : Bool) → (a && b) ≡ true → a ≡ true
first_true true b h = refl
first_true false b h = absurd (false≢true h)

rest_true : (a b : Bool) → (a && b) ≡ true → b ≡ true
rest_true true b h = h
rest_true false b h = absurd (false≢true h)

-- where all names of each module differ, those of the instances of a module do
pub insts_differ : (ms : List ModuleLines) (n : ℕ) (m : ModuleLines) → list_all (λ x. all_differ same_name (names x)) ms ≡ true → slice_get ms n ≡ Some m
    → all_differ same_name (inst_names m) ≡ true
insts_differ [] n m h at = cc
insts_differ (x ∷ xs) zero m h at =
    let is : x ≡ m = cc in
    differ_behind same_name (nets m) (inst_names m)
    (subst (λ (y : ModuleLines). all_differ same_name (names y) ≡ true) is (first_true (all_differ same_name (names x)) (list_all (λ y. all_differ same_name (names y)) xs) h))
insts_differ (x ∷ xs) (suc n) m h at = insts_differ xs n m (rest_true (all_differ same_name (names x)) (list_all (λ y. all_differ same_name (names y)) xs) h) at

-- an index of names that differ is there, and has them
pub index_there : (index : Option (List (List ℕ))) (differ : Bool) (made wanted : List (List ℕ)) (P : List (List ℕ) → Type 0)
    → MatchOption index (differ ≡ false) (λ is. (is ≡ made) × P is) → differ ≡ true → made ≡ wanted → IsSomeAnd index (λ is. is ≡ wanted)
index_there None differ made wanted P h is_true e = absurd (false≢true (sym h ∙ is_true))
index_there (Some is) differ made wanted P h is_true e = h.0 ∙ e
