-- A table of one place in which two names are linked, whatever its tree, and how its links lead.
use Rattle.std.proofs.Common.{◌≡◌, ℕ, zero, suc, ◌+◌, ◌≤◌, List, [], ◌∷◌, length, get_or, Some, slice_get, inl, refl, sym, ap, subst, arith}
use Rattle.std.specs.Prelude.{codes}
use Rattle.std.specs.Int.Bits.{and_zero_r}
use Rattle.name_index.specs.declared.table.Link.{Link}
use Rattle.name_index.specs.declared.table.Table.{Table}
use Rattle.name_index.specs.Tables.{Finds, IsTable, Leads, hash_of, head_of, nowhere, place_in, tag_of}

-- links to the first and the second name, with these tags
abbrev to_first : ℕ → Link
to_first tag = record { behind = 1; tag = tag }

abbrev to_second : ℕ → Link
to_second tag = record { behind = 2; tag = tag }

abbrev a : ℕ
a = tag_of (codes "a")

abbrev b : ℕ
b = tag_of (codes "b")

abbrev two : ℕ → List Link
two tag = nowhere ∷ to_first tag ∷ []

-- from the head the links lead to the second name, where its tag is the one that is looked for
pub leads_to_the_second : (x y : ℕ) → Leads y (two x) (to_second y) 1
leads_to_the_second x y = Leads.here (to_second y) 1 refl refl

-- and on to the first
pub leads_to_the_first : (x y : ℕ) → Leads x (two x) (to_second y) 0
leads_to_the_first x y = Leads.goes (to_second y) 1 (to_first x) 0 refl refl (Leads.here (to_first x) 0 refl refl)

-- and to no name of another tag
pub leads_to_no_other_tag : ¬ Leads 7 (two 5) (to_second 6) 1
leads_to_no_other_tag (Leads.here link n is same) = omega (arith, same)
leads_to_no_other_tag (Leads.goes link m next n is at rest) = later m next is at rest
  where
    nowhere_on : (link : Link) → link.behind ≡ 0 → ¬ Leads 7 (two 5) link 1
    nowhere_on _ none (Leads.here link n is same) = omega (arith, none, is)
    nowhere_on _ none (Leads.goes link m next n is at rest) = omega (arith, none, is)

    from_first : (link : Link) → link.behind ≡ 1 → ¬ Leads 7 (two 5) link 1
    from_first _ one (Leads.here link n is same) = omega (arith, one, is)
    from_first _ one (Leads.goes link zero next n is at rest) = let end : next ≡ nowhere = cc in nowhere_on next (ap (λ (l : Link). l.behind) end) rest
    from_first _ one (Leads.goes link (suc m) next n is at rest) = omega (arith, one, is)

    later : (m : ℕ) (next : Link) → 2 ≡ m + 1 → slice_get (two 5) m ≡ Some next → ¬ Leads 7 (two 5) next 1
    later zero next is at rest = omega (arith, is)
    later (suc zero) next is at rest = let one : next ≡ to_first 5 = cc in from_first next (ap (λ (l : Link). l.behind) one) rest
    later (suc (suc m)) next is at rest = omega (arith, is)

head_there : (t : Table) (name : List ℕ) (link : Link) → t.heads.items ≡ link ∷ [] → head_of t name ≡ link
unfolding place_in
head_there t name link heads =
    let at : place_in (hash_of name) 1 ≡ 0 = and_zero_r (hash_of name) in
    rw heads (ap (λ place. get_or (link ∷ []) place nowhere) at)

pub two_names_in_a_table : (t : Table) → t.heads.items ≡ to_second b ∷ [] → t.links.items ≡ two a → IsTable (codes "a" ∷ codes "b" ∷ []) t
two_names_in_a_table t heads links = record {
  smooth = record {
    heads = λ place. omega (arith, ap length links, ap (λ hs. (get_or hs place nowhere).behind) heads, few_heads place);
    links = λ n. omega (arith, ap (λ ls. (get_or ls n nowhere).behind) links, falling n);
  };
  count = ap length links;
  finds = found;
}
  where
    few_heads : (place : ℕ) → (get_or (to_second b ∷ []) place nowhere).behind ≤ 2
    few_heads zero = omega arith
    few_heads (suc place) = omega arith

    falling : (n : ℕ) → (get_or (two a) n nowhere).behind ≤ n
    falling zero = omega arith
    falling (suc zero) = omega arith
    falling (suc (suc n)) = omega arith

    leads : (name : List ℕ) (n : ℕ) → Leads (tag_of name) (two a) (to_second b) n → Finds t name n
    leads name n there =
        let P : List Link → Type 0 = λ ls. Leads (tag_of name) ls (head_of t name) n in
        let Q : Link → Type 0 = λ head. Leads (tag_of name) (two a) head n in
        inl (subst P (sym links) (subst Q (sym (head_there t name (to_second b) heads)) there))

    found : (n : ℕ) (name : List ℕ) → slice_get (codes "a" ∷ codes "b" ∷ []) n ≡ Some name → Finds t name n
    found zero name at = let is : codes "a" ≡ name = cc in subst (λ x. Finds t x 0) is (leads (codes "a") 0 (leads_to_the_first a b))
    found (suc zero) name at = let is : codes "b" ≡ name = cc in subst (λ x. Finds t x 1) is (leads (codes "b") 1 (leads_to_the_second a b))
    found (suc (suc n)) name at = cc
