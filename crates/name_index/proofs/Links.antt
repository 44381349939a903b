-- Where links lead, and one link more.
use Rattle.std.proofs.Common.{◌≡◌, ◌≢◌, ◌⊎◌, ℕ, zero, suc, ◌+◌, ◌-◌, ◌<◌, ◌≤◌, List, [], ◌∷◌, ◌++◌, length, get_or, set, Some, slice_get, inl, inr, refl, sym, ap, ◌∙◌, subst, arith}
use Rattle.std.proofs.lemmas.Bool.{cases_eq, cases_lt}
use Rattle.std.proofs.lemmas.Nat.{and_le_r}
use Rattle.std.proofs.lemmas.List.{get_or-set_same, get_or-set_other, get_or_append_left, get_or_at, get_or_past, length_push, length-set}
use Rattle.name_index.specs.declared.table.Link.{Link}
use Rattle.name_index.specs.declared.table.Table.{Table}
use Rattle.name_index.specs.Tables.{Finds, IsLinked, IsSmooth, Leads, hash_of, nowhere, number_in, place_in, tag_of}

-- the link to no name leads nowhere
pub leads_nowhere : (tag : ℕ) (links : List Link) (link : Link) (n : ℕ) → link.behind ≡ 0 → Leads tag links link n → ⊥
leads_nowhere tag links _ _ none (Leads.here link n is same) = omega (arith, none, is)
leads_nowhere tag links _ _ none (Leads.goes link m next n is at rest) = omega (arith, none, is)

-- a link leads to the name that it is of, where its tag is that of the name, or on
pub leads_on : (tag : ℕ) (links : List Link) (link next : Link) (n : ℕ) → 0 < link.behind → slice_get links (link.behind - 1) ≡ Some next → (link.tag ≡ tag → n ≡ link.behind - 1 → ⊥)
    → Leads tag links link n → Leads tag links next n
leads_on tag links _ next _ some at other (Leads.here link n is same) = absurd (other same (omega (arith, is)))
leads_on tag links _ next _ some at other (Leads.goes link m next' n is there rest) =
    let same : link.behind - 1 ≡ m = omega (arith, is) in
    let next_there : slice_get links m ≡ Some next = subst (λ k. slice_get links k ≡ Some next) same at in
    let on : next' ≡ next = cc in
    let P : Link → Type 0 = λ k. Leads tag links k n in
    subst P on rest

slice_get-push : (xs : List Link) (y : Link) (m : ℕ) (v : Link) → slice_get xs m ≡ Some v → slice_get (xs ++ y ∷ []) m ≡ Some v
slice_get-push [] y m v at = cc
slice_get-push (x ∷ xs) y zero v at = at
slice_get-push (x ∷ xs) y (suc m) v at = slice_get-push xs y m v at

slice_get-last : (xs : List Link) (y : Link) → slice_get (xs ++ y ∷ []) (length xs) ≡ Some y
slice_get-last [] y = refl
slice_get-last (x ∷ xs) y = slice_get-last xs y

-- a link that is added leads away from nothing
pub leads_still : (tag : ℕ) (links : List Link) (x link : Link) (n : ℕ) → Leads tag links link n → Leads tag (links ++ x ∷ []) link n
leads_still tag links x _ _ (Leads.here link n is same) = Leads.here link n is same
leads_still tag links x _ _ (Leads.goes link m next n is at rest) =
    Leads.goes link m next n is (slice_get-push links x m next at) (leads_still tag links x next n rest)

-- a new name at a place leads to those that were there
pub leads_past : (tag : ℕ) (heads links : List Link) (place q : ℕ) (new : Link) (n : ℕ) → place < length heads → new.behind ≡ length links + 1 → Leads tag links (get_or heads q nowhere) n
    → Leads tag (links ++ get_or heads place nowhere ∷ []) (get_or (set heads place new) q nowhere) n
leads_past tag heads links place q new n within is leads = by (cases_eq q place)
  where
    by : (q ≡ place) ⊎ (q ≢ place) → Leads tag (links ++ get_or heads place nowhere ∷ []) (get_or (set heads place new) q nowhere) n
    by (inl same) =
        let P : Link → Type 0 = λ k. Leads tag (links ++ get_or heads place nowhere ∷ []) k n in
        let Q : ℕ → Type 0 = λ k. Leads tag links (get_or heads k nowhere) n in
        let old : Leads tag links (get_or heads place nowhere) n = subst Q same leads in
        let head : new ≡ get_or (set heads place new) q nowhere = sym (ap (λ k. get_or (set heads place new) k nowhere) same ∙ get_or-set_same heads place new nowhere within) in
        let first = get_or heads place nowhere in
        subst P head (Leads.goes new (length links) first n is (slice_get-last links first) (leads_still tag links first first n old))
    by (inr other) =
        let P : Link → Type 0 = λ k. Leads tag (links ++ get_or heads place nowhere ∷ []) k n in
        subst P (sym (get_or-set_other heads place q new nowhere other)) (leads_still tag links (get_or heads place nowhere) (get_or heads q nowhere) n leads)

-- the heads are still of names that there are
pub heads_within : (heads : List Link) (count place : ℕ) (new : Link) → ((p : ℕ) → (get_or heads p nowhere).behind ≤ count) → place < length heads → new.behind ≤ count + 1 → (p : ℕ) → (get_or (set heads place new) p nowhere).behind ≤ count + 1
heads_within heads count place new within here few p = by (cases_eq p place)
  where
    by : (p ≡ place) ⊎ (p ≢ place) → (get_or (set heads place new) p nowhere).behind ≤ count + 1
    by (inl same) = omega (arith, few, ap (λ k. (get_or (set heads place new) k nowhere).behind) same, ap (λ (l : Link). l.behind) (get_or-set_same heads place new nowhere here))
    by (inr other) = omega (arith, ap (λ (l : Link). l.behind) (get_or-set_other heads place p new nowhere other), within p)

-- and each link still goes to an earlier name
pub links_fall : (links : List Link) (x : Link) → ((m : ℕ) → (get_or links m nowhere).behind ≤ m) → x.behind ≤ length links → (m : ℕ) → (get_or (links ++ x ∷ []) m nowhere).behind ≤ m
links_fall links x fall few m = by (cases_eq m (length links))
  where
    by : (m ≡ length links) ⊎ (m ≢ length links) → (get_or (links ++ x ∷ []) m nowhere).behind ≤ m
    by (inl same) = omega (arith, same, few, ap (λ (l : Link). l.behind) (get_or_at links x [] nowhere m (sym same)))
    by (inr other) = elim (cases_lt m (length links)) [
      | inl within ↦ omega (arith, ap (λ (l : Link). l.behind) (get_or_append_left links (x ∷ []) nowhere m within), fall m)
      | inr past ↦ omega (arith, ap (λ (l : Link). l.behind) (get_or_past (links ++ x ∷ []) m nowhere (omega (arith, other, past, length_push links x))))
    ]

-- the place of a hash is one of the places, where there are some
pub place_within : (hash places : ℕ) → 0 < places → place_in hash places < places
unfolding place_in
place_within hash places some = omega (arith, some, and_le_r hash (places - 1))

-- a table in which a name was linked
module _ (old new : Table) (name : List ℕ) (places : 0 < length old.heads.items) (linked : IsLinked old new name) where
  abbrev heads : List Link
  heads = old.heads.items

  abbrev links : List Link
  links = old.links.items

  abbrev place : ℕ
  place = place_in (hash_of name) (length heads)

  abbrev next : Link
  next = record { behind = length links + 1; tag = tag_of name }

  within : place < length heads
  within = place_within (hash_of name) (length heads) places

  -- it leads from the name to its number
  pub new_found : Finds new name (length links)
  new_found =
      let P : List Link → Type 0 = λ hs. Leads (tag_of name) new.links.items (get_or hs (place_in (hash_of name) (length hs)) nowhere) (length links) in
      let Q : ℕ → Type 0 = λ n. Leads (tag_of name) new.links.items (get_or (set heads place next) (place_in (hash_of name) n) nowhere) (length links) in
      let is = get_or-set_same heads place next nowhere within in
      let there : Leads (tag_of name) new.links.items (get_or (set heads place next) place nowhere) (length links) =
      Leads.here _ (length links) (ap (λ (l : Link). l.behind) is) (ap (λ (l : Link). l.tag) is) in
      inl (subst P (sym linked.heads) (subst Q (sym (length-set heads place next)) there))

  -- and from other names to theirs
  pub old_found : (other : List ℕ) (n : ℕ) → Finds old other n → Finds new other n
  old_found other n (inl leads) =
      let P : List Link → Type 0 = λ hs. Leads (tag_of other) new.links.items (get_or hs (place_in (hash_of other) (length hs)) nowhere) n in
      let Q : ℕ → Type 0 = λ l. Leads (tag_of other) new.links.items (get_or (set heads place next) (place_in (hash_of other) l) nowhere) n in
      let R : List Link → Type 0 = λ ls. Leads (tag_of other) ls (get_or (set heads place next) (place_in (hash_of other) (length heads)) nowhere) n in
      let past = leads_past (tag_of other) heads links place (place_in (hash_of other) (length heads)) next n within refl leads in
      inl (subst P (sym linked.heads) (subst Q (sym (length-set heads place next)) (subst R (sym linked.links) past)))
  old_found other n (inr there) = inr (ap (λ tree. number_in tree other) linked.tree ∙ there)

  heads_kept : IsSmooth old → (p : ℕ) → (get_or new.heads.items p nowhere).behind ≤ length new.links.items
  heads_kept smooth p =
      omega (
        arith,
        ap length linked.links,
        length_push links (get_or heads place nowhere),
        ap (λ hs. (get_or hs p nowhere).behind) linked.heads,
        heads_within heads (length links) place next smooth.heads within (omega arith) p,
      )

  links_kept : IsSmooth old → (m : ℕ) → (get_or new.links.items m nowhere).behind ≤ m
  links_kept smooth m =
      let P : List Link → Type 0 = λ ls. (get_or ls m nowhere).behind ≤ m in
      subst P (sym linked.links) (links_fall links (get_or heads place nowhere) smooth.links (smooth.heads place) m)

  pub kept_smooth : IsSmooth old → IsSmooth new
  kept_smooth smooth = record { heads = heads_kept smooth; links = links_kept smooth }
