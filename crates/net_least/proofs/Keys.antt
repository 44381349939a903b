-- Of texts that begin with names, the keys of the names tell which comes first.
use Rattle.std.proofs.Common.{◌≡◌, ◌≢◌, ℕ, Bool, true, false, ◌⊎◌, List, [], ◌∷◌, ◌++◌, inl, inr, refl, sym, ap, ◌∙◌}
use Rattle.std.specs.Ordering.{nat_cmp, ordering_then}
use Rattle.std.specs.declared.cmp.Ordering.{Ordering}
use Rattle.std.specs.declared.cmp.Ordering.TheVariants.{Less, Equal, Greater}
use Rattle.std.proofs.lemmas.Map.Lookups.{exact_unsigned}
use Rattle.list_defs.specs.Orders.{name_cmp}
use Rattle.net_least.specs.Recursion.{GoesOn, key}

-- what stands behind a name: nothing, or what a slash begins
abbrev pub IsBehind : List ℕ → Type 0
IsBehind p = (p ≡ []) ⊎ ((rest : List ℕ) × (p ≡ 47 ∷ rest))

key_more : (a : ℕ) (xs : List ℕ) (b : Bool) → key (a ∷ xs) b ≡ a ∷ key xs b
key_more a xs true = refl
key_more a xs false = refl

-- the heads of two texts decide
heads : (a d : ℕ) (xs ys : List ℕ) (o : Ordering) → nat_cmp a d ≡ o → name_cmp (a ∷ xs) (d ∷ ys) ≡ ordering_then o (name_cmp xs ys)
heads a d xs ys o e = ap (λ c. ordering_then c (name_cmp xs ys)) e

-- a slash against what stands in its place
slash_first : (d : ℕ) (xs ys rest more : List ℕ) → (47 ≢ d) → name_cmp (47 ∷ xs) (d ∷ ys) ≢ Less → name_cmp (47 ∷ rest) (d ∷ more) ≡ Greater
slash_first d xs ys rest more differ not_less = by (nat_cmp 47 d) refl
  where
    by : (o : Ordering) → nat_cmp 47 d ≡ o → name_cmp (47 ∷ rest) (d ∷ more) ≡ Greater
    by Less e = absurd (not_less (heads 47 d xs ys Less e))
    by Equal e = absurd (differ (exact_unsigned 47 d e))
    by Greater e = heads 47 d rest more Greater e

slash_last : (a : ℕ) (xs ys rest more : List ℕ) → (a ≢ 47) → name_cmp (a ∷ xs) (47 ∷ ys) ≢ Less → name_cmp (a ∷ rest) (47 ∷ more) ≡ Greater
slash_last a xs ys rest more differ not_less = by (nat_cmp a 47) refl
  where
    by : (o : Ordering) → nat_cmp a 47 ≡ o → name_cmp (a ∷ rest) (47 ∷ more) ≡ Greater
    by Less e = absurd (not_less (heads a 47 xs ys Less e))
    by Equal e = absurd (differ (exact_unsigned a 47 e))
    by Greater e = heads a 47 rest more Greater e

-- Of two names, neither of which goes on from the other behind a slash, the one whose key isn't less begins the greater text, where
-- nothing follows the first only if its key says so, and nothing follows the second if its key says so.
pub by_keys : (x y : List ℕ) (b c : Bool) (p q : List ℕ) → x ≢ y → (GoesOn x y → ⊥) → (GoesOn y x → ⊥) → name_cmp (key x b) (key y c) ≢ Less
    → (p ≡ [] → b ≡ true) → (c ≡ true → q ≡ []) → IsBehind p → IsBehind q → name_cmp (x ++ p) (y ++ q) ≡ Greater
by_keys [] [] b c p q differ x_on y_on not_less ends_p ends_q behind_p behind_q = absurd (differ refl)
by_keys [] (d ∷ ys) b c p q differ x_on y_on not_less ends_p ends_q behind_p behind_q = by b not_less ends_p behind_p
  where
    by : (b : Bool) → name_cmp (key [] b) (key (d ∷ ys) c) ≢ Less → (p ≡ [] → b ≡ true) → IsBehind p → name_cmp p (d ∷ ys ++ q) ≡ Greater
    by true keys ends behind = absurd (keys (ap (name_cmp []) (key_more d ys c)))
    by false keys ends (inl empty) = let never : false ≡ true = ends empty in cc
    by false keys ends (inr more) =
        let keys_here : name_cmp (47 ∷ []) (d ∷ key ys c) ≢ Less = λ less. keys (ap (name_cmp (47 ∷ [])) (key_more d ys c) ∙ less) in
        ap (λ t. name_cmp t (d ∷ ys ++ q)) more.1
        ∙ slash_first d [] (key ys c) more.0 (ys ++ q) (λ same. x_on (ys, ap (λ e. e ∷ ys) (sym same))) keys_here
by_keys (a ∷ xs) [] b c p q differ x_on y_on not_less ends_p ends_q behind_p behind_q = by c not_less ends_q behind_q
  where
    by : (c : Bool) → name_cmp (key (a ∷ xs) b) (key [] c) ≢ Less → (c ≡ true → q ≡ []) → IsBehind q → name_cmp (a ∷ xs ++ p) q ≡ Greater
    by true keys ends behind = ap (name_cmp (a ∷ xs ++ p)) (ends refl)
    by false keys ends (inl empty) = ap (name_cmp (a ∷ xs ++ p)) empty
    by false keys ends (inr more) =
        let keys_here : name_cmp (a ∷ key xs b) (47 ∷ []) ≢ Less = λ less. keys (ap (λ t. name_cmp t (47 ∷ [])) (key_more a xs b) ∙ less) in
        ap (name_cmp (a ∷ xs ++ p)) more.1
        ∙ slash_last a (key xs b) [] (xs ++ p) more.0 (λ same. y_on (xs, ap (λ e. e ∷ xs) same)) keys_here
by_keys (a ∷ xs) (d ∷ ys) b c p q differ x_on y_on not_less ends_p ends_q behind_p behind_q =
    by (nat_cmp a d) refl (by_keys xs ys b c p q)
  where
    keys : name_cmp (a ∷ key xs b) (d ∷ key ys c) ≢ Less
    keys less = not_less ((λ i. name_cmp (key_more a xs b i) (key_more d ys c i)) ∙ less)

    by : (o : Ordering) → nat_cmp a d ≡ o
        → (xs ≢ ys → (GoesOn xs ys → ⊥) → (GoesOn ys xs → ⊥) → name_cmp (key xs b) (key ys c) ≢ Less
        → (p ≡ [] → b ≡ true) → (c ≡ true → q ≡ []) → IsBehind p → IsBehind q → name_cmp (xs ++ p) (ys ++ q) ≡ Greater)
        → name_cmp ((a ∷ xs) ++ p) ((d ∷ ys) ++ q) ≡ Greater
    by Less e rest = absurd (keys (heads a d (key xs b) (key ys c) Less e))
    by Greater e rest = heads a d (xs ++ p) (ys ++ q) Greater e
    by Equal e rest =
        let same : a ≡ d = exact_unsigned a d e in
        heads a d (xs ++ p) (ys ++ q) Equal e
        ∙ rest (λ tails. differ (λ i. same i ∷ tails i)) (λ on. x_on (on.0, λ i. sym same i ∷ on.1 i)) (λ on. y_on (on.0, λ i. same i ∷ on.1 i))
        (λ less. keys (heads a d (key xs b) (key ys c) Equal e ∙ less)) ends_p ends_q behind_p behind_q
