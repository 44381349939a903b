-- What is missing first.
use Rattle.std.proofs.Common.{◌≡◌, ℕ, Bool, true, false, not, ◌&&◌, cond, is_some, List, [], ◌∷◌, ◌++◌, Option, Some, None, filter_map, refl, ap, ◌∙◌}
use Rattle.std.specs.List.{list_any}
use Rattle.std.proofs.lemmas.Bool.{false≢true, true≢false}
use Rattle.upf_commands.specs.CommandRows.{CommandRow}
use Rattle.upf_commands.specs.CommandWords.{Item, own, given, unknown, lacking}
use Rattle.upf_commands.specs.Commands.{own_word, lacking_option, missing_own, missing_options, missing}
use Rattle.upf_commands.specs.Forms.{WordForm}
use Rattle.upf_reader.specs.Readings.{first_of, lacks_own}

pub first_before : {X : Type 0} (xs ys : List X) (x : X) → first_of xs ≡ Some x → first_of (xs ++ ys) ≡ Some x
first_before [] ys x e = cc
first_before (y ∷ xs) ys x e = e

pub first_behind : {X : Type 0} (xs ys : List X) → first_of xs ≡ None → first_of (xs ++ ys) ≡ first_of ys
first_behind [] ys e = refl
first_behind (y ∷ xs) ys e = cc

pub none_first : {X : Type 0} (xs : List X) → first_of xs ≡ None → xs ≡ []
none_first [] e = refl
none_first (x ∷ xs) e = cc

pub begins_so : {X : Type 0} (xs : List X) (x : X) → first_of xs ≡ Some x → (more : List X) × (xs ≡ x ∷ more)
begins_so [] x e = cc
begins_so (y ∷ xs) x e = let same : y ≡ x = cc in (xs, ap (λ z. z ∷ xs) same)

no_own : (items : List Item) → list_any (λ i. is_some (own_word i)) items ≡ false → filter_map own_word items ≡ []
no_own [] e = refl
no_own (own text ∷ items) e = absurd (true≢false e)
no_own (given o text ∷ items) e = no_own items e
no_own (unknown text ∷ items) e = no_own items e
no_own (lacking o ∷ items) e = no_own items e

some_own : (items : List Item) → list_any (λ i. is_some (own_word i)) items ≡ true → (text : List ℕ) × (more : List (List ℕ)) × (filter_map own_word items ≡ text ∷ more)
some_own [] e = absurd (false≢true e)
some_own (own text ∷ items) e = (text, filter_map own_word items, refl)
some_own (given o text ∷ items) e = some_own items e
some_own (unknown text ∷ items) e = some_own items e
some_own (lacking o ∷ items) e = some_own items e

own_lacks : (row : CommandRow) (items : List Item) → lacks_own row items ≡ true → missing_own row (filter_map own_word items) ≡ row.name ∷ []
own_lacks row items e = by row.own refl (list_any (λ i. is_some (own_word i)) items) refl e
  where
    by : (needed : Option WordForm) → row.own ≡ needed → (t : Bool) → list_any (λ i. is_some (own_word i)) items ≡ t → (is_some needed && not t) ≡ true
        → missing_own row (filter_map own_word items) ≡ row.name ∷ []
    by None f t g h = absurd (false≢true h)
    by (Some form) f true g h = absurd (false≢true h)
    by (Some form) f false g h = ap (missing_own row) (no_own items g) ∙ ap (λ o. cond (is_some o) (row.name ∷ []) []) f

own_there : (row : CommandRow) (items : List Item) → lacks_own row items ≡ false → missing_own row (filter_map own_word items) ≡ []
own_there row items e = by row.own refl (list_any (λ i. is_some (own_word i)) items) refl e
  where
    with_own : list_any (λ i. is_some (own_word i)) items ≡ true → missing_own row (filter_map own_word items) ≡ []
    with_own g = let s = some_own items g in ap (missing_own row) s.2

    by : (needed : Option WordForm) → row.own ≡ needed → (t : Bool) → list_any (λ i. is_some (own_word i)) items ≡ t → (is_some needed && not t) ≡ false
        → missing_own row (filter_map own_word items) ≡ []
    by needed f true g h = with_own g
    by None f false g h = ap (missing_own row) (no_own items g) ∙ ap (λ o. cond (is_some o) (row.name ∷ []) []) f
    by (Some form) f false g h = absurd (true≢false h)

-- a value is missing first
pub value_first : (row : CommandRow) (items : List Item) (name : List ℕ) → first_of (filter_map lacking_option items) ≡ Some name → first_of (missing row items) ≡ Some name
value_first row items name e =
    first_before (filter_map lacking_option items ++ missing_own row (filter_map own_word items)) (missing_options row items) name
    (first_before (filter_map lacking_option items) (missing_own row (filter_map own_word items)) name e)

-- the own word is
pub own_first : (row : CommandRow) (items : List Item) → first_of (filter_map lacking_option items) ≡ None → lacks_own row items ≡ true
    → first_of (missing row items) ≡ Some row.name
own_first row items e lacks =
    first_before (filter_map lacking_option items ++ missing_own row (filter_map own_word items)) (missing_options row items) row.name
    (first_behind (filter_map lacking_option items) (missing_own row (filter_map own_word items)) e ∙ ap first_of (own_lacks row items lacks))

-- an option is, or nothing
pub option_first : (row : CommandRow) (items : List Item) → first_of (filter_map lacking_option items) ≡ None → lacks_own row items ≡ false
    → first_of (missing row items) ≡ first_of (missing_options row items)
option_first row items e there =
    first_behind (filter_map lacking_option items ++ missing_own row (filter_map own_word items)) (missing_options row items)
    (first_behind (filter_map lacking_option items) (missing_own row (filter_map own_word items)) e ∙ ap first_of (own_there row items there))
