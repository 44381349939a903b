-- Lists that are made item by item, of items with their numbers.
use Rattle.std.proofs.Common.{◌≡◌, ℕ, ◌+◌, ◌<◌, ◌≤◌, List, [], ◌∷◌, ◌++◌, Option, get_or, length, map, take, option_to_list, refl, sym, ap, ◌∙◌, arith}
use Rattle.std.proofs.lemmas.List.{get_or-map, length-map, map_more, take_all}
use Rattle.std.proofs.lemmas.List.FromFn.{length-enumerate_from}
use Rattle.std.proofs.lemmas.Slice.Zip.{get_or-zip, length-zip}
use Rattle.std.specs.List.{cons_option, enumerate_from, filter_map, zip}
use Rattle.form_intent.proofs.LineLemmas.{filter_map_more, get_or-enumerate}

module _ {V A : Type 0} (view : V → A) (items : List V) (i : ℕ) where
  -- all items were gone through
  pub take_numbered : length items ≤ i → take i (enumerate_from 0 (map view items)) ≡ enumerate_from 0 (map view items)
  take_numbered past =
      take_all i (enumerate_from 0 (map view items)) (omega (arith, length-enumerate_from 0 (map view items), length-map items view))

  module _ (item : V) (within : i < length items) (read : item ≡ get_or items i item) where
    inside : i < length (enumerate_from 0 (map view items))
    inside = omega (arith, length-enumerate_from 0 (map view items), length-map items view)

    numbered : get_or (enumerate_from 0 (map view items)) i (0, view item) ≡ (i, view item)
    numbered =
        get_or-enumerate (map view items) i (view item) (omega (arith, length-map items view)) ∙ ap (λ a. (i, a)) (get_or-map view items i item (view item) within ∙ ap view (sym read))

    pub map-numbered_more : {B : Type 0} (f : ℕ × A → B) → map f (take (i + 1) (enumerate_from 0 (map view items))) ≡ map f (take i (enumerate_from 0 (map view items))) ++ f (i, view item) ∷ []
    map-numbered_more f =
        map_more f (enumerate_from 0 (map view items)) i (0, view item) inside ∙ ap (λ p. map f (take i (enumerate_from 0 (map view items))) ++ f p ∷ []) numbered

    pub filter_map-numbered_more : {B : Type 0} (f : ℕ × A → Option B) → filter_map f (take (i + 1) (enumerate_from 0 (map view items))) ≡ filter_map f (take i (enumerate_from 0 (map view items))) ++ option_to_list (f (i, view item))
    filter_map-numbered_more f =
        filter_map_more f (enumerate_from 0 (map view items)) i (0, view item) inside ∙ ap (λ p. filter_map f (take i (enumerate_from 0 (map view items))) ++ option_to_list (f p)) numbered

-- two lists of one length, item by item
module _ {N V A B : Type 0} (f : N × A → B) (view : V → A) (names : List N) (items : List V) (same : length names ≡ length items) (i : ℕ) where
  pub take_zipped : length names ≤ i → take i (zip names (map view items)) ≡ zip names (map view items)
  take_zipped past =
      take_all i (zip names (map view items)) (omega (arith, length-zip names (map view items), length-map items view))

  pub map-zipped_more : (name : N) (item : V) → i < length names → name ≡ get_or names i name → item ≡ get_or items i item → map f (take (i + 1) (zip names (map view items))) ≡ map f (take i (zip names (map view items))) ++ f (name, view item) ∷ []
  map-zipped_more name item within is_name is_item =
      let in_items : i < length items = omega arith in
      let inside : i < length (zip names (map view items)) =
      omega (arith, length-zip names (map view items), length-map items view) in
      let zipped = get_or-zip names (map view items) i (name, view item) within (omega (arith, length-map items view)) in
      let second = get_or-map view items i item (view item) in_items ∙ ap view (sym is_item) in
      map_more f (zip names (map view items)) i (name, view item) inside ∙ ap (λ p. map f (take i (zip names (map view items))) ++ f p ∷ []) (zipped ∙ ap (λ n. (n, get_or (map view items) i (view item))) (sym is_name) ∙ ap (λ a. (name, a)) second)

-- items that were made of others, with their numbers
pub map-enumerate_map : {X A B : Type 0} (f : ℕ × A → B) (g : X → A) (n : ℕ) (xs : List X) → map f (enumerate_from n (map g xs)) ≡ map (λ p. f (p.0, g p.1)) (enumerate_from n xs)
map-enumerate_map f g n [] = refl
map-enumerate_map f g n (x ∷ xs) = ap (λ ys. f (n, g x) ∷ ys) (map-enumerate_map f g (n + 1) xs)

pub filter_map-enumerate_map : {X A B : Type 0} (f : ℕ × A → Option B) (g : X → A) (n : ℕ) (xs : List X) → filter_map f (enumerate_from n (map g xs)) ≡ filter_map (λ p. f (p.0, g p.1)) (enumerate_from n xs)
filter_map-enumerate_map f g n [] = refl
filter_map-enumerate_map f g n (x ∷ xs) = ap (cons_option (f (n, g x))) (filter_map-enumerate_map f g (n + 1) xs)

-- each item beside what was made of it
pub map-zip_map : {X A B : Type 0} (f : X × A → B) (g : X → A) (xs : List X) → map f (zip xs (map g xs)) ≡ map (λ x. f (x, g x)) xs
map-zip_map f g [] = refl
map-zip_map f g (x ∷ xs) = ap (λ ys. f (x, g x) ∷ ys) (map-zip_map f g xs)
