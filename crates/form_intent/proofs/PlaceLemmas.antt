-- Lists that go along a list of names, and what one name's item becomes.
use Rattle.std.proofs.Common.{◌≡◌, ℕ, ◌<◌, Bool, true, false, not, cond, List, [], ◌∷◌, ◌++◌, Option, Some, None, get_or, length, map, set, replicate, suc, refl, sym, ap, subst, ◌∙◌, arith}
use Rattle.std.proofs.lemmas.Bool.{not-true}
use Rattle.std.proofs.lemmas.List.{append-nil, get_or-map, length-map, map-set}
use Rattle.std.specs.List.{list_any}
use Rattle.std.specs.Option.{option_map, is_some}
use Rattle.list_defs.specs.Members.{all_differ, place_of, same_name}
use Rattle.list_defs.proofs.NameLemmas.{is_some-place_of, place_of-within, same_name-equal, same_name-symmetric}
use Rattle.form_intent.proofs.ListLemmas.{and_first, and_last, or_first, or_last}

module _ {A : Type 0} (x : List ℕ) (so_far : List ℕ → List A) (more : List A) where
  -- what comes to the items of the name alone
  abbrev with_more : List ℕ → List A
  with_more net = so_far net ++ cond (same_name net x) more []

  stays : (nets : List (List ℕ)) → list_any (same_name x) nets ≡ false → map with_more nets ≡ map so_far nets
  stays [] h = refl
  stays (net ∷ nets) h =
      ap (λ b. (so_far net ++ cond b more []) ∷ map with_more nets) (same_name-symmetric net x ∙ or_first (same_name x net) (list_any (same_name x) nets) h) ∙ ap (λ ys. ys ∷ map with_more nets) (append-nil (so_far net)) ∙ ap (λ rest. so_far net ∷ rest) (stays nets (or_last (same_name x net) (list_any (same_name x) nets) h))

  -- a name that has no place
  pub map-absent : (nets : List (List ℕ)) → place_of (same_name x) nets ≡ None → map so_far nets ≡ map (λ net. so_far net ++ cond (same_name net x) more []) nets
  map-absent nets none =
      sym (stays nets (sym (is_some-place_of (same_name x) nets) ∙ ap is_some none))

  -- the items of a name stand at its place
  pub get_or-place_of : (nets : List (List ℕ)) (n : ℕ) (d : List A) → place_of (same_name x) nets ≡ Some n → get_or (map so_far nets) n d ≡ so_far x
  get_or-place_of [] n d h = cc
  get_or-place_of (net ∷ nets) n d h =
      by (same_name x net) refl (place_of (same_name x) nets) (λ m. get_or-place_of nets m d) h
    where
      by : (b : Bool) → same_name x net ≡ b → (o : Option ℕ) → ((m : ℕ) → o ≡ Some m → get_or (map so_far nets) m d ≡ so_far x) → cond b (Some 0) (option_map suc o) ≡ Some n → get_or (map so_far (net ∷ nets)) n d ≡ so_far x
      by true e o rest h =
          let here : 0 ≡ n = cc in
          subst (λ k. get_or (map so_far (net ∷ nets)) k d ≡ so_far x) here (ap so_far (sym (same_name-equal x net e)))
      by false e None rest h = cc
      by false e (Some m) rest h =
          let behind : suc m ≡ n = cc in
          subst (λ k. get_or (map so_far (net ∷ nets)) k d ≡ so_far x) behind (rest m refl)

  pub set-place_of : (nets : List (List ℕ)) (n : ℕ) → all_differ same_name nets ≡ true → place_of (same_name x) nets ≡ Some n → set (map so_far nets) n (so_far x ++ more) ≡ map (λ net. so_far net ++ cond (same_name net x) more []) nets
  set-place_of [] n differ h = cc
  set-place_of (net ∷ nets) n differ h =
      by (same_name x net) refl (place_of (same_name x) nets) (λ m. set-place_of nets m (and_last (not (list_any (same_name net) nets)) (all_differ same_name nets) differ)) h
    where
      by : (b : Bool) → same_name x net ≡ b → (o : Option ℕ) → ((m : ℕ) → o ≡ Some m → set (map so_far nets) m (so_far x ++ more) ≡ map with_more nets) → cond b (Some 0) (option_map suc o) ≡ Some n → set (map so_far (net ∷ nets)) n (so_far x ++ more) ≡ map with_more (net ∷ nets)
      by true e o rest h =
          let here : 0 ≡ n = cc in
          let same : x ≡ net = same_name-equal x net e in
          let apart : list_any (same_name x) nets ≡ false =
          subst (λ name. list_any (same_name name) nets ≡ false) (sym same) (not-true _ (and_first (not (list_any (same_name net) nets)) (all_differ same_name nets) differ)) in
          subst (λ k. set (map so_far (net ∷ nets)) k (so_far x ++ more) ≡ map with_more (net ∷ nets)) here (ap (λ name. (so_far name ++ more) ∷ map so_far nets) same ∙ ap (λ rest. (so_far net ++ more) ∷ rest) (sym (stays nets apart)) ∙ ap (λ b. (so_far net ++ cond b more []) ∷ map with_more nets) (sym (same_name-symmetric net x ∙ e)))
      by false e None rest h = cc
      by false e (Some m) rest h =
          let behind : suc m ≡ n = cc in
          subst (λ k. set (map so_far (net ∷ nets)) k (so_far x ++ more) ≡ map with_more (net ∷ nets)) behind (ap (λ tail. so_far net ∷ tail) (rest m refl) ∙ ap (λ ys. ys ∷ map with_more nets) (sym (append-nil (so_far net))) ∙ ap (λ b. (so_far net ++ cond b more []) ∷ map with_more nets) (sym (same_name-symmetric net x ∙ e)))

-- items that a view shows as those of names, of which one gets more
pub map-set-place_of : {V A : Type 0} (view : V → List A) (x : List ℕ) (so_far : List ℕ → List A) (more : List A) (nets : List (List ℕ)) (items : List V) (n : ℕ) (old new : V) → all_differ same_name nets ≡ true → place_of (same_name x) nets ≡ Some n → map view items ≡ map so_far nets → old ≡ get_or items n old → view new ≡ view old ++ more → map view (set items n new) ≡ map (λ net. so_far net ++ cond (same_name net x) more []) nets
map-set-place_of view x so_far more nets items n old new differ found before is_old gains =
    let within : n < length items =
    omega (arith, place_of-within (same_name x) nets n found, ap length before, length-map items view, length-map nets so_far) in
    let shown : view old ≡ so_far x =
    ap view is_old ∙ sym (get_or-map view items n old (view old) within) ∙ ap (λ ys. get_or ys n (view old)) before ∙ get_or-place_of x so_far more nets n (view old) found in
    map-set view items n new ∙ ap (λ ys. set ys n (view new)) before ∙ ap (λ y. set (map so_far nets) n y) (gains ∙ ap (λ y. y ++ more) shown) ∙ set-place_of x so_far more nets n differ found

-- an item, as the view shows it
pub shown-at : {V B : Type 0} (view : V → B) (of_name : List ℕ → B) (items : List V) (nets : List (List ℕ)) (i : ℕ) (item : V) → map view items ≡ map of_name nets → i < length items → item ≡ get_or items i item → view item ≡ of_name (get_or nets i [])
shown-at view of_name items nets i item same within read =
    let inside : i < length nets = omega (arith, ap length same, length-map items view, length-map nets of_name) in
    ap view read ∙ sym (get_or-map view items i item (view item) within) ∙ ap (λ ys. get_or ys i (view item)) same ∙ get_or-map of_name nets i [] (view item) inside

pub map-same : {A B : Type 0} (b : B) (xs : List A) → map (λ _. b) xs ≡ replicate (length xs) b
map-same b [] = refl
map-same b (x ∷ xs) = ap (λ ys. b ∷ ys) (map-same b xs)

pub map-ext : {A B : Type 0} (f g : A → B) (xs : List A) → ((x : A) → f x ≡ g x) → map f xs ≡ map g xs
map-ext f g [] same = refl
map-ext f g (x ∷ xs) same = ap (λ y. y ∷ map f xs) (same x) ∙ ap (λ ys. g x ∷ ys) (map-ext f g xs same)
