-- The states of a set as a list of states of values.
use Rattle.std.proofs.Common.{◌≡◌, ℕ, zero, suc, ◌+◌, ◌≤◌, ◌<◌, Bool, true, false, cond, ◌&&◌, List, [], ◌∷◌, ◌++◌, map, filter, length, get_or, inl, inr, refl, sym, ap, ◌∙◌, subst, arith}
use Rattle.std.specs.List.{AllByRecursion, flat_map, range_with_len, list_all}
use Rattle.std.specs.Ordering.{ordering_then, ordering_reverse}
use Rattle.std.specs.declared.cmp.Ordering.{Ordering}
use Rattle.std.specs.declared.cmp.Ordering.TheVariants.{Less}
use Rattle.std.proofs.lemmas.Bool.{cases_order, and_parts, and_from, ltb-true, lt-ltb, false≢true}
use Rattle.std.proofs.lemmas.Cmp.{tied_itself}
use Rattle.std.proofs.lemmas.List.{ext_get_or, length-map, map-append}
use Rattle.std.proofs.lemmas.List.Folds.{flat_map-map}
use Rattle.std.proofs.lemmas.List.FromFn.{get_or-map-range_with_len}
use Rattle.pw_defs.specs.Values.{value_cmp, state_cmp as values_cmp}
use Rattle.pw_defs.specs.declared.values.Value.{Value}
use Rattle.pw_defs.specs.declared.values.Value.TheVariants.{Off}
use Rattle.pw_defs.specs.declared.conditions.Cond.{Cond}
use Rattle.pw_defs.specs.declared.conditions.Cond.TheVariants.{All}
use Rattle.list_defs.specs.Members.{IsIn}
use Rattle.list_defs.specs.Orders.{IsRising}
use Rattle.list_defs.proofs.Members.{IsIn-map, IsIn-map_from, IsIn-flat_map, IsIn-flat_map_from, IsIn-filter, IsIn-filter_from}
use Rattle.supply_defs.specs.Conditions.{holds}
use Rattle.supply_defs.specs.States.{value_in, all_states, meets}
use Rattle.supply_defs.proofs.Meaning.{holds_all}
use Rattle.supply_defs.proofs.TotalOrders.{value_cmp_total}
use Rattle.diagram_defs.specs.Rests.{is_rest, all_rests}
use Rattle.diagram_defs.specs.Diagrams.{Diagram, member, rests_in, IsNumberFor}
use Rattle.diagram_defs.specs.States.{state_cmp}
use Rattle.diagram_defs.proofs.Listed.{length-range}
use Rattle.diagram_defs.proofs.StateOrder.{cmp_behind, cmp_above, cmp_below}
use Rattle.state_build.specs.Built.{value_of, built_set}
use Rattle.state_build.specs.ReadStates.{values_read, ListsLegal, LeastIsLeastLegal}

-- filters and maps
filter_through : {X Y : Type 0} (f : X → Y) (q : Y → Bool) (xs : List X) → filter q (map f xs) ≡ map f (filter (λ x. q (f x)) xs)
filter_through f q [] = refl
filter_through f q (x ∷ xs) =
    elim (q (f x)) as (λ b. cond b (f x ∷ filter q (map f xs)) (filter q (map f xs)) ≡ map f (cond b (x ∷ filter (λ y. q (f y)) xs) (filter (λ y. q (f y)) xs)))
    [ true ↦ ap (λ ys. f x ∷ ys) (filter_through f q xs) | false ↦ filter_through f q xs ]

filter_same : {X : Type 0} (p q : X → Bool) (xs : List X) → ((x : X) → IsIn x xs → p x ≡ q x) → filter p xs ≡ filter q xs
filter_same p q [] same = refl
filter_same p q (x ∷ xs) same =
    let here = same x (inl refl) in
    let others = filter_same p q xs (λ y i. same y (inr i)) in
    λ i. cond (here i) (x ∷ others i) (others i)

map-flat_map : {X Y Z : Type 0} (f : Y → Z) (g : X → List Y) (xs : List X) → map f (flat_map g xs) ≡ flat_map (λ x. map f (g x)) xs
map-flat_map f g [] = refl
map-flat_map f g (x ∷ xs) = map-append f (g x) (flat_map g xs) ∙ ap (λ ys. map f (g x) ++ ys) (map-flat_map f g xs)

-- indices below an arity
in_range : (a n v : ℕ) → IsIn v (range_with_len a n) → v < a + n
in_range a zero v i = absurd i
in_range a (suc n) v i = elim i [ inl e ↦ omega arith | inr later ↦ (let below = in_range (a + 1) n v later in omega arith) ]

range_has : (a n v : ℕ) → a ≤ v → v < a + n → IsIn v (range_with_len a n)
range_has a zero v low high = absurd (omega arith)
range_has a (suc n) v low high =
    elim (cases_order v a) [
      | inl same ↦ inl same
      | inr (inl below) ↦ absurd (omega arith)
      | inr (inr above) ↦ inr (range_has (a + 1) n v (omega arith) (omega arith))
    ]

-- the list of all rests has the rests and nothing else
is_listed : (arities rest : List ℕ) → IsIn rest (all_rests arities) → is_rest arities rest ≡ true
is_listed [] rest i = elim i [ inl e ↦ ap (is_rest []) e | inr none ↦ absurd none ]
is_listed (arity ∷ arities) rest i =
    let first = IsIn-flat_map_from (λ v. map (λ r. v ∷ r) (all_rests arities)) (range_with_len 0 arity) rest i in
    let further = IsIn-map_from (λ (r : List ℕ). first.0 ∷ r) rest (all_rests arities) first.2 in
    let below = in_range 0 arity first.0 first.1 in
    let low : first.0 < arity = omega arith in
    ap (is_rest (arity ∷ arities)) further.2 ∙ and_from _ _ (lt-ltb first.0 arity low) (is_listed arities further.0 further.1)

has_rest : (arities rest : List ℕ) → is_rest arities rest ≡ true → IsIn rest (all_rests arities)
has_rest [] [] e = inl refl
has_rest [] (v ∷ rest) e = absurd (false≢true e)
has_rest (arity ∷ arities) [] e = absurd (false≢true e)
has_rest (arity ∷ arities) (v ∷ rest) e =
    let both = and_parts _ _ e in
    let low = ltb-true v arity both.0 in
    let none : 0 ≤ v = omega arith in
    let high : v < 0 + arity = omega arith in
    IsIn-flat_map (λ w. map (λ r. w ∷ r) (all_rests arities)) v (range_with_len 0 arity) (v ∷ rest) (range_has 0 arity v none high) (IsIn-map (λ r. v ∷ r) rest (all_rests arities) (has_rest arities rest both.1))

-- all states of values are all states of indices, read
read_all : (values : List Value) → values ≡ map (λ i. get_or values i Off) (range_with_len 0 (length values))
read_all values =
    let long = length-map (range_with_len 0 (length values)) (λ i. get_or values i Off) ∙ length-range 0 (length values) in
    ext_get_or Off values (map (λ i. get_or values i Off) (range_with_len 0 (length values))) (sym long) (λ i low. (let same : 0 + i ≡ i = omega arith in sym (get_or-map-range_with_len (λ j. get_or values j Off) 0 (length values) i i Off low same)))

map_both : {X Y Z W : Type 0} (f : Y → W) (g : X → Y) (h : Z → W) (k : X → Z) (xs : List X) → ((x : X) → f (g x) ≡ h (k x)) → map f (map g xs) ≡ map h (map k xs)
map_both f g h k [] same = refl
map_both f g h k (x ∷ xs) same = λ i. same x i ∷ map_both f g h k xs same i

states_read : (lists : List (List Value)) → map (values_read lists) (all_rests (map length lists)) ≡ all_states lists
states_read [] = refl
states_read (values ∷ lists) =
    map-flat_map (values_read (values ∷ lists)) (λ v. map (λ r. v ∷ r) rests) (range_with_len 0 (length values))
    ∙ (λ i. flat_map (λ v. each v i) (range_with_len 0 (length values)))
    ∙ ap (λ (states : List (List Value)). flat_map (λ v. map (λ s. get_or values v Off ∷ s) states) (range_with_len 0 (length values))) (states_read lists)
    ∙ sym (ap (flat_map (λ v. map (λ s. v ∷ s) (all_states lists))) (read_all values) ∙ flat_map-map (λ v. map (λ s. v ∷ s) (all_states lists)) (λ i. get_or values i Off) (range_with_len 0 (length values)))
  where
    rests : List (List ℕ)
    rests = all_rests (map length lists)

    each : (v : ℕ) → map (values_read (values ∷ lists)) (map (λ r. v ∷ r) rests) ≡ map (λ s. get_or values v Off ∷ s) (map (values_read lists) rests)
    each v = map_both (values_read (values ∷ lists)) (λ r. v ∷ r) (λ s. get_or values v Off ∷ s) (values_read lists) rests (λ r. refl)

-- each supply has in a state that is read the value that its index stands for
value_read : (lists : List (List Value)) (state : List ℕ) (level : ℕ) → is_rest (map length lists) state ≡ true → value_in (values_read lists state) level ≡ value_of lists state level
value_read [] state level e = refl
value_read (values ∷ lists) [] level e = absurd (false≢true e)
value_read (values ∷ lists) (v ∷ state) zero e = refl
value_read (values ∷ lists) (v ∷ state) (suc level) e = value_read lists state level (and_parts _ _ e).1

-- the order of indices is that of the values
at_place : {X : Type 0} (P : X → Type 0) (xs : List X) (i : ℕ) (d : X) → AllByRecursion P xs → i < length xs → P (get_or xs i d)
at_place P [] i d all low = absurd (omega arith)
at_place P (x ∷ xs) zero d all low = all.0
at_place P (x ∷ xs) (suc i) d all low = at_place P xs i d all.1 (omega arith)

rises : (values : List Value) (v w : ℕ) → IsRising value_cmp values → v < w → w < length values → value_cmp (get_or values v Off) (get_or values w Off) ≡ Less
rises [] v w up order low = absurd (omega arith)
rises (x ∷ values) v zero up order low = absurd (omega arith)
rises (x ∷ values) zero (suc w) up order low = at_place (λ y. value_cmp x y ≡ Less) values w Off up.0 (omega arith)
rises (x ∷ values) (suc v) (suc w) up order low = rises values v w up.1 (omega arith) (omega arith)

order_read : (lists : List (List Value)) → AllByRecursion (IsRising value_cmp) lists → (s t : List ℕ) → is_rest (map length lists) s ≡ true → is_rest (map length lists) t ≡ true → values_cmp (values_read lists s) (values_read lists t) ≡ state_cmp s t
order_read [] up [] [] e f = refl
order_read [] up [] (w ∷ t) e f = absurd (false≢true f)
order_read [] up (v ∷ s) t e f = absurd (false≢true e)
order_read (values ∷ lists) up [] t e f = absurd (false≢true e)
order_read (values ∷ lists) up (v ∷ s) [] e f = absurd (false≢true f)
order_read (values ∷ lists) up (v ∷ s) (w ∷ t) e f =
    let low : v < length values = ltb-true v (length values) (and_parts _ _ e).0 in
    let high : w < length values = ltb-true w (length values) (and_parts _ _ f).0 in
    let others = order_read lists up.1 s t (and_parts _ _ e).1 (and_parts _ _ f).1 in
    let behind = values_cmp (values_read lists s) (values_read lists t) in
    elim (cases_order v w) [
      | inl same ↦ subst (λ (u : ℕ). values_cmp (values_read (values ∷ lists) (v ∷ s)) (values_read (values ∷ lists) (u ∷ t)) ≡ state_cmp (v ∷ s) (u ∷ t)) same (ap (λ (o : Ordering). ordering_then o behind) (tied_itself value_cmp_total (get_or values v Off)) ∙ others ∙ sym (cmp_behind v s t))
      | inr (inl below) ↦ ap (λ (o : Ordering). ordering_then o behind) (rises values v w up.0 below high) ∙ sym (cmp_below v w s t below)
      | inr (inr above) ↦ ap (λ (o : Ordering). ordering_then o behind) (value_cmp_total.antisymm (get_or values v Off) (get_or values w Off) ∙ ap ordering_reverse (rises values w v up.0 above low)) ∙ sym (cmp_above v w s t above)
    ]

module _ (d : Diagram) (lists : List (List Value)) (conds : List Cond) (n : ℕ) (arities : map length lists ≡ d.arities) (is : IsNumberFor d 0 (built_set d.arities lists (All conds)) n) where
  rest_of : (state : List ℕ) → IsIn state (all_rests d.arities) → is_rest (map length lists) state ≡ true
  rest_of state i = ap (λ (as' : List ℕ). is_rest as' state) arities ∙ is_listed d.arities state i

  -- a state is in the set where it is legal, read as values
  legal_read : (state : List ℕ) → IsIn state (all_rests d.arities) → member d.nodes n state ≡ meets conds (values_read lists state)
  legal_read state i =
      let full = is_listed d.arities state i in
      let value : value_of lists state ≡ value_in (values_read lists state) = λ k level. sym (value_read lists state level (rest_of state i)) k in
      is.same state ∙ ap (λ (b : Bool). b && holds (value_of lists state) (All conds)) full ∙ holds_all (value_of lists state) conds ∙ ap (λ (f : ℕ → Value). list_all (holds f) conds) value

  pub lists_legal : ListsLegal d lists conds n
  lists_legal =
      ap (map (values_read lists)) (filter_same (member d.nodes n) (λ s. meets conds (values_read lists s)) (all_rests d.arities) legal_read)
      ∙ sym (filter_through (values_read lists) (meets conds) (all_rests d.arities))
      ∙ ap (λ (as' : List ℕ). filter (meets conds) (map (values_read lists) (all_rests as'))) (sym arities) ∙ ap (filter (meets conds)) (states_read lists)

  pub least_legal : AllByRecursion (IsRising value_cmp) lists → LeastIsLeastLegal d lists conds n
  least_legal up state least = record {
    holds = subst (IsIn (values_read lists state)) lists_legal (IsIn-map (values_read lists) state (rests_in d 0 n) (IsIn-filter (member d.nodes n) state (all_rests d.arities) here least.holds));
    least = λ values i before.
        let other = IsIn-map_from (values_read lists) values (rests_in d 0 n) (subst (IsIn values) (sym lists_legal) i) in
        let found = IsIn-filter_from (member d.nodes n) other.0 (all_rests d.arities) other.1 in
        least.least other.0 found.1 (sym (order_read lists up other.0 state (rest_of other.0 found.0) (rest_of state here)) ∙ ap (λ (vs : List Value). values_cmp vs (values_read lists state)) (sym other.2) ∙ before);
  }
    where
      here : IsIn state (all_rests d.arities)
      here = has_rest d.arities state (and_parts _ _ (sym (is.same state) ∙ least.holds)).0
