-- Names that are found again, and networks with the supplies of a switch.
use Rattle.std.proofs.Common.{◌≡◌, ◌≢◌, ℕ, ◌+◌, ◌<◌, ◌≤◌, Bool, true, false, ◌||◌, cond, List, [], ◌∷◌, ◌++◌, length, map, take, drop, get_or, find, Option, Some, None, MatchOption, is_some, refl, sym, ap, ◌∙◌, subst, arith}
use Rattle.std.specs.List.{list_any}
use Rattle.std.proofs.lemmas.List.{append_assoc, drop_more, length_push, map-append, take_more}
use Rattle.std.proofs.lemmas.List.Folds.{list_any-append}
use Rattle.std.proofs.lemmas.Option.{slice_get_read}
use Rattle.list_defs.specs.Members.{IsIn, place_of, same_name}
use Rattle.list_defs.proofs.Members.{IsIn-slice_get}
use Rattle.list_defs.proofs.NameLemmas.{is_some-place_of, same_name-equal}
use Rattle.pw_defs.specs.declared.supplies.Supply.{Supply}
use Rattle.pw_defs.specs.declared.supplies.SwitchText.{SwitchText}
use Rattle.supply_defs.specs.Network.{IsUnfed, feeder_at}
use Rattle.supply_net.specs.Networks.{IsJoined, Network, with_supply}
use Rattle.supply_net.specs.Switches.{input_of, output_of, named_inputs, with_inputs, with_link, with_switch_name}
use Rattle.supply_net.proofs.GrowthLemmas.{is_longer}

or_false : (b : Bool) → (b || false) ≡ b
or_false true = refl
or_false false = refl

-- a name is among those of an index and one more where it is among them, or is the one
pub index_more : (old new : List (List ℕ)) (name other : List ℕ) → MatchOption (place_of (same_name name) old) (new ≡ old ++ name ∷ []) (λ _. new ≡ old)
    → list_any (same_name other) new ≡ (list_any (same_name other) old || same_name other name)
index_more old new name other h = by (place_of (same_name name) old) refl h
  where
    again : (b : Bool) → same_name other name ≡ b → list_any (same_name name) old ≡ true → list_any (same_name other) old ≡ (list_any (same_name other) old || b)
    again false same there = sym (or_false (list_any (same_name other) old))
    again true same there =
        let P : List ℕ → Type 0 = λ x. list_any (same_name x) old ≡ true in
        let found : list_any (same_name other) old ≡ true = subst P (sym (same_name-equal other name same)) there in
        found ∙ ap (λ (b : Bool). b || true) (sym found)

    by : (o : Option ℕ) → place_of (same_name name) old ≡ o → MatchOption o (new ≡ old ++ name ∷ []) (λ _. new ≡ old)
        → list_any (same_name other) new ≡ (list_any (same_name other) old || same_name other name)
    by None e more =
        ap (list_any (same_name other)) more ∙ list_any-append (same_name other) old (name ∷ [])
        ∙ ap (λ (b : Bool). list_any (same_name other) old || b) (or_false (same_name other name))
    by (Some n) e same =
        let there : list_any (same_name name) old ≡ true = sym (is_some-place_of (same_name name) old) ∙ ap is_some e in
        ap (list_any (same_name other)) same ∙ again (same_name other name) refl there

-- among the first names of a list and the next one
pub any_more : {X : Type 0} (f : X → List ℕ) (xs : List X) (i : ℕ) (x : X) (other : List ℕ) → i < length xs → x ≡ get_or xs i x
    → list_any (same_name other) (map f (take (i + 1) xs)) ≡ (list_any (same_name other) (map f (take i xs)) || same_name other (f x))
any_more {X} f xs i x other within is =
    ap (λ (ys : List X). list_any (same_name other) (map f ys)) (take_more xs i x within)
    ∙ ap (list_any (same_name other)) (map-append f (take i xs) (get_or xs i x ∷ []))
    ∙ list_any-append (same_name other) (map f (take i xs)) (f (get_or xs i x) ∷ [])
    ∙ ap (λ (b : Bool). list_any (same_name other) (map f (take i xs)) || b) (or_false (same_name other (f (get_or xs i x))))
    ∙ ap (λ (y : X). list_any (same_name other) (map f (take i xs)) || same_name other (f y)) (sym is)

pub any_more_names : (xs : List (List ℕ)) (i : ℕ) (x other : List ℕ) → i < length xs → x ≡ get_or xs i x
    → list_any (same_name other) (take (i + 1) xs) ≡ (list_any (same_name other) (take i xs) || same_name other x)
any_more_names xs i x other within is =
    ap (list_any (same_name other)) (take_more xs i x within)
    ∙ list_any-append (same_name other) (take i xs) (get_or xs i x ∷ [])
    ∙ ap (λ (b : Bool). list_any (same_name other) (take i xs) || b) (or_false (same_name other (get_or xs i x)))
    ∙ ap (λ (y : List ℕ). list_any (same_name other) (take i xs) || same_name other y) (sym is)

-- what is left of a list from a place on
pub left_at : {X : Type 0} (xs : List X) (i : ℕ) (x : X) → i < length xs → x ≡ get_or xs i x → drop i xs ≡ x ∷ drop (i + 1) xs
left_at {X} xs i x within is = drop_more xs i x within ∙ ap (λ (y : X). y ∷ drop (i + 1) xs) (sym is)

-- the first that passes a test, in what is left of a list
pub find_here : {X : Type 0} (test : X → Bool) (xs : List X) (i : ℕ) (x : X) → i < length xs → x ≡ get_or xs i x → test x ≡ true → find test (drop i xs) ≡ Some x
find_here test xs i x within is passes =
    ap (find test) (left_at xs i x within is) ∙ ap (λ (b : Bool). cond b (Some x) (find test (drop (i + 1) xs))) passes

pub find_later : {X : Type 0} (test : X → Bool) (xs : List X) (i : ℕ) (x : X) → i < length xs → x ≡ get_or xs i x → test x ≡ false
    → find test (drop i xs) ≡ find test (drop (i + 1) xs)
find_later test xs i x within is fails =
    ap (find test) (left_at xs i x within is) ∙ ap (λ (b : Bool). cond b (Some x) (find test (drop (i + 1) xs))) fails

-- whether a name is found in an index that has the same names as a list
pub found_is : (index names : List (List ℕ)) (name : List ℕ) (place : Option ℕ) → place ≡ place_of (same_name name) index
    → list_any (same_name name) index ≡ list_any (same_name name) names → is_some place ≡ list_any (same_name name) names
found_is index names name place is same = ap is_some is ∙ is_some-place_of (same_name name) index ∙ same

-- one input more
pub inputs_more : (net : Network) (scope : ℕ) (switch : List ℕ) (inputs : List (List ℕ × ℕ)) (p : List ℕ × ℕ)
    → with_inputs net scope switch (inputs ++ p ∷ []) ≡ with_supply (with_inputs net scope switch inputs) scope (input_of switch p)
inputs_more net scope switch [] p = refl
inputs_more net scope switch (q ∷ inputs) p = inputs_more (with_supply net scope (input_of switch q)) scope switch inputs p

-- a network grows by the inputs of a switch
pub inputs_count : (net : Network) (scope : ℕ) (switch : List ℕ) (inputs : List (List ℕ × ℕ)) → length net.supplies ≤ length (with_inputs net scope switch inputs).supplies
inputs_count net scope switch [] = omega arith
inputs_count net scope switch (p ∷ inputs) =
    let rest = inputs_count (with_supply net scope (input_of switch p)) scope switch inputs in
    let more = length_push net.supplies (input_of switch p) in
    omega arith

-- supplies that were there keep their feeders
pub inputs_keep : (net : Network) (scope : ℕ) (switch : List ℕ) (inputs : List (List ℕ × ℕ)) (a : ℕ) (f : Option ℕ) → feeder_at net.supplies a ≡ Some f
    → feeder_at (with_inputs net scope switch inputs).supplies a ≡ Some f
inputs_keep net scope switch [] a f e = e
inputs_keep net scope switch (p ∷ inputs) a f e =
    inputs_keep (with_supply net scope (input_of switch p)) scope switch inputs a f ((is_longer net.supplies (input_of switch p)).same a f e)

-- the network with the supplies of a switch, before its output feeds anything
abbrev pub with_ports : Network → ℕ → SwitchText → Network
with_ports net scope t =
    with_inputs (with_supply (with_switch_name net scope t.name) scope (output_of t (length net.supplies))) scope t.name t.inputs

pub ports_count : (net : Network) (scope : ℕ) (t : SwitchText) → length net.supplies < length (with_ports net scope t).supplies
ports_count net scope t =
    let one = length_push net.supplies (output_of t (length net.supplies)) in
    let rest = inputs_count (with_supply (with_switch_name net scope t.name) scope (output_of t (length net.supplies))) scope t.name t.inputs in
    omega arith

pub ports_unfed : (net : Network) (scope : ℕ) (t : SwitchText) (a : ℕ) → IsUnfed net.supplies a → IsUnfed (with_ports net scope t).supplies a
ports_unfed net scope t a unfed =
    inputs_keep (with_supply (with_switch_name net scope t.name) scope (output_of t (length net.supplies))) scope t.name t.inputs a None
    ((is_longer net.supplies (output_of t (length net.supplies))).same a None unfed)

-- a joining of a supply without feeder gives it the feeder
pub joined_link : (fed by : ℕ) (old new : Network) → fed ≢ by → IsUnfed old.supplies fed → IsJoined fed by old new → new ≡ with_link old fed by
joined_link fed by old new apart unfed (IsJoined.itself same is) = absurd (apart same)
joined_link fed by old new apart unfed (IsJoined.again there is) = cc
joined_link fed by old new apart unfed (IsJoined.linked other none free is) = is

-- the network with the output, made step by step
pub made_output : (old named new : Network) (scope : ℕ) (t : SwitchText) (output : Supply) (n : ℕ) → named ≡ with_switch_name old scope t.name → output ≡ output_of t n
    → n ≡ length old.supplies → new ≡ with_supply named scope output
    → new ≡ with_supply (with_switch_name old scope t.name) scope (output_of t (length old.supplies))
made_output old named new scope t output n is out number made =
    made ∙ ap (λ (w : Network). with_supply w scope output) is
    ∙ ap (λ (s : Supply). with_supply (with_switch_name old scope t.name) scope s) (out ∙ ap (output_of t) number)

-- one number more, where an on state names the input
pub named_step : (on : List (List ℕ)) (numbers more : List ℕ) (n next : ℕ) (inputs : List (List ℕ × ℕ)) (i : ℕ) (p : List ℕ × ℕ) (named : Bool) (whole : List ℕ)
    → numbers ++ named_inputs on n (drop i inputs) ≡ whole → i < length inputs → p ≡ get_or inputs i p → named ≡ list_any (same_name p.0) on → next ≡ n + 1
    → (named ≡ true → more ≡ numbers ++ n ∷ []) → (named ≡ false → more ≡ numbers) → more ++ named_inputs on next (drop (i + 1) inputs) ≡ whole
named_step on numbers more n next inputs i p named whole so_far within is test number gained kept =
    ap (λ (k : ℕ). more ++ named_inputs on k (drop (i + 1) inputs)) number ∙ by named gained kept ∙ sym (here ∙ ap choice (sym test)) ∙ so_far
  where
    rest : List ℕ
    rest = named_inputs on (n + 1) (drop (i + 1) inputs)

    choice : Bool → List ℕ
    choice b = numbers ++ cond b (n ∷ rest) rest

    here : numbers ++ named_inputs on n (drop i inputs) ≡ choice (list_any (same_name p.0) on)
    here = ap (λ (ps : List (List ℕ × ℕ)). numbers ++ named_inputs on n ps) (left_at inputs i p within is)

    by : (b : Bool) → (b ≡ true → more ≡ numbers ++ n ∷ []) → (b ≡ false → more ≡ numbers) → more ++ rest ≡ choice b
    by true gained kept = ap (λ (xs : List ℕ). xs ++ rest) (gained refl) ∙ append_assoc numbers (n ∷ []) rest
    by false gained kept = ap (λ (xs : List ℕ). xs ++ rest) (kept refl)

-- what stands at a place is one of the list
pub item_in : {X : Type 0} (xs : List X) (i : ℕ) (x : X) → i < length xs → x ≡ get_or xs i x → IsIn x xs
item_in xs i x within is = IsIn-slice_get xs i x (slice_get_read xs (length xs) i x refl within is)
