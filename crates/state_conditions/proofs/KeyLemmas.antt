-- Keys of states: no two pairs of names have one, and a state is found by its key as by its names.
use Rattle.std.proofs.Common.{◌≡◌, ◌≢◌, MatchOption, ℕ, zero, suc, ◌^◌, ◌<◌, Bool, true, false, ◌&&◌, cond, List, [], ◌∷◌, ◌++◌, length, get_or, take, drop, Option, Some, None, slice_get, find, refl, sym, ap, ◌∙◌, subst, arith}
use Rattle.std.specs.Int.{w64, to_be_bytes, from_be_bytes}
use Rattle.std.specs.Option.{option_map, option_and_then}
use Rattle.std.specs.Str.{bytes_eq}
use Rattle.std.proofs.Math.Seq.{take-append_seam, drop-append_seam}
use Rattle.std.proofs.lemmas.Bool.{and_parts, true≢false}
use Rattle.std.proofs.lemmas.List.{length_push}
use Rattle.std.proofs.lemmas.Nat.{from_be_bytes-to_be_bytes_8}
use Rattle.std.proofs.lemmas.Option.{slice_get-get_or}
use Rattle.list_defs.specs.Members.{place_of, same_name}
use Rattle.list_defs.proofs.Longer.{slice_get-append, slice_get_last}
use Rattle.list_defs.proofs.NameLemmas.{same_name-equal, same_name-itself, place_of-within}
use Rattle.pw_defs.specs.declared.terms.NamedState.{NamedState}
use Rattle.state_conditions.specs.declared.named.Found.{Found}
use Rattle.state_conditions.specs.Keys.{AreFound, first_in, key_of, own_key}

-- joined lists of which the fronts are as long have the same parts
parts_of : {X : Type 0} (xs ys us vs : List X) → length xs ≡ length us → xs ++ ys ≡ us ++ vs → (xs ≡ us) × (ys ≡ vs)
parts_of xs ys us vs long e = (
  sym (take-append_seam xs ys) ∙ ap (λ (n : ℕ). take n (xs ++ ys)) long ∙ ap (take (length us)) e ∙ take-append_seam us vs,
  sym (drop-append_seam xs ys) ∙ ap (λ (n : ℕ). drop n (xs ++ ys)) long ∙ ap (drop (length us)) e ∙ drop-append_seam us vs,
)

-- names of one key are the same
key_parts : (o s p t : List ℕ) → length o < 2 ^ 64 → length p < 2 ^ 64 → key_of o s ≡ key_of p t → (o ≡ p) × (s ≡ t)
unfolding key_of
key_parts o s p t fits fits' e =
    let front = parts_of (to_be_bytes w64 (length o)) (o ++ s) (to_be_bytes w64 (length p)) (p ++ t) refl e in
    let long : length o ≡ length p =
    sym (from_be_bytes-to_be_bytes_8 (length o) fits) ∙ ap (from_be_bytes w64) front.0 ∙ from_be_bytes-to_be_bytes_8 (length p) fits' in
    parts_of o s p t long front.1

-- whether a state has these names
abbrev has_names : List ℕ → List ℕ → NamedState → Bool
has_names object state s = bytes_eq s.object object && bytes_eq s.state state

-- whether it has their key
abbrev has_key : List ℕ → List ℕ → NamedState → Bool
has_key object state s = same_name (key_of object state) (own_key s)

key_from_names : (object state : List ℕ) (s : NamedState) → has_names object state s ≡ true → has_key object state s ≡ true
key_from_names object state s e =
    let both = and_parts (bytes_eq s.object object) (bytes_eq s.state state) e in
    let o : s.object ≡ object = same_name-equal s.object object both.0 in
    let t : s.state ≡ state = same_name-equal s.state state both.1 in
    let K : List ℕ → Type 0 = λ k. same_name (key_of object state) k ≡ true in
    subst K (ap (λ (x : List ℕ). key_of x state) (sym o) ∙ ap (key_of s.object) (sym t)) (same_name-itself (key_of object state))

names_from_key : (object state : List ℕ) (s : NamedState) → length object < 2 ^ 64 → length s.object < 2 ^ 64 → has_key object state s ≡ true
    → has_names object state s ≡ true
names_from_key object state s fits fits' e =
    let both = key_parts object state s.object s.state fits fits' (same_name-equal (key_of object state) (own_key s) e) in
    let O : List ℕ → Type 0 = λ x. bytes_eq s.object x ≡ true in
    let T : List ℕ → Type 0 = λ x. bytes_eq s.state x ≡ true in
    let o : bytes_eq s.object object ≡ true = subst O (sym both.0) (same_name-itself s.object) in
    let t : bytes_eq s.state state ≡ true = subst T (sym both.1) (same_name-itself s.state) in
    ap (λ (b : Bool). b && bytes_eq s.state state) o ∙ t

no_names : (object state : List ℕ) (s : NamedState) → has_key object state s ≡ false → has_names object state s ≡ false
no_names object state s e = by (has_names object state s) refl
  where
    by : (b : Bool) → has_names object state s ≡ b → b ≡ false
    by true h = absurd (true≢false (sym (key_from_names object state s h) ∙ e))
    by false h = refl

-- the first state with a key is the first with its names
pub found_state : (object state : List ℕ) (states : List NamedState) (n : ℕ) (s : NamedState) → length object < 2 ^ 64 → length s.object < 2 ^ 64
    → place_of (has_key object state) states ≡ Some n → slice_get states n ≡ Some s → find (has_names object state) states ≡ Some s
found_state object state [] n s fits fits' place at = cc
found_state object state (t ∷ ts) n s fits fits' place at =
    by (has_key object state t) refl (place_of (has_key object state) ts) refl n place at (λ m e here. found_state object state ts m s fits fits' e here)
  where
    by : (b : Bool) → has_key object state t ≡ b → (o : Option ℕ) → place_of (has_key object state) ts ≡ o → (n : ℕ)
        → cond b (Some 0) (option_map suc o) ≡ Some n → slice_get (t ∷ ts) n ≡ Some s
        → ((m : ℕ) → place_of (has_key object state) ts ≡ Some m → slice_get ts m ≡ Some s → find (has_names object state) ts ≡ Some s)
        → cond (has_names object state t) (Some t) (find (has_names object state) ts) ≡ Some s
    by true key o e zero place at rest =
        let same : t ≡ s = cc in
        let K : NamedState → Type 0 = λ x. has_key object state x ≡ true in
        let N : NamedState → Type 0 = λ x. has_names object state x ≡ true in
        let names : has_names object state t ≡ true = subst N (sym same) (names_from_key object state s fits fits' (subst K same key)) in
        ap (λ (b : Bool). cond b (Some t) (find (has_names object state) ts)) names ∙ ap Some same
    by true key o e (suc n) place at rest = cc
    by false key None e n place at rest = cc
    by false key (Some m) e zero place at rest = cc
    by false key (Some m) e (suc n) place at rest =
        let behind : m ≡ n = cc in
        let H : ℕ → Type 0 = λ k. slice_get ts k ≡ Some s in
        ap (λ (b : Bool). cond b (Some t) (find (has_names object state) ts)) (no_names object state t key) ∙ rest m e (subst H (sym behind) at)

-- where no state has the key, none has the names
pub absent_state : (object state : List ℕ) (states : List NamedState) → place_of (has_key object state) states ≡ None → find (has_names object state) states ≡ None
absent_state object state [] e = refl
absent_state object state (t ∷ ts) e = by (has_key object state t) refl (place_of (has_key object state) ts) refl e (absent_state object state ts)
  where
    by : (b : Bool) → has_key object state t ≡ b → (o : Option ℕ) → place_of (has_key object state) ts ≡ o → cond b (Some 0) (option_map suc o) ≡ None
        → (place_of (has_key object state) ts ≡ None → find (has_names object state) ts ≡ None)
        → cond (has_names object state t) (Some t) (find (has_names object state) ts) ≡ None
    by true key o e none rest = cc
    by false key (Some m) e none rest = cc
    by false key None e none rest = ap (λ (b : Bool). cond b (Some t) (find (has_names object state) ts)) (no_names object state t key) ∙ rest e

-- a place in a list, or the last one where the thing that is added passes the test
abbrev behind : Option ℕ → Bool → ℕ → Option ℕ
behind (Some n) b last = Some n
behind None b last = cond b (Some last) None

last_more : (b : Bool) (n : ℕ) → option_map suc (cond b (Some n) None) ≡ cond b (Some (suc n)) None
last_more true n = refl
last_more false n = refl

place_of-push : {X : Type 0} (test : X → Bool) (xs : List X) (x : X) → place_of test (xs ++ x ∷ []) ≡ behind (place_of test xs) (test x) (length xs)
place_of-push test [] x = by (test x)
  where
    by : (b : Bool) → cond b (Some 0) (option_map suc None) ≡ cond b (Some 0) None
    by true = refl
    by false = refl
place_of-push test (y ∷ ys) x = by (test y) (place_of test ys) (place_of test (ys ++ x ∷ [])) (place_of-push test ys x)
  where
    by : (b : Bool) (o p : Option ℕ) → p ≡ behind o (test x) (length ys)
        → cond b (Some 0) (option_map suc p) ≡ behind (cond b (Some 0) (option_map suc o)) (test x) (suc (length ys))
    by true o p e = refl
    by false (Some n) p e = ap (option_map suc) e
    by false None p e = ap (option_map suc) e ∙ last_more (test x) (length ys)

-- what is found at a place, once one thing more is there
found_push : (firsts : List ℕ) (n last : ℕ) (place : Option ℕ) (b : Bool) → last ≡ length firsts → ((p : ℕ) → place ≡ Some p → p < length firsts)
    → option_and_then (slice_get (firsts ++ n ∷ [])) (behind place b last) ≡ behind (option_and_then (slice_get firsts) place) b n
found_push firsts n last None true at within = slice_get_last firsts n last at
found_push firsts n last None false at within = refl
found_push firsts n last (Some p) b at within =
    let there : slice_get firsts p ≡ Some (get_or firsts p 0) = slice_get-get_or firsts p 0 (within p refl) in
    slice_get-append firsts (n ∷ []) p (get_or firsts p 0) there ∙ ap (λ (o : Option ℕ). behind o b n) (sym there)

-- a state with a new key
pub found_new : (states : List NamedState) (s : NamedState) (old new : Found) → AreFound states old → place_of (same_name (own_key s)) old.keys ≡ None
    → new.keys ≡ old.keys ++ own_key s ∷ [] → new.firsts.items ≡ old.firsts.items ++ length states ∷ [] → AreFound (states ++ s ∷ []) new
found_new states s old new found absent keys firsts = record {
  count = omega (arith, ap length keys, ap length firsts, length_push old.keys (own_key s), length_push old.firsts.items (length states), found.count);
  firsts = λ key. each key;
}
  where
    each : (key : List ℕ) → first_in new key ≡ place_of (λ t. same_name key (own_key t)) (states ++ s ∷ [])
    each key =
        let place = place_of (same_name key) old.keys in
        let within : (p : ℕ) → place ≡ Some p → p < length old.firsts.items = λ p e. omega (arith, place_of-within (same_name key) old.keys p e, found.count) in
        ap (λ (xs : List ℕ). option_and_then (slice_get xs) (place_of (same_name key) new.keys)) firsts
        ∙ ap (λ (ks : List (List ℕ)). option_and_then (slice_get (old.firsts.items ++ length states ∷ [])) (place_of (same_name key) ks)) keys
        ∙ ap (option_and_then (slice_get (old.firsts.items ++ length states ∷ []))) (place_of-push (same_name key) old.keys (own_key s))
        ∙ found_push old.firsts.items (length states) (length old.keys) place (same_name key (own_key s)) (sym found.count) within
        ∙ ap (λ (o : Option ℕ). behind o (same_name key (own_key s)) (length states)) (found.firsts key)
        ∙ sym (place_of-push (λ (t : NamedState). same_name key (own_key t)) states s)

-- a state with the key of an earlier one
pub found_again : (states : List NamedState) (s : NamedState) (old new : Found) (p : ℕ) → AreFound states old → place_of (same_name (own_key s)) old.keys ≡ Some p
    → new.keys ≡ old.keys → new.firsts.items ≡ old.firsts.items → AreFound (states ++ s ∷ []) new
found_again states s old new p found there keys firsts = record {
  count = omega (arith, ap length keys, ap length firsts, found.count);
  firsts = λ key. each key;
}
  where
    by : (key : List ℕ) (b : Bool) → same_name key (own_key s) ≡ b → (o : Option ℕ) → place_of (λ (t : NamedState). same_name key (own_key t)) states ≡ o
        → o ≡ behind o b (length states)
    by key b same (Some n) e = refl
    by key false same None e = refl
    by key true same None e =
        let P : List ℕ → Type 0 = λ k. place_of (same_name k) old.keys ≡ Some p in
        let place : place_of (same_name key) old.keys ≡ Some p = subst P (sym (same_name-equal key (own_key s) same)) there in
        let within : p < length old.firsts.items = omega (arith, place_of-within (same_name key) old.keys p place, found.count) in
        let first : first_in old key ≡ Some (get_or old.firsts.items p 0) =
        ap (option_and_then (slice_get old.firsts.items)) place ∙ slice_get-get_or old.firsts.items p 0 within in
        let none : first_in old key ≡ None = found.firsts key ∙ e in
        cc

    each : (key : List ℕ) → first_in new key ≡ place_of (λ t. same_name key (own_key t)) (states ++ s ∷ [])
    each key =
        ap (λ (xs : List ℕ). option_and_then (slice_get xs) (place_of (same_name key) new.keys)) firsts
        ∙ ap (λ (ks : List (List ℕ)). option_and_then (slice_get old.firsts.items) (place_of (same_name key) ks)) keys
        ∙ found.firsts key
        ∙ by key (same_name key (own_key s)) refl (place_of (λ (t : NamedState). same_name key (own_key t)) states) refl
        ∙ sym (place_of-push (λ (t : NamedState). same_name key (own_key t)) states s)

-- a state added under its key, which takes a number where the key is new
pub added : (states : List NamedState) (s : NamedState) (old new : Found) (key : List ℕ) (keys : List (List ℕ)) (place number : ℕ) → number ≡ length states
    → key ≡ own_key s → AreFound states old → place_of (same_name key) keys ≡ Some place
    → MatchOption (place_of (same_name key) old.keys) (keys ≡ old.keys ++ key ∷ []) (λ _. keys ≡ old.keys) → new.keys ≡ keys
    → (place ≡ length old.firsts.items → new.firsts.items ≡ old.firsts.items ++ number ∷ [])
    → (place ≢ length old.firsts.items → new.firsts.items ≡ old.firsts.items) → AreFound (states ++ s ∷ []) new
added states s old new key keys place number last own found there kept same pushed left = by (place_of (same_name key) old.keys) refl kept
  where
    by : (o : Option ℕ) → place_of (same_name key) old.keys ≡ o → MatchOption o (keys ≡ old.keys ++ key ∷ []) (λ _. keys ≡ old.keys)
        → AreFound (states ++ s ∷ []) new
    by None e more =
        let P : List ℕ → Type 0 = λ k. place_of (same_name k) old.keys ≡ None in
        let at : behind None true (length old.keys) ≡ Some place =
        ap (λ (b : Bool). behind None b (length old.keys)) (sym (same_name-itself key)) ∙ ap (λ (o : Option ℕ). behind o (same_name key key) (length old.keys)) (sym e)
        ∙ sym (place_of-push (same_name key) old.keys key) ∙ ap (place_of (same_name key)) (sym more) ∙ there in
        let new_place : place ≡ length old.firsts.items = (let here : length old.keys ≡ place = cc in omega (arith, found.count)) in
        found_new states s old new found (subst P own e) (same ∙ more ∙ ap (λ (k : List ℕ). old.keys ++ k ∷ []) own)
        (pushed new_place ∙ ap (λ (n : ℕ). old.firsts.items ++ n ∷ []) last)
    by (Some p) e again =
        let P : List ℕ → Type 0 = λ k. place_of (same_name k) old.keys ≡ Some p in
        let at : place_of (same_name key) old.keys ≡ Some place = ap (place_of (same_name key)) (sym again) ∙ there in
        let within : place < length old.firsts.items = omega (arith, place_of-within (same_name key) old.keys place at, found.count) in
        found_again states s old new p found (subst P own e) (same ∙ again) (left (λ over. omega arith))
