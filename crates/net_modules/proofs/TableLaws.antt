-- What a table tells with one more name, and with one more declaration.
use Rattle.std.proofs.Common.{◌≡◌, ◌≢◌, ℕ, suc, ◌+◌, ◌<◌, ◌≤◌, Bool, true, false, cond, MatchOption, List, [], ◌∷◌, ◌++◌, Option, None, Some, length, filter, get_or, set, slice_get, refl, sym, ap, ◌∙◌, subst, arith}
use Rattle.std.specs.Option.{option_map}
use Rattle.std.proofs.lemmas.List.{append-nil, length-append, length-set, get_or_append_left, get_or_at, get_or_default, get_or-set_same, get_or-set_other}
use Rattle.std.proofs.lemmas.List.Elements.{filter-append}
use Rattle.std.proofs.lemmas.Bool.{true≢false}
use Rattle.std.proofs.lemmas.Option.{none-some, same_Some}
use Rattle.list_defs.specs.Members.{place_of, same_name}
use Rattle.list_defs.proofs.NameLemmas.{place_of-within, same_name-equal, same_name-itself, slice_get-place_of}
use Rattle.net_text.specs.SecondDeclarations.{Declaration, named_in}
use Rattle.net_modules.specs.declared.said.Said.{Said}
use Rattle.net_modules.specs.declared.tables.SaidTable.{SaidTable}
use Rattle.net_modules.specs.Sayings.{nothing_said, said_after, said_with, says_port}
use Rattle.net_modules.specs.SaidTables.{HasPlaces, IsTableOf, TellsAs, TellsMore, no_said, said_at, said_in, said_view}
use Rattle.net_modules.proofs.SayingLaws.{said_push}

-- ---- one name more

place_there : {X : Type 0} (test : X → Bool) (xs : List X) (x : X) (n : ℕ) → place_of test xs ≡ Some n → place_of test (xs ++ x ∷ []) ≡ Some n
place_there test [] x n e = absurd (none-some n e)
place_there test (y ∷ ys) x n e = by (place_there test ys x) (test y) (place_of test ys) refl e
  where
    by : ((m : ℕ) → place_of test ys ≡ Some m → place_of test (ys ++ x ∷ []) ≡ Some m) → (b : Bool) (o : Option ℕ) → place_of test ys ≡ o → cond b (Some 0) (option_map suc o) ≡ Some n
        → cond b (Some 0) (option_map suc (place_of test (ys ++ x ∷ []))) ≡ Some n
    by rest true o is e = e
    by rest false None is e = absurd (none-some n e)
    by rest false (Some m) is e = ap (option_map suc) (rest m is) ∙ e

place_last : {X : Type 0} (test : X → Bool) (xs : List X) (x : X) → place_of test xs ≡ None → place_of test (xs ++ x ∷ []) ≡ cond (test x) (Some (length xs)) None
place_last test [] x e = by (test x)
  where
    by : (b : Bool) → cond b (Some 0) (option_map suc None) ≡ cond b (Some 0) None
    by true = refl
    by false = refl
place_last test (y ∷ ys) x e = by (place_last test ys x) (test y) (place_of test ys) refl e
  where
    last : (b : Bool) → option_map suc (cond b (Some (length ys)) None) ≡ cond b (Some (suc (length ys))) None
    last true = refl
    last false = refl

    by : (place_of test ys ≡ None → place_of test (ys ++ x ∷ []) ≡ cond (test x) (Some (length ys)) None) → (b : Bool) (o : Option ℕ) → place_of test ys ≡ o
        → cond b (Some 0) (option_map suc o) ≡ None
        → cond b (Some 0) (option_map suc (place_of test (ys ++ x ∷ []))) ≡ cond (test x) (Some (suc (length ys))) None
    by rest true o is e = absurd (none-some 0 (sym e))
    by rest false None is e = ap (option_map suc) (rest is) ∙ last (test x)
    by rest false (Some m) is e = absurd (none-some (suc m) (sym e))

module _ (old new : SaidTable) (name : List ℕ) (blank : Said) (places : HasPlaces old) (absent : place_of (same_name name) old.names ≡ None)
    (names : new.names ≡ old.names ++ name ∷ []) (said : new.said.items ≡ old.said.items ++ blank ∷ []) (nothing : said_view blank ≡ nothing_said) where
  pub one_name_more : TellsAs old new
  unfolding said_at
  one_name_more = record {
    places =
        ap length said ∙ length-append old.said.items (blank ∷ []) ∙ ap (λ (n : ℕ). n + 1) places ∙ sym (length-append old.names (name ∷ []))
        ∙ sym (ap length names);
    tells = λ other. ap (λ items. said_in items (place_of (same_name other) new.names)) said
        ∙ ap (λ l. said_in (old.said.items ++ blank ∷ []) (place_of (same_name other) l)) names ∙ by other (place_of (same_name other) old.names) refl;
  }
    where
      last : (b : Bool) → said_in (old.said.items ++ blank ∷ []) (cond b (Some (length old.names)) None) ≡ nothing_said
      last true = ap said_view (get_or_at old.said.items blank [] no_said (length old.names) places) ∙ nothing
      last false = refl

      by : (other : List ℕ) (o : Option ℕ) → place_of (same_name other) old.names ≡ o
          → said_in (old.said.items ++ blank ∷ []) (place_of (same_name other) (old.names ++ name ∷ [])) ≡ said_in old.said.items o
      by other None e = ap (said_in (old.said.items ++ blank ∷ [])) (place_last (same_name other) old.names name e) ∙ last (same_name other name)
      by other (Some n) e =
          let within : n < length old.names = place_of-within (same_name other) old.names n e in
          ap (said_in (old.said.items ++ blank ∷ [])) (place_there (same_name other) old.names name n e)
          ∙ ap said_view (get_or_append_left old.said.items (blank ∷ []) no_said n (omega (arith, within, places)))

pub same_table : (old new : SaidTable) → HasPlaces old → new.names ≡ old.names → new.said.items ≡ old.said.items → TellsAs old new
unfolding said_at
same_table old new places names said = record {
  places = ap length said ∙ places ∙ sym (ap length names);
  tells = λ other. ap (λ items. said_in items (place_of (same_name other) new.names)) said ∙ ap (λ l. said_in old.said.items (place_of (same_name other) l)) names;
}

-- ---- one declaration more

module _ (mid new : SaidTable) (d : Declaration) (place : ℕ) (x : Said) (places : HasPlaces mid)
    (at : place_of (same_name (named_in d).text) mid.names ≡ Some place) (names : new.names ≡ mid.names) (said : new.said.items ≡ set mid.said.items place x)
    (is : said_view x ≡ said_with (said_at mid (named_in d).text) d) where
  within : place < length mid.said.items
  within = let there : place < length mid.names = place_of-within (same_name (named_in d).text) mid.names place at in omega (arith, there, places)

  -- another name stands at another place
  apart : (other : List ℕ) (n : ℕ) → same_name (named_in d).text other ≡ false → place_of (same_name other) mid.names ≡ Some n → n ≢ place
  apart other n differs there same =
      let one = slice_get-place_of other mid.names n there in
      let two = slice_get-place_of (named_in d).text mid.names place at in
      let equal : other ≡ (named_in d).text = same_Some other (named_in d).text (sym one ∙ ap (slice_get mid.names) same ∙ two) in
      true≢false (sym (same_name-itself (named_in d).text) ∙ ap (same_name (named_in d).text) (sym equal) ∙ differs)

  pub written : TellsMore mid new d
  unfolding said_at
  written = record {
    places = ap length said ∙ length-set mid.said.items place x ∙ places ∙ sym (ap length names);
    tells = λ other. ap (λ items. said_in items (place_of (same_name other) new.names)) said
        ∙ ap (λ l. said_in (set mid.said.items place x) (place_of (same_name other) l)) names ∙ by other (same_name (named_in d).text other) refl;
  }
    where
      elsewhere : (other : List ℕ) (o : Option ℕ) → place_of (same_name other) mid.names ≡ o → ((n : ℕ) → o ≡ Some n → n ≢ place)
          → said_in (set mid.said.items place x) o ≡ said_in mid.said.items o
      elsewhere other None e differs = refl
      elsewhere other (Some n) e differs = ap said_view (get_or-set_other mid.said.items place n x no_said (differs n refl))

      by : (other : List ℕ) (b : Bool) → same_name (named_in d).text other ≡ b
          → said_in (set mid.said.items place x) (place_of (same_name other) mid.names)
          ≡ cond b (said_with (said_in mid.said.items (place_of (same_name other) mid.names)) d) (said_in mid.said.items (place_of (same_name other) mid.names))
      by other true e =
          let same : (named_in d).text ≡ other = same_name-equal (named_in d).text other e in
          let here : place_of (same_name other) mid.names ≡ Some place = ap (λ n. place_of (same_name n) mid.names) (sym same) ∙ at in
          ap (said_in (set mid.said.items place x)) here ∙ ap said_view (get_or-set_same mid.said.items place x no_said within) ∙ is
          ∙ ap (λ n. said_with (said_in mid.said.items (place_of (same_name n) mid.names)) d) same
      by other false e = elsewhere other (place_of (same_name other) mid.names) refl (λ n there. apart other n e there)

pub more_after : (old mid new : SaidTable) (d : Declaration) → TellsAs old mid → TellsMore mid new d → TellsMore old new d
more_after old mid new d like more =
    record { places = more.places; tells = λ name. more.tells name ∙ ap (λ s. said_after name s d) (like.tells name) }

-- a table of declarations, with one more
pub table_push : (old new : SaidTable) (d : Declaration) → TellsMore old new d → (given : List Declaration) → IsTableOf old given → IsTableOf new (given ++ d ∷ [])
table_push old new d more given of =
    record { places = more.places; tells = λ name. more.tells name ∙ ap (λ s. said_after name s d) (of.tells name) ∙ sym (said_push name given d) }

-- those that say something of a port, with one more
filtered : (given : List Declaration) (d : Declaration) (b : Bool) → says_port d ≡ b → filter says_port (given ++ d ∷ []) ≡ cond b (filter says_port given ++ d ∷ []) (filter says_port given)
filtered given d b e = filter-append says_port given (d ∷ []) ∙ by b e
  where
    by : (b : Bool) → says_port d ≡ b → filter says_port given ++ cond (says_port d) (d ∷ []) [] ≡ cond b (filter says_port given ++ d ∷ []) (filter says_port given)
    by true e = ap (λ (t : Bool). filter says_port given ++ cond t (d ∷ []) []) e
    by false e = ap (λ (t : Bool). filter says_port given ++ cond t (d ∷ []) []) e ∙ append-nil (filter says_port given)

pub port_passed : (t : SaidTable) (d : Declaration) → says_port d ≡ false → (given : List Declaration) → IsTableOf t (filter says_port given)
    → IsTableOf t (filter says_port (given ++ d ∷ []))
port_passed t d e given of = subst (IsTableOf t) (sym (filtered given d false e)) of

pub port_added : (old new : SaidTable) (d : Declaration) → says_port d ≡ true
    → ((given : List Declaration) → IsTableOf old given → IsTableOf new (given ++ d ∷ []))
    → (given : List Declaration) → IsTableOf old (filter says_port given) → IsTableOf new (filter says_port (given ++ d ∷ []))
port_added old new d e step given of = subst (IsTableOf new) (sym (filtered given d true e)) (step (filter says_port given) of)

-- ---- the place of a name

abbrev IsNumbered : List (List ℕ) → List (List ℕ) → List ℕ → Type 0
IsNumbered old new name = MatchOption (place_of (same_name name) old) (new ≡ old ++ name ∷ []) (λ _. new ≡ old)

module _ (old new : List (List ℕ)) (name : List ℕ) (place : ℕ) (numbered : IsNumbered old new name) (at : place_of (same_name name) new ≡ Some place) where
  pub known_name : place < length old → new ≡ old
  known_name within = by (place_of (same_name name) old) refl numbered
    where
      by : (o : Option ℕ) → place_of (same_name name) old ≡ o → MatchOption o (new ≡ old ++ name ∷ []) (λ _. new ≡ old) → new ≡ old
      by (Some n) e h = h
      by None e h =
          let last : Some place ≡ Some (length old) =
          sym at ∙ ap (place_of (same_name name)) h ∙ place_last (same_name name) old name e
          ∙ ap (λ b. cond b (Some (length old)) None) (same_name-itself name) in
          let same : place ≡ length old = same_Some place (length old) last in
          absurd (omega (arith, within, same))

  pub new_name : length old ≤ place → (place_of (same_name name) old ≡ None) × (new ≡ old ++ name ∷ [])
  new_name past = by (place_of (same_name name) old) refl numbered
    where
      by : (o : Option ℕ) → place_of (same_name name) old ≡ o → MatchOption o (new ≡ old ++ name ∷ []) (λ _. new ≡ old)
          → (o ≡ None) × (new ≡ old ++ name ∷ [])
      by (Some n) e h =
          let within : place < length old = place_of-within (same_name name) old place (ap (place_of (same_name name)) (sym h) ∙ at) in
          absurd (omega (arith, within, past))
      by None e h = (refl, h)

-- what stands at the place of a name is what the table tells of it
module _ (t : SaidTable) (name : List ℕ) (n : ℕ) (places : HasPlaces t) (at : place_of (same_name name) t.names ≡ Some n) where
  pub there_within : n < length t.said.items
  there_within = let within : n < length t.names = place_of-within (same_name name) t.names n at in omega (arith, within, places)

  pub there_said : (x d : Said) → x ≡ get_or t.said.items n d → said_view x ≡ said_at t name
  unfolding said_at
  there_said x d is = ap said_view (is ∙ get_or_default t.said.items n d no_said there_within) ∙ ap (said_in t.said.items) (sym at)
