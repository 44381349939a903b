-- What mentions say of pins, and what a table of pins knows when a pin is mentioned once more.
use Rattle.std.proofs.Common.{◌≡◌, ◌≢◌, ℕ, suc, Bool, true, false, not, ◌&&◌, ◌||◌, List, [], ◌∷◌, ◌++◌, map, Option, Some, None, inl, inr, refl, sym, ap, ◌∙◌, subst, if◌then◌else◌, slice_get, slice_set, option_map}
use Rattle.std.specs.List.{flat_map, list_any}
use Rattle.std.proofs.lemmas.List.{append-nil, append_assoc, map-append}
use Rattle.std.proofs.lemmas.Bool.{true≢false, and_parts}
use Rattle.std.proofs.lemmas.Option.{same_Some, slice_get-map}
use Rattle.list_defs.specs.Members.{IsIn, all_differ, place_of, same_name}
use Rattle.list_defs.proofs.Members.{IsIn-slice_get}
use Rattle.list_defs.proofs.NameLemmas.{IsIn-list_any, absent-place_of, all_differ-push, list_any-IsIn, same_name-equal, same_name-itself, slice_get-place_of}
use Rattle.text_defs.specs.FirstPlace.{firsts}
use Rattle.lib_cells.specs.CellViews.{IsTableOf}
use Rattle.lib_cells.specs.Marks.{PinsSaid, marks_for, marks_of, overlaid}
use Rattle.lib_cells.specs.Mentions.{AreSaid, Mention, SaysAt, SaysMore, marks_said, mentions_in, mentions_of}
use Rattle.lib_cells.specs.declared.marks.Marks.{Marks}
use Rattle.lib_cells.specs.declared.tables.PinTable.{PinTable}
use Rattle.lib_cells.proofs.FirstsLaws.{from_firsts, in_firsts, names_new, names_old}
use Rattle.lib_cells.proofs.MarkLaws.{none-overlaid, overlaid-assoc, overlaid-none, overlaid-self}

-- what is made of the same things in the same way
pub map_alike : {X Y : Type 0} (f g : X → Y) (xs : List X) → ((x : X) → IsIn x xs → f x ≡ g x) → map f xs ≡ map g xs
map_alike f g [] each = refl
map_alike f g (x ∷ xs) each =
    let here : f x ≡ g x = each x (inl refl) in
    let rest : map f xs ≡ map g xs = map_alike f g xs (λ y i. each y (inr i)) in
    cc

other_name : (a b : List ℕ) → a ≢ b → same_name a b ≡ false
other_name a b differ = by (same_name a b) refl
  where
    by : (t : Bool) → same_name a b ≡ t → t ≡ false
    by true e = absurd (differ (same_name-equal a b e))
    by false e = refl

-- of a pin that isn't mentioned nothing is said
said_none : (name : List ℕ) (ms : List Mention) → ¬ IsIn name (map (λ (m : Mention). m.name) ms) → marks_said name ms ≡ marks_of []
said_none name [] none = refl
said_none name (m ∷ ms) none =
    ap (λ (b : Bool). if b then overlaid m.marks (marks_said name ms) else marks_said name ms) (other_name name m.name (λ e. none (inl e)))
    ∙ said_none name ms (λ i. none (inr i))

-- one more mention
said_more : (name : List ℕ) (ms : List Mention) (m : Mention)
    → marks_said name (ms ++ m ∷ []) ≡ (if same_name name m.name then overlaid (marks_said name ms) m.marks else marks_said name ms)
said_more name [] m = by (same_name name m.name)
  where
    by : (b : Bool) → (if b then overlaid m.marks (marks_of []) else marks_of []) ≡ (if b then overlaid (marks_of []) m.marks else marks_of [])
    by true = overlaid-none m.marks ∙ sym (none-overlaid m.marks)
    by false = refl
said_more name (k ∷ ms) m =
    ap (λ (x : Marks). if same_name name k.name then overlaid k.marks x else x) (said_more name ms m) ∙ by (same_name name k.name) (same_name name m.name)
  where
    by : (first last : Bool) → (if first then overlaid k.marks (if last then overlaid (marks_said name ms) m.marks else marks_said name ms)
        else (if last then overlaid (marks_said name ms) m.marks else marks_said name ms))
        ≡ (if last then overlaid (if first then overlaid k.marks (marks_said name ms) else marks_said name ms) m.marks
        else (if first then overlaid k.marks (marks_said name ms) else marks_said name ms))
    by true true = sym (overlaid-assoc k.marks (marks_said name ms) m.marks)
    by true false = refl
    by false true = refl
    by false false = refl

was_false : (b : Bool) → not b ≡ true → b ≡ false
was_false true e = cc
was_false false e = refl

none_same : (name : List ℕ) (names : List (List ℕ)) → place_of (same_name name) names ≡ None → list_any (same_name name) names ≡ false
none_same name names place = by (list_any (same_name name) names) refl
  where
    by : (b : Bool) → list_any (same_name name) names ≡ b → b ≡ false
    by true e = absurd (absent-place_of name names place (IsIn-list_any name names e))
    by false e = refl

-- a change at the place of one name
set_there : (f g : List ℕ → Marks) (name : List ℕ) (names : List (List ℕ)) (at : ℕ) → place_of (same_name name) names ≡ Some at → all_differ same_name names ≡ true
    → ((n : List ℕ) → n ≢ name → f n ≡ g n) → slice_set (map f names) at (g name) ≡ map g names
set_there f g name [] at e differ others = cc
set_there f g name (x ∷ xs) at e differ others = by (λ k p d. set_there f g name xs k p d others) (same_name name x) refl e
  where
    parts : (not (list_any (same_name x) xs) ≡ true) × (all_differ same_name xs ≡ true)
    parts = and_parts (not (list_any (same_name x) xs)) (all_differ same_name xs) differ

    Deeper : Type 0
    Deeper = (k : ℕ) → place_of (same_name name) xs ≡ Some k → all_differ same_name xs ≡ true → slice_set (map f xs) k (g name) ≡ map g xs

    behind : Deeper → (o : Option ℕ) → place_of (same_name name) xs ≡ o → option_map suc o ≡ Some at → f x ≡ g x → slice_set (map f (x ∷ xs)) at (g name) ≡ map g (x ∷ xs)
    behind deeper None p h same = cc
    behind deeper (Some k) p h same =
        let next : suc k ≡ at = cc in
        let rest : slice_set (map f xs) k (g name) ≡ map g xs = deeper k p parts.1 in
        subst (λ (n : ℕ). slice_set (map f (x ∷ xs)) n (g name) ≡ map g (x ∷ xs)) next (let both : f x ∷ slice_set (map f xs) k (g name) ≡ g x ∷ map g xs = cc in both)

    by : Deeper → (b : Bool) → same_name name x ≡ b → (if b then Some 0 else option_map suc (place_of (same_name name) xs)) ≡ Some at
        → slice_set (map f (x ∷ xs)) at (g name) ≡ map g (x ∷ xs)
    by deeper true same h =
        let zero_at : 0 ≡ at = cc in
        let is : name ≡ x = same_name-equal name x same in
        let alone : (n : List ℕ) → IsIn n xs → n ≢ name =
        (λ n i e. true≢false (sym (list_any-IsIn x xs (subst (λ m. IsIn m xs) (e ∙ is) i)) ∙ was_false (list_any (same_name x) xs) parts.0)) in
        let rest : map f xs ≡ map g xs = map_alike f g xs (λ n i. others n (alone n i)) in
        let first : g name ≡ g x = ap g is in
        subst (λ (n : ℕ). slice_set (map f (x ∷ xs)) n (g name) ≡ map g (x ∷ xs)) zero_at (let both : g name ∷ map f xs ≡ g x ∷ map g xs = cc in both)
    by deeper false other h =
        let apart : x ≢ name = (λ e. true≢false (sym (ap (same_name name) e ∙ same_name-itself name) ∙ other)) in
        behind deeper (place_of (same_name name) xs) refl h (others x apart)

-- a table knows one more mention
pub said_once_more : (ms : List Mention) (old new : PinTable) (name : List ℕ) (marks : Marks) → AreSaid ms old → SaysMore old new name marks
    → AreSaid (ms ++ record { name = name; marks = marks } ∷ []) new
said_once_more ms old new name marks are more = by (place_of (same_name name) old.names) refl more
  where
    last : Mention
    last = record { name = name; marks = marks }

    named : List (List ℕ)
    named = map (λ (m : Mention). m.name) ms

    before : List ℕ → Marks
    before n = marks_said n ms

    now : List ℕ → Marks
    now n = marks_said n (ms ++ last ∷ [])

    others : (n : List ℕ) → n ≢ name → before n ≡ now n
    others n differ =
        sym (said_more n ms last ∙ ap (λ (b : Bool). if b then overlaid (marks_said n ms) marks else marks_said n ms) (other_name n name differ))

    own : now name ≡ overlaid (before name) marks
    own = said_more name ms last ∙ ap (λ (b : Bool). if b then overlaid (marks_said name ms) marks else marks_said name ms) (same_name-itself name)

    by : (o : Option ℕ) → place_of (same_name name) old.names ≡ o → SaysAt old new name marks o → AreSaid (ms ++ last ∷ []) new
    by None place says =
        let absent : ¬ IsIn name old.names = absent-place_of name old.names place in
        let unnamed : ¬ IsIn name named = (λ i. absent (subst (IsIn name) (sym are.names) (in_firsts named name i))) in
        let silent : before name ≡ marks_of [] = said_none name ms unnamed in
        record {
          names = says.0 ∙ ap (λ l. l ++ name ∷ []) are.names ∙ sym (names_new named name unnamed) ∙ ap (firsts same_name) (sym (map-append (λ (m : Mention). m.name) ms (last ∷ [])));
          marks =
              says.1 ∙ ap (λ (l : List Marks). l ++ marks ∷ []) (are.marks ∙ map_alike before now old.names (λ n i. others n (λ e. absent (subst (λ m. IsIn m old.names) e i))))
              ∙ ap (λ (x : Marks). map now old.names ++ x ∷ []) (sym (own ∙ ap (λ (x : Marks). overlaid x marks) silent ∙ none-overlaid marks))
              ∙ sym (map-append now old.names (name ∷ [])) ∙ ap (map now) (sym says.0);
          differ =
              ap (all_differ same_name) says.0 ∙ all_differ-push old.names name
              ∙ ap (λ (b : Bool). b && not (list_any (same_name name) old.names)) are.differ ∙ ap not (none_same name old.names place);
        }
    by (Some at) place says =
        let there : IsIn name old.names = IsIn-slice_get old.names at name (slice_get-place_of name old.names at place) in
        let mentioned : IsIn name named = from_firsts same_name named name (subst (IsIn name) are.names there) in
        let was : says.0 ≡ before name = same_Some says.0 (before name) (sym says.2 ∙ ap (λ (l : List Marks). slice_get l at) are.marks ∙ slice_get-map before old.names at ∙ ap (option_map before) (slice_get-place_of name old.names at place)) in
        record {
          names = says.1 ∙ are.names ∙ sym (names_old named name mentioned) ∙ ap (firsts same_name) (sym (map-append (λ (m : Mention). m.name) ms (last ∷ [])));
          marks =
              says.3 ∙ ap (λ (l : List Marks). slice_set l at (overlaid says.0 marks)) are.marks
              ∙ ap (λ (x : Marks). slice_set (map before old.names) at x) (ap (λ (x : Marks). overlaid x marks) was ∙ sym own)
              ∙ set_there before now name old.names at place are.differ others ∙ ap (map now) (sym says.1);
          differ = ap (all_differ same_name) says.1 ∙ are.differ;
        }

-- what a group says of its pins
said_of_group : (name : List ℕ) (names : List (List ℕ)) (marks : Marks) (more : List Mention)
    → marks_said name (map (λ n. record { name = n; marks = marks }) names ++ more) ≡ (if list_any (same_name name) names then overlaid marks (marks_said name more) else marks_said name more)
said_of_group name [] marks more = refl
said_of_group name (n ∷ names) marks more =
    ap (λ (x : Marks). if same_name name n then overlaid marks x else x) (said_of_group name names marks more) ∙ by (same_name name n) (list_any (same_name name) names)
  where
    by : (first behind : Bool) → (if first then overlaid marks (if behind then overlaid marks (marks_said name more) else marks_said name more)
        else (if behind then overlaid marks (marks_said name more) else marks_said name more))
        ≡ (if first || behind then overlaid marks (marks_said name more) else marks_said name more)
    by true true = sym (overlaid-assoc marks marks (marks_said name more)) ∙ ap (λ (x : Marks). overlaid x (marks_said name more)) (overlaid-self marks)
    by true false = refl
    by false true = refl
    by false false = refl

-- what mentions say is what their groups say
pub said_in_groups : (name : List ℕ) (groups : List PinsSaid) → marks_said name (mentions_in groups) ≡ marks_for name groups
said_in_groups name [] = refl
said_in_groups name (g ∷ groups) =
    said_of_group name g.names g.marks (mentions_in groups)
    ∙ ap (λ (x : Marks). if list_any (same_name name) g.names then overlaid g.marks x else x) (said_in_groups name groups)

-- the names that are mentioned
pub named_in_groups : (groups : List PinsSaid) → map (λ (m : Mention). m.name) (mentions_in groups) ≡ flat_map (λ (g : PinsSaid). g.names) groups
named_in_groups [] = refl
named_in_groups (g ∷ groups) =
    map-append (λ (m : Mention). m.name) (mentions_of g) (mentions_in groups)
    ∙ ap (λ l. l ++ map (λ (m : Mention). m.name) (mentions_in groups)) (own g.names)
    ∙ ap (λ l. g.names ++ l) (named_in_groups groups)
  where
    own : (names : List (List ℕ)) → map (λ (m : Mention). m.name) (map (λ n. record { name = n; marks = g.marks }) names) ≡ names
    own [] = refl
    own (n ∷ names) = ap (λ l. n ∷ l) (own names)

-- nothing is mentioned yet
pub none_said : (t : PinTable) → t.names ≡ [] → t.marks.items ≡ [] → AreSaid [] t
unfolding firsts
none_said t names marks =
    record {
      names = names;
      marks = marks ∙ ap (map (λ n. marks_said n [])) (sym names);
      differ = ap (all_differ same_name) names;
    }

-- the pins of a group up to one of them, and that one
pub mentioned_more : {X : Type 0} (name : X → List ℕ) (marks : Marks) (before : List Mention) (xs front : List X) (x : X) → xs ≡ front ++ x ∷ []
    → before ++ mentions_of (record { names = map name xs; marks = marks })
    ≡ (before ++ mentions_of (record { names = map name front; marks = marks })) ++ record { name = name x; marks = marks } ∷ []
mentioned_more name marks before xs front x split =
    let one : List ℕ → Mention = λ n. record { name = n; marks = marks } in
    ap (λ l. before ++ map one (map name l)) split
    ∙ ap (λ l. before ++ map one l) (map-append name front (x ∷ []))
    ∙ ap (λ l. before ++ l) (map-append one (map name front) (name x ∷ []))
    ∙ sym (append_assoc before (map one (map name front)) (one (name x) ∷ []))

-- groups up to one of them, and that one
pub groups_more : {X : Type 0} (view : X → PinsSaid) (xs front : List X) (x : X) → xs ≡ front ++ x ∷ []
    → mentions_in (map view xs) ≡ mentions_in (map view front) ++ mentions_of (view x)
groups_more view xs front x split =
    ap (λ l. mentions_in (map view l)) split ∙ ap mentions_in (map-append view front (x ∷ [])) ∙ flat (map view front)
  where
    flat : (gs : List PinsSaid) → mentions_in (gs ++ view x ∷ []) ≡ mentions_in gs ++ mentions_of (view x)
    flat [] = append-nil (mentions_of (view x))
    flat (g ∷ gs) = ap (λ l. mentions_of g ++ l) (flat gs) ∙ sym (append_assoc (mentions_of g) (mentions_in gs) (mentions_of (view x)))

-- the table of groups
pub table_of_groups : (groups : List PinsSaid) (t : PinTable) → AreSaid (mentions_in groups) t → IsTableOf groups t
table_of_groups groups t are =
    record {
      names = are.names ∙ ap (firsts same_name) (named_in_groups groups);
      marks = are.marks ∙ ap (λ (f : List ℕ → Marks). map f t.names) alike;
    }
  where
    one : List ℕ → Marks
    one name = marks_said name (mentions_in groups)

    other : List ℕ → Marks
    other name = marks_for name groups

    alike : one ≡ other
    alike = λ i name. said_in_groups name groups i
