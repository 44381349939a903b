-- Loops over phrases in a row, of which less is kept than the grammar reads.
use Rattle.std.proofs.Common.{◌≡◌, ℕ, zero, suc, Bool, true, false, List, [], ◌∷◌, ◌++◌, ◌||◌, map, Some, None, Ok, Err, refl, sym, ap, ◌∙◌, if◌then◌else◌}
use Rattle.text_defs.specs.Grammar.{Grammar, Reading, read, next, passes}
use Rattle.text_defs.specs.Phrases.{many}
use Rattle.text_defs.specs.Tokens.{Token}
use Rattle.text_streams.specs.Answers.{Answers, with_front}
use Rattle.text_streams.specs.declared.stops.Stop.{Stop}
use Rattle.text_streams.specs.declared.stops.Stop.TheVariants as stops
use Rattle.text_streams.proofs.AnswerLaws.{many_on, many_fails, many_stops}
use Rattle.lib_cells.specs.LibraryWords.{LibraryClass}
use Rattle.lib_cells.specs.Groups.{entry}
use Rattle.lib_cells.specs.Kept.{Shows, are_some, attribute_entry, seen}
use Rattle.lib_cells.specs.Marks.{lone}

-- a parser that stops where another one does
pub stopped_as : {K X Y A B C D : Type 0} (v : X → C) (f : A → C) (view : Y → D) (h : B → D) (phrase : Grammar K A) (whole : Grammar K B) (tokens old new : List K) (e : Stop)
    → Shows v f phrase tokens (Err e) new → (read phrase tokens ≡ Err new → read whole old ≡ Err new) → Shows view h whole old (Err e) new
stopped_as v f view h phrase whole tokens old new stops.Fault is k = k is
stopped_as v f view h phrase whole tokens old new stops.Memory is k = tt

-- the same behind a parser that keeps all
pub stopped_by : {K X Y A B D : Type 0} (v : X → A) (view : Y → D) (h : B → D) (phrase : Grammar K A) (whole : Grammar K B) (tokens old new : List K) (e : Stop)
    → Answers v phrase tokens (Err e) new → (read phrase tokens ≡ Err new → read whole old ≡ Err new) → Shows view h whole old (Err e) new
stopped_by v view h phrase whole tokens old new stops.Fault is k = k is
stopped_by v view h phrase whole tokens old new stops.Memory is k = tt

pub entry_reads : (depth : ℕ) (tokens : List (Token LibraryClass)) → read (entry depth) tokens ≡ read (attribute_entry depth) tokens
unfolding entry
entry_reads zero tokens = refl
entry_reads (suc depth) tokens = refl

abbrev left_of : {K A : Type 0} → Reading K A → List K
left_of (Ok p) = p.1
left_of (Err left) = left

-- what was read where something is seen of it
pub shown : {K A B : Type 0} (kept : A → B) (r : Reading K A) (y : B) (rest : List K) → seen kept r ≡ Ok (y, rest) → (x : A) × (r ≡ Ok (x, rest)) × (y ≡ kept x)
shown {K} {A} {B} kept (Ok p) y rest e =
    let both : (kept p.0, p.1) ≡ (y, rest) = cc in
    (p.0, ap (λ (l : List K). Ok (p.0, l)) (ap (λ (q : B × List K). q.1) both), sym (ap (λ (q : B × List K). q.0) both))
shown kept (Err left) y rest e = cc

pub failed : {K A B : Type 0} (kept : A → B) (r : Reading K A) (left : List K) → seen kept r ≡ Err left → r ≡ Err left
failed kept (Ok p) left e = cc
failed {K} kept (Err other) left e = let same : other ≡ left = cc in ap (λ (l : List K). Err l) same

bare_front : {K A B : Type 0} (kept : List A → B) (r : Reading K (List A)) → seen kept (with_front [] r) ≡ seen kept r
bare_front kept (Ok p) = refl
bare_front kept (Err left) = refl

one_front : {K A B : Type 0} (before after : List A → B) (x : A) (r : Reading K (List A)) → ((xs : List A) → after xs ≡ before (x ∷ xs))
    → seen after r ≡ seen before (with_front (x ∷ []) r)
one_front {K} {A} {B} before after x (Ok p) step = ap (λ (b : B). Ok (b, p.1)) (step p.0)
one_front before after x (Err left) step = refl

-- what is seen in two ways that are the same
pub seen_alike : {K A B : Type 0} (one other : A → B) (r : Reading K A) → ((x : A) → one x ≡ other x) → seen one r ≡ seen other r
seen_alike {K} {A} {B} one other (Ok p) same = ap (λ (b : B). Ok (b, p.1)) (same p.0)
seen_alike one other (Err left) same = refl

-- what is seen of phrases in a row: `before` of all that are left, `after` of those behind the first of them
module _ {K A B : Type 0} (begins : K → Bool) (phrase : Grammar K A) where
  pub row_on : (before after : List A → B) (n m : ℕ) (tokens rest : List K) (x : A) → n ≡ suc m → passes begins (next tokens) ≡ true → read phrase tokens ≡ Ok (x, rest)
      → ((xs : List A) → after xs ≡ before (x ∷ xs))
      → seen after (read (many m begins phrase) rest) ≡ seen before (read (many n begins phrase) tokens)
  row_on before after n m tokens rest x is more e step =
      one_front before after x (read (many m begins phrase) rest) step
      ∙ sym (ap (seen before) (many_on begins phrase [] n m tokens rest x is more e))
      ∙ bare_front before (read (many n begins phrase) tokens)

  pub row_fault : (before : List A → B) (n m : ℕ) (tokens left : List K) → n ≡ suc m → passes begins (next tokens) ≡ true → read phrase tokens ≡ Err left
      → seen before (read (many n begins phrase) tokens) ≡ Err left
  row_fault before n m tokens left is more e =
      sym (bare_front before (read (many n begins phrase) tokens)) ∙ ap (seen before) (many_fails begins phrase [] n m tokens left is more e)

  pub row_end : (before : List A → B) (n : ℕ) (tokens : List K) → passes begins (next tokens) ≡ false
      → seen before (read (many n begins phrase) tokens) ≡ Ok (before [], tokens)
  row_end before n tokens none =
      sym (bare_front before (read (many n begins phrase) tokens)) ∙ ap (seen before) (many_stops begins phrase [] n tokens none)

-- whether there are any, or were any before
abbrev pub are_some_behind : {A : Type 0} → Bool → List A → Bool
are_some_behind any xs = any || are_some xs

pub some_more : (any : Bool) → true ≡ (any || true)
some_more true = refl
some_more false = refl

pub some_none : (any : Bool) → any ≡ (any || false)
some_none true = refl
some_none false = refl

-- the one of a first word and further ones
pub lone_first : (others : Bool) (w : List ℕ) (more : List (List ℕ)) → others ≡ are_some more → (if others then None else Some w) ≡ lone (w ∷ more)
lone_first others w [] e = rw e refl
lone_first others w (m ∷ more) e = rw e refl

-- the one of words before a last one
pub lone_last : {X : Type 0} (others : Bool) (text : X → List ℕ) (before : List X) (last : X) → others ≡ are_some before
    → (if others then None else Some (text last)) ≡ lone (map text (before ++ last ∷ []))
lone_last others text [] last e = rw e refl
lone_last others text (x ∷ []) last e = rw e refl
lone_last others text (x ∷ y ∷ before) last e = rw e refl
