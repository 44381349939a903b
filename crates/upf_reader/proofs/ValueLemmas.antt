-- What keeps values from having their form.
use Rattle.std.proofs.lemmas.List.{take_more}
use Rattle.std.proofs.Common.{◌≡◌, ◌↔◌, ◌<◌, ◌+◌, length, get_or, take, zero, suc, arith, ℕ, Bool, true, false, ◌||◌, ◌⊎◌, Option, Some, None, MatchOption, inl, inr, List, [], ◌∷◌, ◌++◌, IsTrue, refl, sym, ap, ◌∙◌, subst}
use Rattle.std.specs.List.{AllZip}
use Rattle.std.proofs.lemmas.Bool.{false≢true, true≢false}
use Rattle.list_defs.specs.Members.{IsIn}
use Rattle.pw_defs.specs.declared.faults.At.{At}
use Rattle.pw_defs.specs.declared.faults.TclFault.{TclFault}
use Rattle.pw_defs.specs.declared.faults.TclFault.TheVariants.{T1, T2}
use Rattle.tcl_words.proofs.ListLaws.{one_parting, one_list_fault, parts_or_fault}
use Rattle.tcl_words.specs.ListWords.{PartsInto, HasListFault}
use Rattle.upf_commands.specs.Forms.{WordForm, ListForm, word, list, pair, pairs, IsWordOf, AreListOf, HasForm, IsMisformed, HasFormFault}
use Rattle.upf_commands.specs.Values.{IsPair}
use Rattle.upf_reader.specs.Faults.{both, IsFormed, HasMisformedPair, ArePairsFormed}
use Rattle.upf_reader.specs.declared.values.OpenLists.{OpenLists}
use Rattle.upf_reader.proofs.WordLemmas.{says_yes, says_no}

-- no open lists, a list in which a brace or quote is never closed, one in which something follows a closed word
abbrev pub well : OpenLists
well = record { unclosed = false; after_word = false }

abbrev pub opened : OpenLists
opened = record { unclosed = true; after_word = false }

abbrev pub followed : OpenLists
followed = record { unclosed = false; after_word = true }

not_both : (a b : At) → T1 a ≡ T2 b → ⊥
not_both a b e = cc

-- a word
pub word_formed : (form : WordForm) (text : List ℕ) → IsWordOf form text → IsFormed (word form) text well
word_formed form text h =
    record {
      formed = λ other. other h;
      unclosed = says_no false refl (λ f. f.1);
      after_word = says_no false refl (λ f. f.1);
      fits = λ u a. h;
    }

-- a list
pub list_fits : (form : ListForm) (text : List ℕ) (words : List (List ℕ)) → PartsInto text words → AreListOf form words → IsFormed (list form) text well
list_fits form text words parts h =
    record {
      formed = λ other. other.2 (subst (AreListOf form) (one_parting text words other.0 parts other.1) h);
      unclosed = says_no false refl (λ f. parts_or_fault text words _ parts f.1);
      after_word = says_no false refl (λ f. parts_or_fault text words _ parts f.1);
      fits = λ u a. (words, parts, h);
    }

pub list_open : (form : ListForm) (text : List ℕ) (at : At) → HasListFault text (T1 at) → IsFormed (list form) text opened
list_open form text at h =
    record {
      formed = λ other. parts_or_fault text other.0 _ other.1 h;
      unclosed = says_yes true refl (at, h);
      after_word = says_no false refl (λ f. not_both at f.0 (one_list_fault text _ _ h f.1));
      fits = λ u a. absurd (true≢false u);
    }

pub list_followed : (form : ListForm) (text : List ℕ) (at : At) → HasListFault text (T2 at) → IsFormed (list form) text followed
list_followed form text at h =
    record {
      formed = λ other. parts_or_fault text other.0 _ other.1 h;
      unclosed = says_no false refl (λ f. not_both f.0 at (one_list_fault text _ _ f.1 h));
      after_word = says_yes true refl (at, h);
      fits = λ u a. absurd (true≢false a);
    }

-- a list of pairs that can't be parted
pub pairs_open : (text : List ℕ) (at : At) → HasListFault text (T1 at) → IsFormed pairs text opened
pairs_open text at h =
    record {
      formed = λ other. parts_or_fault text other.0 _ other.3 h;
      unclosed = says_yes true refl (at, inl h);
      after_word = says_no false refl (λ f. by f.0 f.1);
      fits = λ u a. absurd (true≢false u);
    }
  where
    by : (b : At) → HasFormFault pairs text (T2 b) → ⊥
    by b (inl f) = not_both at b (one_list_fault text _ _ h f)
    by b (inr f) = parts_or_fault text f.0 _ f.2 h

pub pairs_followed : (text : List ℕ) (at : At) → HasListFault text (T2 at) → IsFormed pairs text followed
pairs_followed text at h =
    record {
      formed = λ other. parts_or_fault text other.0 _ other.3 h;
      unclosed = says_no false refl (λ f. by f.0 f.1);
      after_word = says_yes true refl (at, inl h);
      fits = λ u a. absurd (true≢false a);
    }
  where
    by : (b : At) → HasFormFault pairs text (T1 b) → ⊥
    by b (inl f) = not_both b at (one_list_fault text _ _ f h)
    by b (inr f) = parts_or_fault text f.0 _ f.2 h

-- items that are added one behind the other
pub is_added : {X : Type 0} (x y : X) (xs : List X) → IsIn y (xs ++ x ∷ []) → IsIn y xs ⊎ (y ≡ x)
is_added x y [] (inl e) = inr e
is_added x y [] (inr there) = absurd there
is_added x y (z ∷ xs) (inl e) = inl (inl e)
is_added {X} x y (z ∷ xs) (inr there) = by (is_added x y xs there)
  where
    by : IsIn y xs ⊎ (y ≡ x) → IsIn y (z ∷ xs) ⊎ (y ≡ x)
    by (inl before) = inl (inr before)
    by (inr e) = inr e

pub was_there : {X : Type 0} (x y : X) (xs : List X) → IsIn y xs → IsIn y (xs ++ x ∷ [])
was_there x y [] there = absurd there
was_there x y (z ∷ xs) (inl e) = inl e
was_there x y (z ∷ xs) (inr there) = inr (was_there x y xs there)

pub is_last : {X : Type 0} (x : X) (xs : List X) → IsIn x (xs ++ x ∷ [])
is_last x [] = inl refl
is_last x (z ∷ xs) = inr (is_last x xs)

pub either_true : (a b : Bool) → (a || b) ≡ true → (a ≡ true) ⊎ (b ≡ true)
either_true true b h = inl refl
either_true false b h = inr h

pub first_true : (a b : Bool) → a ≡ true → (a || b) ≡ true
first_true true b h = refl
first_true false b h = absurd (false≢true h)

pub second_true : (a b : Bool) → b ≡ true → (a || b) ≡ true
second_true true b h = refl
second_true false b h = h

pub first_false : (a b : Bool) → (a || b) ≡ false → a ≡ false
first_false true b h = h
first_false false b h = refl

pub second_false : (a b : Bool) → (a || b) ≡ false → b ≡ false
second_false true b h = absurd (true≢false h)
second_false false b h = h

-- something that some item has
abbrev pub Some_has : {X : Type 0} → (X → Type 0) → List X → Type 0
Some_has {X} P xs = (x : X) × IsIn x xs × P x

pub some_added : {X : Type 0} (P : X → Type 0) (xs : List X) (x : X) (a b : Bool) → IsTrue a ↔ Some_has P xs → IsTrue b ↔ P x → IsTrue (a || b) ↔ Some_has P (xs ++ x ∷ [])
some_added {X} P xs x a b h k = (λ t. there (either_true a b t), λ s. here s.0 s.2 (is_added x s.0 xs s.1))
  where
    there : (a ≡ true) ⊎ (b ≡ true) → Some_has P (xs ++ x ∷ [])
    there (inl e) = let s = h.0 e in (s.0, was_there x s.0 xs s.1, s.2)
    there (inr e) = (x, is_last x xs, k.0 e)

    here : (y : X) → P y → IsIn y xs ⊎ (y ≡ x) → (a || b) ≡ true
    here y p (inl before) = first_true a b (h.1 (y, before, p))
    here y p (inr e) = second_true a b (k.1 (subst P e p))

pub no_pairs : ArePairsFormed [] well
no_pairs =
    record {
      formed = λ item there. absurd there;
      unclosed = says_no false refl (λ f. f.2);
      after_word = says_no false refl (λ f. f.2);
      fits = λ u a item there. absurd there;
    }

-- the fault of an item, moved between its two spellings
abbrev OneFault : (At → TclFault) → List ℕ → Type 0
OneFault T item = (at : At) × HasListFault item (T at)

abbrev Faulty : (At → TclFault) → List (List ℕ) → Type 0
Faulty T items = (item : List ℕ) × (at : At) × IsIn item items × HasListFault item (T at)

fault_added : (T : At → TclFault) (items : List (List ℕ)) (item : List ℕ) (a b : Bool) → IsTrue a ↔ Faulty T items → IsTrue b ↔ OneFault T item
    → IsTrue (a || b) ↔ Faulty T (items ++ item ∷ [])
fault_added T items item a b h k =
    let s = some_added (OneFault T) items item a b (λ t. let f = h.0 t in (f.0, f.2, (f.1, f.3)), λ f. h.1 (f.0, f.2.0, f.1, f.2.1)) k in
    (λ t. let f = s.0 t in (f.0, f.2.0, f.1, f.2.1), λ f. s.1 (f.0, f.2, (f.1, f.3)))

pub pair_added : (items : List (List ℕ)) (item : List ℕ) (lists more : OpenLists) → ArePairsFormed items lists → IsFormed (list pair) item more
    → ArePairsFormed (items ++ item ∷ []) (both lists more)
pair_added items item lists more h k =
    record {
      formed = λ other there. none other (is_added item other items there);
      unclosed = fault_added T1 items item lists.unclosed more.unclosed h.unclosed k.unclosed;
      after_word = fault_added T2 items item lists.after_word more.after_word h.after_word k.after_word;
      fits = λ u a other there. fit u a other (is_added item other items there);
    }
  where
    none : (other : List ℕ) → IsIn other items ⊎ (other ≡ item) → ¬ IsMisformed (list pair) other
    none other (inl before) m = h.formed other before m
    none other (inr e) m = k.formed (subst (IsMisformed (list pair)) e m)

    fit : (lists.unclosed || more.unclosed) ≡ false → (lists.after_word || more.after_word) ≡ false → (other : List ℕ) → IsIn other items ⊎ (other ≡ item)
        → HasForm (list pair) other
    fit u a other (inl before) =
        h.fits (first_false lists.unclosed more.unclosed u) (first_false lists.after_word more.after_word a) other before
    fit u a other (inr e) =
        subst (HasForm (list pair)) (sym e) (k.fits (second_false lists.unclosed more.unclosed u) (second_false lists.after_word more.after_word a))

-- a list of pairs, by its items
all_pairs : (items : List (List ℕ)) → ((item : List ℕ) → IsIn item items → HasForm (list pair) item)
    → (of : List (List ℕ × List ℕ)) × AllZip (λ item (p : List ℕ × List ℕ). IsPair item p.0 p.1) items of
all_pairs [] h = ([], tt)
all_pairs (item ∷ items) h =
    let f = h item (inl refl) in
    let rest = all_pairs items (λ other there. h other (inr there)) in
    ((f.2.0, f.2.1) ∷ rest.0, (subst (PartsInto item) f.2.2 f.1, rest.1))

pub pairs_so : (text : List ℕ) (items : List (List ℕ)) (lists : OpenLists) → PartsInto text items → ArePairsFormed items lists → IsFormed pairs text lists
pairs_so text items lists parts h =
    record {
      formed = λ other.
          let same : other.0 ≡ items = one_parting text other.0 items other.3 parts in
          h.formed other.1 (subst (IsIn other.1) same other.4) (other.2, other.5, other.6);
      unclosed = (λ t. let f = h.unclosed.0 t in (f.1, inr (items, f.0, parts, f.2, f.3)), λ f. h.unclosed.1 (back (T1 f.0) f.0 T1 f.1));
      after_word = (λ t. let f = h.after_word.0 t in (f.1, inr (items, f.0, parts, f.2, f.3)), λ f. h.after_word.1 (back (T2 f.0) f.0 T2 f.1));
      fits = λ u a. let p = all_pairs items (h.fits u a) in (p.0, record { items = items; parted = parts; each = p.1 });
    }
  where
    back : (fault : TclFault) (at : At) (T : At → TclFault) → HasFormFault pairs text (T at) → Faulty T items
    back fault at T (inl f) = absurd (parts_or_fault text items (T at) parts f)
    back fault at T (inr f) = (f.1, at, subst (IsIn f.1) (one_parting text f.0 items f.2 parts) f.3, f.4)

pub misformed_so : (text : List ℕ) (items : List (List ℕ)) → PartsInto text items → HasMisformedPair items → IsMisformed pairs text
misformed_so text items parts h = (items, h.0, h.2.0, parts, h.1, h.2.1, h.2.2)

pub pairs_told : (text : List ℕ) (items : List (List ℕ)) → PartsInto text items → (r : Option OpenLists)
    → MatchOption r (HasMisformedPair items) (ArePairsFormed items) → MatchOption r (IsMisformed pairs text) (IsFormed pairs text)
pairs_told text items parts None h = misformed_so text items parts h
pairs_told text items parts (Some lists) h = pairs_so text items lists parts h

pub item_there : {X : Type 0} (xs : List X) (i : ℕ) (d : X) → i < length xs → IsIn (get_or xs i d) xs
item_there [] i d less = absurd (omega arith)
item_there (x ∷ xs) zero d less = inl refl
item_there (x ∷ xs) (suc i) d less = inr (item_there xs i d (omega arith))

-- the next item of a list of pairs
pub pair_taken : (items : List (List ℕ)) (i : ℕ) (item : List ℕ) (lists more new : OpenLists) → i < length items → item ≡ get_or items i item
    → ArePairsFormed (take i items) lists → IsFormed (list pair) item more → new ≡ both lists more → ArePairsFormed (take (i + 1) items) new
pair_taken items i item lists more new less is h k e =
    let front : take (i + 1) items ≡ take i items ++ item ∷ [] = take_more items i item less ∙ ap (λ x. take i items ++ x ∷ []) (sym is) in
    subst (λ xs. ArePairsFormed xs new) (sym front) (subst (ArePairsFormed (take i items ++ item ∷ [])) (sym e) (pair_added (take i items) item lists more h k))
