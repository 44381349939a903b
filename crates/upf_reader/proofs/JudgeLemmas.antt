-- How the items of a line are judged one by one.
use Rattle.std.proofs.Common.{◌≡◌, ◌<◌, ℕ, zero, suc, Bool, true, false, List, [], ◌∷◌, ◌++◌, Option, Some, None, is_some, not, ◌&&◌, MatchOption, length, get_or, take, drop, map, filter_map, codes, refl, sym, ap, ◌∙◌, subst, arith, append_assoc, append-nil}
use Rattle.std.proofs.lemmas.Bool.{true≢false}
use Rattle.list_defs.specs.Members.{IsIn}
use Rattle.pw_defs.specs.declared.faults.At.{At}
use Rattle.pw_defs.specs.declared.faults.TclFault.TheVariants.{T1 as Unclosed, T2 as AfterWord}
use Rattle.pw_defs.specs.declared.faults.CmdFault.TheVariants.{U2, U3, U4, T1, T2}
use Rattle.pw_defs.specs.declared.script.Line.{Line}
use Rattle.upf_commands.proofs.CommandLaws.{good_or_bad}
use Rattle.upf_commands.proofs.CommandReading.{EachBehind, none_bad, whole}
use Rattle.upf_commands.specs.CommandFaults.{IsBad, again, key, form, IsFirstBad, HasUnclosed, HasAfterWord, HasCommandFault, no_option, absent, misformed, unclosed, after_word, named, shown}
use Rattle.upf_commands.specs.CommandRows.{OptionRow, CommandRow}
use Rattle.upf_commands.specs.CommandWords.{Item, own, given, unknown, lacking}
use Rattle.upf_commands.specs.Commands.{IsGood, good_option, HasItems, IsWhole, RepeatsKey, may_give, may_own, lacking_option, own_word, unknown_word, unknown_words, missing}
use Rattle.std.specs.List.{list_any}
use Rattle.upf_commands.specs.Forms.{WordForm, HasFormFault, IsMisformed}
use Rattle.upf_reader.specs.Faults.{both, IsFormed}
use Rattle.upf_reader.specs.Judging.{IsUnclosed, IsAfterWord, IsItemFormed, AreItemsFormed}
use Rattle.upf_reader.specs.Parts.{part_view}
use Rattle.upf_reader.specs.Readings.{first_of}
use Rattle.upf_reader.specs.declared.parts.Part.{Part}
use Rattle.upf_reader.specs.declared.values.OpenLists.{OpenLists}
use Rattle.upf_reader.proofs.LackLemmas.{none_first, begins_so}
use Rattle.upf_reader.proofs.ValueLemmas.{well, some_added, first_false, second_false}
use Rattle.upf_reader.proofs.WordLemmas.{says_no}

own_or_given : (text t : List ℕ) (o : OptionRow) → own text ≡ given o t → ⊥
own_or_given text t o e = cc

unknown_or_given : (text t : List ℕ) (o : OptionRow) → unknown text ≡ given o t → ⊥
unknown_or_given text t o e = cc

lacking_or_given : (p : OptionRow) (t : List ℕ) (o : OptionRow) → lacking p ≡ given o t → ⊥
lacking_or_given p t o e = cc

pub own_formed : (row : CommandRow) (before : List Item) (text : List ℕ) → IsGood row before (own text) → IsItemFormed row before (own text) well
own_formed row before text h =
    record {
      formed = λ bad. good_or_bad row before (own text) h bad;
      unclosed = says_no false refl (λ u. own_or_given text u.1 u.0 u.3);
      after_word = says_no false refl (λ u. own_or_given text u.1 u.0 u.3);
      good = λ u a n l. h;
    }

pub unknown_formed : (row : CommandRow) (before : List Item) (text : List ℕ) → IsItemFormed row before (unknown text) well
unknown_formed row before text =
    record {
      formed = λ bad. elim bad [ ];
      unclosed = says_no false refl (λ u. unknown_or_given text u.1 u.0 u.3);
      after_word = says_no false refl (λ u. unknown_or_given text u.1 u.0 u.3);
      good = λ u a n l. absurd (let e : Some text ≡ None = n in cc);
    }

pub lacking_formed : (row : CommandRow) (before : List Item) (o : OptionRow) → IsItemFormed row before (lacking o) well
lacking_formed row before o =
    record {
      formed = λ bad. elim bad [ ];
      unclosed = says_no false refl (λ u. lacking_or_given o u.1 u.0 u.3);
      after_word = says_no false refl (λ u. lacking_or_given o u.1 u.0 u.3);
      good = λ u a n l. absurd (let e : Some o.kept ≡ None = l in cc);
    }

pub given_formed : (row : CommandRow) (before : List Item) (o : OptionRow) (text : List ℕ) (lists : OpenLists) → may_give row before o ≡ true
    → ¬ RepeatsKey before o text → IsFormed o.form text lists → IsItemFormed row before (given o text) lists
given_formed row before o text lists may once h =
    record {
      formed = λ bad. not_bad o text may once h.formed bad;
      unclosed = (λ t. let f = h.unclosed.0 t in (o, text, f.0, refl, f.1), λ u. h.unclosed.1 (u.2, same u.0 u.1 u.3 (λ p t. HasFormFault p.form t (Unclosed u.2)) u.4));
      after_word = (λ t. let f = h.after_word.0 t in (o, text, f.0, refl, f.1), λ u. h.after_word.1 (u.2, same u.0 u.1 u.3 (λ p t. HasFormFault p.form t (AfterWord u.2)) u.4));
      good = λ u a n l. good_option o text may once (h.fits u a);
    }
  where
    same : (p : OptionRow) (t : List ℕ) → given o text ≡ given p t → (P : OptionRow → List ℕ → Type 0) → P p t → P o text
    same p t e P h =
        let first : p ≡ o = cc in
        let second : t ≡ text = cc in
        subst (λ q. P q text) first (subst (P p) second h)

    not_bad : (q : OptionRow) (t : List ℕ) → may_give row before q ≡ true → ¬ RepeatsKey before q t → ¬ IsMisformed q.form t → ¬ IsBad row before (given q t)
    not_bad q t m r f (again q' t' n) = true≢false (sym m ∙ n)
    not_bad q t m r f (key q' t' k) = r k
    not_bad q t m r f (form q' t' k) = f k

pub told : (row : CommandRow) (before : List Item) (o : OptionRow) (text : List ℕ) → may_give row before o ≡ true → ¬ RepeatsKey before o text
    → (r : Option OpenLists) → MatchOption r (IsMisformed o.form text) (IsFormed o.form text)
    → MatchOption r (IsBad row before (given o text)) (IsItemFormed row before (given o text))
told row before o text may once None h = form o text h
told row before o text may once (Some lists) h = given_formed row before o text lists may once h

pub not_may : (row : CommandRow) (before : List Item) (o : OptionRow) (text : List ℕ) → may_give row before o ≡ false → IsBad row before (given o text)
not_may row before o text e = again o text e

pub repeated : (row : CommandRow) (before : List Item) (o : OptionRow) (text : List ℕ) → RepeatsKey before o text → IsBad row before (given o text)
repeated row before o text k = key o text k

-- items one behind the other
each_added : (P : List Item → Item → Type 0) (before items : List Item) (item : Item) → EachBehind P before items → P (before ++ items) item
    → EachBehind P before (items ++ item ∷ [])
each_added P before [] item each h = (subst (λ b. P b item) (append-nil before) h, tt)
each_added P before (i ∷ items) item each h =
    (each.0, each_added P (before ++ i ∷ []) items item each.1 (subst (λ b. P b item) (sym (append_assoc before (i ∷ []) items)) h))

nth_behind : (P : List Item → Item → Type 0) (front items : List Item) → EachBehind P front items → (before : List Item) (item : Item) (after : List Item)
    → items ≡ before ++ item ∷ after → P (front ++ before) item
nth_behind P front [] each [] item after e = cc
nth_behind P front [] each (b ∷ before) item after e = cc
nth_behind P front (i ∷ items) each [] item after e =
    let same : i ≡ item = cc in
    subst (P (front ++ [])) same (subst (λ f. P f i) (sym (append-nil front)) each.0)
nth_behind P front (i ∷ items) each (b ∷ before) item after e =
    let same : i ≡ b = cc in
    let rest : items ≡ before ++ item ∷ after = cc in
    let later : P ((front ++ i ∷ []) ++ before) item = nth_behind P (front ++ i ∷ []) items each.1 before item after rest in
    subst (λ j. P (front ++ j ∷ before) item) same (subst (λ f. P f item) (append_assoc front (i ∷ []) before) later)

pub bad_first : (row : CommandRow) (items : List Item) (item : Item) (rest whole : List Item) (lists : OpenLists) → whole ≡ items ++ item ∷ rest
    → AreItemsFormed row items lists → IsBad row items item → IsFirstBad row whole item
bad_first row items item rest whole lists split h bad =
    record {
      before = items;
      after = rest;
      split = split;
      bad = bad;
      first = λ front other after e k. nth_behind (λ before i. ¬ IsBad row before i) [] items h.formed front other after e k;
    }

unknown_front : (items : List Item) (item : Item) → unknown_words (items ++ item ∷ []) ≡ [] → (unknown_words items ≡ []) × (unknown_word item ≡ None)
unknown_front [] (own text) e = (refl, refl)
unknown_front [] (given o text) e = (refl, refl)
unknown_front [] (unknown text) e = absurd (let f : text ∷ [] ≡ [] = e in cc)
unknown_front [] (lacking o) e = (refl, refl)
unknown_front (own text ∷ items) item e = unknown_front items item e
unknown_front (given o text ∷ items) item e = unknown_front items item e
unknown_front (unknown text ∷ items) item e = absurd (let f : text ∷ unknown_words (items ++ item ∷ []) ≡ [] = e in cc)
unknown_front (lacking o ∷ items) item e = unknown_front items item e

lacking_front : (items : List Item) (item : Item) → filter_map lacking_option (items ++ item ∷ []) ≡ []
    → (filter_map lacking_option items ≡ []) × (lacking_option item ≡ None)
lacking_front [] (own text) e = (refl, refl)
lacking_front [] (given o text) e = (refl, refl)
lacking_front [] (unknown text) e = (refl, refl)
lacking_front [] (lacking o) e = absurd (let f : o.kept ∷ [] ≡ [] = e in cc)
lacking_front (own text ∷ items) item e = lacking_front items item e
lacking_front (given o text ∷ items) item e = lacking_front items item e
lacking_front (unknown text ∷ items) item e = lacking_front items item e
lacking_front (lacking o ∷ items) item e = absurd (let f : o.kept ∷ filter_map lacking_option (items ++ item ∷ []) ≡ [] = e in cc)

pub none_judged : (row : CommandRow) → AreItemsFormed row [] well
none_judged row =
    record {
      formed = tt;
      unclosed = says_no false refl (λ s. s.1);
      after_word = says_no false refl (λ s. s.1);
      good = λ u a n l. tt;
    }

pub item_judged : (row : CommandRow) (items : List Item) (item : Item) (lists more : OpenLists) → AreItemsFormed row items lists → IsItemFormed row items item more
    → AreItemsFormed row (items ++ item ∷ []) (both lists more)
item_judged row items item lists more h k =
    record {
      formed = each_added (λ before i. ¬ IsBad row before i) [] items item h.formed k.formed;
      unclosed = some_added IsUnclosed items item lists.unclosed more.unclosed h.unclosed k.unclosed;
      after_word = some_added IsAfterWord items item lists.after_word more.after_word h.after_word k.after_word;
      good = λ u a n l.
          let known = unknown_front items item n in
          let there = lacking_front items item l in
          each_added (IsGood row) [] items item
          (h.good (first_false lists.unclosed more.unclosed u) (first_false lists.after_word more.after_word a) known.0 there.0)
          (k.good (second_false lists.unclosed more.unclosed u) (second_false lists.after_word more.after_word a) known.1 there.1);
    }

pub parts_split : (parts : List Part) (i : ℕ) (d : Part) → i < length parts
    → map part_view parts ≡ map part_view (take i parts) ++ part_view (get_or parts i d) ∷ map part_view (drop (suc i) parts)
parts_split [] i d less = absurd (omega arith)
parts_split (p ∷ parts) zero d less = refl
parts_split (p ∷ parts) (suc i) d less = ap (λ is. part_view p ∷ is) (parts_split parts i d (omega arith))

-- the faults of a line
module _ (line : Line) (row : CommandRow) (items : List Item) where
  pub unknown_fault : (name : List ℕ) (at : At) → Some name ≡ first_of (unknown_words items) → at ≡ named line name → HasItems line row items → HasCommandFault line (U2 at)
  unknown_fault name at e f h =
      let b = begins_so (unknown_words items) name (sym e) in
      subst (λ a. HasCommandFault line (U2 a)) (sym f) (no_option row items name b.0 h b.1)

  pub absent_fault : (name : List ℕ) (at : At) → None ≡ first_of (unknown_words items) → Some name ≡ first_of (missing row items) → at ≡ named line name
      → HasItems line row items → HasCommandFault line (U3 at)
  absent_fault name at n e f h =
      let b = begins_so (missing row items) name (sym e) in
      subst (λ a. HasCommandFault line (U3 a)) (sym f) (absent row items name b.0 h (none_first (unknown_words items) (sym n)) b.1)

  pub bad_fault : (name : List ℕ) (at : At) → None ≡ first_of (unknown_words items) → None ≡ first_of (missing row items)
      → ((item : Item) × IsFirstBad row items item × (name ≡ shown row item)) → at ≡ named line name → HasItems line row items → HasCommandFault line (U4 at)
  bad_fault name at n e bad f h =
      subst (λ a. HasCommandFault line (U4 a)) (sym (f ∙ ap (named line) bad.2))
      (misformed row items bad.0 h (none_first (unknown_words items) (sym n)) (none_first (missing row items) (sym e)) bad.1)

  has_unclosed : ((item : Item) × IsIn item items × IsUnclosed item) → HasUnclosed items
  has_unclosed s = let u = s.2 in (u.0, u.1, u.2, subst (λ i. IsIn i items) u.3 s.1, u.4)

  has_after_word : ((item : Item) × IsIn item items × IsAfterWord item) → HasAfterWord items
  has_after_word s = let u = s.2 in (u.0, u.1, u.2, subst (λ i. IsIn i items) u.3 s.1, u.4)

  pub unclosed_fault : (lists : OpenLists) (at : At) → None ≡ first_of (unknown_words items) → None ≡ first_of (missing row items) → AreItemsFormed row items lists
      → lists.unclosed ≡ true → at ≡ named line (codes "-") → HasItems line row items → HasCommandFault line (T1 at)
  unclosed_fault lists at n e j t f h =
      subst (λ a. HasCommandFault line (T1 a)) (sym f)
      (unclosed row items h (none_first (unknown_words items) (sym n)) (none_first (missing row items) (sym e)) (none_bad row items j.formed)
      (has_unclosed (j.unclosed.0 t)))

  pub after_fault : (lists : OpenLists) (at : At) → None ≡ first_of (unknown_words items) → None ≡ first_of (missing row items) → AreItemsFormed row items lists
      → lists.unclosed ≡ false → lists.after_word ≡ true → at ≡ named line (codes "-") → HasItems line row items → HasCommandFault line (T2 at)
  after_fault lists at n e j u t f h =
      subst (λ a. HasCommandFault line (T2 a)) (sym f)
      (after_word row items h (none_first (unknown_words items) (sym n)) (none_first (missing row items) (sym e)) (none_bad row items j.formed)
      (λ k. true≢false (sym (j.unclosed.1 (given k.0 k.1, k.3, (k.0, k.1, k.2, refl, k.4))) ∙ u)) (has_after_word (j.after_word.0 t)))

  first_part : (xs ys : List (List ℕ)) → xs ++ ys ≡ [] → xs ≡ []
  first_part [] ys e = refl
  first_part (x ∷ xs) ys e = absurd (let f : x ∷ (xs ++ ys) ≡ [] = e in cc)

  pub all_well : (lists : OpenLists) → None ≡ first_of (unknown_words items) → None ≡ first_of (missing row items) → AreItemsFormed row items lists
      → lists.unclosed ≡ false → lists.after_word ≡ false → IsWhole row items
  all_well lists n e j u a =
      let known : unknown_words items ≡ [] = none_first (unknown_words items) (sym n) in
      let there : missing row items ≡ [] = none_first (missing row items) (sym e) in
      whole row items known there (j.good u a known (first_part (filter_map lacking_option items) _ (first_part (filter_map lacking_option items ++ _) _ there)))

-- whether an own word may stand there
pub may_so : (row : CommandRow) (before : List Item) (needed : WordForm) (b : Bool) → row.own ≡ Some needed → b ≡ list_any (λ i. is_some (own_word i)) before → b ≡ false
    → may_own row before ≡ true
may_so row before needed b e f g = ap (λ o. is_some o && not (list_any (λ i. is_some (own_word i)) before)) e ∙ ap not (sym f ∙ g)

pub may_not : (row : CommandRow) (before : List Item) (b : Bool) → b ≡ list_any (λ i. is_some (own_word i)) before → b ≡ true → may_own row before ≡ false
may_not row before b f g = ap (λ t. is_some row.own && not t) (sym f ∙ g) ∙ by (is_some row.own)
  where
    by : (t : Bool) → (t && false) ≡ false
    by true = refl
    by false = refl

pub may_none : (row : CommandRow) (before : List Item) → row.own ≡ None → may_own row before ≡ false
may_none row before e = ap (λ o. is_some o && not (list_any (λ i. is_some (own_word i)) before)) e

-- the item at a place, whatever stands past the end
pub same_item : {X : Type 0} (xs : List X) (i : ℕ) (d e : X) → i < length xs → get_or xs i d ≡ get_or xs i e
same_item [] i d e less = absurd (omega arith)
same_item (x ∷ xs) zero d e less = refl
same_item (x ∷ xs) (suc i) d e less = same_item xs i d e (omega arith)
