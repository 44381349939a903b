-- What a tree by texts keeps where one text is put in.
use Rattle.std.proofs.Common.{◌≡◌, ◌≢◌, ℕ, Bool, true, false, cond, List, [], ◌∷◌, Some, option_map, refl, sym, ap, ◌∙◌}
use Rattle.std.specs.BTreeMap.{BTreeMap, is_at, get_by}
use Rattle.std.specs.Cmp.Lexicographic.{slice_cmp, bytes_decides}
use Rattle.std.specs.Global.{Vec}
use Rattle.std.specs.Map.{KeepsOthers, lookup}
use Rattle.std.specs.Str.{bytes_eq}
use Rattle.std.specs.declared.cmp.Ordering.{Ordering}
use Rattle.std.specs.Ordering.{eq_by_cmp, is_eq, nat_cmp}
use Rattle.std.proofs.lemmas.Map.Text.{is_eq-slice_cmp}
use Rattle.tcl_words.specs.Settings.{Holds, text_in}
use Rattle.tcl_words.specs.Words.{Variables, value_of}
use Rattle.tcl_words.specs.declared.settings.Settings.{Settings}

-- how the tree compares its keys
abbrev pub compared : Vec ℕ → Vec ℕ → Ordering
compared x y = slice_cmp nat_cmp x.items y.items

-- how it compares them with a text
abbrev pub at_text : List ℕ → Vec ℕ → Bool
at_text text = is_at (λ (k : Vec ℕ). slice_cmp nat_cmp text k.items)

equal_texts : (x y : List ℕ) → is_eq (slice_cmp nat_cmp x y) ≡ true → x ≡ y
equal_texts x y e = (bytes_decides x y).0 (sym (is_eq-slice_cmp x y) ∙ e)

-- the other keys keep their values
pub value_kept : {X : Type 0} (old new : BTreeMap (Vec ℕ) X) (key : Vec ℕ) (other : List ℕ) → other ≢ key.items
    → KeepsOthers (eq_by_cmp compared) (is_at (compared key)) old.entries new.entries → lookup (at_text other) new.entries ≡ lookup (at_text other) old.entries
unfolding KeepsOthers
value_kept old new key other apart kept = kept (at_text other) one differs
  where
    one : (x y : Vec ℕ) → is_eq (slice_cmp nat_cmp other x.items) ≡ true → is_eq (slice_cmp nat_cmp other y.items) ≡ is_eq (slice_cmp nat_cmp x.items y.items)
    one x y here = ap (λ l. is_eq (slice_cmp nat_cmp l y.items)) (equal_texts other x.items here)

    differs : (k : Vec ℕ) → is_eq (slice_cmp nat_cmp key.items k.items) ≡ true → is_eq (slice_cmp nat_cmp other k.items) ≡ false
    differs k here = by (is_eq (slice_cmp nat_cmp other k.items)) refl
      where
        by : (b : Bool) → is_eq (slice_cmp nat_cmp other k.items) ≡ b → b ≡ false
        by false e = refl
        by true e = absurd (apart (equal_texts other k.items e ∙ sym (equal_texts key.items k.items here)))

-- a table in which a text was put in place of an earlier one holds it in front
pub held_more : (old new : Settings) (key text : Vec ℕ) → get_by (compared key) new.texts ≡ Some text
    → KeepsOthers (eq_by_cmp compared) (is_at (compared key)) old.texts.entries new.texts.entries → (vars : Variables) → Holds old vars
    → Holds new ((key.items, text.items) ∷ vars)
held_more old new key text put kept vars holds name = by (bytes_eq name key.items) refl
  where
    by : (b : Bool) → bytes_eq name key.items ≡ b → text_in new name ≡ cond b (Some text.items) (value_of name vars)
    by true e =
        let same : name ≡ key.items = (bytes_decides name key.items).0 e in
        ap (text_in new) same ∙ ap (option_map (λ (t : Vec ℕ). t.items)) put
    by false e =
        let apart : name ≢ key.items = λ same. (let yes : bytes_eq name key.items ≡ true = (bytes_decides name key.items).1 same in cc) in
        ap (option_map (λ (t : Vec ℕ). t.items)) (value_kept old.texts new.texts key name apart kept) ∙ holds name

-- the variables of a table
abbrev listed : List (Vec ℕ × Vec ℕ) → Variables
listed [] = []
listed (e ∷ entries) = (e.0.items, e.1.items) ∷ listed entries

abbrev pub variables_of : Settings → Variables
variables_of settings = listed settings.texts.entries

text_listed : (entries : List (Vec ℕ × Vec ℕ)) (name : List ℕ)
    → option_map (λ (t : Vec ℕ). t.items) (lookup (at_text name) entries) ≡ value_of name (listed entries)
text_listed [] name = refl
text_listed (e ∷ entries) name = by (is_eq (slice_cmp nat_cmp name e.0.items)) (bytes_eq name e.0.items) (is_eq-slice_cmp name e.0.items) (text_listed entries name)
  where
    by : (t u : Bool) → t ≡ u → option_map (λ (t : Vec ℕ). t.items) (lookup (at_text name) entries) ≡ value_of name (listed entries)
        → option_map (λ (t : Vec ℕ). t.items) (cond t (Some e.1) (lookup (at_text name) entries)) ≡ cond u (Some e.1.items) (value_of name (listed entries))
    by true true h later = refl
    by false false h later = later
    by true false h later = absurd (cc)
    by false true h later = absurd (cc)

-- each table holds some variables
pub held : (settings : Settings) → Holds settings (variables_of settings)
held settings name = text_listed settings.texts.entries name
