-- What a tree by names keeps where one name is put in.
use Rattle.std.proofs.Common.{◌≡◌, ◌≢◌, ℕ, Bool, true, false, List, refl, sym, ap, ◌∙◌}
use Rattle.std.specs.BTreeMap.{BTreeMap, is_at}
use Rattle.std.specs.Cmp.Lexicographic.{slice_cmp}
use Rattle.std.specs.Global.{Vec}
use Rattle.std.specs.Map.{KeepsOthers}
use Rattle.std.specs.declared.cmp.Ordering.{Ordering}
use Rattle.std.specs.Ordering.{eq_by_cmp, is_eq, nat_cmp}
use Rattle.std.proofs.lemmas.Map.Text.{is_eq-slice_cmp}
use Rattle.list_defs.proofs.NameLemmas.{same_name-equal}
use Rattle.name_index.specs.Tables.{number_in}

-- how the tree compares its keys
abbrev pub compared : Vec ℕ → Vec ℕ → Ordering
compared x y = slice_cmp nat_cmp x.items y.items

equal_names : (x y : List ℕ) → is_eq (slice_cmp nat_cmp x y) ≡ true → x ≡ y
equal_names x y e = same_name-equal x y (sym (is_eq-slice_cmp x y) ∙ e)

pub number_kept : (old new : BTreeMap (Vec ℕ) ℕ) (key : Vec ℕ) (name other : List ℕ) → key.items ≡ name → other ≢ name
    → KeepsOthers (eq_by_cmp compared) (is_at (compared key)) old.entries new.entries → number_in new other ≡ number_in old other
unfolding KeepsOthers
number_kept old new key name other spelled apart kept = kept (is_at (λ (k : Vec ℕ). slice_cmp nat_cmp other k.items)) one differs
  where
    one : (x y : Vec ℕ) → is_eq (slice_cmp nat_cmp other x.items) ≡ true → is_eq (slice_cmp nat_cmp other y.items) ≡ is_eq (slice_cmp nat_cmp x.items y.items)
    one x y here = ap (λ l. is_eq (slice_cmp nat_cmp l y.items)) (equal_names other x.items here)

    differs : (k : Vec ℕ) → is_eq (slice_cmp nat_cmp key.items k.items) ≡ true → is_eq (slice_cmp nat_cmp other k.items) ≡ false
    differs k here = by (is_eq (slice_cmp nat_cmp other k.items)) refl
      where
        by : (b : Bool) → is_eq (slice_cmp nat_cmp other k.items) ≡ b → b ≡ false
        by false e = refl
        by true e = absurd (apart (equal_names other k.items e ∙ sym (equal_names key.items k.items here) ∙ spelled))
