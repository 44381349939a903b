-- A value has a form, or another one, or can't be parted: one of the three at most, save that a list of pairs may hold a pair of
-- another form beside one that can't be parted.
use Rattle.std.proofs.Common.{◌≡◌, ℕ, List, [], ◌∷◌, inl, inr, subst, sym}
use Rattle.std.specs.List.{AllZip}
use Rattle.list_defs.specs.Members.{IsIn}
use Rattle.pw_defs.specs.declared.faults.TclFault.{TclFault}
use Rattle.tcl_words.proofs.ListLaws.{one_parting, parts_or_fault}
use Rattle.tcl_words.specs.ListWords.{PartsInto}
use Rattle.upf_commands.specs.Forms.{Form, word, list, pairs, AreListOf, HasForm, IsMisformed, HasFormFault}
use Rattle.upf_commands.specs.Values.{IsPair}

-- an item of a list of pairs is a pair
item_pair : (items : List (List ℕ)) (of : List (List ℕ × List ℕ)) → AllZip (λ item (p : List ℕ × List ℕ). IsPair item p.0 p.1) items of
    → (item : List ℕ) → IsIn item items → (a : List ℕ) × (b : List ℕ) × PartsInto item (a ∷ b ∷ [])
item_pair [] of h item there = absurd there
item_pair (i ∷ items) [] h item there = absurd h
item_pair (i ∷ items) (p ∷ of) h item (inl e) = (p.0, p.1, subst (λ j. PartsInto j (p.0 ∷ p.1 ∷ [])) (sym e) h.0)
item_pair (i ∷ items) (p ∷ of) h item (inr later) = item_pair items of h.1 item later

-- what has its form has no other
pub form_or_other : (form : Form) (value : List ℕ) → HasForm form value → IsMisformed form value → ⊥
form_or_other (word form) value h other = other h
form_or_other (list form) value h other =
    other.2 (subst (AreListOf form) (one_parting value h.0 other.0 h.1 other.1) h.2)
form_or_other pairs value h other =
    let same : h.1.items ≡ other.0 = one_parting value h.1.items other.0 h.1.parted other.3 in
    let found = item_pair h.1.items h.0 h.1.each other.1 (subst (IsIn other.1) (sym same) other.4) in
    let words : found.0 ∷ found.1 ∷ [] ≡ other.2 = one_parting other.1 (found.0 ∷ found.1 ∷ []) other.2 found.2 other.5 in
    other.6 (found.0, found.1, sym words)

-- what has its form can be parted
pub form_or_fault : (form : Form) (value : List ℕ) (fault : TclFault) → HasForm form value → HasFormFault form value fault → ⊥
form_or_fault (word form) value fault h f = f
form_or_fault (list form) value fault h f = parts_or_fault value h.0 fault h.1 f
form_or_fault pairs value fault h (inl f) = parts_or_fault value h.1.items fault h.1.parted f
form_or_fault pairs value fault h (inr f) =
    let same : h.1.items ≡ f.0 = one_parting value h.1.items f.0 h.1.parted f.2 in
    let found = item_pair h.1.items h.0 h.1.each f.1 (subst (IsIn f.1) (sym same) f.3) in
    parts_or_fault f.1 (found.0 ∷ found.1 ∷ []) fault found.2 f.4
