-- How the parts of a line stand in its words.
use Rattle.std.proofs.Common.{◌≡◌, ℕ, ◌<◌, Bool, true, false, ◌⊎◌, List, [], ◌∷◌, ◌++◌, Some, None, length, map, refl, sym, ap, ◌∙◌, subst, arith, append_assoc, append-nil}
use Rattle.std.proofs.lemmas.List.{map-append}
use Rattle.upf_commands.specs.CommandRows.{OptionRow, CommandRow, value, flag, truth, means, state}
use Rattle.upf_commands.specs.CommandWords.{Item, own, given, unknown, lacking, is_option, option_of, says_truth, goes_on, IsOneName, AreItems, none, owned, no_option, alone, standing, said, unsaid, valued, stated, stated_apart, lacks}
use Rattle.upf_commands.specs.Values.{truth_of, truth_text}
use Rattle.upf_reader.specs.Parts.{part_view, Leads, FollowsIn}
use Rattle.upf_reader.specs.declared.parts.Part.{Part}

-- no words have no items
only_none : (row : CommandRow) (items : List Item) → AreItems row [] items → items ≡ []
only_none row items none = refl

pub moved : (row : CommandRow) (o : OptionRow) (rest other : List (List ℕ)) (item same : Item) (left : List (List ℕ)) → rest ≡ other → item ≡ same
    → FollowsIn row o other same left → FollowsIn row o rest item left
moved row o rest other item same left e f h = subst (λ ws. FollowsIn row o ws item left) (sym e) (subst (λ i. FollowsIn row o other i left) (sym f) h)

pub lacks_so : (row : CommandRow) (o : OptionRow) (rest : List (List ℕ)) → length rest < 1 → (o.arity ≡ value) ⊎ (o.arity ≡ state)
    → FollowsIn row o rest (lacking o) rest
lacks_so row o [] none_left a =
    record {
      no_longer = omega arith;
      goes = λ word items e f h. subst (λ is. AreItems row (word ∷ []) (lacking o ∷ is)) (sym (only_none row items h)) (lacks word o e f a);
    }
lacks_so row o (word ∷ rest) none_left a = absurd (omega arith)

pub value_so : (row : CommandRow) (o : OptionRow) (next : List ℕ) (left : List (List ℕ)) → o.arity ≡ value → FollowsIn row o (next ∷ left) (given o next) left
value_so row o next left a = record { no_longer = omega arith; goes = λ word items e f h. valued word next left items o e f a h }

pub stated_so : (row : CommandRow) (o : OptionRow) (next : List ℕ) (left : List (List ℕ)) → o.arity ≡ state → (¬ IsOneName next) ⊎ (goes_on row left ≡ false)
    → FollowsIn row o (next ∷ left) (given o next) left
stated_so row o next left a k = record { no_longer = omega arith; goes = λ word items e f h. stated word next left items o e f a k h }

pub apart_so : (row : CommandRow) (o : OptionRow) (next more : List ℕ) (rest left : List (List ℕ)) → o.arity ≡ state → IsOneName next → rest ≡ more ∷ left
    → goes_on row rest ≡ true → FollowsIn row o (next ∷ rest) (given o (next ++ 32 ∷ more)) left
apart_so row o next more rest left a one split goes =
    subst (λ ws. FollowsIn row o (next ∷ ws) (given o (next ++ 32 ∷ more)) left) (sym split)
    (record {
      no_longer = omega arith;
      goes = λ word items e f h. stated_apart word next more left items o e f a one (subst (λ ws. goes_on row ws ≡ true) split goes) h;
    })

pub said_so : (row : CommandRow) (o : OptionRow) (next : List ℕ) (left : List (List ℕ)) (t : Bool) → o.arity ≡ truth → truth_of next ≡ Some t
    → FollowsIn row o (next ∷ left) (given o (truth_text t)) left
said_so row o next left t a s = record { no_longer = omega arith; goes = λ word items e f h. said word next left items o t e f a s h }

pub unsaid_so : (row : CommandRow) (o : OptionRow) (rest : List (List ℕ)) → o.arity ≡ truth → says_truth rest ≡ false
    → FollowsIn row o rest (given o (truth_text true)) rest
unsaid_so row o rest a s = record { no_longer = omega arith; goes = λ word items e f h. unsaid word rest items o e f a s h }

pub alone_so : (row : CommandRow) (o : OptionRow) (rest : List (List ℕ)) → o.arity ≡ flag → FollowsIn row o rest (given o (truth_text true)) rest
alone_so row o rest a = record { no_longer = omega arith; goes = λ word items e f h. alone word rest items o e f a h }

pub standing_so : (row : CommandRow) (o : OptionRow) (rest : List (List ℕ)) (text : List ℕ) → o.arity ≡ means text → FollowsIn row o rest (given o text) rest
standing_so row o rest text a = record { no_longer = omega arith; goes = λ word items e f h. standing word rest items o text e f a h }

pub own_leads : (row : CommandRow) (word same : List ℕ) (rest : List (List ℕ)) → is_option word ≡ false → same ≡ word → Leads row (word ∷ rest) (own same) rest
own_leads row word same rest e f =
    subst (λ w. Leads row (word ∷ rest) (own w) rest) (sym f) (record { shorter = omega arith; goes = λ items h. owned word rest items e h })

pub unknown_leads : (row : CommandRow) (word same : List ℕ) (rest : List (List ℕ)) → is_option word ≡ true → option_of row word ≡ None → same ≡ word
    → Leads row (word ∷ rest) (unknown same) rest
unknown_leads row word same rest e n f =
    subst (λ w. Leads row (word ∷ rest) (unknown w) rest) (sym f) (record { shorter = omega arith; goes = λ items h. no_option word rest items e n h })

-- The parts so far stand in front of whatever items are made of what is left.
abbrev pub ArePartsSoFar : CommandRow → List (List ℕ) → List Part → List (List ℕ) → Type 0
ArePartsSoFar row words parts left = (items : List Item) → AreItems row left items → AreItems row words (map part_view parts ++ items)

pub part_added : (row : CommandRow) (words : List (List ℕ)) (parts more : List Part) (part : Part) (left behind : List (List ℕ)) → more ≡ parts ++ part ∷ []
    → ArePartsSoFar row words parts left → Leads row left (part_view part) behind → ArePartsSoFar row words more behind
part_added row words parts more part left behind e h leads items k =
    let far : AreItems row words (map part_view parts ++ part_view part ∷ items) = h (part_view part ∷ items) (leads.goes items k) in
    let same : map part_view more ++ items ≡ map part_view parts ++ part_view part ∷ items =
    ap (λ ps. map part_view ps ++ items) e ∙ ap (λ is. is ++ items) (map-append part_view parts (part ∷ []))
    ∙ append_assoc (map part_view parts) (part_view part ∷ []) items in
    subst (AreItems row words) (sym same) far

pub parts_whole : (row : CommandRow) (words : List (List ℕ)) (parts : List Part) (left : List (List ℕ)) → length left < 1 → ArePartsSoFar row words parts left
    → AreItems row words (map part_view parts)
parts_whole row words parts [] none_left h = subst (AreItems row words) (append-nil (map part_view parts)) (h [] none)
parts_whole row words parts (word ∷ left) none_left h = absurd (omega arith)
