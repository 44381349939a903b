-- Sets by the levels at which they begin.
use Rattle.std.proofs.Common.{◌≡◌, ℕ, zero, suc, ◌+◌, ◌-◌, ◌≤◌, ◌<◌, Bool, true, ◌&&◌, List, [], ◌∷◌, ◌++◌, set, drop, replicate, length, get_or, refl, sym, ap, ◌∙◌, subst, inl, inr, arith}
use Rattle.std.proofs.lemmas.Bool.{cases_eq}
use Rattle.std.proofs.lemmas.Grind.{get_or-set_at}
use Rattle.std.proofs.lemmas.List.{drop-drop, drop_more, get_or-set_other, length-set, length-replicate}
use Rattle.std.proofs.lemmas.List.Elements.{All-nil, All-push}
use Rattle.diagram_defs.specs.declared.locals.Local.{Local}
use Rattle.diagram_defs.specs.declared.quantifiers.Quantifier.{Quantifier}
use Rattle.diagram_defs.specs.declared.quantifiers.Quantifier.TheVariants as which
use Rattle.diagram_defs.specs.Rests.{is_rest}
use Rattle.diagram_defs.specs.Diagrams.{Diagram, Shape, member, IsSet}
use Rattle.diagram_defs.specs.Locals.{IsLocal, states_of}
use Rattle.diagram_defs.specs.Sets.{full_set, widened_set}
use Rattle.diagram_defs.specs.Quantified.{quantified, quantified_two, quantified_none}
use Rattle.diagram_defs.proofs.Guards.{guarded, guards_second}
use Rattle.diagram_defs.proofs.Listed.{is_rest-drop}
use Rattle.diagram_defs.proofs.Quantifying.{quantified_append, quantified_first, quantified_nothing, two_none, two_grouped, two_moved}
use Rattle.state_meets.specs.Walks.{meet, later, walk_set, AreSets}
use Rattle.state_meets.specs.Gathered.{gathered_set}
use Rattle.state_meets.specs.Planned.{IsSpread, Begins}

-- nothing begins
later_nothing : (q : Quantifier) (nodes : List Shape) (count : ℕ) (rest : List ℕ) → later q nodes (replicate count []) rest ≡ quantified_none q
later_nothing q nodes zero rest = refl
later_nothing q nodes (suc count) rest =
    ap (λ (b : Bool). quantified_two q b (later q nodes (replicate count []) (drop 1 rest))) (quantified_nothing q (λ n. member nodes n rest))
    ∙ ap (quantified_two q (quantified_none q)) (later_nothing q nodes count (drop 1 rest)) ∙ two_none q (quantified_none q)

one_more : (q : Quantifier) (nodes : List Shape) (numbers : List ℕ) (n : ℕ) (rest : List ℕ) → meet q nodes (numbers ++ n ∷ []) rest ≡ quantified_two q (meet q nodes numbers rest) (member nodes n rest)
one_more q nodes numbers n rest =
    quantified_append q (λ m. member nodes m rest) numbers (n ∷ [])
    ∙ ap (quantified_two q (meet q nodes numbers rest)) (quantified_first q (λ m. member nodes m rest) n [] ∙ ap (quantified_two q (member nodes n rest)) (quantified_nothing q (λ m. member nodes m rest)) ∙ two_none q (member nodes n rest))

-- one set more
later_put : (q : Quantifier) (nodes : List Shape) (begun : List (List ℕ)) (level n : ℕ) (rest : List ℕ) → level < length begun → later q nodes (set begun level (get_or begun level [] ++ n ∷ [])) rest ≡ quantified_two q (later q nodes begun rest) (member nodes n (drop level rest))
later_put q nodes [] level n rest inside = absurd (omega arith)
later_put q nodes (numbers ∷ begun) zero n rest inside =
    ap (λ (b : Bool). quantified_two q b (later q nodes begun (drop 1 rest))) (one_more q nodes numbers n rest) ∙ two_moved q (meet q nodes numbers rest) (member nodes n rest) (later q nodes begun (drop 1 rest))
later_put q nodes (numbers ∷ begun) (suc level) n rest inside =
    let further = later_put q nodes begun level n (drop 1 rest) (omega arith) in
    let place : 1 + level ≡ suc level = omega arith in
    let behind = drop-drop level 1 rest ∙ ap (λ (k : ℕ). drop k rest) place in
    ap (quantified_two q (meet q nodes numbers rest)) (further ∙ ap (λ (xs : List ℕ). quantified_two q (later q nodes begun (drop 1 rest)) (member nodes n xs)) behind)
    ∙ sym (two_grouped q (meet q nodes numbers rest) (later q nodes begun (drop 1 rest)) (member nodes n (drop (suc level) rest)))

pub IsSpread_none : (d : Diagram) (begun : List (List ℕ)) → begun ≡ replicate (length d.arities + 1) [] → IsSpread d [] begun
IsSpread_none d begun all = record {
  count = ap length all ∙ length-replicate (length d.arities + 1) [];
  begun_in = λ k. subst (λ (bs : List (List ℕ)). AreSets d (0 + k) (get_or bs k [])) (sym all) (subst (AreSets d (0 + k)) (sym (empty_at (length d.arities + 1) k)) (All-nil (IsSet d (0 + k))));
  same = λ q nodes state. ap (λ (bs : List (List ℕ)). later q nodes bs state) all ∙ later_nothing q nodes (length d.arities + 1) state ∙ sym (quantified_nothing q (λ s. member nodes s.number (drop s.level state)));
}
  where
    empty_at : (count k : ℕ) → ◌≡◌ {A = List ℕ} (get_or (replicate count []) k []) []
    empty_at zero k = refl
    empty_at (suc count) zero = refl
    empty_at (suc count) (suc k) = empty_at count k

pub IsSpread_more : (d : Diagram) (sets : List Local) (begun new : List (List ℕ)) (local : Local) → IsLocal d local → new ≡ set begun local.level (get_or begun local.level [] ++ local.number ∷ []) → IsSpread d sets begun → IsSpread d (sets ++ local ∷ []) new
IsSpread_more d sets begun new local is put before = record {
  count = ap length put ∙ length-set begun local.level (get_or begun local.level [] ++ local.number ∷ []) ∙ before.count;
  begun_in = λ k. subst (λ (bs : List (List ℕ)). AreSets d (0 + k) (get_or bs k [])) (sym put) (elim (cases_eq k local.level) [
    | inl here ↦
        let level_is : local.level ≡ 0 + k = omega arith in
        let number_in = subst (λ (l : ℕ). IsSet d l local.number) level_is is.number_in in
        let there = subst (λ (l : ℕ). AreSets d (0 + k) (get_or begun l [])) here (before.begun_in k) in
        subst (AreSets d (0 + k)) (sym (get_or-set_at begun local.level k _ [] here room)) (All-push (IsSet d (0 + k)) (get_or begun local.level []) local.number there number_in)
    | inr other ↦ subst (AreSets d (0 + k)) (sym (get_or-set_other begun local.level k _ [] other)) (before.begun_in k)
  ]);
  same = λ q nodes state.
      ap (λ (bs : List (List ℕ)). later q nodes bs state) put ∙ later_put q nodes begun local.level local.number state room
      ∙ ap (λ (b : Bool). quantified_two q b (member nodes local.number (drop local.level state))) (before.same q nodes state)
      ∙ sym (quantified_append q (λ s. member nodes s.number (drop s.level state)) sets (local ∷ []) ∙ ap (quantified_two q (quantified q (λ s. member nodes s.number (drop s.level state)) sets)) (last q nodes state));
}
  where
    room : local.level < length begun
    room = let l = is.level_in in let c = before.count in omega arith

    last : (q : Quantifier) (nodes : List Shape) (state : List ℕ) → quantified q (λ s. member nodes s.number (drop s.level state)) (local ∷ []) ≡ member nodes local.number (drop local.level state)
    last q nodes state =
        quantified_first q (λ (s : Local). member nodes s.number (drop s.level state)) local [] ∙ ap (quantified_two q (member nodes local.number (drop local.level state))) (quantified_nothing q (λ (s : Local). member nodes s.number (drop s.level state))) ∙ two_none q (member nodes local.number (drop local.level state))

pub none_first : (q : Quantifier) (b : Bool) → quantified_two q (quantified_none q) b ≡ b
none_first which.All b = refl
none_first which.Any b = refl

-- where nothing begins at a level, all begins behind it
pub Begins_later : (begun : List (List ℕ)) (level : ℕ) → level < length begun → get_or begun level [] ≡ [] → Begins begun level → Begins begun (level + 1)
Begins_later begun level inside none before = λ q nodes state.
    before q nodes state ∙ ap (λ (bs : List (List ℕ)). later q nodes bs (drop level state)) (drop_more begun level [] inside ∙ ap (λ (numbers : List ℕ). numbers ∷ drop (level + 1) begun) none)
    ∙ ap (λ (b : Bool). quantified_two q b (later q nodes (drop (level + 1) begun) (drop 1 (drop level state)))) (quantified_nothing q (λ n. member nodes n (drop level state)))
    ∙ none_first q (later q nodes (drop (level + 1) begun) (drop 1 (drop level state)))
    ∙ ap (later q nodes (drop (level + 1) begun)) (drop-drop 1 level state)

-- what the walk finds from the first level, as whole states
pub walk_whole : (d : Diagram) (q : Quantifier) (sets : List Local) (begun : List (List ℕ)) (level : ℕ) (numbers state : List ℕ) → level ≤ length d.arities → IsSpread d sets begun → Begins begun level → numbers ≡ get_or begun level []
    → widened_set d 0 level (walk_set d q begun level numbers) state ≡ gathered_set d q sets state
walk_whole d q sets begun level numbers state fits spread begins is =
    guards_second (full_set d 0 state) (full_set d level rest) _ (later q d.nodes begun state) (λ e. ap (λ (k : ℕ). is_rest (drop level d.arities) (drop k state)) place ∙ is_rest-drop level d.arities state e) ends
    ∙ guarded (full_set d 0 state) _ _ (λ full. spread.same q d.nodes state ∙ (λ i. quantified q (λ s. local_state full s i) sets))
  where
    rest : List ℕ
    rest = drop (level - 0) state

    place : level - 0 ≡ level
    place = omega arith

    room : level < length begun
    room = let c = spread.count in omega arith

    ends : quantified_two q (meet q d.nodes numbers rest) (later q d.nodes (drop (level + 1) begun) (drop 1 rest)) ≡ later q d.nodes begun state
    ends =
        ap (λ (ns : List ℕ). later q d.nodes (ns ∷ drop (level + 1) begun) rest) is ∙ ap (λ (bs : List (List ℕ)). later q d.nodes bs rest) (sym (drop_more begun level [] room))
        ∙ ap (λ (k : ℕ). later q d.nodes (drop level begun) (drop k state)) place ∙ sym (begins q d.nodes state)

    local_state : full_set d 0 state ≡ true → (s : Local) → member d.nodes s.number (drop s.level state) ≡ states_of d s state
    local_state full s =
        let whole : s.level ≡ s.level - 0 = omega arith in
        ap (λ (k : ℕ). member d.nodes s.number (drop k state)) whole ∙ ap (λ (b : Bool). b && member d.nodes s.number (drop (s.level - 0) state)) (sym full)
