-- The values at two levels.
use Rattle.std.proofs.Common.{◌≡◌, ℕ, suc, ◌+◌, ◌-◌, ◌≤◌, ◌<◌, Bool, false, ◌&&◌, List, [], ◌∷◌, map, length, get_or, drop, refl, sym, ap, ◌∙◌, arith, slice_index}
use Rattle.std.proofs.lemmas.Bool.{le-ltb}
use Rattle.std.proofs.lemmas.List.{get_or-drop, get_or-map, length-map}
use Rattle.pw_defs.specs.declared.values.Value.{Value}
use Rattle.pw_defs.specs.declared.values.Value.TheVariants.{Off, On}
use Rattle.pw_defs.specs.declared.conditions.Cond.TheVariants.{Apart}
use Rattle.pw_defs.specs.Values.{exceeds}
use Rattle.supply_defs.proofs.Meaning.{holds_apart}
use Rattle.diagram_defs.specs.Rests.{is_rest}
use Rattle.state_build.specs.declared.levels.Side.{Side}
use Rattle.state_build.specs.declared.levels.Side.TheVariants.{Above, Below}
use Rattle.state_build.specs.declared.levels.ValueTest.TheVariants.{Far}
use Rattle.state_build.specs.Built.{value_at, value_of, built_set}
use Rattle.state_build.specs.ValueTests.{is_far, passing_set, pair_set, apart_set}
use Rattle.std.proofs.Math.Bool.{and-false}
use Rattle.state_build.proofs.Tested.{tested_behind}

-- how many values a level has
pub arity_at : (lists : List (List Value)) (arities : List ℕ) (level : ℕ) → map length lists ≡ arities → level < length lists → length (get_or lists level []) ≡ get_or arities level 0
arity_at lists arities level is inside =
    sym (get_or-map length lists level [] 0 inside) ∙ ap (λ (as' : List ℕ). get_or as' level 0) is

-- there are as many levels as lists
pub level_in : (lists : List (List Value)) (arities : List ℕ) (level : ℕ) → map length lists ≡ arities → level < length lists → level < length arities
level_in lists arities level is inside = let e = ap length is in omega (arith, length-map lists (length {A = Value}))

-- whether the first value of a rest and a later one are far
abbrev pub pair_test : List (List Value) → ℕ → ℕ → Side → ℕ → List ℕ → Bool
pair_test lists first second side by rest =
    is_far side (value_at lists first (slice_index rest 0)) by (value_at lists second (slice_index rest (second - first)))

-- what stands behind a value of the first level
pub pair_behind : (arities : List ℕ) (lists : List (List Value)) (first second : ℕ) (side : Side) (by i : ℕ) (from : Value) (values : List Value) (rest : List ℕ) → first < second → first < length arities → i < get_or arities first 0 → from ≡ value_at lists first i → values ≡ get_or lists second []
    → passing_set arities (first + 1) second values (Far side from by) rest ≡ pair_set arities lists first second side by (i ∷ rest)
pair_behind arities lists first second side by i from values rest order inside low from_is values_is =
    let step : second - first ≡ suc (second - (first + 1)) = omega arith in
    ap (λ (f : Value). passing_set arities (first + 1) second values (Far side f by) rest) from_is
    ∙ ap (λ (vs : List Value). passing_set arities (first + 1) second vs (Far side (value_at lists first i) by) rest) values_is
    ∙ ap (λ (k : ℕ). is_rest (drop (first + 1) arities) rest && is_far side (value_at lists first i) by (value_at lists second (slice_index (i ∷ rest) k))) (sym step)
    ∙ tested_behind arities first i (pair_test lists first second side by) rest inside low

-- the same values in the whole state
pub pair_whole : (lists : List (List Value)) (first second : ℕ) (side : Side) (by : ℕ) (state : List ℕ) → first < second → pair_test lists first second side by (drop (first - 0) state) ≡ is_far side (value_of lists state first) by (value_of lists state second)
pair_whole lists first second side by state order =
    let here : first - 0 + 0 ≡ first = omega arith in
    let there : first - 0 + (second - first) ≡ second = omega arith in
    let one = get_or-drop (first - 0) state 0 0 ∙ ap (λ (k : ℕ). get_or state k 0) here in
    let two = get_or-drop (first - 0) state (second - first) 0 ∙ ap (λ (k : ℕ). get_or state k 0) there in
    λ i. is_far side (value_at lists first (one i)) by (value_at lists second (two i))

exceeds_itself : (v : Value) (above : ℕ) → exceeds v v above ≡ false
exceeds_itself Off above = refl
exceeds_itself (On v) above = let le : v ≤ v + above = omega arith in le-ltb (v + above) v le

module _ (arities : List ℕ) (lists : List (List Value)) (low high above : ℕ) (state : List ℕ) where
  pub apart_above : apart_set arities lists low high Above above state ≡ built_set arities lists (Apart low high above) state
  apart_above = ap (λ (b : Bool). is_rest arities state && b) (sym (holds_apart (value_of lists state) low high above))

  pub apart_below : apart_set arities lists high low Below above state ≡ built_set arities lists (Apart low high above) state
  apart_below = ap (λ (b : Bool). is_rest arities state && b) (sym (holds_apart (value_of lists state) low high above))

  pub apart_none : low ≡ high → built_set arities lists (Apart low high above) state ≡ false
  apart_none same =
      ap (λ (b : Bool). is_rest arities state && b) (holds_apart (value_of lists state) low high above ∙ ap (λ (h : ℕ). exceeds (value_of lists state low) (value_of lists state h) above) (sym same) ∙ exceeds_itself (value_of lists state low) above)
      ∙ and-false (is_rest arities state)
