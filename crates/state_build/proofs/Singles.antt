-- The value at one level.
use Rattle.std.proofs.Common.{◌≡◌, ℕ, ◌+◌, ◌-◌, ◌<◌, Bool, ◌&&◌, List, [], length, get_or, drop, sym, ap, ◌∙◌, arith, slice_index, slice_index_or}
use Rattle.std.proofs.lemmas.List.{get_or_default, get_or-drop}
use Rattle.pw_defs.specs.declared.values.Value.{Value}
use Rattle.pw_defs.specs.declared.values.Value.TheVariants.{Off}
use Rattle.pw_defs.specs.declared.conditions.Cond.TheVariants.{Is, On}
use Rattle.supply_defs.proofs.Meaning.{holds_is, holds_on}
use Rattle.diagram_defs.specs.Rests.{is_rest}
use Rattle.diagram_defs.specs.Diagrams.{Diagram, IsPool}
use Rattle.diagram_defs.specs.Sets.{widened_set}
use Rattle.state_build.specs.declared.levels.ValueTest.{ValueTest}
use Rattle.state_build.specs.declared.levels.ValueTest.TheVariants as tests
use Rattle.state_build.specs.Built.{value_of, built_set}
use Rattle.state_build.specs.ValueTests.{passes, chosen_set, value_set}
use Rattle.state_build.proofs.Tested.{tested_widened}

-- the list of a level, as the code reads it
pub list_read : (lists : List (List Value)) (level : ℕ) (read found : List Value) → level < length lists → found ≡ get_or lists level found → read ≡ found → read ≡ get_or lists level []
list_read lists level read found inside is same = same ∙ is ∙ get_or_default lists level found [] inside

-- whole states by the value at a level
module _ (old : Diagram) (pool : IsPool old) (lists : List (List Value)) (level : ℕ) (inside : level < length old.arities) (values : List Value) (is : values ≡ get_or lists level []) where
  at_level : (test : ValueTest) (state : List ℕ) → passes test (slice_index_or values (slice_index (drop (level - 0) state) 0) Off) ≡ passes test (value_of lists state level)
  at_level test state =
      let place : level - 0 + 0 ≡ level = omega arith in
      let index = get_or-drop (level - 0) state 0 0 ∙ ap (λ (k : ℕ). get_or state k 0) place in
      λ i. passes test (slice_index_or (is i) (index i) Off)

  pub chosen_whole : (test : ValueTest) (state : List ℕ) → widened_set old 0 level (chosen_set old.arities level values test) state ≡ value_set old.arities lists level test state
  chosen_whole test =
      tested_widened old pool 0 level (omega arith) (omega arith) (λ rest. passes test (slice_index_or values (slice_index rest 0) Off)) (λ state. passes test (value_of lists state level)) (at_level test)

-- the states by the value of a supply are those of a condition
pub value_is : (arities : List ℕ) (lists : List (List Value)) (supply : ℕ) (value : Value) (state : List ℕ) → value_set arities lists supply (tests.Is value) state ≡ built_set arities lists (Is supply value) state
value_is arities lists supply value state = ap (λ (b : Bool). is_rest arities state && b) (sym (holds_is (value_of lists state) supply value))

pub value_on : (arities : List ℕ) (lists : List (List Value)) (supply : ℕ) (state : List ℕ) → value_set arities lists supply tests.On state ≡ built_set arities lists (On supply) state
value_on arities lists supply state = ap (λ (b : Bool). is_rest arities state && b) (sym (holds_on (value_of lists state) supply))
