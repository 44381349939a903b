use Rattle.std.proofs.Common.{◌≡◌, ◌*◌, ◌%◌, ◌^◌, ℕ, List, Bool, length, ap, ◌∙◌, arith}
use Rattle.diagram_defs.specs.Diagrams.{member, IsSet}
use Rattle.diagram_defs.specs.Parts.{IsPartOfSome, GrowsBy, IsPartOf}
use Rattle.diagram_defs.specs.Sets.{and_set, literal_set}
use Rattle.diagram_defs.proofs.Growth.{IsSet_grows}
use Rattle.diagram_defs.proofs.PartLemmas.{GrowsBy_none, GrowsBy_wider}
use Rattle.lift_project.specs.Entries.{value_set, held_set, IsStep}
use Rattle.lift_project.specs.Entries.IsStep.{alone, both}
use Rattle.lift_project.proofs.EntryLemmas.{shifted, literal_value, listed_part, listed_grown, held_meets, held_none}
use Rattle.diagram_defs.proofs.Yielding.{Yields_passed, Makes_last}
use Rattle.lift_project.proofs.lifts.held.Goals as goal
use Rattle.lift_project.proofs.lifts.held.Goals.{After-literal, In_ok-value}

pub returns-then-is_empty : goal.returns-then-is_empty
returns-then-is_empty c =
    (GrowsBy_none _ c.args.into.now c.nodes-count.ensures.pool, held_none c.args.into.now c.args.level c.args.index c.args.n (c.is_empty.ensures.0 c.if-is_empty.true))

-- the mask has the bit of the index alone
mask : (c : After-literal) → 1 * 2 ^ c.args.index % 18446744073709551616 ≡ 2 ^ c.args.index
mask c =
    let high = c.nodes-count.ensures.pool.arities.high c.args.level c.requires.level_in in
    let low = c.requires.index in
    shifted c.args.index (omega arith)

steps : (c : After-literal) (l : ℕ) (part : List ℕ → Bool) → IsPartOf (length c.args.into.now.arities) 0 (literal_set c.args.into.now c.args.level (1 * 2 ^ c.args.index % 18446744073709551616)) l part → IsPartOfSome (length c.args.into.now.arities) (IsStep c.args.into.now.arities c.args.level c.args.index (member c.args.into.now.nodes c.args.n)) l part
steps c =
    let old = c.args.into.now in
    listed_part _ _ (value_set old.arities c.args.level c.args.index) alone (λ state. ap (λ (m : ℕ). literal_set old c.args.level m state) (mask c) ∙ literal_value old c.args.level c.args.index state) (length old.arities)

grown : (c : After-literal) → GrowsBy (IsPartOfSome (length c.args.into.now.arities) (IsStep c.args.into.now.arities c.args.level c.args.index (member c.args.into.now.nodes c.args.n))) c.args.into.now c.literal.new.self
grown c = GrowsBy_wider _ _ c.args.into.now c.literal.new.self (steps c) c.literal.ensures.0

pub returns-in_err-value : goal.returns-in_err-value
returns-in_err-value c =
    Yields_passed _ c.from_residual.result c.in_err-value.field-0.0 c.from_residual.ensures.1 (GrowsBy_none _ c.args.into.now c.nodes-count.ensures.pool) (steps (goal.at.returns-in_err-value c).After-literal) c.in_err-value.ensures

second : (c : In_ok-value) → IsSet c.literal.new.self 0 c.args.n
second c = IsSet_grows c.args.into.now c.literal.new.self 0 c.args.n c.literal.ensures.0.grows c.requires.number

pub and-requires : goal.and-requires
and-requires c =
    record { level = 0; first = c.in_ok-value.ensures.1.in_level; second = second (goal.at.and-requires c).In_ok-value }

same : (c : In_ok-value) (state : List ℕ) → and_set c.literal.new.self.nodes c.in_ok-value.value c.args.n state ≡ held_set c.args.into.now.arities c.args.level c.args.index (member c.args.into.now.nodes c.args.n) state
same c =
    held_meets c.args.into.now c.literal.new.self c.args.level c.args.index _ c.in_ok-value.value c.args.n (mask (goal.at-In_ok-value c).After-literal) c.literal.ensures.0.grows c.requires.number c.in_ok-value.ensures.1

further : (c : In_ok-value) (l : ℕ) (part : List ℕ → Bool) → IsPartOf (length c.literal.new.self.arities) 0 (and_set c.literal.new.self.nodes c.in_ok-value.value c.args.n) l part → IsPartOfSome (length c.args.into.now.arities) (IsStep c.args.into.now.arities c.args.level c.args.index (member c.args.into.now.nodes c.args.n)) l part
further c =
    let old = c.args.into.now in
    listed_grown _ _ (held_set old.arities c.args.level c.args.index (member old.nodes c.args.n)) both (same c) old c.literal.new.self c.literal.ensures.0.grows

pub returns : goal.returns
returns c =
    let stage = goal.at.returns c in
    let at = stage.In_ok-value in
    Makes_last 0 _ _ c.and.result (grown stage.After-literal) (further at) (same at) (c.and.ensures 0 c.in_ok-value.ensures.1.in_level (second at))
