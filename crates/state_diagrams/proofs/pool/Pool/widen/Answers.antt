use Rattle.std.proofs.Common.{◌≡◌, ◌<◌, ◌+◌, ◌-◌, ℕ, List, Bool, length, replicate, subst, ap, ◌∙◌, arith}
use Rattle.diagram_defs.specs.Diagrams.{IsNumberFor, AreKidsFor, member}
use Rattle.diagram_defs.specs.Parts.{GrowsBy, IsPartOf}
use Rattle.diagram_defs.specs.Sets.{case_set, widened_set}
use Rattle.diagram_defs.proofs.PartLemmas.{GrowsBy_none, GrowsBy_step}
use Rattle.diagram_defs.proofs.Steps.{AreKids_for, kids_number, kids_parts, AreRests_number}
use Rattle.diagram_defs.proofs.Widened.{AreRests_widened, widened_up, widened_kids, widened_itself}
use Rattle.diagram_defs.proofs.Yielding.{Yields_passed, Yields_memory}
use Rattle.state_diagrams.proofs.pool.Pool.widen.Goals as goal
use Rattle.state_diagrams.proofs.pool.Pool.widen.Goals.{In_ok-kids, After-case_of}

pub loop-at-init : goal.loop-at-init
loop-at-init c = record {
  above = c.requires.order;
  below = omega arith;
  grows = GrowsBy_none _ c.args.self.now c.allocator-alloc.ensures;
  number = record {
    in_level = c.requires.number;
    same = widened_itself c.args.self.now c.args.from (member c.args.self.now.nodes c.args.n) (AreRests_number c.args.self.now c.args.from c.args.n c.allocator-alloc.ensures.nodes c.requires.number);
  };
}

-- the level below, and the same set from there
kids : (c : In_ok-kids) → AreKidsFor c.loop-at.self (c.loop-at.at - 1) (widened_set c.args.self.now (c.loop-at.at - 1) c.args.from (member c.args.self.now.nodes c.args.n)) c.in_ok-kids.kids.items
kids c =
    let old = c.args.self.now in
    let set = member old.nodes c.args.n in
    let mid = c.loop-at.self in
    let before : c.loop-at.at - 1 < c.args.from = let b = c.loop-at.invariant.below in omega arith in
    let again : c.loop-at.at ≡ c.loop-at.at - 1 + 1 = omega arith in
    let one = subst (λ (l : ℕ). IsNumberFor mid l (widened_set old l c.args.from set) c.loop-at.n) again c.loop-at.invariant.number in
    let all = c.in_ok-kids.ensures.items_if_clones_equal (λ y e. e) ∙ ap (λ (k : ℕ). replicate k c.loop-at.n) c.arity-arity.ensures in
    widened_kids old c.allocator-alloc.ensures c.args.from set c.requires.level_in mid (c.loop-at.at - 1) c.loop-at.n c.in_ok-kids.kids.items c.loop-at.invariant.grows.grows.arities before all one

pub case_of-requires-clause-below : goal.case_of-requires-clause-below
case_of-requires-clause-below c =
    AreKids_for c.loop-at.self (c.loop-at.at - 1) (widened_set c.args.self.now (c.loop-at.at - 1) c.args.from (member c.args.self.now.nodes c.args.n)) c.in_ok-kids.kids.items (kids (goal.at.case_of-requires-clause-below c).In_ok-kids)

parts : (c : After-case_of) (l : ℕ) (part : List ℕ → Bool) → IsPartOf (length c.loop-at.self.arities) (c.loop-at.at - 1) (case_set c.loop-at.self.nodes c.in_ok-kids.kids.items) l part → IsPartOf (length c.args.self.now.arities) c.args.level (widened_set c.args.self.now c.args.level c.args.from (member c.args.self.now.nodes c.args.n)) l part
parts c l part p =
    let old = c.args.self.now in
    let set = member old.nodes c.args.n in
    let low = c.loop-at.at - 1 in
    let inside : low < length old.arities = let b = c.loop-at.invariant.below in omega arith in
    let here = kids_parts old c.loop-at.self low (widened_set old low c.args.from set) c.in_ok-kids.kids.items c.loop-at.invariant.grows.grows inside (AreRests_widened old c.allocator-alloc.ensures c.args.from set c.requires.level_in low) (kids (goal.at-After-case_of c).In_ok-kids) l part p in
    let up : low ≡ c.args.level + (low - c.args.level) = omega arith in
    widened_up old c.allocator-alloc.ensures c.args.from set c.requires.level_in (low - c.args.level) c.args.level l part (omega arith) (subst (λ (n : ℕ). IsPartOf (length old.arities) n (widened_set old n c.args.from set) l part) up here)

grown : (c : After-case_of) → GrowsBy (IsPartOf (length c.args.self.now.arities) c.args.level (widened_set c.args.self.now c.args.level c.args.from (member c.args.self.now.nodes c.args.n))) c.args.self.now c.case_of.new.self
grown c = GrowsBy_step _ _ c.args.self.now c.loop-at.self c.case_of.new.self c.loop-at.invariant.grows (parts c) c.case_of.ensures.0

pub returns-in_err-kids : goal.returns-in_err-kids
returns-in_err-kids c = Yields_memory _ c.from_residual.result c.from_residual.ensures.1 c.loop-at.invariant.grows

pub returns-in_err-n : goal.returns-in_err-n
returns-in_err-n c =
    Yields_passed _ c.from_residual-in_err-n.result c.in_err-n.field-0.0 c.from_residual-in_err-n.ensures.1 c.loop-at.invariant.grows (parts (goal.at.returns-in_err-n c).After-case_of) c.in_err-n.ensures

pub loop-at-preserved : goal.loop-at-preserved
loop-at-preserved c = record {
  above = omega arith;
  below = let b = c.loop-at.invariant.below in omega arith;
  grows = grown (goal.at.loop-at-preserved c).After-case_of;
  number =
      let old = c.args.self.now in
      let low = c.loop-at.at - 1 in
      let inside : low < length old.arities = let b = c.loop-at.invariant.below in omega arith in
      kids_number old c.loop-at.self low (widened_set old low c.args.from (member old.nodes c.args.n)) c.in_ok-kids.kids.items c.loop-at.invariant.grows.grows inside (AreRests_widened old c.allocator-alloc.ensures c.args.from (member old.nodes c.args.n) c.requires.level_in low) (kids (goal.at.loop-at-preserved c).In_ok-kids) c.case_of.new.self c.in_ok-n.n c.in_ok-n.ensures.1;
}

pub returns : goal.returns
returns c =
    let end : c.loop-at.at ≡ c.args.level = let a = c.loop-at.invariant.above in omega arith in
    (c.loop-at.invariant.grows, subst (λ (l : ℕ). IsNumberFor c.loop-at.self l (widened_set c.args.self.now l c.args.from (member c.args.self.now.nodes c.args.n)) c.loop-at.n) end c.loop-at.invariant.number)
