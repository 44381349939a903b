use Rattle.std.proofs.Common.{◌+◌, ℕ, List, Bool, length, subst, sym, ◌∙◌, refl}
use Rattle.std.proofs.lemmas.Bool.{MatchBool-at_true, MatchBool-at_false}
use Rattle.diagram_defs.specs.Diagrams.{AreKidsFor}
use Rattle.diagram_defs.specs.Diagrams.IsKid.{empty}
use Rattle.diagram_defs.specs.Parts.{GrowsBy, IsPartOf}
use Rattle.diagram_defs.specs.Sets.{full_set}
use Rattle.diagram_defs.proofs.Meaning.{member-empty}
use Rattle.diagram_defs.proofs.PartLemmas.{GrowsBy_none, GrowsBy_wider}
use Rattle.diagram_defs.proofs.Steps.{AreKids_for, kids_same, kids_parts, value_parts}
use Rattle.diagram_defs.proofs.Yielding.{Yields_passed, Yields_memory, Makes_last}
use Rattle.state_diagrams.specs.Masks.{choice_set, IsPicked, PicksSome, PicksNone}
use Rattle.state_diagrams.proofs.Levels.{AreRests_choice, choice_behind, choice_none, choice_kids}
use Rattle.state_diagrams.proofs.pool.Pool.choice.Goals as goal
use Rattle.state_diagrams.proofs.pool.Pool.choice.Goals.{In_ok-kids, After-full}

pub returns-then-not-picks_some : goal.returns-then-not-picks_some
returns-then-not-picks_some c =
    let none = subst (PicksNone c.args.mask) c.arity-arity.ensures (MatchBool-at_false (PicksSome c.args.mask c.arity-arity.result) (PicksNone c.args.mask c.arity-arity.result) c.if-not-picks_some.true c.picks_some.ensures) in (
      GrowsBy_none _ c.args.self.now c.allocator-alloc.ensures,
      record {
        in_level = empty refl;
        same = λ rest. member-empty c.args.self.now.nodes rest ∙ sym (choice_none c.args.self.now c.args.level c.args.mask c.requires none rest);
      },
    )

full_parts : (c : After-full) (l : ℕ) (part : List ℕ → Bool) → IsPartOf (length c.args.self.now.arities) (c.args.level + 1) (full_set c.args.self.now (c.args.level + 1)) l part → IsPartOf (length c.args.self.now.arities) c.args.level (choice_set c.args.self.now c.args.level c.args.mask) l part
full_parts c =
    let old = c.args.self.now in
    let some = subst (PicksSome c.args.mask) c.arity-arity.ensures (MatchBool-at_true (PicksSome c.args.mask c.arity-arity.result) (PicksNone c.args.mask c.arity-arity.result) c.if-not-picks_some.false c.picks_some.ensures) in
    value_parts c.args.level (choice_set old c.args.level c.args.mask) (length old.arities) (length old.arities) some.0 (full_set old (c.args.level + 1)) refl (λ rest. choice_behind old c.args.level c.args.mask c.requires some.0 rest some.1 some.2)

full_grown : (c : After-full) → GrowsBy (IsPartOf (length c.args.self.now.arities) c.args.level (choice_set c.args.self.now c.args.level c.args.mask)) c.args.self.now c.full.new.self
full_grown c = GrowsBy_wider _ _ c.args.self.now c.full.new.self (full_parts c) c.full.ensures.0

pub returns-in_err-rest : goal.returns-in_err-rest
returns-in_err-rest c =
    Yields_passed _ c.from_residual.result c.in_err-rest.field-0.0 c.from_residual.ensures.1 (GrowsBy_none _ c.args.self.now c.allocator-alloc.ensures) (full_parts (goal.at.returns-in_err-rest c).After-full) c.in_err-rest.ensures

pub returns-in_err-kids : goal.returns-in_err-kids
returns-in_err-kids c =
    Yields_memory _ c.from_residual-in_err-kids.result c.from_residual-in_err-kids.ensures.1 (full_grown (goal.at.returns-in_err-kids c).After-full)

kids : (c : In_ok-kids) → AreKidsFor c.full.new.self c.args.level (choice_set c.args.self.now c.args.level c.args.mask) c.in_ok-kids.kids.items
kids c =
    choice_kids c.args.self.now c.args.level c.args.mask c.requires c.full.new.self c.in_ok-rest.rest c.in_ok-kids.kids.items c.full.ensures.0.grows.arities (subst (λ (count : ℕ). IsPicked c.args.mask c.in_ok-rest.rest count c.in_ok-kids.kids.items) c.arity-arity.ensures c.in_ok-kids.ensures) c.in_ok-rest.ensures.1

pub case_of-requires-clause-below : goal.case_of-requires-clause-below
case_of-requires-clause-below c =
    AreKids_for c.full.new.self c.args.level (choice_set c.args.self.now c.args.level c.args.mask) c.in_ok-kids.kids.items (kids (goal.at.case_of-requires-clause-below c).In_ok-kids)

pub returns : goal.returns
returns c =
    let old = c.args.self.now in
    let set = choice_set old c.args.level c.args.mask in
    let g = c.full.ensures.0.grows in
    let rests = AreRests_choice old c.args.level c.args.mask c.requires in
    let all = kids (goal.at.returns c).In_ok-kids in
    Makes_last c.args.level _ set c.case_of.result (full_grown (goal.at.returns c).After-full) (kids_parts old c.full.new.self c.args.level set c.in_ok-kids.kids.items g c.requires rests all) (kids_same old c.full.new.self c.args.level set c.in_ok-kids.kids.items g c.requires rests all) c.case_of.ensures
