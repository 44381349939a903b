use Rattle.std.proofs.Common.{◌≡◌, ℕ, Bool, true, List, refl, sym, ap, ◌∙◌}
use Rattle.diagram_defs.specs.Diagrams.{Diagram}
use Rattle.diagram_defs.specs.Diagrams.IsKid.{empty}
use Rattle.diagram_defs.specs.Sets.{full_set}
use Rattle.diagram_defs.proofs.Meaning.{member-empty}
use Rattle.diagram_defs.proofs.PartLemmas.{GrowsBy_none, same_made, same_grown, same_refused}
use Rattle.state_build.specs.ValueTests.{guarded_set}
use Rattle.std.proofs.Math.Bool.{and-true, and-false}
use Rattle.diagram_defs.proofs.Yielding.{value_of, reason_of}
use Rattle.state_build.proofs.levels.guarded.Goals as goal

all : (d : Diagram) (level : ℕ) (some : Bool) → some ≡ true → (rest : List ℕ) → full_set d level rest ≡ guarded_set d.arities level some rest
all d level some is rest = sym (ap (λ (b : Bool). guarded_set d.arities level b rest) is ∙ and-true (full_set d level rest))

pub returns-then-some-clause-number : goal.returns-then-some-clause-number
returns-then-some-clause-number c =
    same_made c.args.pool.now c.full.new.self c.args.level _ _ (all c.args.pool.now c.args.level c.args.some c.if-some.true) c.full.result (value_of _ _ c.full.result c.full.ensures)

pub returns-then-some-clause-grows : goal.returns-then-some-clause-grows
returns-then-some-clause-grows c =
    same_grown c.args.pool.now c.full.new.self c.args.level _ _ (all c.args.pool.now c.args.level c.args.some c.if-some.true) c.full.ensures.0

pub returns-then-some-clause-cause : goal.returns-then-some-clause-cause
returns-then-some-clause-cause c =
    same_refused c.args.pool.now c.full.new.self c.args.level _ _ (all c.args.pool.now c.args.level c.args.some c.if-some.true) c.full.result (reason_of _ _ c.full.result c.full.ensures)

pub returns-else-some-clause-number : goal.returns-else-some-clause-number
returns-else-some-clause-number c = record {
  in_level = empty refl;
  same = λ rest. member-empty c.args.pool.now.nodes rest ∙ sym (ap (λ (b : Bool). guarded_set c.args.pool.now.arities c.args.level b rest) c.if-some.false ∙ and-false (full_set c.args.pool.now c.args.level rest));
}

pub returns-else-some-clause-grows : goal.returns-else-some-clause-grows
returns-else-some-clause-grows c = GrowsBy_none _ c.args.pool.now c.nodes-count.ensures.pool
