use Rattle.std.proofs.Common.{ℕ, Bool, true, false, sym, ap, ◌∙◌, subst}
use Rattle.std.proofs.Math.Bool.{and-true, and-false}
use Rattle.std.proofs.lemmas.Bool.{eqb-true}
use Rattle.diagram_defs.specs.Diagrams.{IsNumberFor, member}
use Rattle.diagram_defs.specs.Diagrams.IsKid.{empty}
use Rattle.diagram_defs.specs.Sets.{full_set}
use Rattle.diagram_defs.proofs.Growth.{IsNumberFor_same}
use Rattle.diagram_defs.proofs.Meaning.{member-empty}
use Rattle.state_meets.specs.Walks.{constant_set}
use Rattle.state_meets.proofs.tuples.is_constant.Goals as goal

pub returns-then-n-ne0 : goal.returns-then-n-ne0
returns-then-n-ne0 c is =
    let d = c.args.pool.now in
    let full = full_set d c.args.stage.level in
    let same = eqb-true c.args.n c.args.stage.full is in
    let number = c.requires (λ z. c.if-n-ne0.true (same ∙ z)) in
    let right = IsNumberFor_same d c.args.stage.level full (constant_set d c.args.stage.level true) c.args.stage.full (λ rest. sym (and-true (full rest))) number in
    subst (λ (b : Bool). IsNumberFor d c.args.stage.level (constant_set d c.args.stage.level b) c.args.n) (sym c.if-holds.true) (subst (IsNumberFor d c.args.stage.level (constant_set d c.args.stage.level true)) (sym same) right)

pub returns-else-holds : goal.returns-else-holds
returns-else-holds c is =
    let d = c.args.pool.now in
    let none = eqb-true c.args.n 0 is in
    let right : IsNumberFor d c.args.stage.level (constant_set d c.args.stage.level false) c.args.n = record {
      in_level = empty none;
      same = λ rest. ap (λ (n : ℕ). member d.nodes n rest) none ∙ member-empty d.nodes rest ∙ sym (and-false (full_set d c.args.stage.level rest));
    } in
    subst (λ (b : Bool). IsNumberFor d c.args.stage.level (constant_set d c.args.stage.level b) c.args.n) (sym c.if-holds.false) right
