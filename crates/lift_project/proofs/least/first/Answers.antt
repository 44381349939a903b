use Rattle.std.proofs.Common.{◌≡◌, ◌≤◌, ◌<◌, ◌+◌, ℕ, length, take, set, sym, ◌∙◌, subst, arith, rules}
use Rattle.std.proofs.lemmas.List.{take_more_set, take_all}
use Rattle.std.proofs.lemmas.Bool.{iff_false}
use Rattle.diagram_defs.specs.Diagrams.{kid, IsSet}
use Rattle.diagram_defs.proofs.Meaning.{IsKid-kid, inner_number, last_number}
use Rattle.lift_project.proofs.LeastLemmas.{LeadsLeast, LeadsLeast_start, LeadsLeast_more, LeadsLeast_end}
use Rattle.lift_project.proofs.least.first.Goals as goal

pub loop-level-init : goal.loop-level-init
loop-level-init c = record {
  some = iff_false c.is_empty.ensures c.if-is_empty.false;
  in_level = c.requires.number;
  leads = LeadsLeast_start c.args.pool.now.nodes c.args.node;
}

pub overflow_cast-level : goal.overflow_cast-level
overflow_cast-level c = let high = c.nodes-count.ensures.pool.arities.levels in search rules

pub loop-level-preserved : goal.loop-level-preserved
loop-level-preserved c =
    let d = c.args.pool.now in
    let v = c.least_value-value.result in
    let n = c.loop-level.n in
    let inside : c.loop-level.level < length d.arities = omega arith in
    record {
      some = λ z. c.least_value-value.ensures.some (sym c.child-n.ensures ∙ z);
      in_level = subst (IsSet d (c.loop-level.level + 1)) (sym c.child-n.ensures) (IsKid-kid d.arities d.nodes c.nodes-count.ensures.pool.nodes (length d.nodes) c.loop-level.level n c.loop-level.invariant.in_level v);
      leads =
          let more = LeadsLeast_more d.nodes c.args.node n v (take c.loop-level.level c.loop-level.out) c.loop-level.invariant.leads (inner_number d c.loop-level.level n inside c.loop-level.invariant.in_level) c.least_value-value.ensures.least in
          subst (λ (k : ℕ). LeadsLeast d.nodes c.args.node k (take (c.loop-level.level + 1) (set c.loop-level.out c.loop-level.level v))) (sym c.child-n.ensures) (subst (LeadsLeast d.nodes c.args.node (kid d.nodes n v)) (sym (take_more_set c.loop-level.out c.loop-level.level v (omega arith))) more);
    }

pub returns-clause-least : goal.returns-clause-least
returns-clause-least c =
    let d = c.args.pool.now in
    let count : length c.loop-level.out ≤ c.loop-level.level = omega arith in
    let at : c.loop-level.level ≡ length d.arities = omega arith in
    let one = last_number d c.nodes-count.ensures.pool c.loop-level.level c.loop-level.n at c.loop-level.invariant.in_level c.loop-level.invariant.some in
    let whole = subst (λ (k : ℕ). LeadsLeast d.nodes c.args.node k c.loop-level.out) one (subst (LeadsLeast d.nodes c.args.node c.loop-level.n) (take_all c.loop-level.level c.loop-level.out count) c.loop-level.invariant.leads) in
    let end = LeadsLeast_end d.nodes c.args.node c.loop-level.out whole in
    record { holds = end.0; least = end.1 }
