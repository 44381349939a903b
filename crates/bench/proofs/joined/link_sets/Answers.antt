use Rattle.std.proofs.Common.{sym, ◌∙◌, subst}
use Rattle.std.proofs.lemmas.List.Elements.{All-push, All-weaker}
use Rattle.diagram_defs.specs.Locals.{IsLocal, AreLocals}
use Rattle.diagram_defs.proofs.LocalSets.{IsLocal_grows}
use Rattle.bench.proofs.joined.link_sets.Goals as goal

pub loop-cond-preserved : goal.loop-cond-preserved
loop-cond-preserved c =
    let mid = c.loop-cond.pool in
    let new = c.local_of.new.pool in
    let g = c.local_of.ensures.grows.grows in
    let before = All-weaker (IsLocal mid) (IsLocal new) (λ s is. IsLocal_grows mid new s g is) c.loop-cond.sets.items c.loop-cond.invariant.sets in
    let all = All-push (IsLocal new) c.loop-cond.sets.items c.in_ok-set.set before c.in_ok-set.ensures.number.is in
    record {
      arities = g.arities ∙ c.loop-cond.invariant.arities;
      sets = subst (AreLocals new) (sym c.in_ok-push.ensures.items) all;
    }
