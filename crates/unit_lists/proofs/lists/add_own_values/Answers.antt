use Rattle.std.proofs.Common.{sym, ◌∙◌}
use Rattle.std.proofs.lemmas.Bool.{false≢true}
use Rattle.std.proofs.lemmas.Map.Iter.{rest_more}
use Rattle.std.specs.Map.Iter.{deref}
use Rattle.unit_lists.proofs.ListLemmas.{off_begun, zero_begun}
use Rattle.unit_lists.proofs.lists.add_own_values.Goals as goal

pub loop-view-preserved-in-Continue-branch-2 : goal.loop-view-preserved-in-Continue-branch-2
loop-view-preserved-in-Continue-branch-2 c =
    zero_begun c.args.supplies.now c.args.met.now.keys c.args.given.now.keys c.args.begins.now.items c.loop-view.begins.items c.push.new.self.items
    c.push-then-may_be_zero.new.self.items c.in-Some.view.now c.loop-view.view-iterator c.next.new.self
    (rest_more deref c.loop-view.view-iterator c.next.new.self c.next.result c.in-Some.view c.in-Some.is c.next.ensures.steps) c.in_ok-push.ensures.items
    c.in_ok-push-2.ensures.items (c.may_be_zero.ensures.0 c.if-may_be_zero.true) c.loop-view.invariant

pub loop-view-preserved : goal.loop-view-preserved
loop-view-preserved c =
    off_begun c.args.supplies.now c.args.met.now.keys c.args.given.now.keys c.args.begins.now.items c.loop-view.begins.items c.push.new.self.items c.in-Some.view.now
    c.loop-view.view-iterator c.next.new.self (rest_more deref c.loop-view.view-iterator c.next.new.self c.next.result c.in-Some.view c.in-Some.is c.next.ensures.steps)
    c.in_ok-push.ensures.items (λ unstated. false≢true (sym c.if-may_be_zero.false ∙ c.may_be_zero.ensures.1 unstated)) c.loop-view.invariant
