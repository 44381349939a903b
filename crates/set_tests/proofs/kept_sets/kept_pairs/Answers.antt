use Rattle.std.proofs.Common.{◌≡◌, ◌++◌, [], ◌∷◌, ◌∙◌}
use Rattle.set_tests.proofs.SmallTables.{some_pairs, pairs_are, both_is, one_is}
use Rattle.set_tests.proofs.kept_sets.kept_pairs.Goals as goal
use Rattle.set_tests.proofs.kept_sets.kept_pairs.Goals.{In_ok-push-4}

nodes : (c : In_ok-push-4) → c.push-4.new.self ≡ some_pairs.nodes
nodes c =
    let one : c.push.new.self ≡ record { level = 1; kids = 0 ∷ 1 ∷ [] } ∷ [] = c.in_ok-push.ensures.ok ∙ (λ i. c.new-nodes.ensures i ++ c.in_ok-kept_node.ensures i ∷ []) in
    let two : c.push-2.new.self ≡ record { level = 1; kids = 0 ∷ 1 ∷ [] } ∷ record { level = 1; kids = 1 ∷ 0 ∷ [] } ∷ [] = c.in_ok-push-2.ensures.ok ∙ (λ i. one i ++ c.in_ok-kept_node-2.ensures i ∷ []) in
    let three : c.push-3.new.self ≡ record { level = 1; kids = 0 ∷ 1 ∷ [] } ∷ record { level = 1; kids = 1 ∷ 0 ∷ [] } ∷ record { level = 0; kids = 2 ∷ 3 ∷ [] } ∷ [] = c.in_ok-push-3.ensures.ok ∙ (λ i. two i ++ c.in_ok-kept_node-3.ensures i ∷ []) in
    c.in_ok-push-4.ensures.ok ∙ (λ i. three i ++ c.in_ok-kept_node-4.ensures i ∷ [])

pub returns-clause-nodes : goal.returns-clause-nodes
returns-clause-nodes c =
    pairs_are (record { arities = c.in_ok-arities.arities; nodes = c.push-4.new.self }) c.in_ok-arities.ensures (nodes (goal.at.returns-clause-nodes c).In_ok-push-4)

pub returns-clause-both : goal.returns-clause-both
returns-clause-both c =
    both_is (record { arities = c.in_ok-arities.arities; nodes = c.push-4.new.self }) c.in_ok-arities.ensures (nodes (goal.at.returns-clause-both c).In_ok-push-4)

pub returns-clause-one : goal.returns-clause-one
returns-clause-one c =
    one_is (record { arities = c.in_ok-arities.arities; nodes = c.push-4.new.self }) c.in_ok-arities.ensures (nodes (goal.at.returns-clause-one c).In_ok-push-4)
