use Rattle.std.proofs.Common.{◌≡◌, ◌+◌, ◌<◌, ℕ, List, [], ◌∷◌, ◌++◌, Some, length, slice_get, sym, ap, ◌∙◌, subst, arith, length-append}
use Rattle.std.proofs.lemmas.List.{length_push}
use Rattle.std.proofs.lemmas.Option.{slice_get_within}
use Rattle.net_instances.specs.declared.tree.TreeRow.{TreeRow}
use Rattle.net_instances.specs.Trees.{HasInside, IsTree}
use Rattle.net_instances.proofs.TreeLemmas.{tree_grows}
use Rattle.net_instances.proofs.tree.tree_of.Goals as goal

pub loop-at-preserved : goal.loop-at-preserved
loop-at-preserved c =
    let rows = c.loop-at.rows in
    let firsts = c.loop-at.firsts in
    let new = c.add_inside.new.rows in
    let row : TreeRow = c.in-Some.row.now in
    let n = c.args.modules.now in
    let types = c.args.types.now in
    let count : length firsts ≡ c.loop-at.at = c.loop-at.invariant.count in
    let there : slice_get rows c.loop-at.at ≡ Some row = sym c.in-Some.ensures in
    let here : slice_get rows (length firsts) ≡ Some row = subst (λ (k : ℕ). slice_get rows k ≡ Some row) (sym count) there in
    let inside : HasInside n types (length firsts) row.body rows new = subst (λ (k : ℕ). HasInside n types k row.body rows new) (sym count) c.in_ok-add_inside.ensures in
    let grown = tree_grows n types c.args.top rows new firsts row c.loop-at.invariant.tree here inside in
    let pushed : c.push-in-loop-at.new.self ≡ firsts ++ length rows ∷ [] = c.in_ok-push-2.ensures.ok ∙ ap (λ (k : ℕ). firsts ++ k ∷ []) c.len.ensures in
    let within : c.loop-at.at < length rows = slice_get_within rows c.loop-at.at row there in
    let longer : length new ≡ length rows + length inside.more = ap length inside.grown ∙ length-append rows inside.more in
    record {
      tree = subst (λ (fs : List ℕ). IsTree n types c.args.top new fs) (sym pushed) grown;
      count = ap length pushed ∙ length_push firsts (length rows) ∙ ap (λ (k : ℕ). k + 1) count;
      still = omega (arith, within, longer);
    }
