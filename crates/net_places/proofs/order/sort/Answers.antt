use Rattle.std.proofs.Common.{rules, is_lt}
use Rattle.std.proofs.lemmas.List.Sorted.{ranks_by, answers_always}
use Rattle.net_places.specs.Tables.{row_cmp}
use Rattle.net_places.proofs.Placing.{row_total}
use Rattle.net_places.proofs.order.sort.Goals as goal

pub returns : goal.returns
returns c = record {
  same = c.sort_by.ensures.permutation;
  sorted = c.in_ok-sort_by.ensures.sorted (λ x y. is_lt (row_cmp x y)) (ranks_by row_total (λ n. n)) (answers_always _ _ _ (λ f a r g h. search rules));
  stable = c.sort_by.ensures.stable (λ x y. is_lt (row_cmp x y)) (ranks_by row_total (λ n. n)) (answers_always _ _ _ (λ f a r g h. search rules));
}
