use Rattle.std.proofs.Common.{rules, is_lt}
use Rattle.std.specs.Cmp.{IsTotalOrder}
use Rattle.std.proofs.lemmas.Cmp.{nat_list_cmp_total, on_total}
use Rattle.std.proofs.lemmas.List.Sorted.{answers_always, ranks_by}
use Rattle.net_loops.specs.Ranks.{spelled_cmp}
use Rattle.net_loops.specs.declared.ranks.Spelled.{Spelled}
use Rattle.net_loops.proofs.ranks.sort.Goals as goal

spelled_total : IsTotalOrder spelled_cmp
spelled_total = on_total (λ (a : Spelled). a.name) nat_list_cmp_total

pub returns : goal.returns
returns c = record {
  same = c.sort_by.ensures.permutation;
  sorted = c.in_ok-sort_by.ensures.sorted (λ x y. is_lt (spelled_cmp x y)) (ranks_by spelled_total (λ n. n)) (answers_always _ _ _ (λ f a r g h. search rules));
  stable = c.sort_by.ensures.stable (λ x y. is_lt (spelled_cmp x y)) (ranks_by spelled_total (λ n. n)) (answers_always _ _ _ (λ f a r g h. search rules));
}
