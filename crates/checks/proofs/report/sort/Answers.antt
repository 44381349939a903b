use Rattle.std.proofs.Common.{rules, is_lt}
use Rattle.std.proofs.lemmas.List.Sorted.{ranks_by, answers_always}
use Rattle.checks.specs.LineFindings.{finding_cmp}
use Rattle.checks.proofs.Sorting.{finding_cmp_total}
use Rattle.checks.proofs.report.sort.Goals as goal

pub returns : goal.returns
returns c = record {
  same = c.sort_by.ensures.permutation;
  sorted = c.in_ok-sort_by.ensures.sorted (λ x y. is_lt (finding_cmp x y)) (ranks_by finding_cmp_total (λ f. f)) (answers_always _ _ _ (λ f a r g h. search rules));
  stable = c.sort_by.ensures.stable (λ x y. is_lt (finding_cmp x y)) (ranks_by finding_cmp_total (λ f. f)) (answers_always _ _ _ (λ f a r g h. search rules));
}
