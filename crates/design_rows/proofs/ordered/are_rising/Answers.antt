use Rattle.std.proofs.Common.{rules}
use Rattle.std.specs.Ordering.{is_lt}
use Rattle.std.proofs.lemmas.Fn.{always_returns_same}
use Rattle.design_rows.specs.Children.{child_cmp}
use Rattle.design_rows.proofs.ordered.are_rising.Goals as goal

pub returns : goal.returns
returns c = c.is_sorted_by.ensures.cases (λ one other. is_lt (child_cmp c.args.rows.now one other)) (always_returns_same _ _ _ (λ a r f k. search rules))
