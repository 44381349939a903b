use Rattle.std.proofs.Common.{ℕ, None, ◌∙◌, ap, replicate}
use Rattle.net_inner.specs.Pairs.{pairs_of_cell, with_pairs}
use Rattle.net_inner.proofs.inner.cell_table.Goals as goal

pub returns : goal.returns
returns c =
    c.in-Some.ensures ∙ c.put_cell.ensures
    ∙ ap (with_pairs c.args.index.now (pairs_of_cell c.args.cell.now)) (c.in_ok-sources.ensures ∙ ap (λ (k : ℕ). replicate k None) c.len.ensures.len)
