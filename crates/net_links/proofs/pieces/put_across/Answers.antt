use Rattle.std.proofs.Common.{◌≡◌, ℕ, min, refl, sym, ap, ◌∙◌}
use Rattle.net_links.specs.LocalLinks.{locals}
use Rattle.net_links.specs.RunLinks.{bits_back, row_across}
use Rattle.net_links.proofs.SideLemmas.{across_more, fewer_runs, more_fed, more_source}
use Rattle.net_links.proofs.pieces.put_across.Goals as goal
use Rattle.net_runs.specs.LocalNumbers.{count_of}
use Rattle.net_runs.proofs.RunLemmas.{run_length}

pub returns-clause-links : goal.returns-clause-links
returns-clause-links c few_fed few_source =
    let fed = c.args.fed in
    let source = c.args.source in
    let n : ℕ = c.min-count.result in
    let is : n ≡ min (count_of fed) (count_of source) =
    c.min-count.ensures ∙ ap (λ (k : ℕ). min k c.count-2.result) (c.count.ensures ∙ run_length fed) ∙ ap (λ (k : ℕ). min (count_of fed) k) (c.count-2.ensures ∙ run_length source) in
    across_more c.args.line fed source n (bits_back c.args.left.now.items) (bits_back c.args.right.now.items) (bits_back c.put_back.new.runs.items)
    (bits_back c.put_back-2.new.runs.items) (locals c.args.rows.now) (locals c.put_row.new.rows) is few_fed few_source
    (c.in_ok-put_row.ensures (row_across c.args.line fed source) c.run_end.ensures c.run_end-2.ensures (sym is) refl)
    c.in_ok-put_back.ensures.rest c.in_ok-put_back-2.ensures.rest

pub returns-clause-fed : goal.returns-clause-fed
returns-clause-fed c few_fed =
    let fed = c.args.fed in
    let source = c.args.source in
    let is : c.min-count.result ≡ min (count_of fed) (count_of source) =
    c.min-count.ensures ∙ ap (λ (k : ℕ). min k c.count-2.result) (c.count.ensures ∙ run_length fed) ∙ ap (λ (k : ℕ). min (count_of fed) k) (c.count-2.ensures ∙ run_length source) in
    (more_fed fed source c.min-count.result (bits_back c.args.left.now.items) (bits_back c.put_back.new.runs.items) is few_fed c.in_ok-put_back.ensures.rest).1

pub returns-clause-source : goal.returns-clause-source
returns-clause-source c few_fed few_source =
    let fed = c.args.fed in
    let source = c.args.source in
    let is : c.min-count.result ≡ min (count_of fed) (count_of source) =
    c.min-count.ensures ∙ ap (λ (k : ℕ). min k c.count-2.result) (c.count.ensures ∙ run_length fed) ∙ ap (λ (k : ℕ). min (count_of fed) k) (c.count-2.ensures ∙ run_length source) in
    (more_source fed source c.min-count.result (bits_back c.args.right.now.items) (bits_back c.put_back-2.new.runs.items) is few_source c.in_ok-put_back-2.ensures.rest).1

pub returns-clause-fewer : goal.returns-clause-fewer
returns-clause-fewer c =
    let fed = c.args.fed in
    let source = c.args.source in
    let is : c.min-count.result ≡ min (count_of fed) (count_of source) =
    c.min-count.ensures ∙ ap (λ (k : ℕ). min k c.count-2.result) (c.count.ensures ∙ run_length fed) ∙ ap (λ (k : ℕ). min (count_of fed) k) (c.count-2.ensures ∙ run_length source) in
    fewer_runs c.min-count.result (count_of fed) (count_of source) _ _ _ _ is c.in_ok-put_back.ensures.none c.in_ok-put_back-2.ensures.none c.in_ok-put_back.ensures.one
    c.in_ok-put_back-2.ensures.one
