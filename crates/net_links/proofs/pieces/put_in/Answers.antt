use Rattle.std.proofs.Common.{◌≡◌, ℕ, ◌<◌, ◌++◌, refl, sym, ap, ◌∙◌, subst}
use Rattle.net_links.specs.LocalLinks.{locals}
use Rattle.net_links.specs.RunLinks.{row_in}
use Rattle.net_links.proofs.RunLemmas.{in_links, in_narrow}
use Rattle.net_links.proofs.pieces.put_in.Goals as goal
use Rattle.net_runs.specs.LocalNumbers.{count_of}
use Rattle.net_runs.proofs.RunLemmas.{run_length}

pub returns : goal.returns
returns c = λ few fits.
    let inst = c.args.inst.number in
    let line = c.args.inst.line in
    let bit = c.args.bit in
    let run = c.args.run in
    let count : c.count.result ≡ count_of run = c.count.ensures ∙ run_length run in
    c.in_ok-put_row.ensures (row_in inst line bit run) c.child_end.ensures c.run_end.ensures (sym count) refl
    (λ some. in_narrow inst line bit run few fits (subst (λ (n : ℕ). 0 < n) count some))
    ∙ ap (λ links. locals c.args.rows.now ++ links) (in_links inst line bit run)
