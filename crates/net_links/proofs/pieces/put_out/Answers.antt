use Rattle.std.proofs.Common.{◌≡◌, ◌+◌, ◌≤◌, ◌++◌, append-nil, refl, sym, ap, ◌∙◌, subst}
use Rattle.pw_defs.specs.declared.cells.Dir.TheVariants.{Output}
use Rattle.net_runs.specs.declared.runs.Run.{Run}
use Rattle.net_runs.specs.LocalNumbers.{run_bits, count_of}
use Rattle.net_links.specs.LocalLinks.{locals}
use Rattle.net_links.specs.RunLinks.{AreFew, locals_of_port, row_out}
use Rattle.net_links.proofs.RunLemmas.{out_links, out_narrow, out_none}
use Rattle.net_links.proofs.pieces.put_out.Goals as goal

pub returns-in_ok-put_row-in-Bits : goal.returns-in_ok-put_row-in-Bits
returns-in_ok-put_row-in-Bits c =
    let inst = c.args.inst.number in
    let line = c.args.inst.line in
    let bit = c.args.bit in
    let first = c.in-Bits.first in
    let count = c.in-Bits.count in
    let P : Run → Type 0 = λ run. AreFew (run_bits run) → bit + count_of run ≤ 4294967295
    → locals c.put_row.new.rows ≡ locals c.args.rows.now ++ locals_of_port Output inst line bit (run_bits run) in
    subst P (sym c.in-Bits.is) (λ few fits.
    c.in_ok-put_row-in-Bits.ensures (row_out inst line bit first count) c.own_end.ensures c.child_end.ensures refl refl (out_narrow inst line bit first count few fits)
    ∙ ap (λ links. locals c.args.rows.now ++ links) (out_links inst line bit first count))

pub returns-in-Constants : goal.returns-in-Constants
returns-in-Constants c =
    let inst = c.args.inst.number in
    let line = c.args.inst.line in
    let bit = c.args.bit in
    let P : Run → Type 0 = λ run. AreFew (run_bits run) → bit + count_of run ≤ 4294967295
    → locals c.args.rows.now ≡ locals c.args.rows.now ++ locals_of_port Output inst line bit (run_bits run) in
    subst P (sym c.in-Constants.is) (λ few fits.
    sym (ap (λ links. locals c.args.rows.now ++ links) (out_none inst line bit c.in-Constants.count) ∙ append-nil (locals c.args.rows.now)))
