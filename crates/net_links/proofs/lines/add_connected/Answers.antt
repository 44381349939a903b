use Rattle.std.proofs.Common.{◌≡◌, ◌+◌, ◌≤◌, ◌++◌, true, List, length, subst}
use Rattle.net_runs.specs.declared.runs.Run.{Run}
use Rattle.net_runs.specs.Leaves.{AreRuns, runs_bits}
use Rattle.net_links.specs.LocalLinks.{locals}
use Rattle.net_links.specs.RunLinks.{AreFew, locals_of_port}
use Rattle.net_links.proofs.LineLemmas.{connected, runs_are}
use Rattle.net_links.proofs.lines.add_connected.Goals as goal

pub returns : goal.returns
returns c s are number opened m is i on_line p is_dir has few e numbered in_lines right same =
    let l = c.args.linker.now in
    let inst = c.args.inst in
    let port = c.args.port in
    let runs = c.runs.new.runs.items in
    let all : AreRuns s number m e runs true =
    subst (λ b. AreRuns s number m e runs b) c.if-not-branch.false
    (runs_are l s number m c.args.expr e runs c.in_ok-runs.field-0 opened are is.there numbered in_lines c.in_ok-runs.ensures) in
    let Puts : List Run → Type 0 = λ xs. AreFew (runs_bits xs) → port.first + length (runs_bits xs) ≤ 4294967295
    → locals c.put_port.new.rows ≡ locals c.args.rows.now ++ locals_of_port port.dir inst.number inst.line port.first (runs_bits xs) in
    let puts : Puts runs = subst Puts c.as_slice.ensures.value c.in_ok-put_port.ensures in
    connected s number m inst.number inst.line i p port.first has port.dir e (runs_bits runs) c.args.rows.now c.put_port.new.rows is.few.own few on_line is_dir all.1 same puts
