use Rattle.std.proofs.Common.{◌+◌, ◌<◌, List, length, get_or, take, subst, arith}
use Rattle.std.specs.List.{flat_map}
use Rattle.std.proofs.lemmas.List.{take_all}
use Rattle.pw_defs.specs.declared.netlist.Assign.{Assign}
use Rattle.module_rows.specs.Reads.{module_at, no_assign}
use Rattle.net_places.specs.Gathered.{Gathers}
use Rattle.net_places.specs.Mentions.{of_assign}
use Rattle.net_places.proofs.Mentioning.{gathers_also, gathers_none}
use Rattle.net_places.proofs.Steps.{flat_more}
use Rattle.net_places.proofs.lines.mention_assigns.Goals as goal

pub loop-assign-init : goal.loop-assign-init
loop-assign-init c = gathers_none c.args.modules.now.symbols c.args.mark c.args.gathering.now

pub loop-assign-preserved : goal.loop-assign-preserved
loop-assign-preserved c =
    let n = c.args.modules.now in
    let lines = (module_at n c.args.holder).assigns in
    let i = c.loop-assign.assign in
    let within : i < length lines = omega (arith, c.module-assign-end.ensures.assigns) in
    gathers_also n.symbols c.args.mark c.args.gathering.now c.loop-assign.gathering c.mention_assign.new.gathering (flat_map of_assign (take i lines)) (of_assign (get_or lines i no_assign))
    (flat_map of_assign (take (i + 1) lines)) c.loop-assign.invariant c.in_ok-mention_assign.ensures (flat_more of_assign lines i no_assign within)

pub returns : goal.returns
returns c =
    let n = c.args.modules.now in
    let lines = (module_at n c.args.holder).assigns in
    let P : List Assign → Type 0 = λ some. Gathers n.symbols c.args.mark c.args.gathering.now c.loop-assign.gathering (flat_map of_assign some) in
    subst P (take_all c.loop-assign.assign lines (omega (arith, c.module-assign-end.ensures.assigns))) c.loop-assign.invariant
