use Rattle.std.proofs.Common.{◌+◌, ◌<◌, List, length, get_or, take, ap, ◌∙◌, subst, arith}
use Rattle.std.specs.List.{flat_map}
use Rattle.std.proofs.lemmas.List.{take_all}
use Rattle.pw_defs.specs.declared.netlist.Assign.{Assign}
use Rattle.pw_defs.specs.declared.netlist.Module.{Module}
use Rattle.design_defs.specs.Links.{links_of_assign}
use Rattle.module_rows.specs.Reads.{module_at, no_assign}
use Rattle.net_places.proofs.Steps.{flat_more}
use Rattle.net_links.specs.Adding.{AddsLinks}
use Rattle.net_links.proofs.LineLemmas.{same_module}
use Rattle.net_links.proofs.LinkLemmas.{adds_also, adds_none}
use Rattle.net_links.proofs.lines.add_assigns.Goals as goal

pub loop-assign-init : goal.loop-assign-init
loop-assign-init c = λ s are m is. adds_none s c.args.holder m c.args.rows.now

pub loop-assign-preserved : goal.loop-assign-preserved
loop-assign-preserved c = λ s are m is.
    let assigns = (module_at c.args.linker.now.spellings.modules.now c.args.holder).assigns in
    let k = c.loop-assign.assign in
    let within : k < length assigns = omega (arith, c.module-assign-end.ensures.assigns) in
    adds_also s c.args.holder m c.args.rows.now c.loop-assign.rows c.add_assign.new.rows (flat_map (links_of_assign m) (take k assigns))
    (links_of_assign m (get_or assigns k no_assign)) (flat_map (links_of_assign m) (take (k + 1) assigns)) (c.loop-assign.invariant s are m is)
    (c.in_ok-add_assign.ensures s are m is) (flat_more (links_of_assign m) assigns k no_assign within)

pub returns : goal.returns
returns c = λ s are m is.
    let n = c.args.linker.now.spellings.modules.now in
    let assigns = (module_at n c.args.holder).assigns in
    let P : List Assign → Type 0 = λ some. AddsLinks s c.args.holder m (flat_map (links_of_assign m) some) c.args.rows.now c.loop-assign.rows in
    let whole = take_all c.loop-assign.assign assigns (omega (arith, c.module-assign-end.ensures.assigns)) in
    subst P (whole ∙ ap (λ (x : Module). x.assigns) (same_module c.args.linker.now s c.args.holder m are is.there)) (c.loop-assign.invariant s are m is)
