use Rattle.std.proofs.Common.{None, refl}
use Rattle.std.specs.List.{flat_map}
use Rattle.module_rows.specs.Reads.{module_at}
use Rattle.net_widths.specs.Refusals.{widths_of_assign, widths_of_inst, widths_of_module}
use Rattle.net_widths.proofs.Finding.{finds_also}
use Rattle.net_widths.proofs.widths.module_widths.Goals as goal

pub returns : goal.returns
returns c s seen opened row =
    let n = c.args.spellings.now.modules.now in
    let m = module_at n c.args.holder in
    finds_also n.symbols None c.in_ok-connected.connected c.in_ok-found.found (flat_map (widths_of_inst s m) m.insts) (flat_map (widths_of_assign m) m.assigns) (widths_of_module s m)
    (c.in_ok-connected.ensures s seen opened row) (c.in_ok-found.ensures s opened) refl
