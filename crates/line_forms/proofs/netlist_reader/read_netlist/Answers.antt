use Rattle.std.proofs.Common.{ap, refl, ◌∙◌}
use Rattle.line_forms.specs.Reading.{whole}
use Rattle.line_forms.specs.NetlistReading.{netlist_at}
use Rattle.line_forms.proofs.Laws.{read_is, taken, whole_again}
use Rattle.line_forms.proofs.NetlistLaws.{netlist_finds, netlist_again}
use Rattle.line_forms.proofs.netlist_reader.read_netlist.Goals as goal

pub returns-clause-found : goal.returns-clause-found
returns-clause-found c = read_is netlist_finds c.args.text.now c.netlist.result c.netlist.ensures

pub returns-clause-only : goal.returns-clause-only
returns-clause-only c =
    λ x is spelled. taken c.netlist.result (whole netlist_at c.args.text.now) x c.netlist.ensures (ap (whole netlist_at) spelled ∙ whole_again netlist_again (tt, refl) x is)
