use Rattle.std.proofs.Common.{arith, option_map, ap, sym, ◌∙◌}
use Rattle.upf_reader.specs.Rows.{command_view}
use Rattle.upf_reader.proofs.RowLemmas.{all_rows, named_row, found_next, passed_next}
use Rattle.upf_reader.proofs.table.command_of.Goals as goal

pub loop-group-init : goal.loop-group-init
loop-group-init c = ap (named_row c.args.name.now) c.groups-group-items.ensures.rows ∙ sym (all_rows c.args.name.now)

pub returns-in-Some : goal.returns-in-Some
returns-in-Some c =
    sym (found_next c.args.name.now c.groups-group-items.result c.loop-group.group-index _ (command_view c.in-Some.row.now) (omega (arith, c.groups-group-items.ensures.count))
    (sym c.command_among.ensures ∙ ap (option_map (λ c. command_view c.now)) c.in-Some.is)) ∙ c.loop-group.invariant

pub loop-group-preserved : goal.loop-group-preserved
loop-group-preserved c =
    passed_next c.args.name.now c.groups-group-items.result c.loop-group.group-index _ (omega (arith, c.groups-group-items.ensures.count))
    (sym c.command_among.ensures ∙ ap (option_map (λ c. command_view c.now)) c.in_default.is) ∙ c.loop-group.invariant
