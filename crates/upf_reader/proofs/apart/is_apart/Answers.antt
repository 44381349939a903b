use Rattle.std.proofs.Common.{map, filter_map, sym, ◌∙◌}
use Rattle.upf_commands.specs.Commands.{option_given}
use Rattle.upf_reader.specs.Parts.{part_view}
use Rattle.upf_reader.specs.Rows.{command_view}
use Rattle.upf_reader.proofs.KeyLemmas.{not_grouped_so}
use Rattle.upf_reader.proofs.apart.is_apart.Goals as goal

pub returns-then-not-is_grouped : goal.returns-then-not-is_grouped
returns-then-not-is_grouped c =
    not_grouped_so (command_view c.args.row.now) c.args.name.now (sym c.is_grouped.ensures ∙ c.if-not-is_grouped.true)
    (filter_map option_given (map part_view c.args.parts.now))
