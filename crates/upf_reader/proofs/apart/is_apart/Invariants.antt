use Rattle.std.proofs.Common.{◌≡◌, drop, map, filter_map}
use Rattle.std.specs.List.{list_any}
use Rattle.upf_commands.specs.Commands.{are_apart, option_given}
use Rattle.upf_reader.specs.Parts.{part_view}
use Rattle.upf_reader.specs.Rows.{command_view}
use Rattle.upf_reader.proofs.apart.is_apart.Given as goal

abbrev pub invariant-loop-part : goal.invariant-loop-part
invariant-loop-part l =
    list_any (are_apart (command_view l.row) l.name) (filter_map option_given (map part_view (drop l.part-index l.parts)))
    ≡ list_any (are_apart (command_view l.row) l.name) (filter_map option_given (map part_view l.parts))
