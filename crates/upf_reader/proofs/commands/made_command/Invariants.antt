use Rattle.std.proofs.Common.{◌≡◌, map, filter_map}
use Rattle.upf_commands.specs.Commands.{own_word, given_option}
use Rattle.upf_reader.specs.Parts.{part_view}
use Rattle.upf_reader.proofs.commands.made_command.Given as goal

abbrev pub invariant-loop-part : goal.invariant-loop-part
invariant-loop-part l =
    (l.args ≡ filter_map own_word (map part_view l.yielded)) × (l.given ≡ filter_map (given_option l.line) (map part_view l.yielded))
