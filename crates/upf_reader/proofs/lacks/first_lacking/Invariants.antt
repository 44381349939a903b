use Rattle.std.proofs.Common.{◌≡◌, drop, map, filter_map}
use Rattle.upf_commands.specs.Commands.{lacking_option}
use Rattle.upf_reader.specs.Parts.{part_view}
use Rattle.upf_reader.specs.Readings.{first_of}
use Rattle.upf_reader.proofs.lacks.first_lacking.Given as goal

abbrev pub invariant-loop-part : goal.invariant-loop-part
invariant-loop-part l = first_of (filter_map lacking_option (map part_view (drop l.part-index l.parts))) ≡ first_of (filter_map lacking_option (map part_view l.parts))
