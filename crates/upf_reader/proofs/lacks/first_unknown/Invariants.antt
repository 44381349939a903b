use Rattle.std.proofs.Common.{◌≡◌, drop, map}
use Rattle.upf_commands.specs.Commands.{unknown_words}
use Rattle.upf_reader.specs.Parts.{part_view}
use Rattle.upf_reader.specs.Readings.{first_of}
use Rattle.upf_reader.proofs.lacks.first_unknown.Given as goal

abbrev pub invariant-loop-part : goal.invariant-loop-part
invariant-loop-part l = first_of (unknown_words (map part_view (drop l.part-index l.parts))) ≡ first_of (unknown_words (map part_view l.parts))
