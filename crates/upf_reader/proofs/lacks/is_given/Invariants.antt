use Rattle.std.proofs.Common.{◌≡◌, drop, map}
use Rattle.upf_commands.specs.Commands.{is_given}
use Rattle.upf_reader.specs.Parts.{part_view}
use Rattle.upf_reader.proofs.lacks.is_given.Given as goal

abbrev pub invariant-loop-part : goal.invariant-loop-part
invariant-loop-part l = is_given l.name (map part_view (drop l.part-index l.parts)) ≡ is_given l.name (map part_view l.parts)
