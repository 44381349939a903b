use Rattle.std.proofs.Common.{take, map}
use Rattle.upf_reader.specs.Faults.{SomeGivesKey}
use Rattle.upf_reader.specs.Parts.{part_view}
use Rattle.upf_reader.specs.Rows.{option_view}
use Rattle.upf_reader.proofs.keys.give_key.Given as goal

abbrev pub invariant-loop-part : goal.invariant-loop-part
invariant-loop-part l = ¬ SomeGivesKey (option_view l.option) l.key (map part_view (take l.part-index l.parts))
