use Rattle.std.proofs.Common.{◌≡◌, drop, map, is_some}
use Rattle.std.specs.List.{list_any}
use Rattle.upf_commands.specs.Commands.{own_word}
use Rattle.upf_reader.specs.Parts.{part_view}
use Rattle.upf_reader.proofs.lacks.has_own.Given as goal

abbrev pub invariant-loop-part : goal.invariant-loop-part
invariant-loop-part l = list_any (λ i. is_some (own_word i)) (map part_view (drop l.part-index l.parts)) ≡ list_any (λ i. is_some (own_word i)) (map part_view l.parts)
