use Rattle.std.proofs.Common.{◌≡◌, ◌++◌, map, drop}
use Rattle.std.specs.List.{flat_map}
use Rattle.lib_cells.specs.Groups.{names_in}
use Rattle.lib_cells.specs.Streams.{text_of}
use Rattle.lib_cells.proofs.names.names_in.Given as goal

abbrev pub invariant-loop-word : goal.invariant-loop-word
invariant-loop-word l = map (λ n. n.now) l.all ++ flat_map names_in (map text_of (drop l.word-index l.words)) ≡ flat_map names_in (map text_of l.words)
