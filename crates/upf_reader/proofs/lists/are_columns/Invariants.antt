use Rattle.std.proofs.Common.{◌≡◌, true, take}
use Rattle.std.specs.List.{list_all}
use Rattle.upf_commands.specs.Forms.{is_column}
use Rattle.upf_reader.proofs.lists.are_columns.Given as goal

abbrev pub invariant-loop-word : goal.invariant-loop-word
invariant-loop-word l = list_all is_column (take l.word-index l.words) ≡ true
