use Rattle.std.proofs.Common.{◌≡◌, true, take}
use Rattle.std.specs.List.{list_all}
use Rattle.design_defs.specs.Models.{is_word_byte}
use Rattle.probe.proofs.model_forms.are_word_bytes.Given as goal

abbrev pub invariant-loop-byte : goal.invariant-loop-byte
invariant-loop-byte l = list_all is_word_byte (take l.byte-index l.text) ≡ true
