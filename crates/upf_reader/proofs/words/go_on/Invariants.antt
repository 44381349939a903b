use Rattle.std.proofs.Common.{◌≡◌, ◌||◌, true, take}
use Rattle.std.specs.Char.{is_ascii_digit}
use Rattle.std.specs.List.{list_all}
use Rattle.upf_commands.specs.Values.{begins_name}
use Rattle.upf_reader.proofs.words.go_on.Given as goal

abbrev pub invariant-loop-byte : goal.invariant-loop-byte
invariant-loop-byte l = list_all (λ c. begins_name c || is_ascii_digit c) (take l.byte-index l.bytes) ≡ true
