use Rattle.std.proofs.Common.{◌≡◌, drop}
use Rattle.pw_outer.specs.Fetches.{file_named}
use Rattle.pw_outer.proofs.held_files.find_file.Given as goal

abbrev pub invariant-loop-known : goal.invariant-loop-known
invariant-loop-known l = file_named l.name (drop l.known-index l.files) ≡ file_named l.name l.files
