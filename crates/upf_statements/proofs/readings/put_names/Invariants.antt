use Rattle.std.proofs.Common.{◌≡◌, ◌++◌, take}
use Rattle.upf_statements.specs.Views.{texts_view}
use Rattle.upf_statements.proofs.readings.put_names.Given as goal

abbrev pub invariant-loop-name : goal.invariant-loop-name
invariant-loop-name l = texts_view l.names.items ≡ texts_view l.initial.names.items ++ take l.name-index l.more
