use Rattle.std.proofs.Common.{◌≡◌, true, map, take}
use Rattle.list_defs.specs.Members.{all_differ, same_name}
use Rattle.name_index.proofs.index.NameIndex.from_names.Given as goal

abbrev pub invariant-loop-name : goal.invariant-loop-name
invariant-loop-name l = (l.index ≡ map (λ name. name.now) (take l.name-index l.names)) × (all_differ same_name l.index ≡ true)
