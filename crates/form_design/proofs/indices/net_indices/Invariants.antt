use Rattle.std.proofs.Common.{◌≡◌, ◌++◌, map, drop}
use Rattle.std.specs.List.{list_all}
use Rattle.list_defs.specs.Members.{all_differ, same_name}
use Rattle.form_design.specs.Names.{nets}
use Rattle.form_design.proofs.indices.net_indices.Given as goal

-- the indices so far and those that are left are all; all differ where those that are left do
abbrev pub invariant-loop-lines : goal.invariant-loop-lines
invariant-loop-lines l = record {
  indices : l.indices.items ++ map nets (drop l.lines-index l.modules) ≡ map nets l.modules;
  differ : list_all (all_differ same_name) (map nets (drop l.lines-index l.modules)) ≡ list_all (all_differ same_name) (map nets l.modules);
}
