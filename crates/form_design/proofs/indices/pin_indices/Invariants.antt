use Rattle.std.proofs.Common.{◌≡◌, ◌++◌, map, drop}
use Rattle.std.specs.List.{list_all}
use Rattle.list_defs.specs.Members.{all_differ, same_name}
use Rattle.form_design.specs.Names.{pin_names}
use Rattle.form_design.proofs.indices.pin_indices.Given as goal

-- the indices so far and those that are left are all; all differ where those that are left do
abbrev pub invariant-loop-cell : goal.invariant-loop-cell
invariant-loop-cell l = record {
  indices : l.indices.items ++ map pin_names (drop l.cell-index l.cells) ≡ map pin_names l.cells;
  differ : list_all (all_differ same_name) (map pin_names (drop l.cell-index l.cells)) ≡ list_all (all_differ same_name) (map pin_names l.cells);
}
