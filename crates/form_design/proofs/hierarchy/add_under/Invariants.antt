use Rattle.std.proofs.Common.{◌≡◌, ◌++◌, drop}
use Rattle.std.specs.List.{filter_map}
use Rattle.form_design.specs.Names.{inst_of}
use Rattle.form_design.specs.Hierarchy.{held_under}
use Rattle.form_design.proofs.hierarchy.add_under.Given as goal

-- what was added and the instances of the lines that are left are all
abbrev pub invariant-loop-item : goal.invariant-loop-item
invariant-loop-item l = l.out.items ++ filter_map (held_under l.names l.holder l.path l.parent) (filter_map inst_of (drop l.item-index l.items))
    ≡ l.fn.out.items ++ filter_map (held_under l.names l.holder l.path l.parent) (filter_map inst_of l.items)
