use Rattle.std.proofs.Common.{◌≡◌, ◌++◌, drop, map}
use Rattle.form_design.specs.Hierarchy.{link_of}
use Rattle.form_design.proofs.wiring.add_links.Given as goal

-- what was added and the links of the joins that are left are all
abbrev pub invariant-loop-join : goal.invariant-loop-join
invariant-loop-join l =
    l.out.items ++ map (link_of l.names l.starts l.inst l.parent l.held.body) (drop l.join-index l.held.joins)
    ≡ l.fn.out.items ++ map (link_of l.names l.starts l.inst l.parent l.held.body) l.held.joins
