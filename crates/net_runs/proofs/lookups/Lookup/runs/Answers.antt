use Rattle.std.proofs.Common.{◌≡◌, ◌≤◌, ℕ, subst, arith}
use Rattle.std.specs.List.{flat_map, slice_range}
use Rattle.module_rows.specs.Leaves.{own_leaf}
use Rattle.module_rows.specs.Reads.{HasLeavesFrom, numbered_expr}
use Rattle.net_runs.specs.declared.plain.Opened.{Opened}
use Rattle.net_runs.specs.Leaves.{AddsRun, AreRunsOf}
use Rattle.net_runs.proofs.RunLemmas.{front_more, last_run, some_wrong, stands}
use Rattle.net_runs.proofs.lookups.Lookup.runs.Goals as goal

pub returns-then-not-branch : goal.returns-then-not-branch
returns-then-not-branch c s m is in_lines =
    let o = c.args.self.now in
    let n = o.netlist in
    let all = c.args.expr in
    let first = c.first_leaf-leaf.result in
    let from = subst (λ (x : Opened). HasLeavesFrom x.netlist all first) c.self.view_is c.first_leaf-leaf.ensures in
    let k : ℕ = c.loop-leaf.leaf in
    let behind : first ≤ k = omega (arith, from.rises) in
    let before : k ≤ all = omega (arith, c.loop-leaf-test.true) in
    let added = c.in_ok-add_run.ensures s m is (stands s o.holder m n all first in_lines from c.requires k behind before) in
    let wrong = subst (AddsRun s o.holder m (numbered_expr n k) c.loop-leaf.runs.items c.add_run.new.runs.items) c.if-not-branch.true added in
    some_wrong s o.holder m n all first in_lines from c.requires k c.add_run.new.runs.items behind before wrong

pub loop-leaf-preserved : goal.loop-leaf-preserved
loop-leaf-preserved c s m is in_lines =
    let o = c.args.self.now in
    let n = o.netlist in
    let all = c.args.expr in
    let first = c.first_leaf-leaf.result in
    let from = subst (λ (x : Opened). HasLeavesFrom x.netlist all first) c.self.view_is c.first_leaf-leaf.ensures in
    let k : ℕ = c.loop-leaf.leaf in
    let behind : first ≤ k = omega (arith, from.rises) in
    let before : k ≤ all = omega (arith, c.loop-leaf-test.true) in
    let added = c.in_ok-add_run.ensures s m is (stands s o.holder m n all first in_lines from c.requires k behind before) in
    let right = subst (AddsRun s o.holder m (numbered_expr n k) c.loop-leaf.runs.items c.add_run.new.runs.items) c.if-not-branch.false added in
    front_more s o.holder m n all first in_lines from c.requires k c.loop-leaf.runs.items c.add_run.new.runs.items behind before (c.loop-leaf.invariant s m is in_lines) right

pub returns : goal.returns
returns c s m is in_lines =
    let o = c.args.self.now in
    let n = o.netlist in
    let all = c.args.expr in
    let first = c.first_leaf-leaf.result in
    let from = subst (λ (x : Opened). HasLeavesFrom x.netlist all first) c.self.view_is c.first_leaf-leaf.ensures in
    let end : c.loop-leaf.leaf ≡ all = omega (arith, c.loop-leaf-test.false, from.rises) in
    let added = c.in_ok-all.ensures s m is (stands s o.holder m n all first in_lines from c.requires all from.rises (omega arith)) in
    let front = subst (λ (k : ℕ). AreRunsOf s o.holder m (flat_map own_leaf (slice_range n.exprs first k)) c.loop-leaf.runs.items) end (c.loop-leaf.invariant s m is in_lines) in
    last_run s o.holder m n all first in_lines from c.requires c.loop-leaf.runs.items _ from.rises front c.in_ok-all.all added
