use Rattle.std.proofs.Common.{◌≡◌, ℕ, sym, subst}
use Rattle.std.specs.Prelude.{Some}
use Rattle.pw_defs.specs.declared.netlist.Expr.TheVariants.{Whole as WholeExpr, Bit as BitExpr, Part as PartExpr, Const as ConstExpr, Join as JoinExpr}
use Rattle.module_rows.specs.Reads.{numbered_expr}
use Rattle.module_rows.specs.View.{name_at}
use Rattle.net_runs.specs.declared.runs.Run.TheVariants.{Constants}
use Rattle.net_runs.specs.declared.plain.Opened.{Opened}
use Rattle.net_runs.specs.Leaves.{IsLeafRun}
use Rattle.net_runs.proofs.RunLemmas.{bit_leaf, const_leaf, in_use, join_leaf, part_leaf, whole_leaf}
use Rattle.net_runs.proofs.lookups.Lookup.leaf.Goals as goal

pub returns-in-Whole : goal.returns-in-Whole
returns-in-Whole c s m is stands =
    let o = c.args.self.now in
    let k = c.args.expr in
    let name = name_at o.netlist.symbols c.in-Whole.name in
    let e : numbered_expr o.netlist k ≡ WholeExpr name =
    subst (λ (x : Opened). numbered_expr x.netlist k ≡ WholeExpr (name_at x.netlist.symbols c.in-Whole.name)) c.self.view_is c.in-Whole.ensures.1 in
    whole_leaf s o.holder m (numbered_expr o.netlist k) name c.whole.result e (c.whole.ensures s m is (in_use o.netlist m k name stands c.requires e))

pub returns-in-Bit : goal.returns-in-Bit
returns-in-Bit c s m is stands =
    let o = c.args.self.now in
    let k = c.args.expr in
    let at = c.in-Bit.index in
    let name = name_at o.netlist.symbols c.in-Bit.name in
    let e : numbered_expr o.netlist k ≡ BitExpr name at =
    subst (λ (x : Opened). numbered_expr x.netlist k ≡ BitExpr (name_at x.netlist.symbols c.in-Bit.name) at) c.self.view_is c.in-Bit.ensures.1 in
    bit_leaf s o.holder m (numbered_expr o.netlist k) name at c.selected.result e (c.selected.ensures s m is)

pub returns-in-Part : goal.returns-in-Part
returns-in-Part c s m is stands =
    let o = c.args.self.now in
    let k = c.args.expr in
    let left = c.in-Part.left in
    let right = c.in-Part.right in
    let name = name_at o.netlist.symbols c.in-Part.name in
    let e : numbered_expr o.netlist k ≡ PartExpr name left right =
    subst (λ (x : Opened). numbered_expr x.netlist k ≡ PartExpr (name_at x.netlist.symbols c.in-Part.name) left right) c.self.view_is c.in-Part.ensures.1 in
    part_leaf s o.holder m (numbered_expr o.netlist k) name left right c.selected-in-Part.result e (c.selected-in-Part.ensures s m is)

pub returns-in-Const : goal.returns-in-Const
returns-in-Const c s m is stands =
    let o = c.args.self.now in
    let e = numbered_expr o.netlist c.args.expr in
    let is_const : e ≡ ConstExpr c.in-Const.count = subst (λ (x : Opened). numbered_expr x.netlist c.args.expr ≡ ConstExpr c.in-Const.count) c.self.view_is c.in-Const.ensures in
    subst (λ (n : ℕ). IsLeafRun s o.holder m e (Some (Constants n))) (sym c.from.ensures) (const_leaf s o.holder m e c.in-Const.count is_const)

pub returns-in-Join : goal.returns-in-Join
returns-in-Join c s m is stands =
    let o = c.args.self.now in
    let e = numbered_expr o.netlist c.args.expr in
    let is_join : e ≡ JoinExpr c.in-Join.ensures.0 = subst (λ (x : Opened). numbered_expr x.netlist c.args.expr ≡ JoinExpr c.in-Join.ensures.0) c.self.view_is c.in-Join.ensures.1 in
    join_leaf s o.holder m e c.in-Join.ensures.0 is_join
