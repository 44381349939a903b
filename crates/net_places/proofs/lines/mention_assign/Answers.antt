use Rattle.std.proofs.Common.{◌≡◌, refl, subst}
use Rattle.pw_defs.specs.declared.netlist.Expr.{Expr}
use Rattle.pw_defs.specs.declared.netlist.Expr.TheVariants.{Const as ConstExpr}
use Rattle.std.proofs.lemmas.Option.{get_or_from_slice_get, slice_get_within}
use Rattle.module_rows.specs.Reads.{assign_at, numbered_expr}
use Rattle.net_places.specs.Gathered.{Gathers}
use Rattle.net_places.specs.Mentions.{of_expr}
use Rattle.net_places.proofs.Mentioning.{gathers_also}
use Rattle.net_places.proofs.lines.mention_assign.Goals as goal

pub mention_expr-requires : goal.mention_expr-requires
mention_expr-requires c = slice_get_within c.args.modules.now.exprs c.assign-sides.result.left _ c.assign-sides.ensures.left

pub mention_expr-requires-2 : goal.mention_expr-requires-2
mention_expr-requires-2 c = slice_get_within c.args.modules.now.exprs c.assign-sides.result.right _ c.assign-sides.ensures.right

pub returns : goal.returns
returns c =
    let n = c.args.modules.now in
    let a = assign_at n c.args.holder c.args.assign in
    let left : numbered_expr n c.assign-sides.result.left ≡ a.left = get_or_from_slice_get n.exprs c.assign-sides.result.left a.left (ConstExpr 0) c.assign-sides.ensures.left in
    let right : numbered_expr n c.assign-sides.result.right ≡ a.right = get_or_from_slice_get n.exprs c.assign-sides.result.right a.right (ConstExpr 0) c.assign-sides.ensures.right in
    let first = subst (λ (e : Expr). Gathers n.symbols c.args.mark c.args.gathering.now c.mention_expr.new.gathering (of_expr e)) left c.in_ok-mention_expr.ensures in
    let second = subst (λ (e : Expr). Gathers n.symbols c.args.mark c.mention_expr.new.gathering c.mention_expr-2.new.gathering (of_expr e)) right c.in_ok-mention_expr-2.ensures in
    gathers_also n.symbols c.args.mark c.args.gathering.now c.mention_expr.new.gathering c.mention_expr-2.new.gathering (of_expr a.left) (of_expr a.right) _ first second refl
