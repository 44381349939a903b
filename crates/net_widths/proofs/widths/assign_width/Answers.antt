use Rattle.std.proofs.Common.{◌≡◌, refl, sym, subst, inl, inr}
use Rattle.std.proofs.lemmas.Option.{get_or_from_slice_get, slice_get-get_or, slice_get_within}
use Rattle.pw_defs.specs.declared.netlist.Expr.TheVariants.{Const as ConstExpr}
use Rattle.list_defs.specs.Members.{IsIn}
use Rattle.list_defs.proofs.Members.{IsIn-slice_get}
use Rattle.design_defs.specs.Places.{exprs_in, names_in}
use Rattle.module_rows.specs.Reads.{assign_at, module_at, no_assign, numbered_expr}
use Rattle.net_widths.specs.Refusals.{IsFirstName}
use Rattle.net_widths.specs.Sides.{IsSide}
use Rattle.net_widths.proofs.Steps.{assign_finds, side_in}
use Rattle.net_widths.proofs.widths.assign_width.Goals as goal

pub side_of-requires : goal.side_of-requires
side_of-requires c = record { netlist = c.requires.netlist; expr = slice_get_within c.args.spellings.now.modules.now.exprs c.assign-sides.result.left _ c.assign-sides.ensures.left }

pub side_of-requires-2 : goal.side_of-requires-2
side_of-requires-2 c = record { netlist = c.requires.netlist; expr = slice_get_within c.args.spellings.now.modules.now.exprs c.assign-sides.result.right _ c.assign-sides.ensures.right }

pub first_name-requires : goal.first_name-requires
first_name-requires c = slice_get_within c.args.spellings.now.modules.now.exprs c.assign-sides.result.left _ c.assign-sides.ensures.left

pub returns : goal.returns
returns c s opened =
    let n = c.args.spellings.now.modules.now in
    let m = module_at n c.args.holder in
    let a = assign_at n c.args.holder c.args.assign in
    let one = IsIn-slice_get m.assigns c.args.assign a (slice_get-get_or m.assigns c.args.assign no_assign c.requires.assign) in
    let line = c.assign-sides.result.line in
    let is_left : numbered_expr n c.assign-sides.result.left ≡ a.left = get_or_from_slice_get n.exprs c.assign-sides.result.left a.left (ConstExpr 0) c.assign-sides.ensures.left in
    let is_right : numbered_expr n c.assign-sides.result.right ≡ a.right = get_or_from_slice_get n.exprs c.assign-sides.result.right a.right (ConstExpr 0) c.assign-sides.ensures.right in
    let left_in = subst (λ e. IsIn e (exprs_in m)) (sym is_left) (side_in m a a.left one (inl refl)) in
    let right_in = subst (λ e. IsIn e (exprs_in m)) (sym is_right) (side_in m a a.right one (inr (inl refl))) in
    let left = subst (IsSide n.symbols m line c.args.best c.in_ok-left.left) is_left (c.in_ok-left.ensures s m opened left_in) in
    let right = subst (IsSide n.symbols m line c.in_ok-left.left.best c.in_ok-right.right) is_right (c.in_ok-right.ensures s m opened right_in) in
    assign_finds n.symbols m a line c.args.best c.refuse_unequal-found.result c.in_ok-left.left c.in_ok-right.right c.assign-sides.ensures.line left right
    (c.refuse_unequal-found.ensures (names_in a.left) (subst (λ e. IsFirstName n.symbols (names_in e) c.first_name.result) is_left c.first_name.ensures))
