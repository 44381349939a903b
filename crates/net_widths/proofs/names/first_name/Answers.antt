use Rattle.std.proofs.Common.{◌≡◌, ◌<◌, ◌≤◌, ℕ, ◌+◌, length, sym, subst, arith}
use Rattle.design_defs.specs.Places.{names_in}
use Rattle.module_rows.specs.Reads.{numbered_expr}
use Rattle.net_widths.specs.Refusals.{IsFirstName}
use Rattle.net_widths.proofs.TargetLemmas.{all_names, more_names, names_to, no_names}
use Rattle.net_widths.proofs.names.first_name.Goals as goal

pub loop-leaf-init : goal.loop-leaf-init
loop-leaf-init c = no_names c.args.modules.now c.first_leaf-leaf.result

pub loop-leaf-preserved : goal.loop-leaf-preserved
loop-leaf-preserved c =
    let n = c.args.modules.now in
    let first = c.first_leaf-leaf.result in
    let i = c.loop-leaf.leaf in
    let rises : first ≤ i = omega (arith, c.first_leaf-leaf.ensures.rises) in
    let within : i < length n.exprs = omega (arith, c.requires) in
    subst (IsFirstName n.symbols (names_to n first (i + 1))) (sym c.or-name.ensures)
    (more_names n first i c.loop-leaf.name c.name_of.result rises within c.loop-leaf.invariant (c.name_of.ensures n (numbered_expr n i) c.expr.ensures))

pub returns : goal.returns
returns c =
    let n = c.args.modules.now in
    let first = c.first_leaf-leaf.result in
    let last = c.args.expr in
    let rises : first ≤ last = c.first_leaf-leaf.ensures.rises in
    let end : c.loop-leaf.leaf ≡ last = omega (arith, rises) in
    let known = subst (λ (k : ℕ). IsFirstName n.symbols (names_to n first k) c.loop-leaf.name) end c.loop-leaf.invariant in
    subst (IsFirstName n.symbols (names_in (numbered_expr n last))) (sym c.or.ensures)
    (all_names n last first _ c.first_leaf-leaf.ensures
    (more_names n first last c.loop-leaf.name c.name_of-2.result rises c.requires known (c.name_of-2.ensures n (numbered_expr n last) c.expr-2.ensures)))
