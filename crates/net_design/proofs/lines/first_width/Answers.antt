use Rattle.std.proofs.Common.{◌≡◌, ℕ, List, Option, sym, subst}
use Rattle.design_defs.specs.DesignFaults.{FaultKind}
use Rattle.net_hierarchy.specs.Graph.{IsOrder, types_of}
use Rattle.net_least.specs.OwnFaults.{AreOwn, IsOfLines}
use Rattle.net_least.specs.declared.own.OwnFault.{OwnFault}
use Rattle.net_outline.proofs.Premises.{insts_apart, insts_named}
use Rattle.net_design.proofs.lines.first_width.Goals as goal

pub returns : goal.returns
returns c s of read full is before =
    let n = c.args.spellings.now.modules.now in
    let order : c.as_slice.result.now ≡ c.args.outline.now.order.items = (let value = c.as_slice.ensures.value in cc) in
    let own : c.as_slice-2.result.now ≡ c.in_ok-own.own.items = (let value = c.as_slice-2.ensures.value in cc) in
    c.in_ok-found.ensures s FaultKind.wrong_width of.0 is.types is.top (insts_apart s read) (insts_named s full)
    (subst (λ (numbers : List ℕ). IsOrder (types_of s) c.args.outline.now.top numbers) (sym order) is.order) IsOfLines.wrong_width before
    (subst (λ (faults : List (Option OwnFault)). AreOwn s FaultKind.wrong_width n.symbols faults) (sym own) (c.in_ok-own.ensures s of is.types is.plans))
