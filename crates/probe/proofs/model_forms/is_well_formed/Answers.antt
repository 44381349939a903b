use Rattle.std.proofs.Common.{refl, subst, sym}
use Rattle.pw_defs.specs.declared.netlist.Port.{Port}
use Rattle.list_defs.specs.Members.{IsIn}
use Rattle.design_defs.specs.Models.{AreOpenWalks, IsModelPort, IsWord}
use Rattle.probe.proofs.BareModels.{bare_well_formed}
use Rattle.probe.proofs.model_forms.is_well_formed.Goals as goal

pub returns : goal.returns
returns c said =
    let bare = c.if-not-is_bare.ensures in
    let word = subst IsWord c.as_slice.ensures.bytes (c.if-not-is_word.ensures refl) in
    let ports : (p : Port) → IsIn p c.args.model.now.ports → IsModelPort p =
    λ p there. c.if-not-are_ports.ensures refl p (subst (IsIn p) (sym c.as_slice-else-not-is_word.ensures.items) there) in
    let walks = subst (AreOpenWalks c.args.model.now.ports 0) c.as_slice-3.ensures.items
    (subst (λ ports. AreOpenWalks ports 0 c.as_slice-3.result.now) c.as_slice-2.ensures.items (c.in_ok-right.ensures said)) in
    bare_well_formed c.args.model.now (bare.supplies refl) (bare.arities refl) (bare.nodes refl) (bare.legal refl) (bare.outs refl) (bare.exports refl) (bare.watches refl)
    word ports walks
