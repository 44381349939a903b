use Rattle.std.proofs.Common.{ℕ, List, [], length, sym, ap, ◌∙◌, subst, arith}
use Rattle.std.specs.Prelude.{slice_index_or}
use Rattle.std.proofs.lemmas.List.{length_push}
use Rattle.std.proofs.lemmas.Option.{slice_get_within}
use Rattle.pw_defs.specs.declared.netlist.Module.{Module}
use Rattle.list_defs.proofs.Longer.{each_more}
use Rattle.list_defs.proofs.Members.{IsIn-slice_get}
use Rattle.design_defs.specs.Hierarchy.{Sources}
use Rattle.net_links.specs.declared.ports.Linker.{Linker}
use Rattle.net_links.specs.declared.rows.LinkRow.{LinkRow}
use Rattle.net_links.specs.Adding.{AreParts, AreSourcesOf, IsLinkable}
use Rattle.net_links.specs.LocalLinks.{AreLocalLinks, locals}
use Rattle.net_links.proofs.LineLemmas.{reopened}
use Rattle.net_links.proofs.linking.links_of.Goals as goal

pub loop-holder-preserved : goal.loop-holder-preserved
loop-holder-preserved c =
    let inv = c.loop-holder.invariant in
    let i = c.loop-holder.holder in
    let links = c.loop-holder.links in
    let added = c.in_ok-add_module.ensures.rows in
    let new = c.add_module.new.linker in
    let P : ℕ → List LinkRow → Type 0 = λ n rows. (s : Sources) → AreParts s c.args.modules.now c.args.cells.now c.args.models.now c.args.types.now c.args.plans.now
    → (m : Module) → IsLinkable s n m → AreLocalLinks s n m (locals rows) in
    let here : P i added.0 = λ s are m is. added.2 s (subst (λ (l : Linker). AreSourcesOf l s) (sym inv.same) are) m is in
    let more = each_more P links added.0 [] (λ k early. inv.rows k (omega (arith, early, inv.count))) (subst (λ (k : ℕ). P k added.0) (sym inv.count) here) in
    record {
      opened = reopened new i c.in_ok-add_module.ensures.open;
      same = c.in_ok-add_module.ensures.same ∙ ap (λ (l : Linker). record l { lookup = new.lookup }) inv.same;
      count = ap length added.1 ∙ length_push links added.0 ∙ omega (arith, inv.count);
      rows = λ n below. subst (λ (all : List (List LinkRow)). P n (slice_index_or all n [])) (sym added.1) (more n (omega (arith, below, inv.count, length_push links added.0)));
    }

pub returns : goal.returns
returns c s are read n m there wired few =
    let within = slice_get_within s.modules n m there in
    c.loop-holder.invariant.rows n (omega (arith, within, ap length are.is_of.0, c.loop-holder-test.false, c.len-holder-end.ensures)) s are m
    (record { there = there; read = read.each_module m (IsIn-slice_get s.modules n m there); wired = wired; few = few })
