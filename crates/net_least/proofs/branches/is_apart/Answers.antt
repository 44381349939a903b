use Rattle.std.proofs.Common.{◌≡◌, ◌<◌, List, ℕ, get_or, length, slice_get, inl, inr, sym, ap, ◌∙◌, subst, arith}
use Rattle.std.proofs.lemmas.Bool.{false≢true}
use Rattle.std.proofs.lemmas.Option.{same_Some, slice_get-get_or, slice_get_within}
use Rattle.pw_defs.specs.declared.netlist.Inst.{Inst}
use Rattle.module_rows.specs.Reads.{module_at, no_inst}
use Rattle.net_hierarchy.proofs.Places.{same_or_not}
use Rattle.net_least.specs.Recursion.{GoesOn, module_in}
use Rattle.net_least.proofs.branches.is_apart.Goals as goal
use Rattle.net_least.proofs.branches.is_apart.Goals.{else-is_branch-via-then-is_branch+else-not-are_apart, else-is_branch-via-else-is_branch}

pub loop-inst-preserved : goal.loop-inst-preserved
loop-inst-preserved c n k j below there in_row not_free =
    elim (same_or_not n here) [ inl same ↦ now same | inr other ↦ (let before : n < here = omega (arith, below, other) in c.loop-inst.invariant n k j before there in_row not_free) ]
  where
    here : ℕ
    here = c.loop-inst.inst

    insts : List Inst
    insts = (module_at c.args.modules.now c.args.holder).insts

    apart : n ≡ here → (GoesOn c.args.name.now c.spelling-other.result.now → ⊥) × (GoesOn c.spelling-other.result.now c.args.name.now → ⊥)
    apart same =
        elim c.else-is_branch.branch [
          | else-is_branch-via-then-is_branch+else-not-are_apart w ↦ w.are_apart.ensures w.if-not-are_apart.false
          | else-is_branch-via-else-is_branch w ↦
              absurd (false≢true (sym w.if-is_branch.false ∙ c.is_branch.ensures k (ap (module_in c.args.row.now) (sym same) ∙ in_row) not_free))
        ]

    now : n ≡ here → (GoesOn c.args.name.now j.name → ⊥) × (GoesOn j.name c.args.name.now → ⊥)
    now same =
        let within : here < length insts = omega (arith, c.loop-inst-test.true, c.module-inst-end.ensures.insts) in
        let i = get_or insts here no_inst in
        let inst_same : i ≡ j = same_Some i j (sym (slice_get-get_or insts here no_inst within) ∙ ap (slice_get insts) (sym same) ∙ there) in
        let spelled : c.spelling-other.result.now ≡ i.name = same_Some c.spelling-other.result.now i.name (sym c.spelling-other.ensures ∙ c.inst.ensures.name) in
        subst (λ x. (GoesOn c.args.name.now x → ⊥) × (GoesOn x c.args.name.now → ⊥)) (spelled ∙ ap (λ (x : Inst). x.name) inst_same) (apart same)

pub returns : goal.returns
returns c t n k j there in_row not_free =
    let within = slice_get_within (module_at c.args.modules.now c.args.holder).insts n j there in
    c.loop-inst.invariant n k j (omega (arith, within, c.loop-inst-test.false, c.module-inst-end.ensures.insts)) there in_row not_free
