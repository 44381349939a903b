use Rattle.std.proofs.Common.{◌≡◌, ◌<◌, ◌+◌, length, take, inl, inr, refl, sym, ◌∙◌, subst, arith}
use Rattle.std.proofs.lemmas.Bool.{false≢true}
use Rattle.std.proofs.lemmas.List.{take_all}
use Rattle.std.proofs.lemmas.Option.{get_or_from_slice_get, slice_get-get_or}
use Rattle.list_defs.specs.Members.{IsIn}
use Rattle.list_defs.proofs.Members.{IsIn-slice_get}
use Rattle.module_rows.specs.Growth.{no_module}
use Rattle.module_rows.specs.Reads.{module_at}
use Rattle.net_hierarchy.proofs.Places.{in_take_more}
use Rattle.net_widths.specs.WiredLines.{HasTargets}
use Rattle.net_widths.proofs.targets.have_targets.Goals as goal

pub returns-then-not-has_targets : goal.returns-then-not-has_targets
returns-then-not-has_targets c =
    let n = c.args.modules.now in
    let k = c.loop-holder.holder in
    let within : k < length n.modules = omega (arith, c.loop-holder-test.true, c.len-holder-end.ensures) in
    let one = IsIn-slice_get n.modules k (module_at n k) (slice_get-get_or n.modules k no_module within) in
    (λ never. absurd (false≢true never), λ all. absurd (false≢true (sym c.if-not-has_targets.true ∙ c.has_targets.ensures.1 (all (module_at n k) one))))

pub loop-holder-preserved : goal.loop-holder-preserved
loop-holder-preserved c = λ m there.
    let n = c.args.modules.now in
    let k = c.loop-holder.holder in
    elim (in_take_more m n.modules k (k + 1) (omega arith) there) [
      | inl old ↦ c.loop-holder.invariant m old
      | inr at ↦ subst HasTargets (get_or_from_slice_get n.modules k m no_module at) (c.has_targets.ensures.0 c.if-not-has_targets.false)
    ]

pub returns : goal.returns
returns c =
    let modules = c.args.modules.now.modules in
    let all : take c.loop-holder.holder modules ≡ modules = take_all c.loop-holder.holder modules (omega (arith, c.loop-holder-test.false, c.len-holder-end.ensures)) in
    (λ _ m there. c.loop-holder.invariant m (subst (IsIn m) (sym all) there), λ _. refl)
