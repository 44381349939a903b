use Rattle.list_defs.proofs.Members.{IsIn-slice_get}
use Rattle.net_design.specs.Stages.{AreWired}
use Rattle.net_design.proofs.BitCounts.{by_spots}
use Rattle.net_outline.proofs.Passing.{passed_on}
use Rattle.net_outline.proofs.Premises.{insts_apart, insts_named}
use Rattle.net_widths.proofs.WiredLemmas.{wired_lines}
use Rattle.net_design.proofs.elaborating.parts_of.Goals as goal

pub returns-in_err-check_names-clause-cause : goal.returns-in_err-check_names-clause-cause
returns-in_err-check_names-clause-cause c =
    passed_on c.from_residual-in_err-check_names.result c.in_err-check_names.field-0.0 _ c.from_residual-in_err-check_names.ensures.1
    (λ s read full targets of top.
    let outline = c.in_ok-outline.ensures.ok s read full of top in
    let made = c.in_ok-instances.ensures s of.0 outline.0.types outline.0.top (insts_apart s read) (insts_named s full) in
    c.in_err-check_names.ensures.cause s c.in_ok-outline.outline.bits of read (insts_named s full) made outline.1)

pub returns-in_err-feeds-clause-cause : goal.returns-in_err-feeds-clause-cause
returns-in_err-feeds-clause-cause c =
    passed_on c.from_residual-in_err-feeds.result c.in_err-feeds.field-0.0 _ c.from_residual-in_err-feeds.ensures.1
    (λ s read full targets of top.
    let outline = c.in_ok-outline.ensures.ok s read full of top in
    let made = c.in_ok-instances.ensures s of.0 outline.0.types outline.0.top (insts_apart s read) (insts_named s full) in
    let before = c.in_ok-check_names.ensures.none s c.in_ok-outline.outline.bits of read (insts_named s full) made outline.1 in
    let wired : AreWired s = λ way number m is. wired_lines s way number m is (targets m (IsIn-slice_get s.modules number m is.is_module)) outline.1 in
    by_spots s _ c.in_ok-outline.outline.bits of outline.0.plans outline.0.bits made
    (λ there spots all. c.in_err-feeds.ensures.cause s there read outline.0.types wired before spots all))

pub returns-clause-ok : goal.returns-clause-ok
returns-clause-ok c s read full targets of top =
    let outline = c.in_ok-outline.ensures.ok s read full of top in
    let made = c.in_ok-instances.ensures s of.0 outline.0.types outline.0.top (insts_apart s read) (insts_named s full) in
    let before = c.in_ok-check_names.ensures.none s c.in_ok-outline.outline.bits of read (insts_named s full) made outline.1 in
    let wired : AreWired s = λ way number m is. wired_lines s way number m is (targets m (IsIn-slice_get s.modules number m is.is_module)) outline.1 in
    by_spots s _ c.in_ok-outline.outline.bits of outline.0.plans outline.0.bits made
    (λ there spots all.
    let fed = c.in_ok-feeds.ensures.feeds s there read outline.0.types wired before spots all in
    record { plans = outline.0.plans; instances = made; spots = spots; all_spots = all; fed = fed.0; faultless = fed.1 })
