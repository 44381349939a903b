use Rattle.std.proofs.Common.{Bool, List, length, subst}
use Rattle.pw_defs.specs.declared.design.Body.TheVariants.{Module as ModuleBody}
use Rattle.net_places.specs.Plans.{rows_at}
use Rattle.net_feeds.specs.TopInputs.{AreMarkedAlso, IsInputBitOf}
use Rattle.net_feeds.proofs.TopLemmas.{top_marks_are}
use Rattle.net_feeds.proofs.tops.top_marks.Goals as goal

pub returns : goal.returns
returns c s there read spots all many =
    let p = c.args.placed.now in
    let holder = c.in_ok-holder.holder in
    top_marks_are s p there read spots all holder c.in_ok-holder.ensures c.args.bits c.mark_nets.new.marks.items many
    (subst (λ (old : List Bool). AreMarkedAlso (IsInputBitOf p.modules.now p.plans.now holder (length (rows_at p.plans.now (ModuleBody holder)))) old c.mark_nets.new.marks.items)
    (c.in_ok-marks.ensures.items_if_clones_equal (λ y e. e)) c.mark_nets.ensures)
