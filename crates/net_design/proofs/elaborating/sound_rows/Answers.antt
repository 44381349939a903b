use Rattle.design_laws.proofs.MadeSound.{made_sound}
use Rattle.design_rows.specs.View.{design_of}
use Rattle.net_outline.proofs.Premises.{insts_named}
use Rattle.net_design.proofs.elaborating.sound_rows.Goals as goal

pub returns-clause-made : goal.returns-clause-made
returns-clause-made c s read full of are =
    let made = c.in_ok-rows.ensures.made s c.args.parts.outline.bits are.spots of are.plans are.instances are.all_spots are.fed in
    let names = c.in_ok-rows.ensures.names s c.args.parts.outline.bits of are.instances (insts_named s full) in
    (made, names, made_sound s (design_of c.in_ok-rows.rows) read full are.faultless made)
