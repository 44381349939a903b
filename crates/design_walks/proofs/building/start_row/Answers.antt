use Rattle.std.proofs.Common.{refl}
use Rattle.design_defs.proofs.WalkEnds.{walks_end}
use Rattle.design_walks.proofs.EndLemmas.{last_within, whole_walk}
use Rattle.design_walks.proofs.building.start_row.Goals as goal

pub feeder-requires : goal.feeder-requires
feeder-requires c =
    let d = c.args.design.now in
    last_within d.bits (walks_end d c.sound.ensures) c.args.bit c.end_of-last.result c.requires.within c.end_of-last.ensures.last

pub returns-clause-row : goal.returns-clause-row
returns-clause-row c =
    let d = c.args.design.now in
    record {
      to_port = refl;
      walk = whole_walk d.bits (walks_end d c.sound.ensures) c.args.bit c.end_of-last.result c.feeder.result c.requires.within c.end_of-last.ensures.last c.feeder.ensures;
    }
