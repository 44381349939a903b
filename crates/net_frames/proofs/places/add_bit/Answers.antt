use Rattle.net_frames.proofs.Growing.{one_place}
use Rattle.net_frames.proofs.places.add_bit.Goals as goal

pub returns-clause-added : goal.returns-clause-added
returns-clause-added c =
    one_place c.args.modules.now c.args.rows.now c.name_of_bit.new.rows c.add_place.new.self c.args.body c.args.row c.args.place c.in_ok-name.name c.place_row.result
    c.in_ok-name.ensures.named c.in_ok-add_place.ensures.added c.place_row.ensures.name c.place_row.ensures.port
