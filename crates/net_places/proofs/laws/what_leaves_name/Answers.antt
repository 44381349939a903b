use Rattle.net_places.proofs.LeafParts.{alone_by_leaves, misselected_by_leaves, names_by_leaves, signals_by_leaves}
use Rattle.net_places.proofs.laws.what_leaves_name.Goals as goal

pub returns : goal.returns
returns c = record { signals = signals_by_leaves; misselected = misselected_by_leaves; alone = alone_by_leaves; names = names_by_leaves }
