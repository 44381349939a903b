-- What a read of the walks by number gives.
use Rattle.std.proofs.lemmas.List.{length-map}
use Rattle.std.proofs.lemmas.Option.{slice_get-get_or, slice_get-map}

pub ruleset reads = (length-map, slice_get-map, slice_get-get_or)
