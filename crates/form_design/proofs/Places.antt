-- The place of what passes a test is what std's `position` says.
use Rattle.list_defs.proofs.NameLemmas.{place_of-position}

pub ruleset places = (place_of-position)
