use Rattle.std.proofs.Common.{true, refl, ap}
use Rattle.upf_reader.specs.Rows.{list_view, texts_view}
use Rattle.upf_reader.proofs.WordLemmas.{says_yes}
use Rattle.upf_reader.proofs.keys.has_keys.Goals as goal

pub returns-in-Keyed : goal.returns-in-Keyed
returns-in-Keyed c = says_yes true refl (texts_view c.in-Keyed.field-0.now, ap list_view c.in-Keyed.is)
