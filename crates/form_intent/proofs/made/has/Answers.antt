-- A name is found exactly where it has a place.
use Rattle.list_defs.specs.Members.{same_name}
use Rattle.list_defs.proofs.NameLemmas.{is_some-place_of}
use Rattle.form_intent.proofs.made.has.Goals as goal

pub returns : goal.returns
returns c = cc (c.is_some.ensures, c.find.ensures, c.as_slice.ensures.bytes, is_some-place_of (same_name c.args.name.now) c.args.names.now)
