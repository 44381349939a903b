use Rattle.std.proofs.Common.{◌∙◌, ap, sym, is_some}
use Rattle.list_defs.proofs.NameLemmas.{is_some-place_of}
use Rattle.script_world.specs.Objects.{is_named}
use Rattle.script_world.proofs.StateLemmas.{is_some-find}
use Rattle.script_world.proofs.objects.Objects.is_taken.Goals as goal

pub returns : goal.returns
returns c =
    c.is_some.ensures ∙ ap is_some c.find.ensures.place ∙ is_some-place_of (is_named c.args.name.now) c.args.self.now.objects
    ∙ sym (is_some-find (is_named c.args.name.now) c.args.self.now.objects)
