use Rattle.std.proofs.Common.{◌∙◌, ap, is_some, sym}
use Rattle.list_defs.specs.Members.{same_name}
use Rattle.list_defs.proofs.NameLemmas.{IsIn-list_any, is_some-place_of}
use Rattle.probe.proofs.model_forms.has.Goals as goal

pub returns : goal.returns
returns c said =
    let name = c.args.name.now in
    let names = c.args.names.now in
    IsIn-list_any name names (sym (is_some-place_of (same_name name) names) ∙ ap is_some (sym c.find.ensures) ∙ sym c.is_some.ensures ∙ said)
