-- The sets that are found by their names' places are those of the names.
use Rattle.std.proofs.Common.{◌∙◌}
use Rattle.form_intent.proofs.AssemblyLemmas.{domains-named}
use Rattle.form_intent.proofs.domains.domains.Goals as goal

pub returns : goal.returns
returns c =
    c.in_ok-domains.ensures ∙ domains-named c.args.commands.now c.args.instances.now c.args.supplies.now c.args.set_index.now c.as_slice.result.now c.requires.names (c.as_slice.ensures.value ∙ c.in_ok-sets.ensures)
