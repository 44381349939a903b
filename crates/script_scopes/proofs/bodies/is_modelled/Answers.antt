use Rattle.std.proofs.Common.{sym, ap, ◌∙◌}
use Rattle.script_defs.specs.Scopes.{is_model}
use Rattle.script_scopes.proofs.PathLemmas.{body_at_own}
use Rattle.script_scopes.proofs.bodies.is_modelled.Goals as goal

pub returns : goal.returns
returns c =
    c.is_model.ensures ∙ ap is_model c.body_of.ensures ∙ ap is_model (sym (body_at_own c.args.hierarchy.now c.sound.ensures c.args.n c.requires))
