-- The set answers the first place.
use Rattle.std.proofs.Common.{◌∙◌, ◌==◌, sym}
use Rattle.list_defs.proofs.NameLemmas.{place_of-position}
use Rattle.form_intent.proofs.elements.place_of.Goals as goal

pub returns-in_err-place : goal.returns-in_err-place
returns-in_err-place c =
    c.from_residual.ensures ∙ c.in_err-place.ensures.index ∙ sym (place_of-position (◌==◌ c.args.element) c.args.elements.now.keys)

pub returns : goal.returns
returns c = c.in_ok-place.ensures.index ∙ sym (place_of-position (◌==◌ c.args.element) c.args.elements.now.keys)
