use Rattle.line_forms.specs.Names.{is_reserved, reserved_words}
use Rattle.line_forms.proofs.text.is_reserved.Goals as goal

pub returns : goal.returns
unfolding is_reserved reserved_words
returns c = c.is_among.ensures
