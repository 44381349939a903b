use Rattle.std.proofs.Common.{ap, refl, sym, ◌∙◌}
use Rattle.text_defs.specs.Pieces.{begins_with}
use Rattle.net_text.proofs.DirectLaws.{digits_direct}
use Rattle.net_text.proofs.direct.number_word.Goals as goal

pub returns : goal.returns
returns c =
    digits_direct c.args.text.now c.args.behind.now c.args.byte c.args.line _ c.requires.split c.digits_size-size.result c.requires.digit c.digits_size-size.ensures.size
    (ap (begins_with 39) (sym c.behind.ensures) ∙ sym c.begins_with.ensures ∙ c.if-begins_with.false) c.front-digits.ensures c.digits_class.ensures refl
