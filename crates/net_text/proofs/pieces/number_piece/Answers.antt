use Rattle.std.proofs.Common.{◌∙◌, sym}
use Rattle.net_text.proofs.PieceLaws.{no_value_piece, no_width_piece, constant_piece, within_both}
use Rattle.net_text.proofs.pieces.number_piece.Goals as goal

pub returns-then-more-eq0 : goal.returns-then-more-eq0
returns-then-more-eq0 c =
    c.digits_piece.ensures
    ∙ no_value_piece c.args.text.now _ _ _ _ c.front-digits.ensures c.behind.ensures c.digits_size-size.ensures.size c.based_size-more.ensures.size c.if-more-eq0.true

pub returns-then-not-is_width : goal.returns-then-not-is_width
returns-then-not-is_width c =
    c.digits_piece-then-not-is_width.ensures
    ∙ no_width_piece c.args.text.now _ _ _ _ c.front-digits.ensures c.behind.ensures c.digits_size-size.ensures.size c.based_size-more.ensures.size
    (sym c.is_width.ensures ∙ c.if-not-is_width.true)

pub front-requires : goal.front-requires
front-requires c = within_both c.args.text.now _ _ _ c.behind.ensures c.digits_size-size.ensures.within c.based_size-more.ensures.within

pub returns : goal.returns
returns c =
    constant_piece c.args.text.now _ _ _ _ c.front-digits.ensures c.behind.ensures c.digits_size-size.ensures.size c.based_size-more.ensures.size _
    c.if-more-eq0.false (sym c.is_width.ensures ∙ c.if-not-is_width.false) c.based_size-more.ensures.front c.front.ensures
