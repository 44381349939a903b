use Rattle.std.proofs.Common.{ap, ◌∙◌, min, length, ℕ}
use Rattle.text_defs.specs.Pieces.{Piece}
use Rattle.net_text.specs.NetlistTokens.{NetlistPiece}
use Rattle.net_text.specs.PieceViews.{piece_view}
use Rattle.net_text.proofs.StreamLaws.{mark_front, word_step, some_behind}
use Rattle.net_text.proofs.SizeLaws.{measured_piece}
use Rattle.net_text.proofs.words.piece_word.Goals as goal

pub word_of-word-requires : goal.word_of-word-requires
word_of-word-requires c =
    mark_front c.args.place.fresh c.rest-rest.result.now _ _ (some_behind _ _ _ c.requires.some c.rest-rest.ensures)
    (ap (λ (p : Piece NetlistPiece). p.what) c.netlist_piece-piece.ensures) c.front.ensures

pub returns-clause-tokens : goal.returns-clause-tokens
returns-clause-tokens c =
    word_step _ _ _ _ _ _ _ _ _ (piece_view c.netlist_piece-piece.result) _ c.requires.some c.rest-rest.ensures c.requires.at.line c.netlist_piece-piece.ensures
    (c.min-size.ensures ∙ ap (λ (n : ℕ). min n (length c.rest-rest.result.now)) c.max.ensures) c.word_of-word.ensures c.moved.ensures.text c.moved.ensures.place c.moved.ensures.fresh

pub returns-clause-measured : goal.returns-clause-measured
returns-clause-measured c =
    measured_piece _ _ _ c.args.place.fresh c.rest-rest.result.now _ c.word_of-word.ensures (ap (λ (p : Piece NetlistPiece). p.what) c.netlist_piece-piece.ensures)
