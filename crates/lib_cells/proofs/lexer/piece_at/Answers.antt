use Rattle.std.proofs.Common.{ap, ◌∙◌, min, length, ℕ}
use Rattle.lib_cells.specs.PieceViews.{piece_view}
use Rattle.lib_cells.proofs.StreamLaws.{inked_step}
use Rattle.lib_cells.proofs.lexer.piece_at.Goals as goal

pub returns-clause-pieces : goal.returns-clause-pieces
returns-clause-pieces c =
    inked_step _ _ _ _ _ _ _ _ _ (piece_view c.library_piece-piece.result) _ c.requires.some c.rest-rest.ensures c.requires.at.line c.library_piece-piece.ensures.piece
    (c.min-size.ensures ∙ ap (λ (n : ℕ). min n (length c.rest-rest.result.now)) c.max.ensures) c.inked_piece.ensures.piece c.moved.ensures.text c.moved.ensures.place c.moved.ensures.fresh
