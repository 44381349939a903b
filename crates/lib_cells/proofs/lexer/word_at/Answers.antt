use Rattle.lib_cells.proofs.StreamLaws.{token_left}
use Rattle.lib_cells.proofs.lexer.word_at.Goals as goal

pub returns-clause-tokens : goal.returns-clause-tokens
returns-clause-tokens c =
    token_left _ _ _ _ c.next_piece-front.result.piece _ _ c.next_piece-front.ensures.text c.next_piece-front.ensures.pieces c.next_piece-front.ensures.front.ends c.word_of.ensures
