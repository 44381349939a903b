use Rattle.std.proofs.Common.{rules, refl, ap, sym, ◌∙◌}
use Rattle.tcl_words.specs.Pieces.{carried}
use Rattle.tcl_words.specs.Places.{PieceText}
use Rattle.tcl_words.proofs.PlaceLemmas.{carried_at, place_behind_newline}
use Rattle.tcl_words.proofs.pieces.Reader.next.Goals as goal

-- src/pieces.rt:83:5
pub invariant_of-self-2 : goal.invariant_of-self-2
invariant_of-self-2 c =
    place_behind_newline c.self.inside.text.now c.self.inside.place c.place_behind_blanks-self-inside.result c.self.inside.line
    c.saturating_add-self-inside-2.result carried c.self.invariant (search rules) refl
    (carried_at c.self.inside.text.now c.self.inside.place c.place_behind_blanks-self-inside.result (search rules) (search rules) (search rules) (search rules))
    (search rules)

-- src/pieces.rt:83:5
pub returns-clause-piece : goal.returns-clause-piece
returns-clause-piece c =
    sym (ap (λ (t : PieceText). t.left) c.self.view_is)
    ∙ carried_at c.self.inside.text.now c.self.inside.place c.place_behind_blanks-self-inside.result (search rules) (search rules) (search rules) (search rules)
