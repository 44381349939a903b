use Rattle.std.proofs.Common.{◌≡◌, ◌++◌, map, drop}
use Rattle.form_design.proofs.words.cell_words.Given as goal

-- the words so far and those that are left are all
abbrev pub invariant-loop-cell : goal.invariant-loop-cell
invariant-loop-cell l = map (λ w. w.now) l.words.items ++ map (λ c. c.name) (drop l.cell-index l.cells) ≡ map (λ c. c.name) l.cells
