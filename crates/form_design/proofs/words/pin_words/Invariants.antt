use Rattle.std.proofs.Common.{◌≡◌, ◌++◌, map, drop}
use Rattle.form_design.specs.Names.{pin_names}
use Rattle.form_design.proofs.words.pin_words.Given as goal

-- the words so far and those that are left are all
abbrev pub invariant-loop-pin : goal.invariant-loop-pin
invariant-loop-pin l = map (λ w. w.now) l.words.items ++ map (λ p. p.name) (drop l.pin-index l.cell.pins) ≡ pin_names l.cell
