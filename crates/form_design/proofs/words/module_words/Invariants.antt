use Rattle.std.proofs.Common.{◌≡◌, ◌++◌, map, drop}
use Rattle.form_design.proofs.words.module_words.Given as goal

-- the words so far and those that are left are all
abbrev pub invariant-loop-lines : goal.invariant-loop-lines
invariant-loop-lines l = map (λ w. w.now) l.words.items ++ map (λ m. m.name) (drop l.lines-index l.modules) ≡ map (λ m. m.name) l.modules
