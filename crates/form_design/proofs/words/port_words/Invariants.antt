use Rattle.std.proofs.Common.{◌≡◌, ◌++◌, map, drop}
use Rattle.form_design.specs.Names.{port_names}
use Rattle.form_design.proofs.words.port_words.Given as goal

-- the words so far and those that are left are all
abbrev pub invariant-loop-port : goal.invariant-loop-port
invariant-loop-port l = map (λ w. w.now) l.words.items ++ map (λ p. p.name) (drop l.port-index l.lines.ports) ≡ port_names l.lines
