use Rattle.std.proofs.Common.{◌≡◌, ◌++◌, map, drop}
use Rattle.form_design.proofs.words.conn_words.Given as goal

-- the words so far and those that are left are all
abbrev pub invariant-loop-conn : goal.invariant-loop-conn
invariant-loop-conn l = map (λ w. w.now) l.words.items ++ map (λ c. c.port) (drop l.conn-index l.conns) ≡ map (λ c. c.port) l.conns
