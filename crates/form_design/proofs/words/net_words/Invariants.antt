use Rattle.std.proofs.Common.{◌≡◌, ◌++◌, map, drop}
use Rattle.std.specs.List.{filter_map}
use Rattle.form_design.specs.Names.{nets, wire_of}
use Rattle.form_design.proofs.words.net_words.Given as goal

-- the words so far and those that are left are all
abbrev pub invariant-loop-item : goal.invariant-loop-item
invariant-loop-item l = map (λ w. w.now) l.words.items ++ filter_map wire_of (drop l.item-index l.lines.items) ≡ nets l.lines
