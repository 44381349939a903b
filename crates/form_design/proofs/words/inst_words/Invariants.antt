use Rattle.std.proofs.Common.{◌≡◌, ◌++◌, map, drop}
use Rattle.std.specs.List.{filter_map}
use Rattle.form_design.specs.Names.{inst_names, inst_of}
use Rattle.form_design.proofs.words.inst_words.Given as goal

-- the words so far and those that are left are all
abbrev pub invariant-loop-item : goal.invariant-loop-item
invariant-loop-item l = map (λ w. w.now) l.words.items ++ map (λ i. i.name) (filter_map inst_of (drop l.item-index l.lines.items)) ≡ inst_names l.lines
