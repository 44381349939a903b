use Rattle.std.proofs.Common.{◌≡◌, map, drop}
use Rattle.std.specs.List.{list_all}
use Rattle.form_design.specs.Fits.{is_apart}
use Rattle.form_design.proofs.indices.modules_are_apart.Given as goal

-- all are apart where those that are left are
abbrev pub invariant-loop-lines : goal.invariant-loop-lines
invariant-loop-lines l = list_all (is_apart l.cells) (map (λ m. m.name) (drop l.lines-index l.modules)) ≡ list_all (is_apart l.cells) (map (λ m. m.name) l.modules)
