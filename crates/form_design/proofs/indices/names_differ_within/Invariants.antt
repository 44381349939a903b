use Rattle.std.proofs.Common.{◌≡◌, drop}
use Rattle.std.specs.List.{list_all}
use Rattle.list_defs.specs.Members.{all_differ, same_name}
use Rattle.form_design.specs.Names.{names}
use Rattle.form_design.proofs.indices.names_differ_within.Given as goal

-- all differ where those that are left do
abbrev pub invariant-loop-lines : goal.invariant-loop-lines
invariant-loop-lines l = list_all (λ m. all_differ same_name (names m)) (drop l.lines-index l.modules) ≡ list_all (λ m. all_differ same_name (names m)) l.modules
