use Rattle.std.proofs.Common.{◌≡◌, ℕ, drop}
use Rattle.std.specs.List.{list_all, enumerate_from}
use Rattle.line_forms.specs.declared.netlist_lines.ModuleLines.{ModuleLines}
use Rattle.form_design.specs.Names.{insts}
use Rattle.form_design.specs.Fits.{is_placed, all_placed}
use Rattle.form_design.proofs.checks.all_placed.Given as goal

-- all pass where those that are left do
abbrev pub invariant-loop-holder : goal.invariant-loop-holder
invariant-loop-holder l = list_all (λ (e : ℕ × ModuleLines). list_all (is_placed l.names e.0) (insts e.1)) (enumerate_from l.holder (drop l.holder l.modules)) ≡ all_placed l.names l.modules
