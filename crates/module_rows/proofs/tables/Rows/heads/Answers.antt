use Rattle.std.proofs.Common.{◌≡◌, List, map, ap, sym, ◌∙◌}
use Rattle.std.specs.Prelude.{IfOk, Result, Ok, Err}
use Rattle.std.proofs.lemmas.Simd.{map-map}
use Rattle.pw_defs.specs.declared.netlist.Module.{Module}
use Rattle.design_defs.specs.Designs.{head_of}
use Rattle.module_rows.specs.declared.tables.ModuleRow.{ModuleRow}
use Rattle.module_rows.specs.declared.tables.Rows.{Rows}
use Rattle.module_rows.specs.View.{module_of}
use Rattle.module_rows.proofs.tables.Rows.heads.Goals as goal

all_heads : {E : Type 0} (r : Rows) (rows : List ModuleRow) → rows ≡ r.modules → (o : Result (List Module) E)
    → IfOk o (λ heads. heads ≡ map (λ row. head_of (module_of r row)) rows) → IfOk o (λ heads. heads ≡ map head_of (map (module_of r) r.modules))
all_heads r rows same (Ok heads) is = is ∙ ap (map (λ row. head_of (module_of r row))) same ∙ sym (map-map head_of (module_of r) r.modules)
all_heads r rows same (Err e) is = is

pub returns : goal.returns
returns c = all_heads c.args.self.now c.as_slice.result.now c.as_slice.ensures.items c.heads_in.result c.heads_in.ensures
