use Rattle.std.proofs.Common.{length, sym, ap, ◌∙◌}
use Rattle.std.proofs.lemmas.List.FromFn.{length-map-range_with_len}
use Rattle.module_rows.specs.declared.plain.Netlist.{Netlist}
use Rattle.module_rows.specs.View.{expr_at}
use Rattle.module_rows.proofs.modules.Modules.exprs.Goals as goal

pub returns : goal.returns
returns c =
    c.len.ensures
    ∙ sym (length-map-range_with_len (expr_at c.self.inside.rows.terms) 0 (length c.self.inside.rows.terms.exprs))
    ∙ ap (λ (n : Netlist). length n.exprs) c.self.view_is
