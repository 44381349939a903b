use Rattle.std.proofs.Common.{IsTrue, IfOk, ◌↔◌, sym, subst}
use Rattle.upf_commands.specs.Forms.{AreListOf}
use Rattle.upf_reader.proofs.ListLemmas.{keyed_so}
use Rattle.upf_reader.specs.Rows.{list_view, texts_view}
use Rattle.upf_reader.specs.declared.table.ListShape.{ListShape}
use Rattle.upf_reader.proofs.lists.has_list_form.Goals as goal

pub returns-in-PowerState : goal.returns-in-PowerState
returns-in-PowerState c =
    subst (λ (f : ListShape). IfOk c.is_power_state.result (λ has. IsTrue has ↔ AreListOf (list_view f) c.args.words.now)) (sym c.in-PowerState.is)
    c.is_power_state.ensures

pub returns-in-Keyed : goal.returns-in-Keyed
returns-in-Keyed c =
    subst (λ (f : ListShape). IsTrue c.is_keyed.result ↔ AreListOf (list_view f) c.args.words.now) (sym c.in-Keyed.is)
    (keyed_so (texts_view c.in-Keyed.keys.now) c.args.words.now c.is_keyed.result c.is_keyed.ensures)
