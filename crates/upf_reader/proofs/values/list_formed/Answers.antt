use Rattle.std.proofs.Common.{subst, sym}
use Rattle.upf_commands.specs.Forms.{AreListOf, list}
use Rattle.upf_reader.specs.Faults.{IsFormed}
use Rattle.upf_reader.specs.Readings.{HasParting}
use Rattle.upf_reader.specs.Rows.{list_view}
use Rattle.upf_reader.proofs.ValueLemmas.{list_fits, list_open, list_followed}
use Rattle.upf_reader.proofs.values.list_formed.Goals as goal

pub returns-then-branch : goal.returns-then-branch
returns-then-branch c =
    let text = c.args.text.now in
    let form = list_view c.args.form in
    let parts = subst (HasParting text) c.in-Words.is c.in_ok-words.ensures in
    let fits = subst (AreListOf form) c.as_slice.ensures.items (c.in_ok-has_list_form-in-Words.ensures.0 c.if-branch.true) in
    subst (IsFormed (list form) text) (sym c.none.ensures) (list_fits form text c.in-Words.words parts fits)

pub returns-in-Unclosed : goal.returns-in-Unclosed
returns-in-Unclosed c =
    let h = subst (HasParting c.args.text.now) c.in-Unclosed.is c.in_ok-words.ensures in list_open (list_view c.args.form) c.args.text.now h.0 h.1

pub returns : goal.returns
returns c =
    let h = subst (HasParting c.args.text.now) c.in-AfterWord.is c.in_ok-words.ensures in list_followed (list_view c.args.form) c.args.text.now h.0 h.1
