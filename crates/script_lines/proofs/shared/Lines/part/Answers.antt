-- The ends of a part of the text's part are within the text.
use Rattle.std.proofs.Common.{◌≡◌, ◌+◌, arith, ap, ◌∙◌, List}
use Rattle.std.specs.Prelude.{slice_range}
use Rattle.pw_defs.specs.declared.script.Line.{Line}
use Rattle.script_lines.proofs.RangeLemmas.{range_fits, range_of_range}
use Rattle.script_lines.proofs.shared.Lines.part.Goals as goal

pub overflow_add-result : goal.overflow_add-result
overflow_add-result c =
    let fits = range_fits c.self.inside.text.value c.self.inside.from c.self.inside.to c.args.to (rw c.self.view_is c.requires.within) in
    omega (arith, fits)

pub overflow_add-result-2 : goal.overflow_add-result-2
overflow_add-result-2 c =
    let fits = range_fits c.self.inside.text.value c.self.inside.from c.self.inside.to c.args.to (rw c.self.view_is c.requires.within) in
    omega (arith, fits)

pub returns : goal.returns
returns c =
    let fits = range_fits c.self.inside.text.value c.self.inside.from c.self.inside.to c.args.to (rw c.self.view_is c.requires.within) in
    let same : c.in_ok-text.text.value ≡ c.self.inside.text.value = c.in_ok-text.ensures.cases in
    ap (λ (text : List Line). slice_range text (c.self.inside.from + c.args.from) (c.self.inside.from + c.args.to)) same
    ∙ range_of_range c.self.inside.text.value c.self.inside.from c.self.inside.to c.args.from c.args.to c.requires.order fits
    ∙ ap (λ (part : List Line). slice_range part c.args.from c.args.to) c.self.view_is
