use Rattle.std.proofs.Common.{◌≡◌, Some, true, map, slice_get, sym, ap, ◌∙◌}
use Rattle.list_defs.specs.Members.{all_differ, same_name}
use Rattle.form_design.specs.Names.{inst_names}
use Rattle.form_design.specs.Hierarchy.{lines_in}
use Rattle.form_design.proofs.Fronts.{insts_differ, index_there}
use Rattle.form_design.proofs.design.instances.Goals as goal

pub returns-in_ok-from_names-in-Some : goal.returns-in_ok-from_names-in-Some
returns-in_ok-from_names-in-Some c =
    let ms = c.args.modules.now in
    let at : slice_get ms c.args.top ≡ Some c.in-Some.lines.now = sym c.in-Some.ensures in
    let words = map (λ w. w.now) c.as_slice.result.now in
    let made : words ≡ inst_names c.in-Some.lines.now = ap (map (λ w. w.now)) c.as_slice.ensures.value ∙ c.in_ok-inst_words-in-Some.ensures in
    index_there c.in_ok-from_names-in-Some.field-0 (all_differ same_name words) words _ (λ is. all_differ same_name is ≡ true) c.in_ok-from_names-in-Some.ensures
    (ap (all_differ same_name) made ∙ insts_differ ms c.args.top c.in-Some.lines.now c.requires at)
    (made ∙ ap (λ o. map (λ i. i.name) (lines_in o)) (sym at))
