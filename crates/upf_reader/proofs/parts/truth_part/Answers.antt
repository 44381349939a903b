use Rattle.std.proofs.Common.{◌∷◌, true, ap, refl, ◌∙◌}
use Rattle.upf_commands.specs.CommandWords.{given}
use Rattle.upf_commands.specs.Values.{truth_text}
use Rattle.upf_reader.specs.Parts.{part_view}
use Rattle.upf_reader.specs.Rows.{option_view}
use Rattle.upf_reader.proofs.PartLemmas.{moved, said_so, unsaid_so}
use Rattle.upf_reader.proofs.parts.truth_part.Goals as goal

pub returns-in_ok-given-in-Some : goal.returns-in_ok-given-in-Some
returns-in_ok-given-in-Some c = λ row.
    let o = option_view c.args.option.now in
    let said = c.in-Some.ensures in
    moved row o c.args.rest.now (said.0 ∷ c.in-Some.behind.now) (part_view c.in_ok-given-in-Some.field-0) (given o (truth_text c.in-Some.truth)) c.in-Some.behind.now
    said.1 (c.in_ok-given-in-Some.ensures ∙ ap (given o) c.truth_text.ensures) (said_so row o said.0 c.in-Some.behind.now c.in-Some.truth c.requires said.2)

pub returns-in_ok-given-in-None : goal.returns-in_ok-given-in-None
returns-in_ok-given-in-None c = λ row.
    let o = option_view c.args.option.now in
    moved row o c.args.rest.now c.args.rest.now (part_view c.in_ok-given-in-None.field-0) (given o (truth_text true)) c.args.rest.now refl
    (c.in_ok-given-in-None.ensures ∙ ap (given o) c.truth_text-in-None.ensures) (unsaid_so row o c.args.rest.now c.requires c.in-None.ensures)
