use Rattle.std.proofs.Common.{true, ap, refl, ◌∙◌}
use Rattle.std.proofs.lemmas.Result.{IfOk-weaker}
use Rattle.upf_commands.specs.CommandWords.{given}
use Rattle.upf_commands.specs.Values.{truth_text}
use Rattle.upf_reader.specs.Parts.{part_view, Follows, FollowsIn}
use Rattle.upf_reader.specs.Rows.{command_view, option_view, arity_view}
use Rattle.upf_reader.proofs.PartLemmas.{moved, alone_so, standing_so}
use Rattle.upf_reader.proofs.parts.option_part.Goals as goal

pub returns-in-Value : goal.returns-in-Value
returns-in-Value c =
    IfOk-weaker c.value_part.result (λ r. Follows (option_view c.args.option.now) c.args.rest.now (part_view r.0) r.1.now)
    (λ r. FollowsIn (command_view c.args.row.now) (option_view c.args.option.now) c.args.rest.now (part_view r.0) r.1.now)
    (λ r h. h (command_view c.args.row.now)) c.value_part.ensures

pub returns-in_ok-given-in-Flag : goal.returns-in_ok-given-in-Flag
returns-in_ok-given-in-Flag c =
    let row = command_view c.args.row.now in
    let o = option_view c.args.option.now in
    moved row o c.args.rest.now c.args.rest.now (part_view c.in_ok-given-in-Flag.field-0) (given o (truth_text true)) c.args.rest.now refl
    (c.in_ok-given-in-Flag.ensures ∙ ap (given o) c.truth_text.ensures) (alone_so row o c.args.rest.now (ap arity_view c.in-Flag.is))

pub returns-in-Truth : goal.returns-in-Truth
returns-in-Truth c =
    IfOk-weaker c.truth_part.result (λ r. Follows (option_view c.args.option.now) c.args.rest.now (part_view r.0) r.1.now)
    (λ r. FollowsIn (command_view c.args.row.now) (option_view c.args.option.now) c.args.rest.now (part_view r.0) r.1.now)
    (λ r h. h (command_view c.args.row.now)) c.truth_part.ensures

pub returns-in_ok-given-in-Means : goal.returns-in_ok-given-in-Means
returns-in_ok-given-in-Means c =
    let row = command_view c.args.row.now in
    let o = option_view c.args.option.now in
    moved row o c.args.rest.now c.args.rest.now (part_view c.in_ok-given-in-Means.field-0) (given o c.in-Means.text.now) c.args.rest.now refl
    c.in_ok-given-in-Means.ensures (standing_so row o c.args.rest.now c.in-Means.text.now (ap arity_view c.in-Means.is))
