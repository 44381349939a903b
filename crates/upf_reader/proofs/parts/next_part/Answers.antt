use Rattle.std.proofs.Common.{ap, ◌∙◌, sym}
use Rattle.upf_commands.specs.CommandWords.{is_option, option_of}
use Rattle.upf_reader.specs.Rows.{command_view}
use Rattle.upf_reader.proofs.PartLemmas.{own_leads, unknown_leads}
use Rattle.upf_reader.proofs.parts.next_part.Goals as goal

pub returns-then-not-is_option : goal.returns-then-not-is_option
returns-then-not-is_option c =
    own_leads (command_view c.args.row.now) c.args.word.now c.in_ok-clone.field-0 c.args.rest.now
    (ap is_option (sym c.as_slice.ensures.bytes) ∙ sym c.is_option.ensures ∙ c.if-not-is_option.true) c.in_ok-clone.ensures.cases

pub returns-in_ok-clone-in-None : goal.returns-in_ok-clone-in-None
returns-in_ok-clone-in-None c =
    unknown_leads (command_view c.args.row.now) c.args.word.now c.in_ok-clone-in-None.field-0 c.args.rest.now
    (ap is_option (sym c.as_slice.ensures.bytes) ∙ sym c.is_option.ensures ∙ c.if-not-is_option.false)
    (ap (option_of (command_view c.args.row.now)) (sym c.as_slice-2.ensures.bytes) ∙ sym c.in-None.ensures) c.in_ok-clone-in-None.ensures.cases
