use Rattle.std.proofs.Common.{sym, ◌∙◌, map}
use Rattle.upf_reader.specs.Parts.{part_view}
use Rattle.upf_reader.specs.Rows.{command_view}
use Rattle.upf_reader.proofs.LackLemmas.{own_first, option_first}
use Rattle.upf_reader.proofs.lacks.first_missing.Goals as goal

pub returns-then-lacks_own : goal.returns-then-lacks_own
returns-then-lacks_own c =
    sym (own_first (command_view c.args.row.now) (map part_view c.args.parts.now) (sym c.in_default.ensures) (sym c.lacks_own.ensures ∙ c.if-lacks_own.true))

pub returns : goal.returns
returns c =
    c.first_needed.ensures
    ∙ sym (option_first (command_view c.args.row.now) (map part_view c.args.parts.now) (sym c.in_default.ensures) (sym c.lacks_own.ensures ∙ c.if-lacks_own.false))
