use Rattle.std.proofs.Common.{List, map, subst}
use Rattle.upf_commands.specs.Commands.{IsWhole}
use Rattle.upf_reader.specs.Parts.{part_view}
use Rattle.upf_reader.specs.Rows.{command_view}
use Rattle.upf_reader.specs.declared.parts.Part.{Part}
use Rattle.upf_reader.proofs.CommandLemmas.{items_of_line, command_so}
use Rattle.upf_reader.proofs.commands.known_command.Goals as goal

pub returns-clause-ok : goal.returns-clause-ok
returns-clause-ok c =
    let row = command_view c.args.row.now in
    let items = map part_view c.in_ok-parts.parts.items in
    command_so c.args.line.now row items c.in_ok-command.command (items_of_line c.args.line.now row c.args.words.now items c.requires c.in_ok-parts.ensures)
    (subst (λ (ps : List Part). IsWhole row (map part_view ps)) c.deref.ensures.value c.in_ok-check.ensures.ok) c.in_ok-command.ensures
