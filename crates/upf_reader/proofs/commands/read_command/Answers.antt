use Rattle.std.proofs.Common.{◌≡◌, ◌-◌, ◌∷◌, length, take, drop, ap, sym, ◌∙◌}
use Rattle.upf_commands.specs.CommandFaults.{named}
use Rattle.upf_commands.specs.CommandWords.{row_of}
use Rattle.upf_reader.specs.Rows.{command_view}
use Rattle.upf_reader.proofs.CommandLemmas.{unknown_so, passed_so, line_of}
use Rattle.upf_reader.proofs.ListLemmas.{front_item}
use Rattle.upf_reader.proofs.commands.read_command.Goals as goal

pub returns-in_default-command_of-clause-err : goal.returns-in_default-command_of-clause-err
returns-in_default-command_of-clause-err c = λ other some.
    let line = c.args.line.now in
    let words = c.as_slice.result.now in
    let name = c.name-item.result in
    let rest = take (length words - 1) (drop 1 words) in
    let split : line.words ≡ name ∷ rest =
    sym c.as_slice.ensures.items ∙ front_item words name c.in-len1-up.len_at_least ∙ ap (λ w. w ∷ rest) (sym c.name-item.is) in
    unknown_so line name rest c.in_ok-named-2.field-0 split (ap row_of (sym c.as_slice-2.ensures.bytes) ∙ sym c.in_default-command_of.ensures)
    (c.in_ok-named-2.ensures ∙ ap (named line) c.as_slice-in_default-command_of.ensures.bytes)

pub returns-then-row-clause-ok : goal.returns-then-row-clause-ok
returns-then-row-clause-ok c =
    let line = c.args.line.now in
    let words = c.as_slice.result.now in
    let name = c.name-item.result in
    let rest = take (length words - 1) (drop 1 words) in
    let split : line.words ≡ name ∷ rest =
    sym c.as_slice.ensures.items ∙ front_item words name c.in-len1-up.len_at_least ∙ ap (λ w. w ∷ rest) (sym c.name-item.is) in
    passed_so line name rest (command_view c.in-Some.row.now) c.in_ok-command.command split (ap row_of (sym c.as_slice-2.ensures.bytes) ∙ sym c.in-Some.ensures)
    c.if-row.true c.in_ok-command.ensures

pub known_command-requires : goal.known_command-requires
known_command-requires c =
    let line = c.args.line.now in
    let words = c.as_slice.result.now in
    let name = c.name-item.result in
    let rest = take (length words - 1) (drop 1 words) in
    let split : line.words ≡ name ∷ rest =
    sym c.as_slice.ensures.items ∙ front_item words name c.in-len1-up.len_at_least ∙ ap (λ w. w ∷ rest) (sym c.name-item.is) in
    line_of line name rest (command_view c.in-Some.row.now) split (ap row_of (sym c.as_slice-2.ensures.bytes) ∙ sym c.in-Some.ensures) c.if-row.false
