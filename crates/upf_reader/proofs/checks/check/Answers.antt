use Rattle.std.proofs.Common.{map, subst}
use Rattle.upf_reader.specs.Judging.{Judges}
use Rattle.upf_reader.specs.Parts.{part_view}
use Rattle.upf_reader.specs.Rows.{command_view}
use Rattle.upf_reader.proofs.JudgeLemmas.{unknown_fault, absent_fault, bad_fault, unclosed_fault, after_fault, all_well}
use Rattle.upf_reader.proofs.checks.check.Goals as goal

pub returns-in-Some-clause-err : goal.returns-in-Some-clause-err
returns-in-Some-clause-err c = λ other h.
    unknown_fault c.args.line.now (command_view c.args.row.now) (map part_view c.args.parts.now) c.in-Some.name.now c.in_ok-named.field-0 c.in-Some.ensures
    c.in_ok-named.ensures h

pub returns-in-Some-first_missing-clause-err : goal.returns-in-Some-first_missing-clause-err
returns-in-Some-first_missing-clause-err c = λ other h.
    absent_fault c.args.line.now (command_view c.args.row.now) (map part_view c.args.parts.now) c.in-Some-first_missing.name.now c.in_ok-named-2.field-0
    c.in_default.ensures c.in-Some-first_missing.ensures c.in_ok-named-2.ensures h

pub returns-in_ok-named-in-Bad-clause-err : goal.returns-in_ok-named-in-Bad-clause-err
returns-in_ok-named-in-Bad-clause-err c = λ other h.
    let row = command_view c.args.row.now in
    let items = map part_view c.args.parts.now in
    bad_fault c.args.line.now row items c.in-Bad.name.now c.in_ok-named-in-Bad.field-0 c.in_default.ensures c.in_default-first_missing.ensures
    (subst (Judges row items) c.in-Bad.is c.in_ok-name.ensures) c.in_ok-named-in-Bad.ensures h

pub returns-then-lists-clause-err : goal.returns-then-lists-clause-err
returns-then-lists-clause-err c = λ other h.
    let row = command_view c.args.row.now in
    let items = map part_view c.args.parts.now in
    unclosed_fault c.args.line.now row items c.in-Formed.lists c.in_ok-named-in-Formed.field-0 c.in_default.ensures c.in_default-first_missing.ensures
    (subst (Judges row items) c.in-Formed.is c.in_ok-name.ensures) c.if-lists.true c.in_ok-named-in-Formed.ensures h

pub returns-then-lists-2-clause-err : goal.returns-then-lists-2-clause-err
returns-then-lists-2-clause-err c = λ other h.
    let row = command_view c.args.row.now in
    let items = map part_view c.args.parts.now in
    after_fault c.args.line.now row items c.in-Formed.lists c.in_ok-named-in-Formed-2.field-0 c.in_default.ensures c.in_default-first_missing.ensures
    (subst (Judges row items) c.in-Formed.is c.in_ok-name.ensures) c.if-lists.false c.if-lists-2.true c.in_ok-named-in-Formed-2.ensures h

pub returns-else-lists-2-clause-ok : goal.returns-else-lists-2-clause-ok
returns-else-lists-2-clause-ok c =
    let row = command_view c.args.row.now in
    let items = map part_view c.args.parts.now in
    all_well c.args.line.now row items c.in-Formed.lists c.in_default.ensures c.in_default-first_missing.ensures
    (subst (Judges row items) c.in-Formed.is c.in_ok-name.ensures) c.if-lists.false c.if-lists-2.false
