use Rattle.std.proofs.Common.{List, ℕ, subst, sym}
use Rattle.name_index.specs.Tables.{IsTable}
use Rattle.name_index.proofs.Found.{table_more, table_same}
use Rattle.name_index.proofs.table.put_in.Goals as goal

pub returns-in_err-prepare-clause-table : goal.returns-in_err-prepare-clause-table
returns-in_err-prepare-clause-table c =
    table_same c.args.names.now c.args.name.now c.widen.new.table c.prepare.new.table c.requires.differ c.requires.new c.prepare.ensures.same c.widen.ensures.table

pub returns-in_err-push-clause-table : goal.returns-in_err-push-clause-table
returns-in_err-push-clause-table c =
    let P : List (List ℕ) → Type 0 = λ names. IsTable names c.prepare.new.table in
    let table = table_same c.args.names.now c.args.name.now c.widen.new.table c.prepare.new.table c.requires.differ c.requires.new c.prepare.ensures.same c.widen.ensures.table in
    subst P (sym c.in_err-push.ensures.err) table

pub returns-clause-table : goal.returns-clause-table
returns-clause-table c =
    let made = c.commit.ensures in
    let table = table_same c.args.names.now c.args.name.now c.widen.new.table c.prepare.new.table c.requires.differ c.requires.new c.prepare.ensures.same c.widen.ensures.table in
    table_more c.args.names.now c.push.new.self c.args.name.now c.prepare.new.table c.commit.new.table c.requires.differ c.requires.new c.in_ok-push.ensures.ok
    table made.smooth made.count made.found made.others
