use Rattle.net_places.specs.Plans.{names_in, rows_at}
use Rattle.net_runs.proofs.RowNumbers.{row_spelled}
use Rattle.net_runs.proofs.nets.net_of.Goals as goal

pub returns : goal.returns
returns c s is plans has =
    let body = c.args.body in
    let rows = rows_at c.args.plans.now body in
    let names = names_in c.args.spellings.now.modules.now.symbols s body in
    row_spelled s body names rows (plans.each body has) c.args.name.now c.in_ok-net.net c.net.result (c.in_ok-net.ensures s is plans has) c.net.ensures.net c.net.ensures.bits
