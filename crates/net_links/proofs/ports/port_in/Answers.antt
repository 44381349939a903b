use Rattle.std.proofs.Common.{◌∙◌}
use Rattle.std.proofs.lemmas.Option.{none-some, same_Some}
use Rattle.net_links.proofs.PortLemmas.{bits_are, dir_is, has_body, not_portless}
use Rattle.net_links.proofs.ports.port_in.Goals as goal

pub returns-in_default : goal.returns-in_default
returns-in_default c s are p e =
    let l = c.args.linker.now in
    let n = l.spellings.modules.now in
    let cells = l.spellings.cells.now in
    let models = l.spellings.models.now in
    let is = c.in_ok-row.ensures s are.is_of are.plans_are (has_body s n cells models l.types.now l.plans.now are c.args.body c.args.name.now p e) in
    absurd (not_portless s n cells models l.types.now l.plans.now are c.args.body c.args.name.now p e c.in_ok-row.row is c.in_default.is)

pub returns-in_err-dir : goal.returns-in_err-dir
returns-in_err-dir c s are p e =
    let l = c.args.linker.now in
    let n = l.spellings.modules.now in
    let cells = l.spellings.cells.now in
    let models = l.spellings.models.now in
    let is = c.in_ok-row.ensures s are.is_of are.plans_are (has_body s n cells models l.types.now l.plans.now are c.args.body c.args.name.now p e) in
    absurd (none-some p.dir (c.in_err-dir.ensures ∙ dir_is s n cells models l.types.now l.plans.now are c.args.body c.args.name.now p e c.in_ok-row.row is c.in-Some.port c.in-Some.is))

pub returns : goal.returns
returns c s are p e =
    let l = c.args.linker.now in
    let n = l.spellings.modules.now in
    let cells = l.spellings.cells.now in
    let models = l.spellings.models.now in
    let is = c.in_ok-row.ensures s are.is_of are.plans_are (has_body s n cells models l.types.now l.plans.now are c.args.body c.args.name.now p e) in (
      same_Some c.in_ok-dir.dir p.dir (c.in_ok-dir.ensures ∙ dir_is s n cells models l.types.now l.plans.now are c.args.body c.args.name.now p e c.in_ok-row.row is c.in-Some.port c.in-Some.is),
      bits_are s n cells models l.types.now l.plans.now are c.args.body c.args.name.now p e c.in_ok-row.row is,
    )
