use Rattle.module_rows.specs.Reads.{module_at}
use Rattle.net_names.proofs.Freed.{module_looked}
use Rattle.net_names.proofs.bodies.module_may_clash.Goals as goal

pub returns-clause-ready : goal.returns-clause-ready
returns-clause-ready c h = (c.mark_module.ensures h).still

pub returns-clause-apart : goal.returns-clause-apart
returns-clause-apart c none h read =
    let marked = c.mark_module.ensures h in
    module_looked c.args.modules.now.symbols c.mark_module.new.marks _ (module_at c.args.modules.now c.args.holder) marked.insts marked.vectors (c.has_longer-longer.ensures.insts none)
    (c.has_longer-longer.ensures.ports none) read
