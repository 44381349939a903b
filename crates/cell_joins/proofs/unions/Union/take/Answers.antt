use Rattle.cell_joins.proofs.UnionLaws.{alike_joined, new_joined, otherwise_before}
use Rattle.cell_joins.proofs.unions.Union.take.Goals as goal

pub returns-in_ok-push-in-New-clause-takes : goal.returns-in_ok-push-in-New-clause-takes
returns-in_ok-push-in-New-clause-takes c = λ before are.
    new_joined before c.args.self.now are c.args.cell.now c.push.new.self c.in-New.ensures c.in_ok-push-in-New.ensures.cells c.in_ok-push-in-New.ensures.names

pub returns-in-Alike-clause-takes : goal.returns-in-Alike-clause-takes
returns-in-Alike-clause-takes c = λ before are. alike_joined before c.args.self.now are c.args.cell.now c.in-Alike.ensures

pub returns-in-Otherwise-clause-takes : goal.returns-in-Otherwise-clause-takes
returns-in-Otherwise-clause-takes c = λ before are. otherwise_before before c.args.self.now are c.args.cell.now c.in-Otherwise.ensures
