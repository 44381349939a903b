use Rattle.state_build.proofs.ListLaws.{lists_legal, least_legal}
use Rattle.state_build.proofs.listed.legal_listed.Goals as goal

pub returns-clause-listed : goal.returns-clause-listed
returns-clause-listed c = lists_legal c.args.pool.now c.args.lists.now c.args.conds.now c.args.n c.requires.lists c.requires.number

pub returns-clause-least : goal.returns-clause-least
returns-clause-least c = least_legal c.args.pool.now c.args.lists.now c.args.conds.now c.args.n c.requires.lists c.requires.number
