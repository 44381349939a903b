use Rattle.checks.proofs.Lists.{last_is}
use Rattle.checks.proofs.chain_ends.last_bit.Goals as goal

pub returns-in-len1-up : goal.returns-in-len1-up
returns-in-len1-up c = last_is c.args.bits.now
