use Rattle.std.proofs.Common.{refl}
use Rattle.net_places.proofs.Mentioning.{inst_more}
use Rattle.net_places.proofs.gathering.mention_inst.Goals as goal

pub returns : goal.returns
returns c = inst_more c.args.modules.now.symbols c.args.mark c.args.gathering.now _ c.args.symbol c.requires c.set_mark.ensures refl
