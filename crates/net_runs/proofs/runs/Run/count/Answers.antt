use Rattle.std.proofs.Common.{ap, sym, ◌∙◌}
use Rattle.net_runs.specs.LocalNumbers.{count_of}
use Rattle.net_runs.proofs.RunLemmas.{run_length}
use Rattle.net_runs.proofs.runs.Run.count.Goals as goal

pub returns-in-Bits : goal.returns-in-Bits
returns-in-Bits c = sym (run_length c.args.self ∙ ap count_of c.in-Bits.is)

pub returns-in-Constants : goal.returns-in-Constants
returns-in-Constants c = sym (run_length c.args.self ∙ ap count_of c.in-Constants.is)
