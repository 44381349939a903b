use Rattle.net_widths.proofs.WiredLemmas.{wired_lines}
use Rattle.net_widths.proofs.laws.what_is_wired.Goals as goal

pub returns : goal.returns
returns c = wired_lines
