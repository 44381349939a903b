use Rattle.net_widths.proofs.Finding.{one_more}
use Rattle.net_widths.proofs.refusals.refuse.Goals as goal

pub returns : goal.returns
returns c = λ x named before known.
    one_more c.args.modules.now.symbols (record { line = c.args.line; name = c.args.name }) x named before c.args.best c.first_own.result c.first_own.ensures.one c.first_own.ensures.first known
