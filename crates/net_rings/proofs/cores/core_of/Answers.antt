use Rattle.std.proofs.Common.{[], subst}
use Rattle.net_rings.specs.Peeled.{IsCore}
use Rattle.net_rings.proofs.UseLemmas.{core_begun}
use Rattle.net_rings.proofs.cores.core_of.Goals as goal

pub returns : goal.returns
returns c =
    c.in_ok-peel.ensures.kept c.args.graph []
    (subst (λ sources. IsCore sources [] (record { rows = c.into_rows-rows.result; uses = c.in_ok-uses.uses })) c.into_rows-rows.ensures.same
    (core_begun (record { rows = c.into_rows-rows.result; uses = c.in_ok-uses.uses }) c.into_rows-rows.ensures.rows c.into_rows-rows.ensures.there c.in_ok-uses.ensures))
