use Rattle.std.proofs.Common.{◌++◌, ◌∷◌, [], inl, refl, rules}
use Rattle.list_defs.proofs.Members.{IsIn-append_left, IsIn-append_right}
use Rattle.net_rings.specs.Peeled.{IsGone}
use Rattle.net_rings.proofs.UseLemmas.{core_absent, taken_cases, without_core, without_rows}
use Rattle.net_rings.proofs.minima.take_out.Goals as goal

pub returns-then-not-is_there-clause-taken : goal.returns-then-not-is_there-clause-taken
returns-then-not-is_there-clause-taken c sources taken core = core_absent sources taken c.args.core.now c.args.bit core (λ there. search rules)

pub peel-requires-clause-rows : goal.peel-requires-clause-rows
peel-requires-clause-rows c = without_rows c.args.core.now c.take.new.core c.args.bit c.in_ok-take.ensures c.requires.rows

pub peel-requires-clause-counted : goal.peel-requires-clause-counted
peel-requires-clause-counted c = c.in_ok-take.ensures.counted

pub returns-clause-taken : goal.returns-clause-taken
returns-clause-taken c sources taken core =
    c.in_ok-peel.ensures.kept sources (taken ++ c.args.bit ∷ [])
    (without_core c.args.core.now c.take.new.core c.args.bit c.in_ok-take.ensures sources taken (taken ++ c.args.bit ∷ []) core
    (λ k inside. IsIn-append_left k taken (c.args.bit ∷ []) inside)
    (IsGone.was_taken c.args.bit (IsIn-append_right c.args.bit taken (c.args.bit ∷ []) (inl refl)))
    (λ k inside. taken_cases k taken c.args.bit inside))
