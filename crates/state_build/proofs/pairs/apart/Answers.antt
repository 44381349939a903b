use Rattle.std.proofs.Common.{◌≡◌, ℕ, sym, arith, nat_cmp, Equal}
use Rattle.std.proofs.lemmas.Bool.Decides.{nat_tests}
use Rattle.diagram_defs.proofs.PartLemmas.{GrowsBy_none, IsPartOf_same, same_grown, refused_wider}
use Rattle.diagram_defs.proofs.LocalSets.{local_same}
use Rattle.state_build.proofs.Lowering.{same_local}
use Rattle.state_build.proofs.Pairing.{apart_above, apart_below, apart_none}
use Rattle.state_build.proofs.pairs.apart.Goals as goal

tied : (a b : ℕ) → Equal ≡ nat_cmp a b → a ≡ b
tied a b e = grind (arith, nat_tests)

pub returns-in-Less-clause-number : goal.returns-in-Less-clause-number
returns-in-Less-clause-number c = same_local c.pairs.new.pool _ _ (apart_above c.args.pool.now.arities c.args.lists.now c.args.low c.args.high c.args.above) c.pairs.result c.pairs.ensures.number

pub returns-in-Less-clause-grows : goal.returns-in-Less-clause-grows
returns-in-Less-clause-grows c = same_grown c.args.pool.now c.pairs.new.pool 0 _ _ (apart_above c.args.pool.now.arities c.args.lists.now c.args.low c.args.high c.args.above) c.pairs.ensures.grows

pub returns-in-Less-clause-cause : goal.returns-in-Less-clause-cause
returns-in-Less-clause-cause c =
    refused_wider _ _ c.pairs.new.pool c.pairs.result (λ l part p. IsPartOf_same _ 0 _ _ l part (apart_above c.args.pool.now.arities c.args.lists.now c.args.low c.args.high c.args.above) p) c.pairs.ensures.cause

pub returns-in-Equal-clause-number : goal.returns-in-Equal-clause-number
returns-in-Equal-clause-number c =
    local_same c.args.pool.now _ _ c.nothing.result (λ state. sym (apart_none c.args.pool.now.arities c.args.lists.now c.args.low c.args.high c.args.above state (tied c.args.low c.args.high c.in-Equal.ensures))) c.nothing.ensures.number

pub returns-in-Equal-clause-grows : goal.returns-in-Equal-clause-grows
returns-in-Equal-clause-grows c = GrowsBy_none _ c.args.pool.now c.nothing.ensures.pool

pub returns-in-Greater-clause-number : goal.returns-in-Greater-clause-number
returns-in-Greater-clause-number c = same_local c.pairs-in-Greater.new.pool _ _ (apart_below c.args.pool.now.arities c.args.lists.now c.args.low c.args.high c.args.above) c.pairs-in-Greater.result c.pairs-in-Greater.ensures.number

pub returns-in-Greater-clause-grows : goal.returns-in-Greater-clause-grows
returns-in-Greater-clause-grows c = same_grown c.args.pool.now c.pairs-in-Greater.new.pool 0 _ _ (apart_below c.args.pool.now.arities c.args.lists.now c.args.low c.args.high c.args.above) c.pairs-in-Greater.ensures.grows

pub returns-in-Greater-clause-cause : goal.returns-in-Greater-clause-cause
returns-in-Greater-clause-cause c =
    refused_wider _ _ c.pairs-in-Greater.new.pool c.pairs-in-Greater.result (λ l part p. IsPartOf_same _ 0 _ _ l part (apart_below c.args.pool.now.arities c.args.lists.now c.args.low c.args.high c.args.above) p) c.pairs-in-Greater.ensures.cause
