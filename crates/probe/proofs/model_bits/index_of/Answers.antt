use Rattle.std.proofs.Common.{◌≡◌, ◌++◌, ◌∷◌, [], ℕ, List, subst, arith}
use Rattle.std.specs.Prelude.{MatchBool}
use Rattle.probe.proofs.BitLists.{each_added, each_from}
use Rattle.probe.proofs.model_bits.index_of.Goals as goal

pub loop-name-preserved : goal.loop-name-preserved
loop-name-preserved c =
    each_added c.args.names.now c.loop-name.name-index c.name-item.result c.loop-name-test.true c.name-item.is c.loop-name.index c.add.new.self c.in_ok-_new._new
    (subst (λ (n : List ℕ). MatchBool c.in_ok-_new._new (c.add.new.self ≡ c.loop-name.index ++ n ∷ []) (c.add.new.self ≡ c.loop-name.index)) c.as_slice.ensures.bytes c.in_ok-_new.ensures.names)
    c.loop-name.invariant

pub returns : goal.returns
returns c = each_from c.args.names.now c.loop-name.name-index (omega (arith, c.loop-name-test.false)) c.loop-name.index c.loop-name.invariant
