use Rattle.std.proofs.Common.{◌≡◌, ◌∙◌, Some, None, ◌∷◌, arith, slice_get, ap}
use Rattle.std.proofs.lemmas.Option.{slice_get-get_or}
use Rattle.design_defs.proofs.Walking.{length_walk}
use Rattle.design_defs.proofs.WalkEnds.{walks_end}
use Rattle.design_walks.proofs.EndLemmas.{ends_back, ends_here, next_within, passes_one, walk_before}
use Rattle.design_walks.proofs.ends.last_of.Goals as goal

pub loop-init : goal.loop-init
loop-init c =
    let bits = c.args.design.now.bits in
    record { within = c.requires.within; back = λ last ends. ends; left = λ rest end walk. omega (arith, length_walk bits c.args.n rest end walk) }

pub returns-in-Some : goal.returns-in-Some
returns-in-Some c =
    let ends = c.args.ends.now in
    let at = c.loop.at in
    let last = c.in-Some.last in
    let is = c.in-Some.is in
    let all = c.requires.ends.all in
    let within = c.loop.invariant.within in
    let read : slice_get ends at ≡ Some (Some last) = slice_get-get_or ends at None (omega arith) ∙ ap Some is in
    c.loop.invariant.back last (c.requires.ends.each at last read)

pub returns-in-None : goal.returns-in-None
returns-in-None c = c.loop.invariant.back c.loop.at (ends_here c.args.design.now.bits c.loop.at c.in-None.ensures)

pub loop-preserved : goal.loop-preserved
loop-preserved c =
    let d = c.args.design.now in
    let inv = c.loop.invariant in
    let on = c.in-Some-next.ensures in
    let next = c.in-Some-next.next in
    record {
      within = next_within d.bits (walks_end d c.sound.ensures) c.loop.at next on;
      back = λ last ends. inv.back last (ends_back d.bits c.loop.at next last on ends);
      left = λ rest end walk. omega (arith, inv.left (c.loop.at ∷ rest) end (walk_before d.bits c.loop.at next rest end on walk));
    }

pub unreachable-requires : goal.unreachable-requires
unreachable-requires c =
    let d = c.args.design.now in
    let walk = walks_end d c.sound.ensures c.loop.at c.loop.invariant.within in
    omega (arith, c.requires.ends.all, c.loop-test.false, c.loop.invariant.left walk.0 walk.1 walk.2, passes_one d.bits c.loop.at walk.0 walk.1 walk.2)
