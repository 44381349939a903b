use Rattle.std.proofs.Common.{◌≡◌, ℕ, List, Option, option_map, sym, subst}
use Rattle.net_loops.specs.Least.{AreLeastBits, IsLeastAnswer}
use Rattle.net_loops.specs.Ready.{AreReady}
use Rattle.net_loops.proofs.LoopFaults.{none_without_rings}
use Rattle.net_loops.proofs.loops.loop_fault.Goals as goal

pub returns-in-Some : goal.returns-in-Some
returns-in-Some c s there read local spots all fed early =
    let ready : AreReady s c.args.placed.now c.args.links.now spots c.args.feeds.now = record { read = read; placed = there; local = local; all = all; fed = fed; early = early } in
    let sources = c.in_ok-inner.ensures s there in
    let least = subst (λ found. IsLeastAnswer s spots (option_map (λ marks. marks.items) found)) c.in-Some.is (c.in_ok-marks.ensures s spots c.args.links.now ready sources) in
    let given : c.as_slice.result.now ≡ c.in-Some.marks.items = c.as_slice.ensures.value in
    c.in_ok-found-in-Some.ensures s spots c.args.feeds.now ready sources (subst (λ (marks : List (Option ℕ)). AreLeastBits s spots marks) (sym given) least)

pub returns : goal.returns
returns c s there read local spots all fed early =
    let ready : AreReady s c.args.placed.now c.args.links.now spots c.args.feeds.now = record { read = read; placed = there; local = local; all = all; fed = fed; early = early } in
    let sources = c.in_ok-inner.ensures s there in
    none_without_rings s (subst (λ found. IsLeastAnswer s spots (option_map (λ marks. marks.items) found)) c.in-None.is (c.in_ok-marks.ensures s spots c.args.links.now ready sources))
