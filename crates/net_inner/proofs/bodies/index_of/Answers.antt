use Rattle.std.proofs.Common.{◌≡◌, ◌<◌, ◌∙◌, ◌++◌, ℕ, List, Bool, true, false, Some, length, map, ap, sym, subst, arith, slice_get}
use Rattle.net_places.specs.Nets.{OwnNet, bits_of_net}
use Rattle.net_inner.specs.Inside.{local_name, nets_in}
use Rattle.net_inner.specs.Naming.{AddsNames}
use Rattle.net_inner.proofs.NamingLemmas.{net_taken, net_there, next_net}
use Rattle.net_inner.proofs.bodies.index_of.Goals as goal

pub returns-then-not-branch : goal.returns-then-not-branch
returns-then-not-branch c s plans has =
    let p = c.args.placed.now in
    let b = c.args.body in
    let k : ℕ = c.loop-net.net in
    let nets : List OwnNet = nets_in s p b in
    let n = net_there s p b k (omega (arith, c.loop-net-test.true, c.nets-net-end.ensures)) in
    let taken : AddsNames (map (local_name s b) (bits_of_net n.0)) c.loop-net.index c.add_net_at.new.index false =
    subst (λ (r : Bool). AddsNames (map (local_name s b) (bits_of_net n.0)) c.loop-net.index c.add_net_at.new.index r) c.if-not-branch.true
    (c.in_ok-add_net_at.ensures s plans has n.0 n.1) in
    net_taken (local_name s b) nets k n.0 c.loop-net.index c.add_net_at.new.index n.1 (c.loop-net.invariant s plans has) taken

pub loop-net-preserved : goal.loop-net-preserved
loop-net-preserved c s plans has =
    let p = c.args.placed.now in
    let b = c.args.body in
    let k : ℕ = c.loop-net.net in
    let nets : List OwnNet = nets_in s p b in
    let n = net_there s p b k (omega (arith, c.loop-net-test.true, c.nets-net-end.ensures)) in
    let step : c.add_net_at.new.index ≡ c.loop-net.index ++ map (local_name s b) (bits_of_net n.0) =
    subst (λ (r : Bool). AddsNames (map (local_name s b) (bits_of_net n.0)) c.loop-net.index c.add_net_at.new.index r) c.if-not-branch.false
    (c.in_ok-add_net_at.ensures s plans has n.0 n.1) in
    step ∙ ap (λ xs. xs ++ map (local_name s b) (bits_of_net n.0)) (c.loop-net.invariant s plans has) ∙ sym (next_net (local_name s b) nets k n.0 n.1)
