use Rattle.std.proofs.Common.{◌≡◌, ◌∙◌, map, ap, sym}
use Rattle.net_places.specs.Nets.{bits_of_net}
use Rattle.net_inner.specs.Inside.{local_name}
use Rattle.net_inner.specs.Pairs.{names_from}
use Rattle.net_inner.proofs.NamingLemmas.{names_of_net, net_at, same_adds}
use Rattle.net_inner.proofs.bodies.add_net_at.Goals as goal

pub returns : goal.returns
returns c s plans has n at_n =
    let p = c.args.placed.now in
    let b = c.args.body in
    let row = c.in-Some.row in
    let is = net_at s p plans b has c.args.net row n (sym c.in-Some.ensures.net) at_n in
    let names : names_from n.name row.range ≡ map (local_name s b) (bits_of_net n) = ap (names_from n.name) (sym is.ranged) ∙ names_of_net s p plans b has n is.range_is in
    same_adds (names_from n.name row.range) (map (local_name s b) (bits_of_net n)) c.args.index.now c.add_net.new.index c.in_ok-new.new names (c.in_ok-new.ensures s plans n.name is.named)
