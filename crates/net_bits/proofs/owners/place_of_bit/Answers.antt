use Rattle.std.proofs.Common.{◌≡◌, ℕ, ◌-◌, sym, ap, ◌∙◌, subst}
use Rattle.net_places.specs.Plans.{rows_at}
use Rattle.net_places.specs.declared.rows.NetRow.{NetRow}
use Rattle.net_bits.specs.Standing.{IsLastBegun, IsPlaceOf}
use Rattle.net_bits.proofs.Spots.{stands}
use Rattle.net_bits.proofs.owners.place_of_bit.Goals as goal

pub returns : goal.returns
returns c s there spots all x at_x =
    let p = c.args.placed.now in
    let owner : ℕ = c.in_ok-owner.owner in
    let row = c.in_ok-owner.row in
    let net : NetRow = c.in_ok-net.net in
    let local : c.saturating_sub-local.result ≡ c.args.bit - row.first_bit = c.saturating_sub-local.ensures in
    let found = c.in_ok-net.ensures in
    let last = subst (λ (k : ℕ). IsLastBegun (λ (r : NetRow). r.first) (rows_at p.plans.now row.body) k found.0 net) local found.1 in
    let is = stands s p there spots all c.args.bit x at_x owner row c.in_ok-owner.ensures found.0 net last in
    let place : c.place_in.result ≡ c.args.bit - row.first_bit - net.first = c.place_in.ensures ∙ ap (λ (k : ℕ). k - net.first) local in
    subst (λ (k : ℕ). IsPlaceOf s p.modules.now.symbols there.instances.ways x (record { owner = owner; body = row.body; name = net.name; range = net.range; place = k }))
    (sym place) is
