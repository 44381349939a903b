use Rattle.std.proofs.Common.{◌≡◌, ℕ, map, subst, arith}
use Rattle.std.specs.List.{range_with_len}
use Rattle.design_defs.specs.Ranges.{width}
use Rattle.net_places.specs.Gathered.{net_by}
use Rattle.net_frames.specs.Places.{HasPlaces, spellings}
use Rattle.net_frames.proofs.Growing.{bit_more, no_places}
use Rattle.net_frames.proofs.places.add_net.Goals as goal

pub loop-place-init : goal.loop-place-init
loop-place-init c = record { rows = c.requires.rows; added = no_places c.args.modules.now c.args.rows.now }

pub loop-place-preserved : goal.loop-place-preserved
loop-place-preserved c = record {
  rows = c.add_bit.ensures.rows;
  added = bit_more c.args.modules.now c.args.rows.now c.loop-place.rows c.add_bit.new.rows c.args.body c.args.row c.loop-place.place c.loop-place.invariant.added
      c.in_ok-add_bit.ensures.added;
}

pub returns-clause-added : goal.returns-clause-added
returns-clause-added c =
    let n = c.args.modules.now in
    let net = net_by (spellings n c.args.rows.now c.args.body) c.args.row in
    let P : ℕ → Type 0 = λ count. HasPlaces n c.args.rows.now c.loop-place.rows (map (λ place. (net, place)) (range_with_len 0 count)) in
    let all : c.loop-place.place ≡ width c.args.row.range = omega (arith, c.width-count.ensures) in
    subst P all c.loop-place.invariant.added
