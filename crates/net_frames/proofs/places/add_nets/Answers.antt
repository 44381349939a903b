use Rattle.std.proofs.Common.{List, map, sym, ◌∙◌, subst, arith}
use Rattle.std.proofs.lemmas.List.{take_all}
use Rattle.net_places.specs.declared.rows.NetRow.{NetRow}
use Rattle.net_places.specs.Gathered.{net_by}
use Rattle.net_places.specs.Plans.{rows_at}
use Rattle.net_frames.specs.Places.{HasPlaces, bits_of_nets, spellings}
use Rattle.net_frames.proofs.Growing.{net_more, no_places}
use Rattle.net_frames.proofs.places.add_nets.Goals as goal

pub loop-net-init : goal.loop-net-init
loop-net-init c = record { rows = c.requires.rows; added = no_places c.args.modules.now c.args.rows.now }

pub loop-net-preserved : goal.loop-net-preserved
loop-net-preserved c =
    let rows = rows_at c.args.plans.now c.args.body in
    record {
      rows = c.add_net.ensures.rows;
      added = net_more c.args.modules.now c.args.rows.now c.loop-net.rows c.add_net.new.rows c.args.body rows c.loop-net.net c.in_ok-row.row
          (sym c.net.ensures.net ∙ c.in_ok-row.ensures.ok_part) c.loop-net.invariant.added c.in_ok-add_net.ensures.added;
    }

pub returns-clause-added : goal.returns-clause-added
returns-clause-added c =
    let n = c.args.modules.now in
    let rows = rows_at c.args.plans.now c.args.body in
    let P : List NetRow → Type 0 = λ some. HasPlaces n c.args.rows.now c.loop-net.rows (bits_of_nets (map (net_by (spellings n c.args.rows.now c.args.body)) some)) in
    subst P (take_all c.loop-net.net rows (omega (arith, c.nets-net-end.ensures))) c.loop-net.invariant.added
