use Rattle.std.proofs.Common.{◌≡◌, ◌+◌, ◌∙◌, ℕ, Some, ap, subst, arith}
use Rattle.std.specs.List.{flat_map, range_with_len}
use Rattle.net_loops.specs.Lines.{FindsFirst, line_if, line_of_bit}
use Rattle.net_loops.proofs.FirstLemmas.{finds_next, finds_none, finds_same}
use Rattle.net_loops.proofs.lines.look_inside.Goals as goal

pub loop-place-init : goal.loop-place-init
loop-place-init c = finds_none c.args.marks.now c.args.first

pub loop-place-preserved : goal.loop-place-preserved
loop-place-preserved c =
    let row = c.args.row in
    let place : ℕ = c.loop-place.place in
    let inner = c.args.inner.now in
    let lines = line_if c.args.line (Some c.in-Some.bit) c.source.result in
    let same : lines ≡ line_of_bit inner c.args.line row place =
    ap (λ (bit : ℕ). line_if c.args.line (Some bit) c.source.result) c.in-Some.ensures
    ∙ ap (line_if c.args.line (Some (row.first_bit + place))) c.source.ensures in
    finds_next c.args.marks.now (line_of_bit inner c.args.line row) place c.args.first c.loop-place.found c.look_if-found.result c.loop-place.invariant
    (finds_same c.args.marks.now lines (line_of_bit inner c.args.line row place) c.loop-place.found c.look_if-found.result same c.look_if-found.ensures)

pub returns : goal.returns
returns c =
    let row = c.args.row in
    let end : c.loop-place.place ≡ c.bits-place-end.result = omega arith in
    subst (λ (count : ℕ). FindsFirst c.args.marks.now (flat_map (line_of_bit c.args.inner.now c.args.line row) (range_with_len 0 count)) c.args.first c.loop-place.found)
    (end ∙ c.bits-place-end.ensures) c.loop-place.invariant
