use Rattle.std.proofs.Common.{◌≡◌, ℕ, ◌∷◌, ◌++◌, List, [], map, take, sym, ap, ◌∙◌, subst}
use Rattle.std.specs.Prelude.{Some, option_map, slice_get}
use Rattle.std.proofs.lemmas.Option.{slice_get-get_or, slice_get-map}
use Rattle.pw_defs.specs.declared.netlist.Port.{Port}
use Rattle.net_places.specs.declared.rows.NetRow.{NetRow}
use Rattle.net_places.specs.Gathered.{HasIndexed, mention_of}
use Rattle.net_places.specs.Mentions.{Mention, of_ports}
use Rattle.net_places.proofs.Indexing.{port_after}
use Rattle.net_places.proofs.bodies.port_rows.Goals as goal

pub loop-number-init : goal.loop-number-init
loop-number-init c = c.no_rows-indexed.ensures (map (λ (p : Port). p.name) c.args.ports.now)

pub loop-number-preserved : goal.loop-number-preserved
loop-number-preserved c =
    let xs = c.args.ports.now in
    let i = c.loop-number.number in
    let x = c.index-ports-number.result in
    let names = map (λ (p : Port). p.name) xs in
    let row : NetRow = record { name = i; range = x.range; port = Some i; first = 0 } in
    let here : slice_get xs i ≡ Some x = slice_get-get_or xs i x c.loop-number-test.true ∙ ap Some (sym c.index-ports-number.is) in
    let bytes : c.as_slice.result.now ≡ x.name = c.as_slice.ensures.bytes in
    let spelled : slice_get names i ≡ Some c.as_slice.result.now = slice_get-map (λ (p : Port). p.name) xs i ∙ ap (option_map (λ (p : Port). p.name)) here ∙ ap Some (sym bytes) in
    let before = of_ports 0 (take i xs) in
    let P : List Mention → Type 0 = λ more. HasIndexed names c.add_row.new.indexed more in
    subst P (ap (λ (name : List ℕ). before ++ mention_of name row ∷ []) bytes ∙ sym (port_after xs i x here)) (c.in_ok-add_row.ensures names before spelled c.loop-number.invariant)
