use Rattle.std.proofs.Common.{Bool, subst, ◌∙◌}
use Rattle.net_frames.specs.Places.{IsSymbolOf}
use Rattle.net_frames.proofs.Growing.{name_added, symbol_named}
use Rattle.net_frames.proofs.places.name_of_bit.Goals as goal

pub returns-then-is_symbol-clause-named : goal.returns-then-is_symbol-clause-named
returns-then-is_symbol-clause-named c =
    let P : Bool → Type 0 = λ yes. IsSymbolOf c.args.modules.now c.args.body c.args.row yes in
    symbol_named c.args.modules.now c.args.rows.now c.args.body c.args.row c.args.place (subst P c.if-is_symbol.true c.is_symbol.ensures)

pub returns-clause-named : goal.returns-clause-named
returns-clause-named c =
    name_added c.args.modules.now c.args.rows.now c.add_name.new.self c.args.body c.args.row c.args.place c.in_ok-name.name c.as_slice.result.now
    c.in_ok-name.ensures.added c.in_ok-name.ensures.number (c.as_slice.ensures.bytes ∙ c.in_ok-text.ensures)
