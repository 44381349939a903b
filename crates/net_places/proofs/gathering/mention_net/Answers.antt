use Rattle.std.proofs.Common.{◌==◌, refl, sym, ◌∙◌}
use Rattle.std.specs.Prelude.{slice_index}
use Rattle.net_places.specs.declared.rows.NamedRow.{NamedRow}
use Rattle.net_places.proofs.Mentioning.{net_again, net_first, not_false, not_true}
use Rattle.net_places.proofs.gathering.mention_net.Goals as goal

pub returns-then-not-is_new : goal.returns-then-not-is_new
returns-then-not-is_new c =
    let again = not_false (slice_index c.args.gathering.now.marks.items c.args.row.name == c.args.mark) (sym c.is_new.ensures.new ∙ c.if-not-is_new.true) in
    net_again c.args.modules.now.symbols c.args.mark c.args.gathering.now _ c.args.row c.requires again c.is_new.ensures.marks refl

pub returns : goal.returns
returns c =
    let first = not_true (slice_index c.args.gathering.now.marks.items c.args.row.name == c.args.mark) (sym c.is_new.ensures.new ∙ c.if-not-is_new.false) in
    let named : NamedRow = record { name = c.spelling-name.result; row = c.args.row } in
    net_first c.args.modules.now.symbols c.args.mark c.args.gathering.now _ c.args.row c.spelling-name.result.now named c.requires first c.spelling-name.ensures refl refl
    c.is_new.ensures.marks c.in_ok-push.ensures.items
