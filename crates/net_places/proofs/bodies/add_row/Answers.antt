use Rattle.std.proofs.Common.{◌≡◌, ◌++◌, ◌∷◌, [], refl, sym, ◌∙◌}
use Rattle.std.specs.List.{list_any}
use Rattle.list_defs.specs.Members.{same_name}
use Rattle.net_places.specs.declared.rows.NamedRow.{NamedRow}
use Rattle.net_places.proofs.Indexing.{indexed_again, indexed_first}
use Rattle.net_places.proofs.Mentioning.{not_false, not_true}
use Rattle.net_places.proofs.bodies.add_row.Goals as goal

pub returns-then-not-branch : goal.returns-then-not-branch
returns-then-not-branch c names before spelled has =
    let there = not_false (list_any (same_name c.args.name.now) c.args.indexed.now.index) (sym c.in_ok-add.ensures.new ∙ c.if-not-branch.true) in
    let index : c.add.new.self ≡ c.args.indexed.now.index = rw c.if-not-branch.true at c.in_ok-add.ensures.names in
    indexed_again names c.args.indexed.now _ c.args.name.now c.args.row before there index refl has

pub returns : goal.returns
returns c names before spelled has =
    let new = not_true (list_any (same_name c.args.name.now) c.args.indexed.now.index) (sym c.in_ok-add.ensures.new ∙ c.if-not-branch.false) in
    let index : c.add.new.self ≡ c.args.indexed.now.index ++ c.args.name.now ∷ [] = rw c.if-not-branch.false at c.in_ok-add.ensures.names in
    let named : NamedRow = record { name = c.args.name; row = c.args.row } in
    indexed_first names c.args.indexed.now _ c.args.name.now c.args.row named before new index c.in_ok-push.ensures.items refl refl spelled has
