use Rattle.std.proofs.Common.{◌≡◌, not, true, false, ◌++◌, ◌∷◌, [], rules, sym, ◌∙◌}
use Rattle.std.specs.List.{list_any}
use Rattle.list_defs.specs.Members.{same_name}
use Rattle.net_hierarchy.proofs.FirstPlaces.{firsts_again, firsts_more, new_place, old_place}
use Rattle.net_hierarchy.proofs.firsts.Firsts.add.Goals as goal

pub returns-in_ok-push : goal.returns-in_ok-push
returns-in_ok-push c names are place =
    let new : not (list_any (same_name c.args.name.now) c.args.self.now.index) ≡ true = sym c.in_ok-add.ensures.new ∙ c.if-branch.true in
    let index : c.add.new.self ≡ c.args.self.now.index ++ c.args.name.now ∷ [] = rw c.if-branch.true at c.in_ok-add.ensures.names in
    let places : c.push.new.self.items ≡ c.args.self.now.places.items ++ c.args.place ∷ [] = search rules in
    firsts_more names c.args.self.now _ are c.args.name.now (new_place c.args.name.now c.args.self.now.index new) index (rw (← place) places)

pub returns-else-branch : goal.returns-else-branch
returns-else-branch c names are place =
    let old : not (list_any (same_name c.args.name.now) c.args.self.now.index) ≡ false = sym c.in_ok-add.ensures.new ∙ c.if-branch.false in
    let index : c.add.new.self ≡ c.args.self.now.index = rw c.if-branch.false at c.in_ok-add.ensures.names in
    let there = old_place c.args.name.now c.args.self.now.index old in
    rw index (firsts_again names c.args.self.now are c.args.name.now there.0 there.1)
