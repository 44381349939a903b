use Rattle.std.proofs.Common.{◌≡◌, ◌++◌, ◌∷◌, [], List, Option, None, Some, sym, ap, ◌∙◌, arith}
use Rattle.list_defs.specs.Members.{place_of, same_name}
use Rattle.list_defs.proofs.NameLemmas.{place_of-within}
use Rattle.supply_net.specs.declared.names.Object.{Object}
use Rattle.supply_net.specs.Names.{NameTable, object_in, with_object}
use Rattle.supply_net.proofs.NameLemmas.{set_there, put_behind, same_table}
use Rattle.supply_net.proofs.names.ScopedNames.put.Goals as goal

pub index_mut-requires : goal.index_mut-requires
index_mut-requires c =
    let within = place_of-within (same_name c.args.name.now) c.self.inside.index c.in-Some.place (sym c.find.ensures ∙ c.in-Some.is) in
    let count = c.self.invariant.count in
    omega arith

pub returns-in-Some-clause-ok : goal.returns-in-Some-clause-ok
returns-in-Some-clause-ok c =
    set_there c.self.inside.index c.self.inside.objects.items c.args.name.now (Some c.args.object) c.in-Some.place c.self.invariant.count
    (sym c.find.ensures ∙ c.in-Some.is)
    ∙ ap (λ (t : NameTable). with_object c.args.name.now c.args.object (object_in t)) c.self.view_is

pub returns-in_ok-number-in-None-clause-ok : goal.returns-in_ok-number-in-None-clause-ok
returns-in_ok-number-in-None-clause-ok c =
    let none : place_of (same_name c.args.name.now) c.self.inside.index ≡ None = sym c.find.ensures ∙ c.in-None.is in
    let gained : c.number.new.self ≡ c.self.inside.index ++ c.args.name.now ∷ [] = rw none at c.in_ok-number-in-None.ensures.names in
    let pushed : c.push_reserved.new.self.items ≡ c.self.inside.objects.items ++ Some c.args.object ∷ [] =
    c.push_reserved.ensures.items ∙ ap (λ (xs : List (Option Object)). xs ++ Some c.args.object ∷ []) c.reserve.ensures.items in
    same_table c.number.new.self _ c.push_reserved.new.self.items _ gained pushed
    ∙ put_behind c.self.inside.index c.self.inside.objects.items c.args.name.now (Some c.args.object) c.self.invariant.count none
    ∙ ap (λ (t : NameTable). with_object c.args.name.now c.args.object (object_in t)) c.self.view_is
