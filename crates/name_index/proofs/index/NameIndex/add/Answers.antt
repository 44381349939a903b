-- The table has no place for the name exactly where the name isn't there.
use Rattle.std.proofs.Common.{◌≡◌, ◌∙◌, None, is_some, not, sym, ap}
use Rattle.std.specs.List.{list_any}
use Rattle.list_defs.specs.Members.{place_of, same_name}
use Rattle.list_defs.proofs.NameLemmas.{is_some-place_of}
use Rattle.name_index.proofs.Found.{differ_more, none_there}
use Rattle.name_index.proofs.index.NameIndex.add.Goals as goal

pub returns-then-is_some-clause-new : goal.returns-then-is_some-clause-new
returns-then-is_some-clause-new c =
    let there = sym (ap (list_any (same_name c.args.name.now)) c.self.view_is) ∙ sym (is_some-place_of (same_name c.args.name.now) c.self.inside.names) ∙ ap is_some (sym c.look_up.ensures) ∙ sym c.is_some.ensures ∙ c.if-is_some.true in
    sym (ap not there)

pub invariant_of-self-2 : goal.invariant_of-self-2
invariant_of-self-2 c =
    let absent : place_of (same_name c.args.name.now) c.self.inside.names ≡ None =
    sym c.look_up.ensures ∙ none_there c.look_up.result (sym c.is_some.ensures ∙ c.if-is_some.false) in
    record {
      table = c.put_in.ensures.table;
      differ = differ_more c.self.inside.names c.put_in.new.names c.args.name.now c.self.invariant.differ absent c.in_ok-put_in.ensures.ok;
    }

pub returns-clause-new : goal.returns-clause-new
returns-clause-new c =
    let there = sym (ap (list_any (same_name c.args.name.now)) c.self.view_is) ∙ sym (is_some-place_of (same_name c.args.name.now) c.self.inside.names) ∙ ap is_some (sym c.look_up.ensures) ∙ sym c.is_some.ensures ∙ c.if-is_some.false in
    sym (ap not there)
