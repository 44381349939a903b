use Rattle.std.proofs.Common.{◌≡◌, ◌∙◌, None, Some, sym, ap}
use Rattle.list_defs.specs.Members.{place_of, same_name}
use Rattle.name_index.proofs.Found.{differ_more, place_more}
use Rattle.name_index.proofs.index.NameIndex.number.Goals as goal

pub invariant_of-self-2 : goal.invariant_of-self-2
invariant_of-self-2 c =
    let absent : place_of (same_name c.args.name.now) c.self.inside.names ≡ None =
    sym c.look_up.ensures ∙ c.in-None.is in
    record {
      table = c.put_in.ensures.table;
      differ = differ_more c.self.inside.names c.put_in.new.names c.args.name.now c.self.invariant.differ absent c.in_ok-put_in.ensures.ok;
    }

pub returns-clause-number : goal.returns-clause-number
returns-clause-number c =
    let absent : place_of (same_name c.args.name.now) c.self.inside.names ≡ None =
    sym c.look_up.ensures ∙ c.in-None.is in
    place_more c.self.inside.names c.put_in.new.names c.args.name.now c.self.invariant.differ absent c.in_ok-put_in.ensures.ok ∙ ap Some (sym c.len-number.ensures)
