use Rattle.list_defs.specs.Members.{place_of, same_name}
use Rattle.module_rows.proofs.ExprLemmas.{names_added}
use Rattle.module_rows.proofs.TermLemmas.{numbered_longer, numbered_there}
use Rattle.module_rows.proofs.terms.symbol.Goals as goal

pub returns-clause-grown : goal.returns-clause-grown
returns-clause-grown c =
    let t = c.args.terms.now in
    let number = place_of (same_name c.args.name.now) t.symbols in
    names_added t c.requires c.number.new.self (numbered_longer t.symbols c.number.new.self c.args.name.now number c.number.result c.number.ensures.names)

pub returns-clause-named : goal.returns-clause-named
returns-clause-named c = numbered_there c.number.new.self c.args.name.now c.number.result c.number.ensures.number
