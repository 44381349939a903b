use Rattle.std.proofs.Common.{sym, ◌∙◌, arith}
use Rattle.script_scopes.proofs.UnitLemmas.{macro_marked, macro_unmarked}
use Rattle.script_scopes.proofs.units.is_soft_macro.Goals as goal

pub returns-then-has : goal.returns-then-has
returns-then-has c =
    macro_marked c.args.hierarchy.now c.sound.ensures c.args.marks.now c.args.n (omega arith) c.requires (sym c.has.ensures ∙ c.if-has.true)

pub returns : goal.returns
returns c =
    c.is_modelled.ensures
    ∙ macro_unmarked c.args.hierarchy.now c.sound.ensures c.args.marks.now c.args.n (omega arith) c.requires (sym c.has.ensures ∙ c.if-has.false)
