use Rattle.std.proofs.Common.{◌↔◌, IsTrue, subst}
use Rattle.pw_defs.specs.declared.design.Design.{Design}
use Rattle.design_defs.specs.Alike.{IsAtOrBelow}
use Rattle.script_defs.specs.Scopes.{at_or_above, is_one_of}
use Rattle.script_scopes.specs.Standing.{own_path}
use Rattle.script_scopes.proofs.AboveLemmas.{one_above, same_answer}
use Rattle.script_scopes.proofs.parts.stands_in.Goals as goal

pub returns : goal.returns
returns c =
    let d = c.args.hierarchy.now in
    let scope = c.args.scope in
    let inst = c.args.inst in
    let P : Design → Type 0 = λ e. IsTrue c.is_at_or_below.result ↔ IsAtOrBelow e scope inst in
    same_answer (IsAtOrBelow d scope inst) c.is_at_or_below.result (is_one_of (own_path d scope) (at_or_above d (own_path d inst))) (subst P c.design.ensures c.is_at_or_below.ensures)
    (one_above d c.sound.ensures scope c.requires.scope inst c.requires.within)
