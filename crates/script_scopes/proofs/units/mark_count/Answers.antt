use Rattle.std.proofs.Common.{ℕ, ◌∷◌, [], List, length, cond, sym, ap, ◌∙◌}
use Rattle.script_scopes.specs.Standing.{own_path}
use Rattle.script_scopes.proofs.UnitLemmas.{mark_once}
use Rattle.script_scopes.proofs.units.mark_count.Goals as goal

pub returns-then-has-clause-count : goal.returns-then-has-clause-count
returns-then-has-clause-count c =
    let path = own_path c.args.hierarchy.now c.args.n in
    sym
    (mark_once c.args.hierarchy.now c.sound.ensures c.args.marks.now c.args.n c.requires.later c.requires.within
    ∙ ap (λ b. length {A = List ℕ} (cond b (path ∷ []) [])) (sym c.has.ensures ∙ c.if-has.true))

pub returns-else-has-clause-count : goal.returns-else-has-clause-count
returns-else-has-clause-count c =
    let path = own_path c.args.hierarchy.now c.args.n in
    sym
    (mark_once c.args.hierarchy.now c.sound.ensures c.args.marks.now c.args.n c.requires.later c.requires.within
    ∙ ap (λ b. length {A = List ℕ} (cond b (path ∷ []) [])) (sym c.has.ensures ∙ c.if-has.false))
