use Rattle.std.proofs.Common.{◌≡◌, ℕ, List, sym, ap, ◌∙◌, subst}
use Rattle.std.proofs.lemmas.Result.{on_ok_weaker}
use Rattle.script_scopes.specs.Marked.{AreThere, marked, with_number}
use Rattle.script_scopes.proofs.MarkLemmas.{either_way, marked_with, there_with}
use Rattle.script_scopes.proofs.marks.Marks.add.Goals as goal

pub returns-clause-there : goal.returns-clause-there
returns-clause-there c =
    let d = c.args.hierarchy.now in
    let old = c.args.self.now in
    let new = c.put.new.self in
    let P : List ℕ → Type 0 = λ numbers. AreThere d numbers in
    λ there.
    either_way c.put.result (new ≡ with_number old c.args.n) (new ≡ old) (AreThere d new)
    (λ added. subst P (sym added) (there_with d c.sound.ensures c.args.n old c.requires there)) (λ same. subst P (sym same) there) c.put.ensures.ok c.put.ensures.err

pub returns-clause-paths : goal.returns-clause-paths
returns-clause-paths c =
    let d = c.args.hierarchy.now in
    λ there. on_ok_weaker c.put.result (λ added. ap (marked d) added ∙ marked_with d c.sound.ensures c.args.n c.args.self.now c.requires there) c.put.ensures.ok
