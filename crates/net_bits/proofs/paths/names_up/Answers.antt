use Rattle.std.proofs.Common.{◌≡◌, ◌<◌, ℕ, List, [], ◌∷◌, ◌++◌, sym, ap, ◌∙◌, subst, arith, append_assoc}
use Rattle.net_bits.specs.Standing.{AreNamesUp}
use Rattle.std.proofs.lemmas.List.{append-nil}
use Rattle.net_bits.proofs.paths.names_up.Goals as goal

pub loop-at-preserved : goal.loop-at-preserved
loop-at-preserved c rest up =
    let rows = c.args.rows.now in
    let row = c.in-Some.row.now in
    let names : List ℕ = c.loop-at.names.items in
    let below : 0 < c.loop-at.at = c.loop-at-test.true in
    let here = c.loop-at.invariant (row.name ∷ rest) (AreNamesUp.inner c.loop-at.at row rest below (sym c.in-Some.ensures) up) in
    subst (AreNamesUp rows c.args.n) (sym (ap (λ (xs : List ℕ). xs ++ rest) c.in_ok-push.ensures.items ∙ append_assoc names (row.name ∷ []) rest)) here

pub returns : goal.returns
returns c =
    let end : c.loop-at.at ≡ 0 = omega arith in
    let none : AreNamesUp c.args.rows.now c.loop-at.at [] = subst (λ (n : ℕ). AreNamesUp c.args.rows.now n []) (sym end) AreNamesUp.top in
    subst (AreNamesUp c.args.rows.now c.args.n) (append-nil c.loop-at.names.items) (c.loop-at.invariant [] none)
