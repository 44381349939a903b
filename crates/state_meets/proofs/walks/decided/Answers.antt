use Rattle.std.proofs.Common.{◌≡◌, ◌<◌, ℕ, List, get_or, length, sym, ap, ◌∙◌, subst, arith}
use Rattle.std.specs.Prelude.{IfSome}
use Rattle.std.proofs.lemmas.Bool.{eqb-true, eqb-false}
use Rattle.std.proofs.lemmas.List.{nil_from_length}
use Rattle.diagram_defs.specs.Diagrams.{IsNumberFor, IsSet}
use Rattle.state_meets.specs.Walks.{walk_set}
use Rattle.state_meets.specs.Gathered.{begun_of}
use Rattle.state_meets.proofs.Standing.{single}
use Rattle.state_meets.proofs.walks.decided.Goals as goal

pub returns-then-is_empty : goal.returns-then-is_empty
returns-then-is_empty c =
    let d = c.args.pool.now in
    let level = c.args.tuple.now.level in
    let set = walk_set d c.args.plan.now.which (begun_of c.args.plan.now) level in
    let empty = eqb-true (length c.as_slice-numbers.result.now) 0 (sym c.is_empty.ensures ∙ c.if-is_empty.true) in
    let none = sym (nil_from_length c.as_slice-numbers.result.now empty) ∙ c.as_slice-numbers.ensures in
    subst (λ (xs : List ℕ). IfSome c.number_of_none.result (IsNumberFor d level (set xs))) none c.number_of_none.ensures

pub number_of_one-requires-clause-number : goal.number_of_one-requires-clause-number
number_of_one-requires-clause-number c =
    let some = eqb-false (length c.as_slice-numbers.result.now) 0 (sym c.is_empty.ensures ∙ c.if-is_empty.false) in
    let same = ap (λ (xs : List ℕ). length xs) c.as_slice-numbers.ensures in
    let low : 0 < length c.args.tuple.now.numbers.items = omega (arith, some) in
    subst (λ (xs : List ℕ). IsSet c.args.pool.now c.args.tuple.now.level (get_or xs 0 0)) (sym c.as_slice-numbers.ensures) (c.requires.sets 0 0 low)

pub returns : goal.returns
returns c =
    let d = c.args.pool.now in
    let level = c.args.tuple.now.level in
    let set = walk_set d c.args.plan.now.which (begun_of c.args.plan.now) level in
    let some = eqb-false (length c.as_slice-numbers.result.now) 0 (sym c.is_empty.ensures ∙ c.if-is_empty.false) in
    let few = c.if-numbers-gt1.false in
    let alone : length c.as_slice-numbers.result.now ≡ 1 = omega (arith, some) in
    let one = sym (single c.as_slice-numbers.result.now alone) ∙ c.as_slice-numbers.ensures in
    subst (λ (xs : List ℕ). IfSome c.number_of_one.result (IsNumberFor d level (set xs))) one c.number_of_one.ensures
