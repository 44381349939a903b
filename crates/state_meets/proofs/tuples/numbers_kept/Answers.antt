use Rattle.std.proofs.Common.{◌≡◌, ℕ, ◌+◌, ◌<◌, Bool, List, [], ◌∷◌, ◌++◌, map, take, drop, length, length-append, sym, ap, ◌∙◌, subst, arith}
use Rattle.std.proofs.lemmas.List.{length-map, take_more}
use Rattle.std.proofs.lemmas.Result.{IfOk-weaker}
use Rattle.diagram_defs.specs.Diagrams.{kid, IsSet, IsNumberFor}
use Rattle.state_meets.specs.Walks.{Stands, constant_set}
use Rattle.state_meets.proofs.Standing.{Stands_decided, cut}
use Rattle.state_meets.proofs.tuples.numbers_kept.Goals as goal
use Rattle.state_meets.proofs.tuples.numbers_kept.Goals.{After-number_behind-n}

inside : (c : After-number_behind-n) → c.loop-at.at < length (map (λ n. kid c.args.pool.now.nodes n c.args.v) c.args.numbers.now ++ c.args.begun.now)
inside c =
    let kids = length-map c.args.numbers.now (λ n. kid c.args.pool.now.nodes n c.args.v) in
    omega (arith, length-append (map (λ n. kid c.args.pool.now.nodes n c.args.v) c.args.numbers.now) c.args.begun.now)

pub returns-then-is_constant : goal.returns-then-is_constant
returns-then-is_constant c =
    let d = c.args.pool.now in
    let which = c.args.plan.now.which in
    let xs = map (λ n. kid d.nodes n c.args.v) c.args.numbers.now ++ c.args.begun.now in
    let n = c.number_behind-n.result in
    let low = inside (goal.at.returns-then-is_constant c).After-number_behind-n in
    let is = subst (λ (b : Bool). IsNumberFor d c.args.stage.level (constant_set d c.args.stage.level b) n) c.decides.ensures (c.is_constant.ensures c.if-is_constant.true) in
    let all = ap (λ (m : ℕ). take c.loop-at.at xs ++ m ∷ drop (c.loop-at.at + 1) xs) c.number_behind-n.ensures ∙ cut xs c.loop-at.at low in
    let stands = subst (λ (ys : List ℕ). Stands d which c.args.stage.level ys (n ∷ [])) all (Stands_decided d which c.args.stage.level (take c.loop-at.at xs) (drop (c.loop-at.at + 1) xs) n is) in
    IfOk-weaker c.only.result (λ kept. kept.items ≡ n ∷ []) (λ kept. Stands d which c.args.stage.level xs kept.items) (λ kept e. subst (Stands d which c.args.stage.level xs) (sym e) stands) c.only.ensures

pub keep-requires-clause-number : goal.keep-requires-clause-number
keep-requires-clause-number c =
    subst (IsSet c.args.pool.now c.args.stage.level) (sym c.number_behind-n.ensures) (c.requires.sets c.loop-at.at 0 (inside (goal.at.keep-requires-clause-number c).After-number_behind-n))

pub loop-at-preserved : goal.loop-at-preserved
loop-at-preserved c =
    let d = c.args.pool.now in
    let which = c.args.plan.now.which in
    let xs = map (λ n. kid d.nodes n c.args.v) c.args.numbers.now ++ c.args.begun.now in
    let low = inside (goal.at.loop-at-preserved c).After-number_behind-n in
    let more = ap (λ (m : ℕ). take c.loop-at.at xs ++ m ∷ []) c.number_behind-n.ensures ∙ sym (take_more xs c.loop-at.at 0 low) in
    subst (λ (ys : List ℕ). Stands d which c.args.stage.level ys c.keep.new.kept.items) more (c.in_ok-keep.ensures (take c.loop-at.at xs) c.loop-at.invariant)
