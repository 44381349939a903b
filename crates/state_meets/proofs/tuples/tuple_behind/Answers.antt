use Rattle.std.proofs.Common.{◌≡◌, ℕ, ◌+◌, List, [], ◌++◌, map, get_or, refl, sym, ap, ◌∙◌, subst}
use Rattle.diagram_defs.specs.Diagrams.{kid}
use Rattle.state_meets.specs.Walks.{Stands, AreSets, numbers_behind}
use Rattle.state_meets.specs.Gathered.{begun_of}
use Rattle.state_meets.proofs.Meets.{behind_sets}
use Rattle.state_meets.proofs.Standing.{Stands_members}
use Rattle.state_meets.proofs.tuples.tuple_behind.Goals as goal
use Rattle.state_meets.proofs.tuples.tuple_behind.Goals.{After-as_slice}

-- the numbers behind the value, as they are read
read : (c : After-as_slice) → numbers_behind c.args.pool.now.nodes (begun_of c.args.plan.now) c.args.tuple.now.level c.args.tuple.now.numbers.items c.args.v ≡ map (λ n. kid c.args.pool.now.nodes n c.args.v) c.as_slice.result.now ++ c.begun_at-begun.result.now
read c =
    let level = c.args.tuple.now.level in
    let kids : List ℕ → List ℕ = λ ns. map (λ n. kid c.args.pool.now.nodes n c.args.v) ns in
    ap (λ (ns : List ℕ). kids ns ++ get_or (begun_of c.args.plan.now) (level + 1) []) (sym c.as_slice.ensures) ∙ ap (λ (ms : List ℕ). kids c.as_slice.result.now ++ ms) (sym c.begun_at-begun.ensures)

pub numbers_kept-requires-clause-sets : goal.numbers_kept-requires-clause-sets
numbers_kept-requires-clause-sets c =
    let d = c.args.pool.now in
    let sets = behind_sets d c.allocator-alloc.ensures (begun_of c.args.plan.now) c.args.tuple.now.level c.args.tuple.now.numbers.items c.args.v c.requires.sets c.requires.plan.begun in
    subst (AreSets d (c.args.tuple.now.level + 1)) (read c) sets

pub returns : goal.returns
returns c =
    let d = c.args.pool.now in
    let which = c.args.plan.now.which in
    let next = c.args.tuple.now.level + 1 in
    let stands = Stands_members d which next _ c.in_ok-numbers.numbers.items c.in_order.result.items c.in_order.ensures.there c.in_order.ensures.back c.in_ok-numbers.ensures in
    record {
      level_is = refl;
      stands = subst (λ (ns : List ℕ). Stands d which next ns c.in_order.result.items) (sym (read (goal.at.returns c).After-as_slice)) stands;
    }
