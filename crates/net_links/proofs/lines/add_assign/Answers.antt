use Rattle.std.proofs.Common.{◌≡◌, ℕ, ◌++◌, List, Option, subst}
use Rattle.std.proofs.lemmas.Option.{slice_get_within}
use Rattle.module_rows.specs.Reads.{assign_at}
use Rattle.net_runs.specs.Leaves.{runs_bits}
use Rattle.net_links.specs.LocalLinks.{locals}
use Rattle.net_links.specs.RunLinks.{AreFew, AreFewOwn, bits_back, locals_of_sides}
use Rattle.net_links.proofs.LineLemmas.{SaysRuns, expr_within, left_there, right_there, sides_linked}
use Rattle.net_links.proofs.SideLemmas.{turned}
use Rattle.net_links.proofs.lines.add_assign.Goals as goal

pub runs-requires-2 : goal.runs-requires-2
runs-requires-2 c =
    let n = c.args.linker.now.spellings.modules.now in
    let row = c.assign-sides.result in
    expr_within c.args.linker.now c.args.holder row.right c.requires.open (slice_get_within n.exprs row.right (assign_at n c.args.holder c.args.assign).right c.assign-sides.ensures.right)

pub returns-then-not-branch : goal.returns-then-not-branch
returns-then-not-branch c s are m is =
    let l = c.args.linker.now in
    let row = c.assign-sides.result in
    let says = subst (λ b. SaysRuns l row.left c.runs.new.runs.items b) c.if-not-branch.true c.in_ok-runs.ensures in
    absurd (left_there l s c.args.holder m c.requires.open are is c.args.assign c.requires.assign row c.assign-sides.ensures c.runs.new.runs.items says)

pub returns-then-not-branch-2 : goal.returns-then-not-branch-2
returns-then-not-branch-2 c s are m is =
    let l = c.args.linker.now in
    let row = c.assign-sides.result in
    let says = subst (λ b. SaysRuns l row.right c.runs-2.new.runs.items b) c.if-not-branch-2.true c.in_ok-runs-2.ensures in
    absurd (right_there l s c.args.holder m c.requires.open are is c.args.assign c.requires.assign row c.assign-sides.ensures c.runs-2.new.runs.items says)

pub returns : goal.returns
returns c s are m is =
    let l = c.args.linker.now in
    let row = c.assign-sides.result in
    let left = c.runs.new.runs.items in
    let right = c.runs-2.new.runs.items in
    let says_left = subst (λ b. SaysRuns l row.left left b) c.if-not-branch.false c.in_ok-runs.ensures in
    let says_right = subst (λ b. SaysRuns l row.right right b) c.if-not-branch-2.false c.in_ok-runs-2.ensures in
    let Puts : List (Option ℕ) → List (Option ℕ) → Type 0 = λ xs ys. AreFewOwn xs → AreFew ys
    → locals c.put_sides.new.rows ≡ locals c.args.rows.now ++ locals_of_sides row.line xs ys in
    let a = turned left c.reverse.new.self.items c.reverse.ensures.items in
    let b = turned right c.reverse-2.new.self.items c.reverse-2.ensures.items in
    let puts = subst (λ ys. Puts (runs_bits left) ys) b (subst (λ xs. Puts xs (bits_back c.reverse-2.new.self.items)) a c.in_ok-put_sides.ensures) in
    sides_linked l s c.args.holder m c.requires.open are is c.args.assign c.requires.assign row c.assign-sides.ensures left right c.args.rows.now c.put_sides.new.rows says_left says_right puts
