use Rattle.std.proofs.Common.{◌≡◌, ℕ, ◌+◌, ◌-◌, ◌/◌, ◌<◌, length, true, false, sym, ap, ◌∙◌, subst, arith}
use Rattle.net_places.specs.Finding.{IsSplit, is_before, names_among, row_before}
use Rattle.net_places.specs.Plans.{rows_at}
use Rattle.net_places.proofs.FindLemmas.{split_all, split_down, split_up}
use Rattle.net_places.proofs.plans.Plans.before.Goals as goal

pub loop-low-init : goal.loop-low-init
loop-low-init c =
    let rows = rows_at c.args.self.now c.args.body in
    let test = row_before (names_among c.args.spellings.now.modules.now c.args.spellings.now.cells.now c.args.spellings.now.models.now c.args.body) rows c.args.name.now in
    record {
      ends = omega arith;
      within = omega (arith, c.nets-high.ensures);
      split = λ front. subst (λ high. IsSplit test (length rows) 0 high) (sym c.nets-high.ensures) (split_all test (length rows));
    }

pub loop-low-preserved-then-comes_before : goal.loop-low-preserved-then-comes_before
loop-low-preserved-then-comes_before c =
    let rows = rows_at c.args.self.now c.args.body in
    let name = c.args.name.now in
    let names = names_among c.args.spellings.now.modules.now c.args.spellings.now.cells.now c.args.spellings.now.models.now c.args.body in
    let test = row_before names rows name in
    let low : ℕ = c.loop-low.low in
    let high : ℕ = c.loop-low.high in
    let middle : ℕ = low + (high - low) / 2 in
    let under : middle < high = omega (arith, c.loop-low-test.true) in
    let passes : test middle ≡ true = ap (is_before name) (sym c.spelled.ensures) ∙ sym c.comes_before.ensures ∙ c.if-comes_before.true in
    record {
      ends = omega (arith, under);
      within = c.loop-low.invariant.within;
      split = λ front. split_up test (length rows) low middle high front (c.loop-low.invariant.split front) (omega (arith, under, c.loop-low.invariant.within)) passes;
    }

pub loop-low-preserved : goal.loop-low-preserved
loop-low-preserved c =
    let rows = rows_at c.args.self.now c.args.body in
    let name = c.args.name.now in
    let names = names_among c.args.spellings.now.modules.now c.args.spellings.now.cells.now c.args.spellings.now.models.now c.args.body in
    let test = row_before names rows name in
    let low : ℕ = c.loop-low.low in
    let high : ℕ = c.loop-low.high in
    let middle : ℕ = low + (high - low) / 2 in
    let under : middle < high = omega (arith, c.loop-low-test.true) in
    let fails : test middle ≡ false = ap (is_before name) (sym c.spelled.ensures) ∙ sym c.comes_before.ensures ∙ c.if-comes_before.false in
    record {
      ends = omega arith;
      within = omega (arith, under, c.loop-low.invariant.within);
      split = λ front. split_down test (length rows) low middle high front (c.loop-low.invariant.split front) (omega (arith, under, c.loop-low.invariant.within)) fails;
    }
