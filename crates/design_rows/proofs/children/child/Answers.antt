use Rattle.std.proofs.Common.{◌+◌, ◌-◌, ◌/◌, ◌<◌, length, slice_get, slice_index_or, ap, sym, ◌∙◌, arith}
use Rattle.design_rows.proofs.ChildLemmas.{ahead, behind, child_inner, child_place, child_there, same_key}
use Rattle.design_rows.proofs.children.child.Goals as goal

pub child_order-requires-clause-within : goal.child_order-requires-clause-within
child_order-requires-clause-within c =
    let low = c.loop-low.low in
    let high = c.loop-low.high in
    let xs = c.as_slice-children.result.now in
    let middle = low + (high - low) / 2 in
    let within : middle < length xs = omega (arith, c.loop-low-test.true, c.loop-low.invariant.within) in
    (child_inner c.args.rows.now c.requires.children xs c.as_slice-children.ensures.items middle within).1

pub loop-low-preserved-in-Less : goal.loop-low-preserved-in-Less
loop-low-preserved-in-Less c =
    let low = c.loop-low.low in
    let high = c.loop-low.high in
    let xs = c.as_slice-children.result.now in
    let same = c.as_slice-children.ensures.items in
    let middle = low + (high - low) / 2 in
    let within : middle < length xs = omega (arith, c.loop-low-test.true, c.loop-low.invariant.within) in
    let there = child_there c.args.rows.now c.requires.children xs same middle within in
    let less = sym c.child_order.ensures ∙ c.in-Less.is in
    record {
      ordered = omega (arith, c.loop-low-test.true);
      within = c.loop-low.invariant.within;
      between =
          λ k n at is.
          let past = behind c.args.rows.now c.requires.children c.args.outer c.args.name.now middle (slice_index_or xs middle 0) there less k n (ap (λ ys. slice_get ys k) (sym same) ∙ at) is in
          (omega (arith, past), (c.loop-low.invariant.between k n at is).1);
    }

pub loop-low-preserved : goal.loop-low-preserved
loop-low-preserved c =
    let low = c.loop-low.low in
    let high = c.loop-low.high in
    let xs = c.as_slice-children.result.now in
    let same = c.as_slice-children.ensures.items in
    let middle = low + (high - low) / 2 in
    let within : middle < length xs = omega (arith, c.loop-low-test.true, c.loop-low.invariant.within) in
    let there = child_there c.args.rows.now c.requires.children xs same middle within in
    let greater = sym c.child_order.ensures ∙ c.in-Greater.is in
    record {
      ordered = omega arith;
      within = omega (arith, within);
      between =
          λ k n at is.
          let before = ahead c.args.rows.now c.requires.children c.args.outer c.args.name.now middle (slice_index_or xs middle 0) there greater k n (ap (λ ys. slice_get ys k) (sym same) ∙ at) is in
          ((c.loop-low.invariant.between k n at is).0, before);
    }

pub returns-in-Equal : goal.returns-in-Equal
returns-in-Equal c =
    let low = c.loop-low.low in
    let high = c.loop-low.high in
    let xs = c.as_slice-children.result.now in
    let middle = low + (high - low) / 2 in
    let within : middle < length xs = omega (arith, c.loop-low-test.true, c.loop-low.invariant.within) in
    let key = same_key _ (c.args.outer, c.args.name.now) (sym c.child_order.ensures ∙ c.in-Equal.is) in
    record { inner = child_inner c.args.rows.now c.requires.children xs c.as_slice-children.ensures.items middle within; inside = key.0; named = key.1 }

pub returns : goal.returns
returns c = λ n is.
    let place = child_place c.args.rows.now c.requires.children c.as_slice-children.result.now c.as_slice-children.ensures.items n is.inner in
    let between = c.loop-low.invariant.between place.0 n place.1 is in
    absurd (omega (arith, between.0, between.1, c.loop-low-test.false))
