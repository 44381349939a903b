use Rattle.std.proofs.Common.{◌≡◌, ◌≢◌, ℕ, sym, ◌∙◌, subst}
use Rattle.std.specs.declared.cmp.Ordering.TheVariants.{Less, Equal, Greater}
use Rattle.net_instances.specs.Trees.{parent_in}
use Rattle.net_instances.proofs.TextLemmas.{AreOuter, outer_further, outer_same, outer_says}
use Rattle.net_instances.proofs.texts.compare.Goals as goal

pub returns-in-Less : goal.returns-in-Less
returns-in-Less c v w of_a of_b named_v named_w =
    let outer = c.loop-left.invariant v w of_a of_b named_v named_w in
    let says = outer_says c.args.modules.now.symbols c.args.rows.now c.loop-left.left c.loop-left.right v w outer Less
    (sym c.in-Less.is ∙ c.compare_texts.ensures outer.left_way outer.right_way outer.left_down outer.right_down) in
    sym (outer.same ∙ says)

pub returns-in-Greater : goal.returns-in-Greater
returns-in-Greater c v w of_a of_b named_v named_w =
    let outer = c.loop-left.invariant v w of_a of_b named_v named_w in
    let says = outer_says c.args.modules.now.symbols c.args.rows.now c.loop-left.left c.loop-left.right v w outer Greater
    (sym c.in-Greater.is ∙ c.compare_texts.ensures outer.left_way outer.right_way outer.left_down outer.right_down) in
    sym (outer.same ∙ says)

pub loop-left-preserved : goal.loop-left-preserved
loop-left-preserved c v w of_a of_b named_v named_w =
    let symbols = c.args.modules.now.symbols in
    let rows = c.args.rows.now in
    let left : ℕ = c.loop-left.left in
    let right : ℕ = c.loop-left.right in
    let differ : left ≢ right = c.loop-left-test.true in
    let outer = c.loop-left.invariant v w of_a of_b named_v named_w in
    let says = outer_says symbols rows left right v w outer Equal
    (sym c.in-Equal.is ∙ c.compare_texts.ensures outer.left_way outer.right_way outer.left_down outer.right_down) in
    subst (λ (r : ℕ). AreOuter symbols rows c.parent_in-left.result r v w) (sym c.parent_in-right.ensures.is)
    (subst (λ (l : ℕ). AreOuter symbols rows l (parent_in rows right) v w) (sym c.parent_in-left.ensures.is) (outer_further symbols rows left right v w outer differ says))

pub returns : goal.returns
returns c v w of_a of_b named_v named_w =
    let same : c.loop-left.left ≡ c.loop-left.right = c.loop-left-test.false in
    outer_same c.args.modules.now.symbols c.args.rows.now c.loop-left.left c.loop-left.right v w same (c.loop-left.invariant v w of_a of_b named_v named_w)
