use Rattle.std.proofs.Common.{◌≡◌, ℕ, get_or, ◌+◌, length, subst, sym, ap, ◌∙◌}
use Rattle.std.proofs.lemmas.List.{length_push}
use Rattle.bench.specs.Rows.{ArePicked}
use Rattle.bench.proofs.RowLemmas.{each_push}
use Rattle.bench.proofs.random.picked.Goals as goal

pub loop-preserved : goal.loop-preserved
loop-preserved c = record {
  count = let e = c.loop.invariant.count in ap length c.in_ok-push.ensures.items ∙ length_push c.loop.kids.items c.number_at.result ∙ ap (λ (n : ℕ). n + 1) e;
  each = subst (ArePicked c.args.given.now) (sym c.in_ok-push.ensures.items) (record { each = each_push (λ n. (at : ℕ) × (n ≡ get_or c.args.given.now at 0)) c.loop.kids.items c.number_at.result c.loop.invariant.each.each (c.below-at.result, c.number_at.ensures) });
}
