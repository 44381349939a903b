use Rattle.std.proofs.Common.{◌∙◌, ◌++◌, ◌∷◌, [], None, ap}
use Rattle.std.proofs.lemmas.List.{replicate_more}
use Rattle.net_inner.proofs.inner.no_sources.Goals as goal

pub loop-done-preserved : goal.loop-done-preserved
loop-done-preserved c = c.in_ok-push.ensures.items ∙ ap (λ xs. xs ++ None ∷ []) c.loop-done.invariant ∙ replicate_more c.loop-done.done None
