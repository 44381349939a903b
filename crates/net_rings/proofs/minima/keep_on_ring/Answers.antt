use Rattle.std.proofs.Common.{◌≡◌, ◌⊎◌, inl, inr, [], ◌∷◌, refl, sym, subst, rules}
use Rattle.list_defs.specs.Members.{IsIn}
use Rattle.list_defs.proofs.Members.{IsIn-append_left, IsIn-append_right}
use Rattle.list_defs.specs.Rings.{IsReached}
use Rattle.net_rings.specs.Fed.{IsFedByThere}
use Rattle.net_rings.proofs.UseLemmas.{taken_cases}
use Rattle.net_rings.proofs.minima.keep_on_ring.Goals as goal

pub returns-clause-kept : goal.returns-clause-kept
returns-clause-kept c n inside =
    subst (IsIn n) (sym c.in_ok-push.ensures.items) (IsIn-append_left n c.args.found.now.items (c.args.bit ∷ []) inside)

pub returns-clause-only : goal.returns-clause-only
returns-clause-only c n inside = by (taken_cases n c.args.found.now.items c.args.bit (subst (IsIn n) c.in_ok-push.ensures.items inside))
  where
    ring : IsReached (IsFedByThere c.args.rows.now) c.args.bit c.args.bit
    ring = search rules

    by : IsIn n c.args.found.now.items ⊎ (n ≡ c.args.bit) → IsIn n c.args.found.now.items ⊎ ((n ≡ c.args.bit) × IsReached (IsFedByThere c.args.rows.now) c.args.bit c.args.bit)
    by (inl early) = inl early
    by (inr same) = inr (same, ring)

pub returns-clause-each : goal.returns-clause-each
returns-clause-each c ring =
    subst (IsIn c.args.bit) (sym c.in_ok-push.ensures.items) (IsIn-append_right c.args.bit c.args.found.now.items (c.args.bit ∷ []) (inl refl))
