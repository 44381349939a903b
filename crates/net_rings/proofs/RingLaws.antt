-- What is reached, step by step, and what is gone from rings.
use Rattle.std.proofs.Common.{◌≡◌, ℕ, ◌⊎◌, inl, inr, List, refl, subst, sym}
use Rattle.list_defs.specs.Members.{IsIn}
use Rattle.list_defs.specs.Rings.{IsReached}
use Rattle.net_rings.specs.Peeled.{IsFedByLeft, IsGone}

module _ {X : Type 0} (Step : X → X → Type 0) where
  -- one step more at the end
  pub reached_last : (x y z : X) → IsReached Step x y → Step y z → IsReached Step x z
  reached_last _ _ z (IsReached.one x y step) last = IsReached.more x y z step (IsReached.one y z last)
  reached_last _ _ w (IsReached.more x y z step rest) last = IsReached.more x y w step (reached_last y z w rest last)

  -- one way behind another
  pub reached_both : (x y z : X) → IsReached Step x y → IsReached Step y z → IsReached Step x z
  reached_both _ _ z (IsReached.one x y step) rest = IsReached.more x y z step rest
  reached_both _ _ w (IsReached.more x y z step first) rest = IsReached.more x y w step (reached_both y z w first rest)

  -- the last step of a way
  pub record LastStep (x y : X) : Type 0 where
    pub before : X
    pub step : Step before y
    pub way : (before ≡ x) ⊎ IsReached Step x before

  pub last_step : (x y : X) → IsReached Step x y → LastStep x y
  last_step _ _ (IsReached.one x y step) = record { before = x; step = step; way = inl refl }
  last_step _ _ (IsReached.more x y z step rest) =
      let last = last_step y z rest in
      record { before = last.before; step = last.step; way = inr (by last.before last.way) }
    where
      by : (b : X) → (b ≡ y) ⊎ IsReached Step y b → IsReached Step x b
      by b (inl same) = subst (λ n. IsReached Step x n) (sym same) (IsReached.one x y step)
      by b (inr way) = IsReached.more x y b step way

  -- the one before on a ring
  pub record RingStep (x : X) : Type 0 where
    pub before : X
    pub step : Step before x
    pub ring : IsReached Step before before

  pub ring_before : (x : X) → IsReached Step x x → RingStep x
  ring_before x ring =
      let last = last_step x x ring in
      record { before = last.before; step = last.step; ring = by last.before last.step last.way }
    where
      by : (b : X) → Step b x → (b ≡ x) ⊎ IsReached Step x b → IsReached Step b b
      by b step (inl same) = subst (λ n. IsReached Step n n) (sym same) ring
      by b step (inr way) = IsReached.more b x b step way

-- a ring whose steps are also steps of another kind, each of them to something on a ring
module _ {X : Type 0} (Step Other : X → X → Type 0) (each : (a b : X) → Step a b → IsReached Step b b → Other a b) where
  turned : (x y : X) → ((x ≡ y) ⊎ IsReached Step x y) → IsReached Step y x → IsReached Other y x
  turned _ _ back (IsReached.one y x step) = IsReached.one y x (each y x step (round back))
    where
      round : (x ≡ y) ⊎ IsReached Step x y → IsReached Step x x
      round (inl same) = subst (λ n. IsReached Step n x) (sym same) (IsReached.one y x step)
      round (inr way) = reached_last Step x y x way step
  turned _ _ back (IsReached.more y z x step rest) =
      IsReached.more y z x (each y z step (reached_both Step z x z rest (to_z back))) (turned x z (inr (to_z back)) rest)
    where
      to_z : (x ≡ y) ⊎ IsReached Step x y → IsReached Step x z
      to_z (inl same) = subst (λ n. IsReached Step n z) (sym same) (IsReached.one y z step)
      to_z (inr way) = reached_last Step x y z way step

  pub ring_turned : (x : X) → IsReached Step x x → IsReached Other x x
  ring_turned x ring = turned x x (inl refl) ring

-- what is gone is on no ring of bits that weren't taken
module _ (sources : List (List ℕ)) (taken : List ℕ) where
  pub gone_apart : (n : ℕ) → IsGone sources taken n → IsReached (IsFedByLeft sources taken) n n → ⊥
  gone_apart _ (IsGone.was_taken n is) ring =
      let last = ring_before (IsFedByLeft sources taken) n ring in
      last.step.1 is
  gone_apart _ (IsGone.unused n all) ring =
      let last = ring_before (IsFedByLeft sources taken) n ring in
      gone_apart last.before (all last.before last.step.0) last.ring

  -- what is gone stays gone where more is taken
  pub gone_more : (more : List ℕ) → ((n : ℕ) → IsIn n taken → IsIn n more) → (n : ℕ) → IsGone sources taken n → IsGone sources more n
  gone_more more covers _ (IsGone.was_taken n is) = IsGone.was_taken n (covers n is)
  gone_more more covers _ (IsGone.unused n all) = IsGone.unused n (λ fed feeds. gone_more more covers fed (all fed feeds))
