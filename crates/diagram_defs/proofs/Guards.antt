-- A test that guards another.
use Rattle.std.proofs.Common.{◌≡◌, Bool, true, false, ◌&&◌, ◌∙◌, ap, refl}
use Rattle.std.proofs.Math.Bool.{and-false}

-- a guard that holds wherever the test does adds nothing
pub guards : (guard test : Bool) → (test ≡ true → guard ≡ true) → (guard && test) ≡ test
guards guard true h = ap (λ (b : Bool). b && true) (h refl)
guards guard false h = and-false guard

-- a second guard that holds wherever the first does adds nothing
pub guards_second : (guard second test other : Bool) → (guard ≡ true → second ≡ true) → test ≡ other → (guard && (second && test)) ≡ (guard && other)
guards_second true second test other h e = ap (λ (m : Bool). m && test) (h refl) ∙ e
guards_second false second test other h e = refl

-- behind a guard two tests have to agree only where it holds
pub guarded : (guard test other : Bool) → (guard ≡ true → test ≡ other) → (guard && test) ≡ (guard && other)
guarded true test other h = h refl
guarded false test other h = refl

-- a test that holds wherever its guard does adds nothing to it
pub guard_alone : (guard test : Bool) → (guard ≡ true → test ≡ true) → (guard && test) ≡ guard
guard_alone true test h = h refl
guard_alone false test h = refl
