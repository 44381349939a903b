-- A name stands for one thing below an instance, or for nothing.
use Rattle.std.proofs.Common.{◌≡◌, ℕ, List, subst}
use Rattle.pw_defs.specs.declared.design.Design.{Design}
use Rattle.pw_defs.specs.declared.design.Named.{Named}
use Rattle.design_defs.specs.Joined.{HasJoinedName, HaveOwnNames}
use Rattle.design_defs.specs.Names.{joined}
use Rattle.design_defs.specs.Resolves.{HasNameBelow, Resolves, ResolvesToNothing}

-- where no two things have one joined name, a name is that of one thing below an instance
pub one_named_below : (d : Design) → HaveOwnNames d → (scope : ℕ) (name : List ℕ) (x y : Named) → HasNameBelow d scope name x
    → HasNameBelow d scope name y → x ≡ y
one_named_below d own scope name x y p q =
    let paths : p.path ≡ q.path = cc in
    own x y (joined q.path name) (subst (λ path. HasJoinedName d x (joined path name)) paths p.named) q.named

-- a name stands for one thing
pub one_resolved : (d : Design) → HaveOwnNames d → (scope : ℕ) (name : List ℕ) (x y : Named) → Resolves d scope name x → Resolves d scope name y → x ≡ y
one_resolved d own scope name x y p q = one_named_below d own scope name x y p.has_name q.has_name

-- it doesn't stand for something and for nothing
pub resolved_or_nothing : (d : Design) (scope : ℕ) (name : List ℕ) (x : Named) → Resolves d scope name x → ResolvesToNothing d scope name → ⊥
resolved_or_nothing d scope name x p none = none x p.has_name
