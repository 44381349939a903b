-- What is found along a list: one thing for each that has one.
use Rattle.std.specs.Prelude.{List, [], ◌∷◌}

-- ys are what the xs have, in their order: each x has one, or has none
pub data AreFound {X Y : Type 0} (Has : X → Y → Type 0) (HasNone : X → Type 0) : List X → List Y → Type 0 where
  end : AreFound Has HasNone [] []
  found : (x : X) (y : Y) (xs : List X) (ys : List Y) → Has x y → AreFound Has HasNone xs ys → AreFound Has HasNone (x ∷ xs) (y ∷ ys)
  passed : (x : X) (xs : List X) (ys : List Y) → HasNone x → AreFound Has HasNone xs ys → AreFound Has HasNone (x ∷ xs) ys
