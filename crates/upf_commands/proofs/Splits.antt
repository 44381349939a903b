-- Two ways to split a list at an item.
use Rattle.std.proofs.Common.{◌≡◌, List, [], ◌∷◌, ◌++◌, refl, sym, ap}

-- the items of two splits are the same, or the first stands before the second, or behind it
pub data Compared {X : Type 0} (b : List X) (x : X) (c : List X) (y : X) : Type 0 where
  same : b ≡ c → x ≡ y → Compared b x c y
  earlier : (more : List X) → c ≡ b ++ x ∷ more → Compared b x c y
  later : (more : List X) → b ≡ c ++ y ∷ more → Compared b x c y

pub compared : {X : Type 0} (b : List X) (x : X) (a : List X) (c : List X) (y : X) (d : List X) → b ++ x ∷ a ≡ c ++ y ∷ d → Compared b x c y
compared [] x a [] y d e = same refl (cc)
compared [] x a (z ∷ c) y d e = earlier c (let first : x ≡ z = cc in ap (λ w. w ∷ c) (sym first))
compared (w ∷ b) x a [] y d e = later b (let first : w ≡ y = cc in ap (λ v. v ∷ b) first)
compared {X} (w ∷ b) x a (z ∷ c) y d e = by (compared b x a c y d (cc))
  where
    first : w ≡ z
    first = cc

    by : Compared b x c y → Compared (w ∷ b) x (z ∷ c) y
    by (same f g) = same (cc) g
    by (earlier more f) = earlier more (cc)
    by (later more f) = later more (cc)
