-- There is one walk from a bit.
use Rattle.std.specs.Prelude.{◌≡◌, ℕ, List}
use Rattle.pw_defs.specs.declared.design.Bit.{Bit}
use Rattle.pw_defs.specs.declared.design.Feeder.{Feeder}
use Rattle.design_defs.specs.Walks.{IsWalk}

-- two walks from one bit pass the same bits and end the same way
abbrev pub HasOneWalk : Type 0
HasOneWalk = (bits : List Bit) (n : ℕ) (p q : List ℕ) (e f : Feeder) → IsWalk bits n p e → IsWalk bits n q f → (p ≡ q) × (e ≡ f)
