-- Lists that gain an item.
use Rattle.std.specs.Prelude.{◌≡◌, ◌⊎◌, List}
use Rattle.list_defs.specs.Members.{IsIn}

-- the second list has what the first one has, and one more
pub record Gains {X : Type 0} (old new : List X) (x : X) : Type 0 where
  pub kept : (y : X) → IsIn y old → IsIn y new
  pub there : IsIn x new
  pub only : (y : X) → IsIn y new → IsIn y old ⊎ (y ≡ x)
