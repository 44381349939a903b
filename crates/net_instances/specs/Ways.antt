-- Ways down to instances, by the numbers of what each is inside.
use Rattle.std.specs.Prelude.{◌≡◌, ◌≢◌, ◌<◌, ◌==◌, ℕ, zero, suc, List, [], ◌∷◌, ◌++◌, Option, Some, None, length, nat_lt, if◌then◌else◌}
use Rattle.std.specs.declared.cmp.Ordering.{Ordering}
use Rattle.std.specs.declared.cmp.Ordering.TheVariants.{Less, Equal, Greater}
use Rattle.std.specs.List.{AllByRecursion}
use Rattle.design_defs.specs.Hierarchy.{Way}
use Rattle.net_instances.specs.declared.tree.TreeRow.{TreeRow}
use Rattle.net_instances.specs.Trees.{name_in, parent_in}

-- the names of a way from the outermost on, a slash before each
abbrev pub slashed : Way → List ℕ
slashed [] = []
slashed (name ∷ outer) = slashed outer ++ 47 ∷ name

-- no name of a way is empty
abbrev pub AreNamed : Way → Type 0
AreNamed = AllByRecursion (λ name. name ≢ [])

-- the way from one instance down to another
pub data IsDown (symbols : List (List ℕ)) (rows : List TreeRow) (from : ℕ) : ℕ → Way → Type 0 where
  here : (n : ℕ) (way : Way) → n ≡ from → way ≡ [] → IsDown symbols rows from n way
  further : (n : ℕ) (way outer : Way) → from < n → IsDown symbols rows from (parent_in rows n) outer → way ≡ name_in symbols rows n ∷ outer
      → IsDown symbols rows from n way

-- an instance stands right below another, on the way from that to a third
pub record IsStep (symbols : List (List ℕ)) (rows : List TreeRow) (from to : ℕ) (way : Way) (below : ℕ) : Type 0 where
  pub rest : Way
  pub parts : way ≡ rest ++ name_in symbols rows below ∷ []
  pub down : IsDown symbols rows below to rest

-- an instance that two are at or below
pub record IsShared (symbols : List (List ℕ)) (rows : List TreeRow) (a b : ℕ) (v w : Way) (shared : ℕ) : Type 0 where
  pub to_a : Way
  pub to_b : Way
  pub outer : Way
  pub down_a : IsDown symbols rows shared a to_a
  pub down_b : IsDown symbols rows shared b to_b
  pub parts_a : v ≡ to_a ++ outer
  pub parts_b : w ≡ to_b ++ outer

-- what is left of the text of the way from an instance down to another, where some bytes are left of the name of the first
pub record IsLeft (symbols : List (List ℕ)) (rows : List TreeRow) (to at : ℕ) (rest text : List ℕ) : Type 0 where
  pub way : Way
  pub down : IsDown symbols rows at to way
  pub is : text ≡ rest ++ slashed way

-- the first byte of such a text
abbrev pub first_byte : ℕ → List ℕ → ℕ → Option ℕ
first_byte at (byte ∷ rest) to = Some byte
first_byte at [] to = if nat_lt at to then Some 47 else None

-- how texts compare that begin so, where these bytes decide it
abbrev pub by_first : Option ℕ → Option ℕ → Option Ordering
by_first None None = Some Equal
by_first None (Some right) = Some Less
by_first (Some left) None = Some Greater
by_first (Some left) (Some right) = if nat_lt left right then Some Less else (if left == right then None else Some Greater)

-- The way down to an instance from the top. (No way has more than `more` names, since what an instance is inside comes
-- before it.)
unfoldable pub way_to : List (List ℕ) → List TreeRow → ℕ → ℕ → Way
way_to symbols rows more zero = []
way_to symbols rows zero (suc n) = []
way_to symbols rows (suc more) (suc n) = name_in symbols rows (suc n) ∷ way_to symbols rows more (parent_in rows (suc n))

abbrev pub way_in : List (List ℕ) → List TreeRow → ℕ → Way
way_in symbols rows n = way_to symbols rows n n

-- no instance of these rows has an empty name
abbrev pub AreAllNamed : List (List ℕ) → List TreeRow → Type 0
AreAllNamed symbols rows = (n : ℕ) → n < length rows → AreNamed (way_in symbols rows n)
