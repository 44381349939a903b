-- What two sets of a level are joined to.
use Rattle.std.specs.Prelude.{◌≡◌, ◌≢◌, ℕ, Bool, not, ◌&&◌, ◌||◌, ◌⊎◌, List}
use Rattle.diagram_defs.specs.Diagrams.{Diagram, member}
use Rattle.diagram_defs.specs.Sets.{full_set}
use Rattle.state_diagrams.specs.declared.joins.Join.{Join}
use Rattle.state_diagrams.specs.declared.joins.Join.TheVariants.{Both, Either, Neither}

-- whether the join has a rest, by whether the two sets have it
abbrev pub join_test : Join → Bool → Bool → Bool
join_test Both x y = x && y
join_test Either x y = x || y
join_test Neither x y = not (x || y)

-- the rests of the level that the join has
abbrev pub joined_set : Diagram → Join → ℕ → ℕ → ℕ → List ℕ → Bool
joined_set d join level a b rest =
    full_set d level rest && join_test join (member d.nodes a rest) (member d.nodes b rest)

-- two different sets, neither of them empty
abbrev pub AreApart : ℕ → ℕ → Type 0
AreApart a b = (a ≢ 0) × (b ≢ 0) × (a ≢ b)

-- n is the intersection of an empty set with another, or of a set with itself
abbrev pub IsPlainAnd : ℕ → ℕ → ℕ → Type 0
IsPlainAnd a b n = ((a ≡ 0) × (n ≡ 0)) ⊎ (((b ≡ 0) × (n ≡ 0)) ⊎ ((a ≡ b) × (n ≡ a)))

-- n is the union of an empty set with another, or of a set with itself
abbrev pub IsPlainOr : ℕ → ℕ → ℕ → Type 0
IsPlainOr a b n = ((a ≡ 0) × (n ≡ b)) ⊎ (((b ≡ 0) × (n ≡ a)) ⊎ ((a ≡ b) × (n ≡ b)))
