-- The rows of the nets of bodies.
use Rattle.std.specs.Prelude.{◌≡◌, ℕ, ◌+◌, ◌<◌, ◌≤◌, List, [], ◌∷◌, ◌++◌, Option, Some, length, map, slice_index_or}
use Rattle.std.specs.List.{All, slice_range, sum_by}
use Rattle.std.specs.Ordering.{on}
use Rattle.std.specs.declared.cmp.Ordering.{Ordering}
use Rattle.list_defs.specs.Orders.{AreAllRising, name_cmp}
use Rattle.design_defs.specs.Ranges.{width}
use Rattle.net_places.specs.declared.rows.NamedRow.{NamedRow}
use Rattle.net_places.specs.declared.rows.NetRow.{NetRow}
use Rattle.net_places.specs.declared.tables.BodyRow.{BodyRow}
use Rattle.net_places.specs.Gathered.{net_by}
use Rattle.net_places.specs.Nets.{OwnNet, first_bit, net_cmp}

-- rows go by their names
abbrev pub row_cmp : NamedRow → NamedRow → Ordering
row_cmp = on (λ (n : NamedRow). n.name.now) name_cmp

-- rows with the numbers of their first bits, from a number on
abbrev pub placed_from : ℕ → List NamedRow → List NetRow
placed_from first [] = []
placed_from first (n ∷ ns) = record n.row { first = first } ∷ placed_from (first + width n.row.range) ns

-- Rows are those of all nets that a body owns, rising by name, each with the number of its first bit among all bits.
pub record IsPlanOf (own : List ℕ → Option OwnNet) (names : List (List ℕ)) (rows : List NetRow) : Type 0 where
  pub named : All (λ row. row.name < length names) rows
  pub nets : AreAllRising net_cmp (λ n. own n.name ≡ Some n) (map (net_by names) rows)
  pub firsts : (i : ℕ) (d : NetRow) → i < length rows → (slice_index_or rows i d).first ≡ first_bit (map (net_by names) rows) i

-- a body with such rows comes behind others
abbrev pub AddsPlan : (List ℕ → Option OwnNet) → List (List ℕ) → List (List NetRow) → List (List NetRow) → Type 0
AddsPlan own names old new = (rows : List NetRow) × (new ≡ old ++ rows ∷ []) × IsPlanOf own names rows

-- how many bits rows have
abbrev pub bits_in : List NetRow → ℕ
bits_in = sum_by (λ row. width row.range)

-- the rows of a body among those of all
abbrev pub part : List NetRow → BodyRow → List NetRow
part nets b = slice_range nets b.first b.end

-- a part of the rows, with the number of its bits
pub record IsPart (nets : List NetRow) (b : BodyRow) : Type 0 where
  pub rises : b.first ≤ b.end
  pub end : b.end ≤ length nets
  pub bits : b.bits ≡ bits_in (part nets b)
