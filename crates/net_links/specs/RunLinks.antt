-- The links of lines by the numbers of the bits that their expressions name.
use Rattle.std.specs.Prelude.{◌≡◌, ℕ, ◌<◌, ◌≤◌, ⊤, List, Option, Some, None, MatchOption, map, min, reverse}
use Rattle.std.specs.List.{AllByRecursion, enumerate_from, filter_map, zip}
use Rattle.pw_defs.specs.declared.cells.Dir.{Dir}
use Rattle.pw_defs.specs.declared.cells.Dir.TheVariants.{Input, Output}
use Rattle.net_runs.specs.declared.runs.Run.{Run}
use Rattle.net_runs.specs.declared.runs.Run.TheVariants.{Bits, Constants}
use Rattle.net_runs.specs.Leaves.{runs_bits}
use Rattle.net_runs.specs.LocalNumbers.{count_of}
use Rattle.net_links.specs.declared.rows.LinkEnd.{LinkEnd}
use Rattle.net_links.specs.declared.rows.LinkEnd.TheVariants.{Own, Child, Constant}
use Rattle.net_links.specs.declared.rows.LinkRow.{LinkRow}
use Rattle.net_links.specs.LocalLinks.{LocalEnd, LocalLink}

-- a bit of the module, or a constant
abbrev pub own_end : Option ℕ → LocalEnd
own_end (Some bit) = LocalEnd.own bit
own_end None = LocalEnd.constant

-- a bit of an input of what a line makes is fed by what is connected
abbrev pub local_in : ℕ → ℕ → ℕ × Option ℕ → LocalLink
local_in inst line e = record { fed = LocalEnd.child inst e.0; source = own_end e.1; line = line }

-- what is connected is fed by a bit of an output; a constant is fed by nothing
abbrev pub local_out : ℕ → ℕ → ℕ × Option ℕ → Option LocalLink
local_out inst line (bit, Some to) = Some (record { fed = LocalEnd.own to; source = LocalEnd.child inst bit; line = line })
local_out inst line (bit, None) = None

-- the links of a port, whose bits have numbers from one on, by its direction
abbrev pub locals_of_port : Dir → ℕ → ℕ → ℕ → List (Option ℕ) → List LocalLink
locals_of_port Input inst line first bits = map (local_in inst line) (enumerate_from first bits)
locals_of_port Output inst line first bits = filter_map (local_out inst line) (enumerate_from first bits)

-- a bit of the left side of an assignment is fed by one of the right side
abbrev pub local_across : ℕ → Option ℕ × Option ℕ → LocalLink
local_across line e = record { fed = own_end e.0; source = own_end e.1; line = line }

-- the links of an assignment
abbrev pub locals_of_sides : ℕ → List (Option ℕ) → List (Option ℕ) → List LocalLink
locals_of_sides line left right = map (local_across line) (zip left right)

-- the end that a run begins with
abbrev pub end_of_run : Run → LinkEnd
end_of_run (Bits first count) = Own first
end_of_run (Constants count) = Constant

-- the bits of an input from one on, with the run that is connected there
abbrev pub row_in : ℕ → ℕ → ℕ → Run → LinkRow
row_in inst line bit run = record { fed = Child inst bit; source = end_of_run run; count = count_of run; line = line }

-- the bits of an output from one on, with the bits that are connected there
abbrev pub row_out : ℕ → ℕ → ℕ → ℕ → ℕ → LinkRow
row_out inst line bit first count = record { fed = Own first; source = Child inst bit; count = count; line = line }

-- the runs with which two sides begin, as far as both reach
abbrev pub row_across : ℕ → Run → Run → LinkRow
row_across line left right =
    record { fed = end_of_run left; source = end_of_run right; count = min (count_of left) (count_of right); line = line }

-- the number of an end has 32 bits
abbrev pub IsNarrowEnd : LinkEnd → Type 0
IsNarrowEnd (Own bit) = bit ≤ 4294967295
IsNarrowEnd (Child line bit) = bit ≤ 4294967295
IsNarrowEnd Constant = ⊤

-- all numbers of a row have 32 bits
pub record IsNarrow (row : LinkRow) : Type 0 where
  pub fed : IsNarrowEnd row.fed
  pub source : IsNarrowEnd row.source
  pub count : row.count ≤ 4294967295

-- an end that is there only where its number has 32 bits
abbrev pub IsEndIfNarrow : LinkEnd → Option LinkEnd → Type 0
IsEndIfNarrow end narrow = MatchOption narrow (IsNarrowEnd end → ⊥) (λ found. found ≡ end)

-- the number of a bit is below the most bits that a body may have
abbrev pub IsFewBit : Option ℕ → Type 0
IsFewBit None = ⊤
IsFewBit (Some bit) = bit < 4294967295

-- the same, and it is no constant
abbrev pub IsFewOwn : Option ℕ → Type 0
IsFewOwn None = ⊥
IsFewOwn (Some bit) = bit < 4294967295

-- numbers of bits that all are below it
abbrev pub AreFew : List (Option ℕ) → Type 0
AreFew = AllByRecursion IsFewBit

abbrev pub AreFewOwn : List (Option ℕ) → Type 0
AreFewOwn = AllByRecursion IsFewOwn

-- the bits of runs, the last one first
abbrev pub bits_back : List Run → List (Option ℕ)
bits_back runs = runs_bits (reverse runs)
