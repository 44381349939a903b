-- The lines in the module of an instance that feed bits, with these, by numbers.
use Rattle.std.specs.Prelude.{◌≡◌, ◌<◌, ◌≤◌, ◌⊎◌, ℕ, ◌+◌, List, [], ◌∷◌, ◌++◌, Option, Some, None, length, option_and_then, slice_get}
use Rattle.std.specs.List.{flat_map, range_with_len}
use Rattle.pw_defs.specs.declared.design.Body.{Body}
use Rattle.pw_defs.specs.declared.design.Body.TheVariants.{Module as ModuleBody, Cell as CellBody, Model as ModelBody}
use Rattle.list_defs.specs.Members.{IsIn}
use Rattle.module_rows.specs.Reads.{inst_at, module_at}
use Rattle.net_bits.specs.declared.placed.Placed.{Placed}
use Rattle.net_feeds.specs.LinkNumbers.{links_at}
use Rattle.net_feeds.specs.declared.links.LinkAt.{LinkAt}
use Rattle.net_inner.specs.Inside.{source_in}
use Rattle.net_inner.specs.declared.inner.Inner.{Inner}
use Rattle.net_instances.specs.Instances.{child_in}
use Rattle.net_instances.specs.declared.numbering.InstanceRow.{InstanceRow}
use Rattle.net_links.specs.declared.rows.LinkRow.{LinkRow}
use Rattle.net_places.specs.Plans.{rows_at}
use Rattle.net_places.specs.Tables.{bits_in}
use Rattle.net_loops.specs.declared.lines.Candidate.{Candidate}

-- a line, and a bit that it feeds
abbrev pub LineBit : Type 0
LineBit = ℕ × ℕ

-- a line feeds a bit, where both ends of the link are bits
abbrev pub line_if : ℕ → Option ℕ → Option ℕ → List LineBit
line_if line None source = []
line_if line (Some fed) None = []
line_if line (Some fed) (Some source) = (line, fed) ∷ []

abbrev pub lines_of_link : LinkAt → List LineBit
lines_of_link l = line_if l.line l.fed l.source

-- a bit that is fed inside an instance is fed by the line of the instance
abbrev pub line_of_bit : Inner → ℕ → InstanceRow → ℕ → List LineBit
line_of_bit inner line row local = line_if line (Some (row.first_bit + local)) (source_in inner row.body local)

-- the same for all bits of an instance, and for what there may be
abbrev pub lines_inside : Placed → Inner → ℕ → Option InstanceRow → List LineBit
lines_inside p inner line None = []
lines_inside p inner line (Some row) = flat_map (line_of_bit inner line row) (range_with_len 0 (bits_in (rows_at p.plans.now row.body)))

-- a line of a module makes an instance
abbrev pub lines_of_inst : Placed → Inner → ℕ → ℕ → ℕ → List LineBit
lines_of_inst p inner inst holder line =
    lines_inside p inner (inst_at p.modules.now holder line).line (option_and_then (slice_get p.instances.now.rows) (child_in p.instances.now.rows p.instances.now.children inst line))

abbrev pub lines_of_body : Placed → Inner → ℕ → Body → List LineBit
lines_of_body p inner inst (ModuleBody holder) = flat_map (lines_of_inst p inner inst holder) (range_with_len 0 (length (module_at p.modules.now holder).insts))
lines_of_body p inner inst (CellBody c) = []
lines_of_body p inner inst (ModelBody m) = []

abbrev pub lines_of_row : Placed → Inner → ℕ → Option InstanceRow → List LineBit
lines_of_row p inner inst None = []
lines_of_row p inner inst (Some row) = lines_of_body p inner inst row.body

-- all lines of an instance: links, and instances inside it
abbrev pub lines_at : Placed → List (List LinkRow) → Inner → ℕ → List LineBit
lines_at p links inner inst = flat_map lines_of_link (links_at links p.instances.now inst) ++ lines_of_row p inner inst (slice_get p.instances.now.rows inst)

-- the mark of a bit
abbrev pub mark_at : List (Option ℕ) → ℕ → Option ℕ
mark_at marks bit = option_and_then (λ mark. mark) (slice_get marks bit)

-- one line comes before another, or is the same, and its bit isn't ranked behind the other's
abbrev pub IsNotBehind : ℕ → ℕ → ℕ → ℕ → Type 0
IsNotBehind line rank other_line other_rank = (line < other_line) ⊎ ((line ≡ other_line) × (rank ≤ other_rank))

-- the first of the lines that feed bits with marks, and of those on one line the one of the least mark
pub record IsFirstLine (marks : List (Option ℕ)) (lines : List LineBit) (c : Candidate) : Type 0 where
  pub there : IsIn (c.line, c.bit) lines
  pub marked : mark_at marks c.bit ≡ Some c.rank
  pub first : (line bit rank : ℕ) → IsIn (line, bit) lines → mark_at marks bit ≡ Some rank → IsNotBehind c.line c.rank line rank

abbrev pub IsFirst : List (Option ℕ) → List LineBit → Option Candidate → Type 0
IsFirst marks lines None = (line bit rank : ℕ) → IsIn (line, bit) lines → mark_at marks bit ≡ Some rank → ⊥
IsFirst marks lines (Some c) = IsFirstLine marks lines c

-- the first among more lines
abbrev pub FindsFirst : List (Option ℕ) → List LineBit → Option Candidate → Option Candidate → Type 0
FindsFirst marks more old new = (lines : List LineBit) → IsFirst marks lines old → IsFirst marks (lines ++ more) new

-- of two of which the first may not be there
pub record IsLesserOf (old new found : Candidate) : Type 0 where
  pub one : (found ≡ old) ⊎ (found ≡ new)
  pub old_behind : IsNotBehind found.line found.rank old.line old.rank
  pub new_behind : IsNotBehind found.line found.rank new.line new.rank

abbrev pub IsLesser : Option Candidate → Candidate → Candidate → Type 0
IsLesser None new found = found ≡ new
IsLesser (Some old) new found = IsLesserOf old new found

-- no line of the first instances feeds a bit with a mark
abbrev pub HasNoneAt : Placed → List (List LinkRow) → Inner → List (Option ℕ) → ℕ → Type 0
HasNoneAt p links inner marks count = (inst : ℕ) → inst < count → IsFirst marks (lines_at p links inner inst) None

-- the first line of all, by instance
pub record IsFirstAt (p : Placed) (links : List (List LinkRow)) (inner : Inner) (marks : List (Option ℕ)) (inst : ℕ) (c : Candidate) : Type 0 where
  pub within : inst < length p.instances.now.rows
  pub before : HasNoneAt p links inner marks inst
  pub first : IsFirstLine marks (lines_at p links inner inst) c

abbrev pub IsFirstOfAll : Placed → List (List LinkRow) → Inner → List (Option ℕ) → Option (ℕ × Candidate) → Type 0
IsFirstOfAll p links inner marks None = HasNoneAt p links inner marks (length p.instances.now.rows)
IsFirstOfAll p links inner marks (Some found) = IsFirstAt p links inner marks found.0 found.1
