-- Nets that are gathered, name by name.
use Rattle.std.specs.Prelude.{◌≡◌, ℕ, ◌==◌, ◌<◌, ◌≤◌, Bool, true, List, ◌++◌, Some, None, length, map, slice_index, slice_get}
use Rattle.std.specs.List.{All, count_by, list_any}
use Rattle.list_defs.specs.Members.{IsIn, all_differ, same_name}
use Rattle.module_rows.specs.View.{name_at}
use Rattle.net_places.specs.declared.rows.NamedRow.{NamedRow}
use Rattle.net_places.specs.declared.rows.NetRow.{NetRow}
use Rattle.net_places.specs.declared.bodies.Indexed.{Indexed}
use Rattle.net_places.specs.declared.gathering.Gathering.{Gathering}
use Rattle.net_places.specs.Nets.{OwnNet}
use Rattle.net_places.specs.Mentions.{Mention, is_mentioned, net_mentioned}

-- the net of a row, where names have these spellings
abbrev pub net_by : List (List ℕ) → NetRow → OwnNet
net_by names row = record { name = name_at names row.name; range = row.range; port = row.port }

-- the net of a row with its name
abbrev pub net_of : NamedRow → OwnNet
net_of n = record { name = n.name.now; range = n.row.range; port = n.row.port }

-- what a row says of its name
abbrev pub mention_by : List (List ℕ) → NetRow → Mention
mention_by names row = record { name = name_at names row.name; net = Some (net_by names row) }

-- a name that is no net
abbrev pub no_net : List (List ℕ) → ℕ → Mention
no_net names symbol = record { name = name_at names symbol; net = None }

-- the spelling of a row is that of its name
abbrev pub IsSpelled : List (List ℕ) → NamedRow → Type 0
IsSpelled names n = slice_get names n.row.name ≡ Some n.name.now

-- whether a net has the name
abbrev pub is_named : List ℕ → OwnNet → Bool
is_named name n = same_name name n.name

-- the rows are the nets that were mentioned, each once
pub record AreGathered (names : List (List ℕ)) (rows : List NamedRow) (mentions : List Mention) : Type 0 where
  pub spelled : All (IsSpelled names) rows
  pub each : (n : OwnNet) → IsIn n (map net_of rows) → net_mentioned mentions n.name ≡ Some n
  pub all : (name : List ℕ) (n : OwnNet) → net_mentioned mentions name ≡ Some n → IsIn n (map net_of rows)
  pub once : (name : List ℕ) → count_by (is_named name) (map net_of rows) ≤ 1

-- the symbols with this mark are those that were mentioned, and the rows are the nets
pub record HasGathered (names : List (List ℕ)) (mark : ℕ) (g : Gathering) (mentions : List Mention) : Type 0 where
  pub differ : all_differ same_name names ≡ true
  pub count : length g.marks.items ≡ length names
  pub marked : (symbol : ℕ) → symbol < length names → (slice_index g.marks.items symbol == mark) ≡ is_mentioned mentions (name_at names symbol)
  pub latest : (symbol : ℕ) → slice_index g.marks.items symbol ≤ mark
  pub rows : AreGathered names g.nets.items mentions

-- after these mentions, what was gathered before and they are gathered
abbrev pub Gathers : List (List ℕ) → ℕ → Gathering → Gathering → List Mention → Type 0
Gathers names mark old new more = (before : List Mention) → HasGathered names mark old before → HasGathered names mark new (before ++ more)

-- what a row says of a name
abbrev pub mention_of : List ℕ → NetRow → Mention
mention_of name row = record { name = name; net = Some (record { name = name; range = row.range; port = row.port }) }

-- the index has the names that were mentioned, and the rows are the nets
pub record HasIndexed (names : List (List ℕ)) (x : Indexed) (mentions : List Mention) : Type 0 where
  pub indexed : (name : List ℕ) → list_any (same_name name) x.index ≡ is_mentioned mentions name
  pub rows : AreGathered names x.rows.items mentions

-- no symbol bears this mark or a later one
pub record IsReady (names : List (List ℕ)) (mark : ℕ) (g : Gathering) : Type 0 where
  pub differ : all_differ same_name names ≡ true
  pub count : length g.marks.items ≡ length names
  pub earlier : (symbol : ℕ) → slice_index g.marks.items symbol < mark
