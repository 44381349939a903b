-- The links of a hierarchy by the numbers of instances and bits.
use Rattle.std.specs.Prelude.{◌≡◌, ℕ, ◌+◌, ⊤, List, [], Option, Some, None, map, option_map, option_and_then, slice_get, slice_index_or}
use Rattle.std.specs.List.{flat_map, range_with_len}
use Rattle.pw_defs.specs.declared.design.Body.{Body}
use Rattle.pw_defs.specs.declared.design.Body.TheVariants.{Module as ModuleBody, Cell as CellBody, Model as ModelBody}
use Rattle.pw_defs.specs.declared.netlist.Module.{Module}
use Rattle.design_defs.specs.Bits.{Spot}
use Rattle.design_defs.specs.Hierarchy.{IsOfModule, Sources, Way}
use Rattle.design_defs.specs.Links.{IsLink}
use Rattle.net_instances.specs.Instances.{child_in}
use Rattle.net_instances.specs.declared.numbering.InstanceRow.{InstanceRow}
use Rattle.net_instances.specs.declared.numbering.Instances.{Instances}
use Rattle.net_links.specs.LocalLinks.{AreLocalLinks, LocalEnd, LocalLink, locals}
use Rattle.net_links.specs.declared.rows.LinkRow.{LinkRow}
use Rattle.net_feeds.specs.declared.links.LinkAt.{LinkAt}

-- the rows of each module that has an instance are its links
abbrev pub AreAllLocal : Sources → List (List LinkRow) → Type 0
AreAllLocal s links = (way : Way) (number : ℕ) (m : Module) → IsOfModule s way number m → AreLocalLinks s number m (locals (slice_index_or links number []))

-- the number of the first bit of an instance
abbrev pub first_bit_of : Instances → ℕ → Option ℕ
first_bit_of made inst = option_map (λ (row : InstanceRow). row.first_bit) (slice_get made.rows inst)

-- the number of a bit so far behind the first one
abbrev pub bit_behind : ℕ → Option ℕ → Option ℕ
bit_behind bit = option_map (λ first. first + bit)

-- the number of the bit that an end of a link is, where the module of the link is that of an instance; a constant has none
abbrev pub end_number : Instances → ℕ → LocalEnd → Option ℕ
end_number made inst (LocalEnd.own bit) = bit_behind bit (first_bit_of made inst)
end_number made inst (LocalEnd.child line bit) = bit_behind bit (option_and_then (first_bit_of made) (child_in made.rows made.children inst line))
end_number made inst LocalEnd.constant = None

-- the same for a link
abbrev pub link_at : Instances → ℕ → LocalLink → LinkAt
link_at made inst l = record { fed = end_number made inst l.fed; source = end_number made inst l.source; line = l.line }

-- the rows of the links of what an instance is
abbrev pub rows_of_body : List (List LinkRow) → Body → List LinkRow
rows_of_body links (ModuleBody number) = slice_index_or links number []
rows_of_body links (CellBody c) = []
rows_of_body links (ModelBody m) = []

abbrev pub rows_of_row : List (List LinkRow) → Option InstanceRow → List LinkRow
rows_of_row links None = []
rows_of_row links (Some row) = rows_of_body links row.body

abbrev pub rows_of : List (List LinkRow) → Instances → ℕ → List LinkRow
rows_of links made inst = rows_of_row links (slice_get made.rows inst)

-- the links of rows
abbrev pub links_of_rows : Instances → ℕ → List LinkRow → List LinkAt
links_of_rows made inst rows = map (link_at made inst) (locals rows)

-- the links of the lines in the module of an instance; the number of each is its place here
abbrev pub links_at : List (List LinkRow) → Instances → ℕ → List LinkAt
links_at links made inst = links_of_rows made inst (rows_of links made inst)

-- the links of the first instances
abbrev pub links_before : List (List LinkRow) → Instances → ℕ → List LinkAt
links_before links made count = flat_map (links_at links made) (range_with_len 0 count)

-- the bit that has a number, and no bit where there is none
abbrev pub HasSpotAt : List Spot → Option ℕ → Option Spot → Type 0
HasSpotAt spots None None = ⊤
HasSpotAt spots None (Some x) = ⊥
HasSpotAt spots (Some bit) None = ⊥
HasSpotAt spots (Some bit) (Some x) = slice_get spots bit ≡ Some x

-- a link of the hierarchy has the numbers of its bits
pub record IsLinkOf (s : Sources) (spots : List Spot) (way : Way) (number : ℕ) (l : LinkAt) : Type 0 where
  pub fed_spot : Spot
  pub source_spot : Option Spot
  pub fed_there : HasSpotAt spots l.fed (Some fed_spot)
  pub source_there : HasSpotAt spots l.source source_spot
  pub link : IsLink s way number l.line fed_spot source_spot

-- a link of the hierarchy is one of those by numbers
pub record IsLinkAt (spots : List Spot) (ways : List Way) (links : List (List LinkRow)) (made : Instances) (way : Way) (number line : ℕ) (fed : Spot) (source : Option Spot) : Type 0 where
  pub inst : ℕ
  pub at : LinkAt
  pub inst_there : slice_get ways inst ≡ Some way
  pub there : slice_get (links_at links made inst) number ≡ Some at
  pub on_line : at.line ≡ line
  pub fed_there : HasSpotAt spots at.fed (Some fed)
  pub source_there : HasSpotAt spots at.source source
