-- The links that the lines of a module make, by the numbers of bits.
use Rattle.std.specs.Prelude.{◌≡◌, ℕ, ◌+◌, List, Some, map, slice_get}
use Rattle.std.specs.List.{AllZip, flat_map, range_with_len}
use Rattle.pw_defs.specs.declared.design.Body.{Body}
use Rattle.pw_defs.specs.declared.design.Body.TheVariants.{Module as ModuleBody}
use Rattle.pw_defs.specs.declared.netlist.Inst.{Inst}
use Rattle.pw_defs.specs.declared.netlist.Module.{Module}
use Rattle.design_defs.specs.Hierarchy.{Sources, type_of}
use Rattle.design_defs.specs.Links.{End, Link, links_in}
use Rattle.net_links.specs.declared.rows.LinkEnd.{LinkEnd}
use Rattle.net_links.specs.declared.rows.LinkEnd.TheVariants.{Own, Child, Constant}
use Rattle.net_links.specs.declared.rows.LinkRow.{LinkRow}
use Rattle.net_runs.specs.LocalNumbers.{IsBitNumber}

-- an end of a link by numbers: a bit of the module itself, a bit of what the line of an instance makes, or a constant
pub data LocalEnd : Type 0 where
  own : (bit : ℕ) → LocalEnd
  child : (line bit : ℕ) → LocalEnd
  constant : LocalEnd

-- a link by numbers: what is fed, by what, and the line that says so
pub record LocalLink : Type 0 where
  pub fed : LocalEnd
  pub source : LocalEnd
  pub line : ℕ

-- the end of a link of a module by numbers
pub data IsLocalEnd (s : Sources) (number : ℕ) (m : Module) : End → LocalEnd → Type 0 where
  inner : (net : List ℕ) (place bit : ℕ) → IsBitNumber s (ModuleBody number) (net, place) bit
      → IsLocalEnd s number m (End.inner net place) (LocalEnd.own bit)
  child : (inst port : List ℕ) (place line bit : ℕ) (i : Inst) (body : Body) → slice_get m.insts line ≡ Some i → i.name ≡ inst
      → type_of s i.kind ≡ Some body → IsBitNumber s body (port, place) bit
      → IsLocalEnd s number m (End.child inst port place) (LocalEnd.child line bit)
  constant : IsLocalEnd s number m End.constant LocalEnd.constant

-- a link of a module by numbers
pub record IsLocalLink (s : Sources) (number : ℕ) (m : Module) (link : Link) (local : LocalLink) : Type 0 where
  pub fed : IsLocalEnd s number m link.fed local.fed
  pub source : IsLocalEnd s number m link.source local.source
  pub line : local.line ≡ link.line

-- all links of a module, in their order
abbrev pub AreLocalLinks : Sources → ℕ → Module → List LocalLink → Type 0
AreLocalLinks s number m locals = AllZip (IsLocalLink s number m) (links_in s m) locals

-- the links of a row: ends one behind another
abbrev pub end_after : LinkEnd → ℕ → LocalEnd
end_after (Own bit) k = LocalEnd.own (bit + k)
end_after (Child line bit) k = LocalEnd.child line (bit + k)
end_after Constant k = LocalEnd.constant

abbrev pub links_of_row : LinkRow → List LocalLink
links_of_row row = map (λ k. record { fed = end_after row.fed k; source = end_after row.source k; line = row.line }) (range_with_len 0 row.count)

-- the links of rows, one row after the other
abbrev pub locals : List LinkRow → List LocalLink
locals = flat_map links_of_row
