-- The nets of the module that is open, by the symbols of their names.
use Rattle.std.specs.Prelude.{◌≡◌, ◌≢◌, ℕ, ◌+◌, ◌<◌, ◌≤◌, true, List, Option, Some, None, length, set, slice_get, slice_index_or}
use Rattle.pw_defs.specs.declared.design.Body.{Body}
use Rattle.pw_defs.specs.declared.design.Body.TheVariants.{Module as ModuleBody}
use Rattle.pw_defs.specs.declared.netlist.Module.{Module}
use Rattle.list_defs.specs.Members.{all_differ, same_name}
use Rattle.design_defs.specs.Hierarchy.{Sources, module_at}
use Rattle.design_defs.specs.Ranges.{width}
use Rattle.net_places.specs.declared.plans.Plans.{Plans}
use Rattle.net_places.specs.declared.rows.NetRow.{NetRow}
use Rattle.net_places.specs.Nets.{own_net}
use Rattle.net_places.specs.Plans.{ArePlans, rows_at}
use Rattle.net_runs.specs.declared.known.Known.{Known}
use Rattle.net_runs.specs.declared.plain.Opened.{Opened}
use Rattle.net_runs.specs.LocalNumbers.{IsBitNumber}

-- what is known of a symbol is a net of a module that has it as its name
pub record IsKnown (p : Plans) (symbol : ℕ) (k : Known) : Type 0 where
  pub row : NetRow
  pub there : slice_get (rows_at p (ModuleBody k.holder)) k.net ≡ Some row
  pub named : row.name ≡ symbol

abbrev pub AreKnown : Plans → List (Option Known) → Type 0
AreKnown p known = (symbol : ℕ) (k : Known) → slice_get known symbol ≡ Some (Some k) → IsKnown p symbol k

-- a symbol is known in a module
pub record IsKnownIn (holder : ℕ) (known : List (Option Known)) (symbol : ℕ) : Type 0 where
  pub of_symbol : Known
  pub there : slice_get known symbol ≡ Some (Some of_symbol)
  pub is_holder : of_symbol.holder ≡ holder

-- the names of the first rows of a module are known in it
abbrev pub HasKnown : ℕ → List NetRow → ℕ → List (Option Known) → Type 0
HasKnown holder rows count known = (i : ℕ) (row : NetRow) → i < count → slice_get rows i ≡ Some row → row.name < length known → IsKnownIn holder known row.name

-- what is known of a symbol, if anything is
abbrev pub known_in : List (Option Known) → ℕ → Option Known
known_in known symbol = slice_index_or known symbol None

-- a row is noted under its name
abbrev pub noted : List (Option Known) → ℕ → ℕ → Option NetRow → List (Option Known)
noted known holder net None = known
noted known holder net (Some row) = set known row.name (Some (record { holder = holder; net = net }))

-- all that is known
pub record AreAllKnown (symbols : List (List ℕ)) (p : Plans) (holder : ℕ) (known : List (Option Known)) : Type 0 where
  pub differ : all_differ same_name symbols ≡ true
  pub count : length known ≡ length symbols
  pub nets : AreKnown p known
  pub all : HasKnown holder (rows_at p (ModuleBody holder)) (length (rows_at p (ModuleBody holder))) known

-- nothing is known of any symbol
pub record AreUnknown (symbols : List (List ℕ)) (known : List (Option Known)) : Type 0 where
  pub differ : all_differ same_name symbols ≡ true
  pub count : length known ≡ length symbols
  pub none : (symbol : ℕ) (k : Known) → slice_get known symbol ≢ Some (Some k)

-- a row is that of what a body owns under a name, and the bits have the numbers from its first one on
pub record IsNetRow (s : Sources) (body : Body) (name : List ℕ) (row : NetRow) : Type 0 where
  pub owned : own_net s body name ≡ Some (record { name = name; range = row.range; port = row.port })
  pub bits : (place : ℕ) → place < width row.range → IsBitNumber s body (name, place) (row.first + place)
  pub ends : row.first + width row.range ≤ 18446744073709551615

-- the module that is open, below any top
pub record IsOpen (s : Sources) (o : Opened) (m : Module) : Type 0 where
  pub plans : ArePlans s o.netlist.symbols o.plans
  pub is_module : module_at s o.holder ≡ Some m
