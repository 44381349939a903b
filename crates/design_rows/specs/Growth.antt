-- Rows that grow.
use Rattle.std.specs.Prelude.{◌≡◌, ℕ, Bool, true, false, List, [], ◌∷◌, ◌++◌, replicate, slice_set}
use Rattle.pw_defs.specs.declared.cells.Cells.{Cells}
use Rattle.pw_defs.specs.declared.model.Model.{Model}
use Rattle.pw_defs.specs.declared.netlist.Module.{Module}
use Rattle.design_rows.specs.Children.{HasChildren, HasNameTwice}
use Rattle.design_rows.specs.declared.tables.Feed.{Feed}
use Rattle.design_rows.specs.declared.tables.InstanceRow.{InstanceRow}
use Rattle.design_rows.specs.declared.tables.KindRow.{KindRow}
use Rattle.design_rows.specs.declared.tables.PlaceRow.{PlaceRow}
use Rattle.design_rows.specs.declared.tables.Rows.{Rows}
use Rattle.design_rows.specs.View.{no_feed, size}

-- the rows have these parts, and no names, kinds and instances yet
pub record IsEmpty (cells : Cells) (modules : List Module) (models : List Model) (r : Rows) : Type 0 where
  pub same_cells : r.cells ≡ cells
  pub same_modules : r.modules ≡ modules
  pub same_models : r.models ≡ models
  pub no_names : r.names ≡ []
  pub no_kinds : r.kinds ≡ []
  pub no_insts : r.insts ≡ []

-- the rows with one row more
abbrev pub with_name : Rows → List ℕ → Rows
with_name r name = record r { names = r.names ++ name ∷ [] }

abbrev pub with_place : Rows → PlaceRow → Rows
with_place r place = record r { places = r.places ++ place ∷ [] }

abbrev pub with_kind : Rows → KindRow → Rows
with_kind r kind = record r { kinds = r.kinds ++ kind ∷ [] }

abbrev pub with_children : Rows → List ℕ → Rows
with_children r children = record r { children = children }

-- The children are in order; or two instances inside one have one name, and the rows are as they were.
abbrev pub AreOrdered : Rows → Rows → Bool → Type 0
AreOrdered old new true = HasChildren new
AreOrdered old new false = HasNameTwice old × (new ≡ old)

-- what instances are instances of is the same
pub record HaveSameKinds (old new : Rows) : Type 0 where
  pub cells : new.cells ≡ old.cells
  pub modules : new.modules ≡ old.modules
  pub models : new.models ≡ old.models
  pub names : new.names ≡ old.names
  pub kinds : new.kinds ≡ old.kinds
  pub places : new.places ≡ old.places
  pub children : new.children ≡ old.children

-- there is one instance more, whose bits nothing feeds yet
pub record HasInstance (old new : Rows) (row : InstanceRow) : Type 0 where
  pub same : HaveSameKinds old new
  pub insts : new.insts ≡ old.insts ++ row ∷ []
  pub feeds : new.feeds.items ≡ old.feeds.items ++ replicate (size old row) no_feed

-- one bit is fed so, and all else is the same
pub record HasFeed (old new : Rows) (n : ℕ) (feed : Feed) : Type 0 where
  pub same : HaveSameKinds old new
  pub insts : new.insts ≡ old.insts
  pub feeds : new.feeds.items ≡ slice_set old.feeds.items n feed
