-- Rows that can be read, and rows of a sound design.
use Rattle.std.specs.Prelude.{◌≡◌, ℕ, ◌+◌, ◌<◌, ◌≤◌, List, length, take}
use Rattle.std.specs.List.{sum_by}
use Rattle.design_defs.specs.Sound.{IsSoundDesign}
use Rattle.port_order.specs.PortOrders.{IsPortOrder}
use Rattle.port_order.specs.declared.keys.PortNumber.{PortNumber}
use Rattle.design_rows.specs.declared.tables.Rows.{Rows}
use Rattle.design_rows.specs.Children.{HasChildren, HasNames}
use Rattle.design_rows.specs.View.{design_of, inst_at, kind_at, place_at, place_name, size}

-- Each number is that of a row that there is, what an instance is inside comes before it, and the bits of the instances
-- stand one behind another.
pub record AreRows (r : Rows) : Type 0 where
  pub parents : (n : ℕ) → 0 < n → n < length r.insts → (inst_at r n).parent < n
  pub inst_names : (n : ℕ) → n < length r.insts → (inst_at r n).name < length r.names
  pub inst_kinds : (n : ℕ) → n < length r.insts → (inst_at r n).kind < length r.kinds
  pub kind_places : (k : ℕ) → k < length r.kinds → (kind_at r k).first + (kind_at r k).size ≤ length r.places
  pub bit_names : (p : ℕ) → p < length r.places → place_name (place_at r p) < length r.names
  pub firsts : (n : ℕ) → n < length r.insts → (inst_at r n).first_bit ≡ sum_by (size r) (take n r.insts)
  pub all : length r.feeds.items ≡ sum_by (size r) r.insts
  pub few : length r.feeds.items ≤ 4294967295

-- rows of a sound design, whose instances have names and are in order by what they are inside and by name
pub record IsSound (r : Rows) : Type 0 where
  pub rows : AreRows r
  pub children : HasChildren r
  pub names : HasNames r
  pub design : IsSoundDesign (design_of r)

-- rows of a sound design, with all their ports in order
pub record AreStored (r : Rows) (ports : List PortNumber) : Type 0 where
  pub sound : IsSound r
  pub in_order : IsPortOrder r.modules r.cells r.models ports

-- the instance owns the bit
pub record Owns (r : Rows) (owner n : ℕ) : Type 0 where
  pub there : owner < length r.insts
  pub from : (inst_at r owner).first_bit ≤ n
  pub to : n < (inst_at r owner).first_bit + size r (inst_at r owner)
