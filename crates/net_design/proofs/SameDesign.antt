-- The order in which children are found is no part of a design.
use Rattle.std.proofs.Common.{◌≡◌, ℕ, zero, suc, List, length, map, refl, ap}
use Rattle.std.specs.List.{range_with_len}
use Rattle.design_defs.specs.Names.{joined}
use Rattle.design_rows.specs.declared.tables.Rows.{Rows}
use Rattle.design_rows.specs.Growth.{with_children}
use Rattle.design_rows.specs.View.{bit_at, design_of, inst_at, instance_at, name_at, owner_at, path_in, place_name, place_of_bit}

module _ (r : Rows) (children : List ℕ) where
  abbrev ordered : Rows
  ordered = with_children r children

  same_path : (more n : ℕ) → path_in ordered more n ≡ path_in r more n
  unfolding path_in
  same_path more zero = refl
  same_path zero (suc n) = refl
  same_path (suc more) (suc n) = ap (λ outer. joined outer (name_at r (inst_at r (suc n)).name)) (same_path more (inst_at r (suc n)).parent)

  same_instance : (n : ℕ) → instance_at ordered n ≡ instance_at r n
  unfolding instance_at
  same_instance n = ap (λ (path : List ℕ). record (instance_at r n) { path = path }) (same_path n n)

  same_bit : (n : ℕ) → bit_at ordered n ≡ bit_at r n
  unfolding bit_at
  same_bit n = ap (λ (path : List ℕ). record (bit_at r n) { name = joined path (name_at r (place_name (place_of_bit r n))) }) (same_path (owner_at r n) (owner_at r n))

  pub same_design : design_of ordered ≡ design_of r
  same_design = λ i. record {
    cells = r.cells;
    modules = r.modules;
    models = r.models;
    insts = map (λ n. same_instance n i) (range_with_len 0 (length r.insts));
    bits = map (λ n. same_bit n i) (range_with_len 0 (length r.feeds.items));
  }
