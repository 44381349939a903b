-- What a read of the design by number gives.
use Rattle.std.proofs.Common.{◌≡◌, ℕ, ◌<◌, length, map, Some, slice_get, ap, ◌∙◌, arith}
use Rattle.std.specs.List.{range_with_len}
use Rattle.std.proofs.lemmas.List.FromFn.{get_or-map-range_with_len, length-map-range_with_len}
use Rattle.std.proofs.lemmas.Option.{slice_get-get_or}
use Rattle.design_rows.specs.declared.tables.Rows.{Rows}
use Rattle.design_rows.specs.View.{bit_at, design_of, instance_at}

table_get : {X : Type 0} (f : ℕ → X) (count n : ℕ) → n < count → slice_get (map f (range_with_len 0 count)) n ≡ Some (f n)
table_get f count n within =
    slice_get-get_or (map f (range_with_len 0 count)) n (f n) (omega (arith, length-map-range_with_len f 0 count))
    ∙ ap Some (get_or-map-range_with_len f 0 count n n (f n) within (omega arith))

pub length_instances : (r : Rows) → length (design_of r).insts ≡ length r.insts
length_instances r = length-map-range_with_len (instance_at r) 0 (length r.insts)

pub length_bits : (r : Rows) → length (design_of r).bits ≡ length r.feeds.items
length_bits r = length-map-range_with_len (bit_at r) 0 (length r.feeds.items)

pub instance_get : (r : Rows) (n : ℕ) → n < length r.insts → slice_get (design_of r).insts n ≡ Some (instance_at r n)
instance_get r n within = table_get (instance_at r) (length r.insts) n within

pub bit_get : (r : Rows) (n : ℕ) → n < length r.feeds.items → slice_get (design_of r).bits n ≡ Some (bit_at r n)
bit_get r n within = table_get (bit_at r) (length r.feeds.items) n within

pub ruleset reads = (length_instances, length_bits, instance_get, bit_get)
