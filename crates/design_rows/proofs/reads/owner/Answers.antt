use Rattle.std.proofs.Common.{◌≡◌, ◌-◌, ℕ, List, ap, sym, ◌∙◌, subst, arith}
use Rattle.std.specs.List.{prefix_len}
use Rattle.std.specs.List.Sorted.{IsNonDecreasingBy}
use Rattle.std.proofs.lemmas.List.Sums.{prefix_len-le-length}
use Rattle.design_rows.specs.declared.tables.InstanceRow.{InstanceRow}
use Rattle.design_rows.specs.Sound.{Owns}
use Rattle.design_rows.specs.View.{begins_by}
use Rattle.design_rows.proofs.Owners.{firsts_rise, owner_owns}
use Rattle.design_rows.proofs.reads.owner.Goals as goal

pub begun-requires : goal.begun-requires
begun-requires c =
    let P : List InstanceRow → Type 0 = λ xs. IsNonDecreasingBy (λ i. i.first_bit) xs in
    subst P (sym c.as_slice.ensures.items) (firsts_rise c.args.rows.now c.requires.rows)

pub overflow_cast-result : goal.overflow_cast-result
overflow_cast-result c =
    omega (arith, prefix_len-le-length (begins_by c.args.n) c.as_slice.result.now, c.as_slice.ensures.limit, c.begun.ensures)

pub returns-clause-owns : goal.returns-clause-owns
returns-clause-owns c =
    let P : ℕ → Type 0 = λ k. Owns c.args.rows.now k c.args.n in
    let begun : c.begun.result ≡ prefix_len (begins_by c.args.n) c.args.rows.now.insts = c.begun.ensures ∙ ap (prefix_len (begins_by c.args.n)) c.as_slice.ensures.items in
    subst P (sym (ap (λ k. k - 1) begun)) (owner_owns c.args.rows.now c.requires.rows c.args.n c.requires.within)
