use Rattle.std.proofs.Common.{◌≡◌, ◌∙◌, rules, ap, length, ◌++◌, ◌∷◌, [], true, map}
use Rattle.net_rings.specs.Fed.{sources_at}
use Rattle.net_rings.specs.declared.graphs.BitRow.{BitRow}
use Rattle.net_rings.proofs.RowLemmas.{sources_more}
use Rattle.net_rings.proofs.graphs.add_row.Goals as goal

pub returns-clause-ok : goal.returns-clause-ok
returns-clause-ok c =
    let all = c.args.rows.now.sources.items in
    let bits = c.args.rows.now.bits.items in
    let longer : c.extend_from_slice.new.self.items ≡ all ++ c.args.sources.now = c.in_ok-extend_from_slice.ensures.items in
    let row : BitRow = record { first = c.len-first.result; end = c.len-2.result; there = true } in
    let with_row : c.push_reserved.new.self.items ≡ bits ++ row ∷ [] = c.push_reserved.ensures.items ∙ ap (λ xs. xs ++ row ∷ []) c.in_ok-reserve.ensures.items in
    let first : c.len-first.result ≡ length all = search rules in
    let end : c.len-2.result ≡ length c.extend_from_slice.new.self.items = search rules in
    ap (λ xs. map (sources_at c.extend_from_slice.new.self.items) xs) with_row
    ∙ ap (λ xs. map (sources_at xs) (bits ++ row ∷ [])) longer
    ∙ sources_more all c.args.sources.now bits row c.requires.rows.each first (end ∙ ap length longer)
