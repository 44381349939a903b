use Rattle.std.proofs.Common.{◌≡◌, ◌≢◌, ◌+◌, ◌∙◌, inl, inr, sym, rules}
use Rattle.std.specs.declared.cmp.Ordering.TheVariants.{Equal, Greater, Less}
use Rattle.list_defs.specs.Orders.{name_cmp}
use Rattle.net_loops.proofs.RankLemmas.{next_other, next_same}
use Rattle.net_loops.proofs.ranks.rank_behind.Goals as goal

pub returns-in-Equal : goal.returns-in-Equal
returns-in-Equal c = next_same c.args.name.now c.args.next.now c.args.rank (sym c.cmp.ensures ∙ c.in-Equal.is)

pub returns-in_ok-more-in-Less : goal.returns-in_ok-more-in-Less
returns-in_ok-more-in-Less c =
    let differ : name_cmp c.args.name.now c.args.next.now ≢ Equal = λ same. elim c.in-Less.is [
      | inl less ↦ (let never : Less ≡ Equal = sym less ∙ c.cmp.ensures ∙ same in cc)
      | inr greater ↦ (let never : Greater ≡ Equal = sym greater ∙ c.cmp.ensures ∙ same in cc)
    ] in
    let sum = c.checked_add.ensures in
    let there = c.in_ok-more-in-Less.ensures.ok_part in
    let next : c.in_ok-more-in-Less.more ≡ c.args.rank + 1 = search rules in
    next_other c.args.name.now c.args.next.now c.args.rank c.in_ok-more-in-Less.more differ next
