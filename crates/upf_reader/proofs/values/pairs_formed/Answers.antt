use Rattle.std.proofs.Common.{Option, List, ℕ, MatchOption, subst, sym}
use Rattle.list_defs.specs.Members.{IsIn}
use Rattle.upf_commands.specs.Forms.{list, pair, IsMisformed}
use Rattle.upf_reader.specs.Faults.{IsFormed}
use Rattle.upf_reader.specs.declared.values.OpenLists.{OpenLists}
use Rattle.upf_reader.proofs.ValueLemmas.{item_there, pair_taken}
use Rattle.upf_reader.proofs.values.pairs_formed.Goals as goal

pub returns-in_default : goal.returns-in_default
returns-in_default c =
    let text = c.as_slice.result.now in
    let bad = subst (λ (r : Option OpenLists). MatchOption r (IsMisformed (list pair) text) (IsFormed (list pair) text)) c.in_default.is c.in_ok-more.ensures in
    let there = subst (λ (t : List ℕ). IsIn t c.args.items.now) (sym c.item-item.is) (item_there c.args.items.now c.loop-item.item-index c.item-item.result c.loop-item-test.true) in
    (text, subst (λ (t : List ℕ). IsIn t c.args.items.now) (sym c.as_slice.ensures.bytes) there, bad)

pub loop-item-preserved : goal.loop-item-preserved
loop-item-preserved c =
    let good = subst (λ (r : Option OpenLists).
    MatchOption r (IsMisformed (list pair) c.as_slice.result.now) (IsFormed (list pair) c.as_slice.result.now)) c.in-Some.is c.in_ok-more.ensures in
    pair_taken c.args.items.now c.loop-item.item-index c.item-item.result c.loop-item.lists c.in-Some.more c.and-lists.result c.loop-item-test.true c.item-item.is
    c.loop-item.invariant (subst (λ (t : List ℕ). IsFormed (list pair) t c.in-Some.more) c.as_slice.ensures.bytes good) c.and-lists.ensures
