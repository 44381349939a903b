use Rattle.std.proofs.Common.{ℕ, reverse, sym, ap, subst, inl, inr}
use Rattle.std.proofs.lemmas.Bool.{cases_eq}
use Rattle.diagram_defs.proofs.Meaning.{last_number}
use Rattle.state_meets.specs.Common.{IsLeastRest}
use Rattle.state_meets.proofs.Meetings.{disjoint_first, no_last, last_least}
use Rattle.state_meets.proofs.commons.last.Goals as goal

pub returns-then-at-ne1 : goal.returns-then-at-ne1
returns-then-at-ne1 c =
    let d = c.args.first.now in
    let at = c.args.at in
    elim (cases_eq at.first 0) [
      | inl z ↦ disjoint_first d c.args.second.now c.args.begins at z
      | inr some ↦ absurd (c.if-at-ne1.true (last_number d c.allocator-alloc.ensures at.level at.first c.requires.level_in c.requires.number some))
    ]

pub returns-then-at-ne1-2 : goal.returns-then-at-ne1-2
returns-then-at-ne1-2 c = no_last c.args.first.now c.args.second.now c.args.begins c.args.at c.if-at-ne1.false c.if-at-ne1-2.true

pub returns : goal.returns
returns c =
    let found = last_least c.args.first.now c.args.second.now c.args.begins c.args.at c.if-at-ne1.false c.if-at-ne1-2.false in
    subst (IsLeastRest c.args.first.now c.args.second.now c.args.begins c.args.at) (ap (reverse {A = ℕ}) (sym c.new.ensures.items)) found
