use Rattle.std.proofs.Common.{◌≡◌, Option, List, MatchOption, map, take, drop, suc, ap, sym, ◌∙◌, subst, ◌++◌, [], ◌∷◌}
use Rattle.upf_commands.specs.CommandFaults.{IsBad, shown}
use Rattle.upf_commands.specs.CommandWords.{Item}
use Rattle.upf_reader.specs.Judging.{IsItemFormed, AreItemsFormed}
use Rattle.upf_reader.specs.Parts.{part_view}
use Rattle.upf_reader.specs.Rows.{command_view}
use Rattle.upf_reader.specs.declared.parts.Part.{Part}
use Rattle.upf_reader.specs.declared.values.OpenLists.{OpenLists}
use Rattle.upf_reader.proofs.KeyLemmas.{parts_taken}
use Rattle.upf_reader.proofs.JudgeLemmas.{bad_first, item_judged, parts_split, same_item}
use Rattle.upf_reader.proofs.checks.judge.Goals as goal

pub returns-in_default : goal.returns-in_default
returns-in_default c =
    let row = command_view c.args.row.now in
    let parts = c.args.parts.now in
    let at = c.loop-at.at in
    let part = c.index-parts-at.result in
    let other = c.index-parts-at-in_default.result in
    let before = map part_view (take at parts) in
    let after = map part_view (drop (suc at) parts) in
    let bad = subst (λ (r : Option OpenLists). MatchOption r (IsBad row before (part_view part)) (IsItemFormed row before (part_view part))) c.in_default.is c.in_ok-more.ensures in
    let split : map part_view parts ≡ before ++ part_view part ∷ after =
    parts_split parts at part c.loop-at-test.true ∙ ap (λ (p : Part). before ++ part_view p ∷ after) (sym c.index-parts-at.is) in
    let same : other ≡ part = c.index-parts-at-in_default.is ∙ same_item parts at other part c.loop-at-test.true ∙ sym c.index-parts-at.is in (
      part_view part,
      bad_first row before (part_view part) after (map part_view parts) c.loop-at.lists split c.loop-at.invariant bad,
      c.shown.ensures ∙ ap (λ (p : Part). shown row (part_view p)) same,
    )

pub loop-at-preserved : goal.loop-at-preserved
loop-at-preserved c =
    let row = command_view c.args.row.now in
    let parts = c.args.parts.now in
    let at = c.loop-at.at in
    let part = c.index-parts-at.result in
    let before = map part_view (take at parts) in
    let formed = subst (λ (r : Option OpenLists). MatchOption r (IsBad row before (part_view part)) (IsItemFormed row before (part_view part))) c.in-Some.is c.in_ok-more.ensures in
    subst (λ (is : List Item). AreItemsFormed row is c.and-lists.result) (sym (parts_taken parts at part c.loop-at-test.true c.index-parts-at.is))
    (subst (AreItemsFormed row (before ++ part_view part ∷ [])) (sym c.and-lists.ensures)
    (item_judged row before (part_view part) c.loop-at.lists c.in-Some.more c.loop-at.invariant formed))
