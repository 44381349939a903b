use Rattle.std.proofs.Common.{List, true, refl, sym, ◌∙◌, subst, map, take}
use Rattle.std.proofs.lemmas.Bool.{true≢false}
use Rattle.list_defs.specs.Members.{IsIn}
use Rattle.upf_commands.specs.CommandWords.{Item}
use Rattle.upf_reader.specs.Faults.{GivesKey, SomeGivesKey}
use Rattle.upf_reader.specs.Parts.{part_view}
use Rattle.upf_reader.specs.Rows.{option_view}
use Rattle.upf_reader.specs.declared.parts.Part.{Part}
use Rattle.upf_reader.proofs.KeyLemmas.{part_there, parts_taken, none_added}
use Rattle.upf_reader.proofs.WordLemmas.{says_yes}
use Rattle.upf_reader.proofs.keys.give_key.Goals as goal

pub returns-then-branch : goal.returns-then-branch
returns-then-branch c =
    says_yes true refl (
      part_view c.part-item.result,
      subst (λ (p : Part). IsIn (part_view p) (map part_view c.args.parts.now)) (sym c.part-item.is)
          (part_there c.args.parts.now c.loop-part.part-index c.part-item.result c.loop-part-test.true),
      c.in_ok-gives_key.ensures.0 c.if-branch.true,
    )

pub loop-part-preserved : goal.loop-part-preserved
loop-part-preserved c =
    let o = option_view c.args.option.now in
    subst (λ (is : List Item). ¬ SomeGivesKey o c.args.key.now is)
    (sym (parts_taken c.args.parts.now c.loop-part.part-index c.part-item.result c.loop-part-test.true c.part-item.is))
    (none_added (GivesKey o c.args.key.now) (map part_view (take c.loop-part.part-index c.args.parts.now)) (part_view c.part-item.result) c.loop-part.invariant
    (λ g. true≢false (sym (c.in_ok-gives_key.ensures.1 g) ∙ c.if-branch.false)))
