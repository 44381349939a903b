use Rattle.std.proofs.Common.{◌+◌, ◌++◌, map, take, sym, subst}
use Rattle.std.proofs.lemmas.List.{append-nil, take_more}
use Rattle.lib_cells.specs.Mentions.{AreSaid, mentions_of}
use Rattle.lib_cells.proofs.MentionLaws.{mentioned_more, said_once_more}
use Rattle.lib_cells.proofs.tables.PinTable.say_all.Goals as goal

pub loop-name-init : goal.loop-name-init
loop-name-init c = record {
  level = c.requires;
  said = λ before are. subst (λ l. AreSaid l c.args.self.now) (sym (append-nil before)) are;
}

pub loop-name-preserved : goal.loop-name-preserved
loop-name-preserved c = record {
  level = c.in_ok-say.ensures.level;
  said = λ before are.
      subst (λ l. AreSaid l c.say.new.self)
      (sym (mentioned_more (λ n. n.now) c.args.group.now.marks before (take (c.loop-name.name-index + 1) c.as_slice-names.result.now) (take c.loop-name.name-index c.as_slice-names.result.now) _
      (take_more c.as_slice-names.result.now c.loop-name.name-index _ c.loop-name-test.true)))
      (said_once_more (before ++ mentions_of (record { names = map (λ n. n.now) (take c.loop-name.name-index c.as_slice-names.result.now); marks = c.args.group.now.marks }))
      c.loop-name.self c.say.new.self _ c.args.group.now.marks (c.loop-name.invariant.said before are) c.in_ok-say.ensures.said);
}
