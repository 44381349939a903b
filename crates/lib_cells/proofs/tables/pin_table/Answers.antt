use Rattle.std.proofs.Common.{◌+◌, ◌++◌, [], ◌∷◌, map, take, sym, ap, ◌∙◌, subst}
use Rattle.std.proofs.lemmas.List.{take_all, take_more}
use Rattle.lib_cells.specs.CellViews.{pins_view}
use Rattle.lib_cells.specs.Mentions.{AreSaid, mentions_in}
use Rattle.lib_cells.proofs.MentionLaws.{groups_more, table_of_groups}
use Rattle.lib_cells.proofs.tables.pin_table.Goals as goal

pub loop-group-preserved : goal.loop-group-preserved
loop-group-preserved c =
    let groups = c.args.groups.now in
    let i = c.loop-group.group-index in
    let group = c.group-item.result in
    record {
      level = c.in_ok-say_all.ensures.level;
      said =
          subst (λ l. AreSaid l c.say_all.new.self)
          (sym (groups_more pins_view (take (i + 1) groups) (take i groups) group
          (take_more groups i group c.loop-group-test.true ∙ ap (λ y. take i groups ++ y ∷ []) (sym c.group-item.is))))
          (c.in_ok-say_all.ensures.said (mentions_in (map pins_view (take i groups))) c.loop-group.invariant.said);
    }

pub returns-clause-table : goal.returns-clause-table
returns-clause-table c =
    table_of_groups (map pins_view c.args.groups.now) c.loop-group.table
    (subst (λ l. AreSaid (mentions_in (map pins_view l)) c.loop-group.table) (take_all c.loop-group.group-index c.args.groups.now c.loop-group-test.false) c.loop-group.invariant.said)
