use Rattle.std.proofs.Common.{◌≡◌, ◌++◌, List, length, map, take}
use Rattle.lib_cells.specs.Mentions.{AreSaid, Mention, mentions_of}
use Rattle.lib_cells.proofs.tables.PinTable.say_all.Given as goal

abbrev pub invariant-loop-name : goal.invariant-loop-name
invariant-loop-name l = record {
  level : length l.self.marks.items ≡ length l.self.names;
  said : (before : List Mention) → AreSaid before l.initial.self → AreSaid (before ++ mentions_of (record { names = map (λ n. n.now) (take l.name-index l.names); marks = l.group.marks })) l.self;
}
