use Rattle.std.proofs.Common.{◌≡◌, ◌≢◌, Bool, true, false, List, [], ◌∷◌, map, Some, None, sym, ap, refl, ◌∙◌}
use Rattle.std.proofs.lemmas.Bool.{true≢false}
use Rattle.lib_cells.specs.Groups.{HasPins, present}
use Rattle.lib_cells.specs.Marks.{CellSaid, PinsSaid, marks_of}
use Rattle.lib_cells.specs.declared.marks.Marks.{Marks}
use Rattle.lib_cells.proofs.ReadLaws.{pins_read, pins_unnamed, pins_without}
use Rattle.lib_cells.proofs.cells.pins_behind.Goals as goal

none_mapped : {X Y : Type 0} (f : X → Y) (xs : List X) → xs ≢ [] → map f xs ≢ []
none_mapped f [] some e = some refl
none_mapped f (x ∷ xs) some e = cc

some_there : {X : Type 0} (xs : List X) (b : Bool) → (xs ≡ [] → b ≡ true) → b ≡ false → xs ≢ []
some_there xs b is none e = true≢false (sym (is e) ∙ none)

pub returns-then-is_empty-clause-answers : goal.returns-then-is_empty-clause-answers
returns-then-is_empty-clause-answers c =
    (None, pins_unnamed c.args.depth (map (λ n. n.now) c.args.names) c.args.tokens.now c.semicolon.new.tokens _ (ap (map (λ n. n.now)) (c.is_empty.ensures.0 c.if-is_empty.true)) c.in_ok-semicolon.ensures.answers, refl)

pub returns-then-not-is_next-clause-answers : goal.returns-then-not-is_next-clause-answers
returns-then-not-is_next-clause-answers c =
    let named = none_mapped (λ n. n.now) c.args.names (some_there c.args.names _ c.is_empty.ensures.1 c.if-is_empty.false) in
    (None, pins_without c.args.depth (map (λ n. n.now) c.args.names) c.args.tokens.now c.semicolon-then-not-is_next.new.tokens _ named (sym c.is_next.ensures ∙ c.if-not-is_next.true) c.in_ok-semicolon-2.ensures.answers, refl)

pub returns-clause-answers : goal.returns-clause-answers
returns-clause-answers c =
    let m = c.in_ok-marks.ensures.answers in
    let names = map (λ n. n.now) c.args.names in
    let named = none_mapped (λ n. n.now) c.args.names (some_there c.args.names _ c.is_empty.ensures.1 c.if-is_empty.false) in
    let said = λ (x : Marks). let s : CellSaid = record { marks = marks_of []; groups = (let g : PinsSaid = record { names = names; marks = x } in g) ∷ [] } in s in (
      Some (HasPins names (present m.0)),
      pins_read c.args.depth names c.args.tokens.now c.attribute_block.new.tokens m.0 named (sym c.is_next.ensures ∙ c.if-not-is_next.false) m.1,
      ap said m.2,
    )
