use Rattle.std.proofs.Common.{◌≡◌, ◌≢◌, List, [], Bool, true, false, sym, ◌∙◌}
use Rattle.std.proofs.lemmas.Bool.{true≢false}
use Rattle.std.proofs.lemmas.Result.{err_from_is_err_and}
use Rattle.lib_cells.specs.Groups.{library_group}
use Rattle.lib_cells.proofs.WholeLaws.{whole_more, whole_ok, whole_stopped}
use Rattle.lib_cells.proofs.libraries.whole_library.Goals as goal

some_left : {X : Type 0} (xs : List X) (b : Bool) → (xs ≡ [] → b ≡ true) → b ≡ false → xs ≢ []
some_left xs b is none e = true≢false (sym (is e) ∙ none)

pub returns-in_err-cells : goal.returns-in_err-cells
returns-in_err-cells c =
    let p = err_from_is_err_and c.from_residual.result c.from_residual.ensures.1 in
    rw (p.1, p.2) (whole_stopped c.args.tokens.now c.library_group.new.tokens c.in_err-cells.field-0.0 c.in_err-cells.ensures.answers)

pub returns-then-not-is_empty : goal.returns-then-not-is_empty
returns-then-not-is_empty c =
    let m = c.in_ok-cells.ensures.answers in
    whole_more library_group c.args.tokens.now c.library_group.new.tokens m.0 m.1 (some_left c.library_group.new.tokens _ c.is_empty.ensures.1 c.if-not-is_empty.true)

pub returns : goal.returns
returns c =
    let m = c.in_ok-cells.ensures.answers in
    (m.0, whole_ok library_group c.args.tokens.now c.library_group.new.tokens m.0 m.1 (c.is_empty.ensures.0 c.if-not-is_empty.false), m.2)
