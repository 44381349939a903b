-- The block at a place, by whether its line begins a model and the model ends.
use Rattle.std.proofs.Common.{◌+◌, true, false, List, sym, subst, ◌∙◌}
use Rattle.std.specs.Prelude.{slice_range}
use Rattle.pw_defs.specs.declared.script.Line.{Line}
use Rattle.script_lines.specs.Taken.{IsTaken}
use Rattle.script_lines.proofs.BlockLemmas.{plain_taken, model_taken, open_model_taken}
use Rattle.script_lines.proofs.blocks.take_block.Goals as goal

pub returns-then-not-begins_model : goal.returns-then-not-begins_model
returns-then-not-begins_model c =
    let head : Line = c.index-all-at.result in
    let P : List Line → Type 0 =
    λ xs. IsTaken xs c.args.at (record { head = head; body = slice_range xs (c.args.at + 1) (c.args.at + 1); ended = true }) (c.args.at + 1) in
    subst P c.as_slice-all.ensures.lines (plain_taken c.as_slice-all.result.now c.args.at head (rw c.as_slice-all.ensures.lines c.requires) (sym c.index-all-at.is)
    (sym c.begins_model.ensures ∙ c.if-not-begins_model.true))

pub returns-then-end-all : goal.returns-then-end-all
returns-then-end-all c =
    let head : Line = c.index-all-at.result in
    let P : List Line → Type 0 =
    λ xs. IsTaken xs c.args.at (record { head = head; body = slice_range xs (c.args.at + 1) c.end_of_model-end.result; ended = true }) (c.end_of_model-end.result + 1) in
    subst P c.as_slice-all.ensures.lines (model_taken c.as_slice-all.result.now c.args.at c.end_of_model-end.result head
    (rw c.as_slice-all.ensures.lines c.requires) (sym c.index-all-at.is) (sym c.begins_model.ensures ∙ c.if-not-begins_model.false) c.end_of_model-end.ensures c.if-end-all.true)

pub returns : goal.returns
returns c =
    let head : Line = c.index-all-at.result in
    let P : List Line → Type 0 =
    λ xs. IsTaken xs c.args.at (record { head = head; body = slice_range xs (c.args.at + 1) c.end_of_model-end.result; ended = false }) c.end_of_model-end.result in
    subst P c.as_slice-all.ensures.lines (open_model_taken c.as_slice-all.result.now c.args.at c.end_of_model-end.result head
    (rw c.as_slice-all.ensures.lines c.requires) (sym c.index-all-at.is) (sym c.begins_model.ensures ∙ c.if-not-begins_model.false) c.end_of_model-end.ensures c.if-end-all.false)
