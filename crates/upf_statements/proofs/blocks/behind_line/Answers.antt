use Rattle.std.proofs.Common.{ℕ, Option, sym, ◌∙◌, subst}
use Rattle.upf_statements.specs.Blocks.{AreBlocksSoFar}
use Rattle.upf_statements.proofs.BlockLemmas.{first_line, plain_line, inner_line, last_line}
use Rattle.upf_statements.proofs.blocks.behind_line.Goals as goal

pub returns-then-begins_model : goal.returns-then-begins_model
returns-then-begins_model c =
    let before = subst (λ (started : Option ℕ). AreBlocksSoFar c.args.lines.now c.args.at started c.args.blocks.now) c.in_default.is c.requires.before in
    first_line c.args.lines.now c.args.at c.args.blocks.now c.index-lines-at.result c.requires.within c.index-lines-at.is
    (sym c.begins_model.ensures ∙ c.if-begins_model.true) before

pub returns-in_default : goal.returns-in_default
returns-in_default c =
    let before = subst (λ (started : Option ℕ). AreBlocksSoFar c.args.lines.now c.args.at started c.args.blocks.now) c.in_default.is c.requires.before in
    plain_line c.args.lines.now c.args.at c.args.blocks.now c.put_block.new.blocks c.index-lines-at.result c.requires.within c.index-lines-at.is
    (sym c.begins_model.ensures ∙ c.if-begins_model.false) before c.in_ok-put_block.ensures

pub returns-then-not-ends_model : goal.returns-then-not-ends_model
returns-then-not-ends_model c =
    let before = subst (λ (started : Option ℕ). AreBlocksSoFar c.args.lines.now c.args.at started c.args.blocks.now) c.in-Some.is c.requires.before in
    inner_line c.args.lines.now c.args.at c.in-Some.head c.args.blocks.now c.index-lines-at.result c.requires.within c.index-lines-at.is
    (sym c.ends_model.ensures ∙ c.if-not-ends_model.true) before

pub returns : goal.returns
returns c =
    let before = subst (λ (started : Option ℕ). AreBlocksSoFar c.args.lines.now c.args.at started c.args.blocks.now) c.in-Some.is c.requires.before in
    last_line c.args.lines.now c.args.at c.in-Some.head c.args.blocks.now c.put_block-2.new.blocks c.index-lines-at.result c.requires.within c.index-lines-at.is
    (sym c.ends_model.ensures ∙ c.if-not-ends_model.false) before c.in_ok-put_block-2.ensures
