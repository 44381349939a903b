use Rattle.std.proofs.Common.{◌≡◌, ℕ, None, Option, List, length, sym, subst, arith}
use Rattle.upf_statements.specs.Blocks.{AreBlocksSoFar}
use Rattle.upf_statements.specs.declared.blocks.Block.{Block}
use Rattle.upf_statements.proofs.BlockLemmas.{none_yet, all_opened}
use Rattle.upf_statements.proofs.blocks.blocks_of.Goals as goal

pub loop-at-init : goal.loop-at-init
loop-at-init c = subst (λ (blocks : List Block). AreBlocksSoFar c.args.lines.now 0 None blocks) (sym c.new-blocks.ensures) (none_yet c.args.lines.now)

pub returns : goal.returns
returns c =
    let lines = c.args.lines.now in
    let all : c.loop-at.at ≡ length lines = omega arith in
    let at_end = subst (λ (at : ℕ). AreBlocksSoFar lines at c.loop-at.started c.loop-at.blocks) all c.loop-at.invariant in
    let before = subst (λ (started : Option ℕ). AreBlocksSoFar lines (length lines) started c.loop-at.blocks) c.in-Some.is at_end in
    all_opened lines c.in-Some.head c.loop-at.blocks c.put_block.new.blocks before c.in_ok-put_block.ensures
