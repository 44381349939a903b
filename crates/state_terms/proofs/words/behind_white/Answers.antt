use Rattle.std.proofs.Common.{sym, ◌∙◌, arith}
use Rattle.state_terms.proofs.FirstTokens.{same_text, white_step, ink_here, ink_at_end}
use Rattle.state_terms.proofs.words.behind_white.Goals as goal

pub loop-byte-init : goal.loop-byte-init
loop-byte-init c = (same_text c.args.text.now, omega arith)

pub loop-byte-preserved : goal.loop-byte-preserved
loop-byte-preserved c =
    white_step c.loop-byte.rest.now c.in-Some.more.now c.args.text.now c.in-Some.byte.now c.in-Some.ensures.cases.0
    (sym c.is_white.ensures ∙ c.if-not-is_white.false) c.loop-byte.invariant

pub returns-then-not-is_white : goal.returns-then-not-is_white
returns-then-not-is_white c =
    record {
      same = c.loop-byte.invariant.0;
      ink = ink_here c.loop-byte.rest.now c.in-Some.more.now c.in-Some.byte.now c.in-Some.ensures.cases.0 (sym c.is_white.ensures ∙ c.if-not-is_white.true);
      shorter = c.loop-byte.invariant.1;
    }

pub returns : goal.returns
returns c =
    record {
      same = c.loop-byte.invariant.0;
      ink = ink_at_end c.loop-byte.rest.now c.in_default.ensures.cases;
      shorter = c.loop-byte.invariant.1;
    }
