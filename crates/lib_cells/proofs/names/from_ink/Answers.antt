use Rattle.std.proofs.Common.{sym, ◌∙◌}
use Rattle.lib_cells.proofs.NameLaws.{ink_here, ink_none, ink_on}
use Rattle.lib_cells.proofs.names.from_ink.Goals as goal

pub returns-then-not-is_white : goal.returns-then-not-is_white
returns-then-not-is_white c = sym (ink_here c.loop-byte.rest.now c.in-Some.more.now c.in-Some.byte.now c.in-Some.ensures.cases.0 (sym c.is_white.ensures ∙ c.if-not-is_white.true)) ∙ c.loop-byte.invariant

pub loop-byte-preserved : goal.loop-byte-preserved
loop-byte-preserved c = sym (ink_on c.loop-byte.rest.now c.in-Some.more.now c.in-Some.byte.now c.in-Some.ensures.cases.0 (sym c.is_white.ensures ∙ c.if-not-is_white.false)) ∙ c.loop-byte.invariant

pub returns : goal.returns
returns c = sym (ink_none c.loop-byte.rest.now c.in_default.ensures.cases) ∙ c.loop-byte.invariant
