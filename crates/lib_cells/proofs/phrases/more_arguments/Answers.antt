use Rattle.std.proofs.Common.{sym, ◌∙◌, map, length, ◌<◌, arith}
use Rattle.std.proofs.lemmas.Result.{err_from_is_err_and}
use Rattle.text_defs.specs.Tokens.{of_class}
use Rattle.text_streams.proofs.AnswerLaws.{stopped, kept_on, kept_fault, kept_end}
use Rattle.lib_cells.specs.Groups.{goes_on, further_argument}
use Rattle.lib_cells.specs.Streams.{text_of}
use Rattle.lib_cells.proofs.phrases.more_arguments.Goals as goal

pub returns-in_err-word-clause-answers : goal.returns-in_err-word-clause-answers
returns-in_err-word-clause-answers c =
    let p = err_from_is_err_and c.from_residual.result c.from_residual.ensures.1 in
    let lt : length c.loop-all.all < 4294967296 = omega (arith, c.len.ensures, c.len.type_inv) in
    rw (p.1, p.2)
    (stopped text_of (map text_of) (further_argument) c.loop-all.tokens c.further_argument.new.tokens _ c.in_err-word.field-0.0 c.in_err-word.ensures.answers
    (kept_fault text_of (of_class goes_on) (further_argument) 4294967296 _ c.loop-all.all _ c.loop-all.tokens c.loop-all.invariant.kept c.further_argument.new.tokens lt (sym c.is_next.ensures ∙ c.loop-all-test.true)))

pub loop-all-preserved : goal.loop-all-preserved
loop-all-preserved c =
    let lt : length c.loop-all.all < 4294967296 = omega (arith, c.len.ensures, c.len.type_inv) in
    record {
      kept =
          kept_on text_of (of_class goes_on) (further_argument) 4294967296 _ c.loop-all.all _ c.loop-all.tokens c.loop-all.invariant.kept
          c.further_argument.new.tokens c.in_ok-word.word c.push.new.self lt (sym c.is_next.ensures ∙ c.loop-all-test.true) c.in_ok-word.ensures.answers c.in_ok-push.ensures.ok;
      longer = omega (arith, c.in_ok-word.ensures.shorter, c.loop-all.invariant.longer);
    }

pub returns-clause-answers : goal.returns-clause-answers
returns-clause-answers c =
    kept_end text_of (of_class goes_on) (further_argument) 4294967296 _ c.loop-all.all _ c.loop-all.tokens c.loop-all.invariant.kept (sym c.is_next.ensures ∙ c.loop-all-test.false)
