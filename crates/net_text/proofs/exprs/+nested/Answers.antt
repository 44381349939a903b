use Rattle.std.proofs.Common.{sym, ap, map, ◌∙◌, ◌-◌, ◌<◌, ◌≡◌, ◌++◌, ◌∷◌, [], List, suc, length, arith}
use Rattle.std.proofs.lemmas.Result.{err_from_is_err_and}
use Rattle.pw_defs.specs.declared.netlist.Expr.{Expr}
use Rattle.text_defs.specs.Tokens.{of_class}
use Rattle.net_text.specs.NetlistClasses.{is_comma}
use Rattle.net_text.specs.NetlistGrammar.{comma_list, nested, unlined}
use Rattle.net_text.specs.CommaLists.{comma_then}
use Rattle.net_text.specs.ParserViews.{alone}
use Rattle.text_streams.proofs.AnswerLaws.{stopped, stopped_first, kept_on}
use Rattle.net_text.proofs.ListLaws.{list_stops, list_read, plain_list, further_fault, further_end}
use Rattle.net_text.proofs.NestedLaws.{nested_flat, nested_alone, nested_braces}
use Rattle.net_text.proofs.exprs.+nested.Goals as goal

pub nested-returns-then-depth-eq0-clause-answers : goal.nested-returns-then-depth-eq0-clause-answers
nested-returns-then-depth-eq0-clause-answers t c =
    nested_flat (alone c.args.constants) c.args.tokens.now c.alone.new.tokens c.alone.result c.args.depth c.if-depth-eq0.true c.alone.ensures.answers

pub nested-returns-then-not-is_next-clause-answers : goal.nested-returns-then-not-is_next-clause-answers
nested-returns-then-not-is_next-clause-answers t c =
    nested_alone (alone c.args.constants) c.args.tokens.now c.alone-then-not-is_next.new.tokens c.alone-then-not-is_next.result c.args.depth
    (sym c.is_next.ensures ∙ c.if-not-is_next.true) c.alone-then-not-is_next.ensures.answers

pub nested-returns-clause-answers : goal.nested-returns-clause-answers
nested-returns-clause-answers t c =
    let less : c.args.depth ≡ suc (c.args.depth - 1) = omega (arith, c.if-depth-eq0.false) in
    nested_braces (alone c.args.constants) c.args.tokens.now c.concatenation.new.tokens c.concatenation.result c.args.depth (c.args.depth - 1) less
    (sym c.is_next.ensures ∙ c.if-not-is_next.false) c.concatenation.ensures.answers

pub parts-returns-in_err-first-clause-answers : goal.parts-returns-in_err-first-clause-answers
parts-returns-in_err-first-clause-answers t c =
    let p = err_from_is_err_and c.from_residual.result c.from_residual.ensures.1 in
    rw (p.1, p.2)
    (stopped_first (λ (e : Expr). e) (λ (l : List Expr). l) (unlined (nested (alone c.args.constants) c.args.depth)) _ c.args.tokens.now c.part.new.tokens c.in_err-first.field-0.0 c.in_err-first.ensures.answers
    (list_stops (unlined (nested (alone c.args.constants) c.args.depth)) c.args.tokens.now c.part.new.tokens))

pub parts-returns-clause-answers : goal.parts-returns-clause-answers
parts-returns-clause-answers t c =
    plain_list (comma_list (unlined (nested (alone c.args.constants) c.args.depth))) c.args.tokens.now c.more_parts.new.tokens c.more_parts.result
    (list_read (λ (e : Expr). e) (unlined (nested (alone c.args.constants) c.args.depth)) c.args.tokens.now c.part.new.tokens c.in_ok-first.first c.push.new.self c.more_parts.result c.more_parts.new.tokens
    c.in_ok-first.ensures.answers (c.in_ok-push.ensures.ok ∙ ap (λ l. l ++ c.in_ok-first.first ∷ []) c.new-all.ensures) c.more_parts.ensures.answers)

pub more_parts-returns-in_err-part-clause-answers : goal.more_parts-returns-in_err-part-clause-answers
more_parts-returns-in_err-part-clause-answers t c =
    let p = err_from_is_err_and c.from_residual.result c.from_residual.ensures.1 in
    let lt : length c.loop-alloc.all < 4294967296 = omega (arith, c.len.ensures, c.len.type_inv) in
    rw (p.1, p.2)
    (stopped (λ (e : Expr). e) (map (λ (e : Expr). e)) (comma_then (unlined (nested (alone c.args.constants) c.args.depth))) c.loop-alloc.tokens c.comma_part.new.tokens _ c.in_err-part.field-0.0 c.in_err-part.ensures.answers
    (further_fault (λ (e : Expr). e) (unlined (nested (alone c.args.constants) c.args.depth)) _ c.loop-alloc.all _ c.loop-alloc.tokens c.loop-alloc.invariant.kept c.requires c.comma_part.new.tokens lt
    (sym c.is_next.ensures ∙ c.loop-alloc-test.true)))

pub more_parts-loop-alloc-preserved : goal.more_parts-loop-alloc-preserved
more_parts-loop-alloc-preserved t c =
    let lt : length c.loop-alloc.all < 4294967296 = omega (arith, c.len.ensures, c.len.type_inv) in
    record {
      kept =
          kept_on (λ (e : Expr). e) (of_class is_comma) (comma_then (unlined (nested (alone c.args.constants) c.args.depth))) 4294967296 _ c.loop-alloc.all _ c.loop-alloc.tokens c.loop-alloc.invariant.kept
          c.comma_part.new.tokens c.in_ok-part.part c.push.new.self lt (sym c.is_next.ensures ∙ c.loop-alloc-test.true) c.in_ok-part.ensures.answers
          c.in_ok-push.ensures.ok;
      longer = omega (arith, c.in_ok-part.ensures.shorter, c.loop-alloc.invariant.longer);
    }

pub more_parts-returns-clause-answers : goal.more_parts-returns-clause-answers
more_parts-returns-clause-answers t c =
    further_end (λ (e : Expr). e) (unlined (nested (alone c.args.constants) c.args.depth)) _ c.loop-alloc.all _ c.loop-alloc.tokens c.loop-alloc.invariant.kept c.requires (sym c.is_next.ensures ∙ c.loop-alloc-test.false)
