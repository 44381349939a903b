use Rattle.std.proofs.Common.{◌∷◌, [], ◌+◌, ◌<◌, length, sym, ◌∙◌, arith}
use Rattle.std.proofs.lemmas.List.{length-append}
use Rattle.std.proofs.lemmas.Result.{err_from_is_err_and}
use Rattle.line_forms.proofs.Loop.{starts, steps, fails, ends}
use Rattle.line_forms.proofs.text.read_more.Goals as goal

pub loop-alloc-init : goal.loop-alloc-init
loop-alloc-init g c = (omega arith, starts g.T.Form.goes_on g.T.Form.read_at c.args.read c.args.text.now)

pub returns-in_err-item : goal.returns-in_err-item
returns-in_err-item g c =
    let p = err_from_is_err_and c.from_residual.result c.from_residual.ensures.1 in
    rw (p.1, p.2) (fails g.T.Form.goes_on g.T.Form.read_at c.in_err-item.field-0.0 c.loop-alloc.all _ c.loop-alloc.rest.now _ (sym c.follows.ensures ∙ c.loop-alloc-test.true) c.in_err-item.ensures.gives c.loop-alloc.invariant.1)

pub loop-alloc-preserved : goal.loop-alloc-preserved
loop-alloc-preserved g c =
    let longer = length-append c.loop-alloc.all (c.in_ok-item.item ∷ []) in
    let room : length c.loop-alloc.all < length c.args.text.now + length c.args.read = omega (arith, c.in_ok-item.ensures.shorter) in
    let next = steps g.T.Form.goes_on g.T.Form.read_at c.loop-alloc.all (length c.args.text.now + length c.args.read) c.loop-alloc.rest.now c.in_ok-item.after.now c.in_ok-item.item _ (sym c.follows.ensures ∙ c.loop-alloc-test.true) c.in_ok-item.ensures.gives room c.loop-alloc.invariant.1 in
    rw c.in_ok-push.ensures.ok (omega (arith, c.in_ok-item.ensures.shorter), next)

pub returns : goal.returns
returns g c = ends g.T.Form.goes_on g.T.Form.read_at c.loop-alloc.all _ c.loop-alloc.rest.now _ (sym c.follows.ensures ∙ c.loop-alloc-test.false) c.loop-alloc.invariant.1
