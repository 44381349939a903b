use Rattle.std.proofs.Common.{◌≡◌, true, length, set, sym, ap, ◌∙◌, subst}
use Rattle.std.proofs.lemmas.Bool.{false≢true}
use Rattle.net_least.specs.Recursion.{AreFree, Closes, IsBegun}
use Rattle.net_least.proofs.WalkSteps.{begun_start}
use Rattle.net_least.proofs.recursion.first_recursion.Goals as goal

pub loop-init : goal.loop-init
loop-init c s apart names is types named =
    let start = begun_start s c.args.top c.len.result named (c.len.ensures ∙ ap length (sym is)) in
    let marks = c.set_mark.ensures ∙ ap (λ ms. set ms c.args.top true) (c.in_ok-marks.ensures.items_if_clones_equal (λ y e. e)) in
    subst (λ ms. IsBegun s ms c.args.top × (length ms ≡ length s.modules)) (sym marks) start

pub returns-then-closes : goal.returns-then-closes
returns-then-closes c s apart names is types named none =
    c.in_ok-at.ensures s apart names is types none
    (subst (λ ms. IsBegun s ms c.loop.number) (sym c.as_slice-then-closes.ensures.value) (c.loop.invariant s apart names is types named).0)

pub loop-preserved : goal.loop-preserved
loop-preserved c s apart names is types named =
    let here = c.loop.invariant s apart names is types named in
    let free = subst (AreFree c.args.types.now) (sym c.as_slice-in-loop.ensures.value) c.in_ok-free.ensures in
    c.in_ok-number.ensures s c.args.top apart names is types named free
    (λ closes. false≢true (sym c.if-closes.false ∙ c.closes.ensures.1 (subst (λ ms. Closes c.args.types.now ms c.loop.number) (sym c.as_slice.ensures.value) closes)))
    here.1 here.0
