use Rattle.std.proofs.Common.{Some, sym, subst}
use Rattle.pw_defs.specs.declared.design.Body.TheVariants.{Module as ModuleBody}
use Rattle.list_defs.specs.Members.{IsIn}
use Rattle.net_least.specs.Recursion.{AreFree, IsMarked}
use Rattle.net_least.proofs.Marking.{free_row}
use Rattle.net_least.proofs.marks.leave.Goals as goal

pub returns-then-are_free : goal.returns-then-are_free
returns-then-are_free c free =
    subst (AreFree c.args.types.now) (sym c.set_mark.ensures)
    (free_row c.args.types.now c.args.free.now.items c.args.number c.in-Some.row.now (sym c.in-Some.ensures) free
    (λ k one. subst (λ ms. IsMarked ms k) c.as_slice.ensures.value
    (c.are_free.ensures c.if-are_free.true k (subst (IsIn (Some (ModuleBody k))) (sym c.as_slice-in-Some.ensures.items) one))))
