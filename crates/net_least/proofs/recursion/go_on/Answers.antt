use Rattle.std.proofs.Common.{◌≡◌, length, sym, subst}
use Rattle.module_rows.specs.Reads.{module_at}
use Rattle.net_least.specs.Recursion.{AreFree, Closes, IsBegun, IsNext}
use Rattle.net_least.proofs.RowItems.{module_there}
use Rattle.net_least.proofs.WalkSteps.{begun_after}
use Rattle.net_least.proofs.recursion.go_on.Goals as goal

pub returns : goal.returns
returns c s top apart names is types named free open_here count begun =
    let marks = c.args.marks.now.items in
    let n = c.args.holder in
    let k = c.in_ok-number.number in
    let m = module_at c.args.modules.now n in
    let next = c.in_ok-number.ensures s types is in
    let is_next = subst (λ ms. IsNext s c.args.free.now ms m.insts k) c.as_slice.ensures.value next.1 in
    subst (λ ms. IsBegun s ms k × (length ms ≡ length s.modules)) (sym c.set_mark.ensures)
    (begun_after s top named apart names marks n begun c.args.free.now (subst (λ t. AreFree t c.args.free.now) types free) m
    (module_there s c.args.modules.now.modules n is next.0) (λ closes. open_here (subst (λ t. Closes t marks n) (sym types) closes)) k is_next count)
