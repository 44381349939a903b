-- The order of findings is total.
use Rattle.std.specs.Cmp.{IsTotalOrder}
use Rattle.std.proofs.lemmas.Cmp.{nat_cmp_total, lists_total, on_total, then_total}
use Rattle.checks.specs.LineFindings.{finding_cmp}
use Rattle.pw_defs.specs.Kinds.{kind_number}

pub finding_cmp_total : IsTotalOrder finding_cmp
finding_cmp_total = then_total (on_total (λ f. f.receiver) (lists_total nat_cmp_total)) (on_total (λ f. kind_number f.kind) nat_cmp_total)
