use Rattle.std.proofs.Common.{◌≡◌, ◌++◌}
use Rattle.pw_defs.specs.declared.design.Body.TheVariants.{Module}
use Rattle.port_order.specs.Listings.{all_numbers}
use Rattle.port_order.proofs.listing.of_modules.Given as goal

-- those of the first `n` are appended
abbrev pub invariant-loop-n : goal.invariant-loop-n
invariant-loop-n l = l.numbers.items ≡ l.initial.numbers.items ++ all_numbers l.modules l.cells l.models Module l.n
