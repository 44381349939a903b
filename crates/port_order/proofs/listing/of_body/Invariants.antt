use Rattle.std.proofs.Common.{◌≡◌, ◌++◌}
use Rattle.port_order.specs.Listings.{numbered}
use Rattle.port_order.proofs.listing.of_body.Given as goal

-- the numbers below `port` are appended
abbrev pub invariant-loop-port : goal.invariant-loop-port
invariant-loop-port l = l.numbers.items ≡ l.initial.numbers.items ++ numbered l.body l.port
