-- The ends of a chain as the code has them.
use Rattle.checks.specs.LineChains.{Ends}
use Rattle.checks.specs.declared.chain_ends.ChainEnds.{ChainEnds}

abbrev pub ends_of : ChainEnds → Ends
ends_of e = record { receiver = e.receiver; receiver_bit = e.receiver_bit; driver = e.driver; driver_bit = e.driver_bit }
