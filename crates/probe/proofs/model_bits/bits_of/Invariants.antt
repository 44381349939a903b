use Rattle.std.proofs.Common.{◌≡◌, take}
use Rattle.design_defs.specs.Models.{input_bits, output_bits}
use Rattle.probe.proofs.model_bits.bits_of.Given as goal

abbrev pub invariant-loop-port : goal.invariant-loop-port
invariant-loop-port l = (l.names.inputs ≡ input_bits (take l.port-index l.ports)) × (l.names.outputs ≡ output_bits (take l.port-index l.ports))
