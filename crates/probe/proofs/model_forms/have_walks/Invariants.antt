use Rattle.std.proofs.Common.{◌≡◌, ℕ, List, map, take}
use Rattle.pw_defs.specs.declared.chains.Partial.{Partial}
use Rattle.pw_defs.specs.declared.netlist.Port.{Port}
use Rattle.list_defs.specs.Members.{IsIn}
use Rattle.design_defs.specs.Models.{IsOutputWalk, bit_of_walk, input_bits}
use Rattle.probe.proofs.model_forms.have_walks.Given as goal

abbrev pub invariant-loop-at : goal.invariant-loop-at
invariant-loop-at l = (map bit_of_walk (take l.at l.walks) ≡ take l.at l.bits)
    × ((ports : List Port) → ((name : List ℕ) → IsIn name l.inputs → IsIn name (input_bits ports)) → (w : Partial) → IsIn w (take l.at l.walks) → IsOutputWalk ports 0 w)
