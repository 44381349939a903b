-- The ports of a module that has one name twice, and the pins of the buffer, in order.
use Rattle.std.proofs.Common.{◌≡◌, ℕ, zero, suc, List, [], ◌∷◌, Some, None, inl, inr, refl, sym, ap, subst, arith}
use Rattle.std.specs.Prelude.{codes}
use Rattle.std.specs.List.{position}
use Rattle.std.specs.Option.{option_and_then}
use Rattle.pw_defs.specs.declared.cells.Cells.{Cells}
use Rattle.pw_defs.specs.declared.cells.Dir.TheVariants.{Input, Output}
use Rattle.pw_defs.specs.declared.design.Body.{Body}
use Rattle.pw_defs.specs.declared.design.Body.TheVariants.{Module as ModuleBody, Cell as CellBody, Model as ModelBody}
use Rattle.pw_defs.specs.declared.netlist.Module.{Module}
use Rattle.pw_defs.specs.declared.netlist.Port.{Port}
use Rattle.design_defs.specs.Ports.{ports_among}
use Rattle.list_defs.specs.Members.{IsIn}
use Rattle.worked_jobs.specs.Libraries.{buffer}
use Rattle.port_order.specs.PortNames.{has_name}
use Rattle.port_order.specs.PortOrders.{IsPort, IsPortOrder}
use Rattle.port_order.specs.declared.keys.PortNumber.{PortNumber}

abbrev port : List ℕ → Port
port name = record { name = name; dir = Input; range = None }

abbrev modules : List Module
modules = record { name = codes "m"; ports = port (codes "b") ∷ port (codes "a") ∷ port (codes "b") ∷ []; nets = []; assigns = []; insts = []; line = 1 } ∷ []

abbrev cells : Cells
cells = record { cells = buffer ∷ [] }

abbrev of_module : ℕ → PortNumber
of_module n = record { body = ModuleBody 0; port = n }

abbrev of_cell : ℕ → PortNumber
of_cell n = record { body = CellBody 0; port = n }

abbrev numbers : List PortNumber
numbers = of_module 1 ∷ of_module 0 ∷ of_module 2 ∷ of_cell 0 ∷ of_cell 1 ∷ []

-- a module's ports come before a cell's pins, and go by name, then by number
pub they_are_in_order : IsPortOrder modules cells [] numbers
they_are_in_order =
    record { rising = ((refl, (refl, (refl, (refl, tt)))), ((refl, (refl, (refl, tt))), ((refl, (refl, tt)), ((refl, tt), (tt, tt))))); each = each; all = λ n is. all n.body n.port is }
  where
    each : (n : PortNumber) → IsIn n numbers → IsPort modules cells [] n
    each n (inl is) = subst (IsPort modules cells []) (sym is) (port (codes "a"), refl)
    each n (inr (inl is)) = subst (IsPort modules cells []) (sym is) (port (codes "b"), refl)
    each n (inr (inr (inl is))) = subst (IsPort modules cells []) (sym is) (port (codes "b"), refl)
    each n (inr (inr (inr (inl is)))) = subst (IsPort modules cells []) (sym is) (record { name = codes "A"; dir = Input; range = None }, refl)
    each n (inr (inr (inr (inr (inl is))))) = subst (IsPort modules cells []) (sym is) (record { name = codes "Y"; dir = Output; range = None }, refl)
    each n (inr (inr (inr (inr (inr none))))) = absurd none

    all : (body : Body) (n : ℕ) → IsPort modules cells [] (record { body = body; port = n }) → IsIn (record { body = body; port = n }) numbers
    all (ModuleBody zero) zero is = inr (inl refl)
    all (ModuleBody zero) (suc zero) is = inl refl
    all (ModuleBody zero) (suc (suc zero)) is = inr (inr (inl refl))
    all (ModuleBody zero) (suc (suc (suc n))) is = let past = is.1 in cc
    all (ModuleBody (suc m)) n is = let past = is.1 in cc
    all (CellBody zero) zero is = inr (inr (inr (inl refl)))
    all (CellBody zero) (suc zero) is = inr (inr (inr (inr (inl refl))))
    all (CellBody zero) (suc (suc n)) is = let past = is.1 in cc
    all (CellBody (suc c)) n is = let past = is.1 in cc
    all (ModelBody m) n is = let past = is.1 in cc

-- of two ports of one name the first comes first
pub no_later_one_comes_first : ¬ IsPortOrder modules cells [] (of_module 1 ∷ of_module 2 ∷ of_module 0 ∷ of_cell 0 ∷ of_cell 1 ∷ [])
no_later_one_comes_first order = let twice = order.rising.1.0.0 in cc

-- and is what the name finds
pub the_first_is_found : option_and_then (position (has_name (codes "b"))) (ports_among modules cells [] (ModuleBody 0)) ≡ Some 0
the_first_is_found = refl

-- no port is left out
absent : IsIn (of_module 1) (of_module 0 ∷ of_module 2 ∷ of_cell 0 ∷ of_cell 1 ∷ []) → ⊥
absent (inl is) = absurd (omega (arith, ap (λ (n : PortNumber). n.port) is))
absent (inr (inl is)) = absurd (omega (arith, ap (λ (n : PortNumber). n.port) is))
absent (inr (inr (inl is))) = absurd (omega (arith, ap (λ (n : PortNumber). n.port) is))
absent (inr (inr (inr (inl is)))) = let body = ap (λ (n : PortNumber). n.body) is in cc
absent (inr (inr (inr (inr none)))) = none

pub none_is_left_out : ¬ IsPortOrder modules cells [] (of_module 0 ∷ of_module 2 ∷ of_cell 0 ∷ of_cell 1 ∷ [])
none_is_left_out order = absent (order.all (of_module 1) (port (codes "a"), refl))
