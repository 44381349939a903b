-- What a walk passes on its way: sides of ports, and isolation cells and level shifters.
use Rattle.std.specs.Prelude.{ℕ, ◌==◌, Bool, false, List, [], ◌∷◌, ◌++◌, Option, Some, None, option_map, option_and_then, reverse, slice_get, if◌then◌else◌}
use Rattle.std.specs.List.{flat_map}
use Rattle.pw_defs.specs.declared.design.Design.{Design}
use Rattle.pw_defs.specs.declared.design.PortBit.{PortBit}
use Rattle.design_defs.specs.Joined.{parent_of}
use Rattle.design_defs.specs.CutWalks.{Step, steps, port_bit_at}

-- what a walk passes: the side of a port bit towards its instance, the side away from it, or a cell
pub data Part : Type 0 where
  inner : PortBit → Part
  outer : PortBit → Part
  cell : ℕ → Part

-- the instance that owns a bit
abbrev pub owner_of : Design → ℕ → Option ℕ
owner_of d n = option_map (λ b. b.owner) (slice_get d.bits n)

abbrev pub are_same : Option ℕ → Option ℕ → Bool
are_same None b = false
are_same (Some a) None = false
are_same (Some a) (Some b) = a == b

-- whether what stands above one instance is another one
abbrev pub is_above : Option (Option ℕ) → Option ℕ → Bool
is_above None whole = false
is_above (Some above) whole = are_same above whole

-- whether the owner of the first bit stands in the owner of the second
abbrev pub stands_in : Design → ℕ → ℕ → Bool
stands_in d first second = is_above (option_and_then (parent_of d) (owner_of d first)) (owner_of d second)

-- both sides of a port, as a signal passes them that goes in there
abbrev pub way_in : Option PortBit → List Part
way_in None = []
way_in (Some p) = outer p ∷ inner p ∷ []

-- both sides of a port, as a signal passes them that comes out there
abbrev pub way_out : Option PortBit → List Part
way_out None = []
way_out (Some p) = inner p ∷ outer p ∷ []

-- What a signal passes by a link: between a port bit and a bit of the parent both sides of the port, within a module
-- nothing.
abbrev pub link_parts : Design → ℕ → ℕ → List Part
link_parts d fed source =
    if stands_in d fed source then way_in (port_bit_at d fed) else (if stands_in d source fed then way_out (port_bit_at d source) else [])

-- what a signal passes by a step of a walk: the cell that it goes through, or what its link passes
abbrev pub parts_through : Design → Step → Option ℕ → List Part
parts_through d s None = link_parts d s.fed s.source
parts_through d s (Some inst) = cell inst ∷ []

abbrev pub step_parts : Design → Step → List Part
step_parts d s = parts_through d s s.through

-- the inner side of a port bit, where it is a port of this instance
abbrev pub own_side : ℕ → Option PortBit → List Part
own_side inst None = []
own_side inst (Some p) = if p.inst == inst then inner p ∷ [] else []

abbrev pub end_parts : Design → ℕ → Option ℕ → List Part
end_parts d inst None = []
end_parts d inst (Some n) = own_side inst (port_bit_at d n)

-- The parts that a walk inside an instance passes, from its source on; its bits run the other way. Where it begins or
-- ends at a port bit of the instance itself, it passes the inner side alone.
abbrev pub walk_parts : Design → ℕ → List ℕ → List Part
walk_parts d inst bits =
    end_parts d inst (slice_get (reverse bits) 0) ++ flat_map (step_parts d) (reverse (steps d.bits bits)) ++ end_parts d inst (slice_get bits 0)
