-- The parts of a design that a script can name: instances, ports and pins, and bits of vector ports.
use Rattle.std.specs.Prelude.{ℕ, Bool, false, not, ◌&&◌, List, [], ◌++◌, Option, None, Some, option_map, option_to_list, unwrap_or, map, slice_get, drop, codes, if◌then◌else◌}
use Rattle.std.specs.List.{find, flat_map, enumerate_from, range_with_len}
use Rattle.pw_defs.specs.declared.design.Body.{Body}
use Rattle.pw_defs.specs.declared.design.Body.TheVariants.{Module, Cell, Model}
use Rattle.pw_defs.specs.declared.design.Design.{Design}
use Rattle.pw_defs.specs.declared.design.Instance.{Instance}
use Rattle.pw_defs.specs.declared.design.Named.{Named}
use Rattle.pw_defs.specs.declared.netlist.Port.{Port}
use Rattle.list_defs.specs.Members.{same_name}
use Rattle.design_defs.specs.Names.{joined}
use Rattle.design_defs.specs.Ports.{body_of, ports_of}
use Rattle.design_defs.specs.Ranges.{width, bit_name}
use Rattle.script_defs.specs.Scopes.{is_leaf_cell, at_or_above, above, is_one_of}

-- a part of the design, with its whole name and the instance that it is, or that it is a part of
pub record DesignPart : Type 0 where
  pub name : List ℕ
  pub owner : List ℕ
  pub named : Named

-- each instance with its number
abbrev pub numbered : Design → List (ℕ × Instance)
numbered d = enumerate_from 0 d.insts

-- the ports and pins of an instance, with their numbers
abbrev pub numbered_ports : Design → ℕ → List (ℕ × Port)
numbered_ports d inst = enumerate_from 0 (unwrap_or (ports_of d inst) [])

-- the instances below the top by their whole names
abbrev pub instance_parts : Design → List DesignPart
instance_parts d = map (λ (e : ℕ × Instance). record { name = e.1.path; owner = e.1.path; named = Named.Instance e.0 }) (drop 1 (numbered d))

-- the ports and pins of an instance by their whole names
abbrev pub parts_of_ports : Design → ℕ × Instance → List DesignPart
parts_of_ports d e =
    map (λ (p : ℕ × Port). record { name = joined e.1.path p.1.name; owner = e.1.path; named = Named.Port e.0 p.0 }) (numbered_ports d e.0)

-- the bits of a vector port, each with its place from the left; a scalar port and its bit are one
abbrev pub bits_of_port : ℕ × Instance → ℕ × Port → List DesignPart
bits_of_port e p =
    flat_map
    (λ range. map (λ place. record {
      name = joined e.1.path (bit_name p.1.name (Some range) place);
      owner = e.1.path;
      named = Named.PortBit (record
          { inst = e.0; port = p.0; place = place });
    }) (range_with_len 0 (width (Some range))))
    (option_to_list p.1.range)

-- All that a name can stand for: an instance goes before a port, and a port before a bit.
abbrev pub design_parts : Design → List DesignPart
design_parts d =
    instance_parts d ++ flat_map (parts_of_ports d) (numbered d) ++ flat_map (λ e. flat_map (bits_of_port e) (numbered_ports d e.0)) (numbered d)

-- whether a part stands below a scope: an instance further in, or a port of one or of the scope itself
abbrev pub is_below : Design → List ℕ → DesignPart → Bool
is_below d scope x = elim x.named as (λ n. Bool) [ Named.Instance n ↦ is_one_of scope (above d x.owner) | _ ↦ is_one_of scope (at_or_above d x.owner) ]

-- the part of the design with a whole name
abbrev pub part_at : Design → List ℕ → Option DesignPart
part_at d name = find (λ x. same_name name x.name) (design_parts d)

-- the scope's own instance as a part
abbrev pub own_part : Design → List ℕ → Option DesignPart
own_part d scope =
    option_map (λ (e : ℕ × Instance). record { name = scope; owner = scope; named = Named.Instance e.0 }) (find (λ (e : ℕ
    × Instance). same_name scope e.1.path) (numbered d))

-- The part of the design that a word names from a scope: the first of its name that stands below; `.` is the scope's own
-- instance.
abbrev pub part_from : Design → List ℕ → List ℕ → Option DesignPart
part_from d scope word =
    if same_name word (codes ".") then own_part d scope
    else find (λ x. same_name (joined scope word) x.name && is_below d scope x) (design_parts d)

-- what the instance is an instance of, where the part is an instance
abbrev pub body_of_part : Design → Option DesignPart → Option Body
body_of_part d (Some x) = elim x.named as (λ n. Option Body) [ Named.Instance n ↦ body_of d n | _ ↦ None ]
body_of_part d None = None

-- whether it is a whole port of an instance that is no leaf cell
abbrev pub is_whole_port : Design → Option DesignPart → Bool
is_whole_port d (Some x) = elim x.named as (λ n. Bool) [ Named.Port inst port ↦ not (is_leaf_cell (body_of d inst)) | _ ↦ false ]
is_whole_port d None = false

-- the name of the module, cell or model of an instance
abbrev pub type_name : Design → Option Body → List ℕ
type_name d (Some (Module m)) = unwrap_or (option_map (λ x. x.name) (slice_get d.modules m)) []
type_name d (Some (Cell c)) = unwrap_or (option_map (λ x. x.name) (slice_get d.cells.cells c)) []
type_name d (Some (Model m)) = unwrap_or (option_map (λ x. x.module) (slice_get d.models m)) []
type_name d None = []
