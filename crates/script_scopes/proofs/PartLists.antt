-- The list of all parts of a design has exactly what has a joined name.
use Rattle.std.proofs.Common.{◌≡◌, ℕ, ◌<◌, List, [], ◌++◌, length, map, drop, Option, None, Some, option_to_list, slice_get, unwrap_or, inl, inr, refl, sym, ap, ◌∙◌, subst}
use Rattle.std.specs.List.{flat_map, range_with_len}
use Rattle.std.specs.Option.{option_and_then, option_map}
use Rattle.list_defs.specs.Members.{IsIn}
use Rattle.list_defs.proofs.Members.{IsIn-append_cases, IsIn-append_left, IsIn-append_right, IsIn-flat_map, IsIn-flat_map_from, IsIn-map, IsIn-map_from}
use Rattle.pw_defs.specs.declared.design.Design.{Design}
use Rattle.pw_defs.specs.declared.design.Instance.{Instance}
use Rattle.pw_defs.specs.declared.design.Named.{Named}
use Rattle.pw_defs.specs.declared.design.Named.TheVariants.{Instance as InstanceNamed, Port as PortNamed, PortBit as BitNamed}
use Rattle.pw_defs.specs.declared.netlist.Port.{Port}
use Rattle.design_defs.specs.Joined.{HasJoinedName, path_of}
use Rattle.design_defs.specs.Names.{joined}
use Rattle.design_defs.specs.Ports.{port_at, ports_of}
use Rattle.design_defs.specs.Ranges.{bit_name, width}
use Rattle.script_defs.specs.DesignParts.{DesignPart, bits_of_port, design_parts, instance_parts, numbered, numbered_ports, parts_of_ports}
use Rattle.script_scopes.specs.Parts.{owner_of, part_of}
use Rattle.script_scopes.specs.Standing.{own_path}
use Rattle.script_scopes.proofs.ListedLemmas.{later_at, later_in, number_at, number_in, range_at, range_in}
use Rattle.script_scopes.proofs.PathLemmas.{inst_of_path, once, own_path_is, path_within}

-- the parts as the list makes them
abbrev inst_part : ℕ × Instance → DesignPart
inst_part e = record { name = e.1.path; owner = e.1.path; named = InstanceNamed e.0 }

abbrev port_part : ℕ × Instance → ℕ × Port → DesignPart
port_part e p = record { name = joined e.1.path p.1.name; owner = e.1.path; named = PortNamed e.0 p.0 }

abbrev bit_part : ℕ × Instance → ℕ × Port → ℕ × ℕ → ℕ → DesignPart
bit_part e p range place = record {
  name = joined e.1.path (bit_name p.1.name (Some range) place);
  owner = e.1.path;
  named = BitNamed (record { inst = e.0; port = p.0; place = place });
}

abbrev bits_in : ℕ × Instance → ℕ × Port → ℕ × ℕ → List DesignPart
bits_in e p range = map (bit_part e p range) (range_with_len 0 (width (Some range)))

abbrev bits_of : Design → ℕ × Instance → List DesignPart
bits_of d e = flat_map (bits_of_port e) (numbered_ports d e.0)

abbrev port_parts : Design → List DesignPart
port_parts d = flat_map (parts_of_ports d) (numbered d)

abbrev bit_parts : Design → List DesignPart
bit_parts d = flat_map (bits_of d) (numbered d)

same_part : (a b p q : List ℕ) (x y : Named) → a ≡ b → p ≡ q → x ≡ y
    → ◌≡◌ {A = DesignPart} (record { name = a; owner = p; named = x }) (record { name = b; owner = q; named = y })
same_part a b p q x y e f g = cc

range_of : (range : Option (ℕ × ℕ)) (r : ℕ × ℕ) → IsIn r (option_to_list range) → range ≡ Some r
range_of None r there = absurd there
range_of (Some s) r (inl same) = ap Some (sym same)
range_of (Some s) r (inr none) = absurd none

of_range : (range : Option (ℕ × ℕ)) (r : ℕ × ℕ) → range ≡ Some r → IsIn r (option_to_list range)
of_range None r is = cc
of_range (Some s) r is = inl (sym (once is))

module _ (d : Design) where
  -- the instance of a number by its path
  inst_path : (n : ℕ) (i : Instance) → slice_get d.insts n ≡ Some i → path_of d n ≡ Some i.path
  inst_path n i there = ap (option_map (λ (x : Instance). x.path)) there

  -- a port by its number, as the lists of parts have it
  port_there : (n number : ℕ) (p : Port) → slice_get (unwrap_or (ports_of d n) []) number ≡ Some p → port_at d n number ≡ Some p
  port_there n number p there = by (ports_of d n) refl there
    where
      by : (o : Option (List Port)) → ports_of d n ≡ o → slice_get (unwrap_or o []) number ≡ Some p → port_at d n number ≡ Some p
      by None e at = cc
      by (Some ports) e at = ap (option_and_then (λ (xs : List Port). slice_get xs number)) e ∙ at

  there_port : (n number : ℕ) (p : Port) → port_at d n number ≡ Some p → slice_get (unwrap_or (ports_of d n) []) number ≡ Some p
  there_port n number p at = by (ports_of d n) refl at
    where
      by : (o : Option (List Port)) → ports_of d n ≡ o → option_and_then (λ (xs : List Port). slice_get xs number) (ports_of d n) ≡ Some p
          → slice_get (unwrap_or (ports_of d n) []) number ≡ Some p
      by None e f = let none : option_and_then (λ (xs : List Port). slice_get xs number) (ports_of d n) ≡ None = ap (option_and_then (λ (xs : List Port). slice_get xs number)) e in cc
      by (Some ports) e f =
          ap (λ (o : Option (List Port)). slice_get (unwrap_or o []) number) e
          ∙ sym (ap (option_and_then (λ (xs : List Port). slice_get xs number)) e) ∙ f

  -- a part with its joined name, and with the path of its instance
  pub record IsListed (x : DesignPart) : Type 0 where
    pub is_named : HasJoinedName d x.named x.name
    pub is_owner : x.owner ≡ own_path d (owner_of x.named)
    pub within : owner_of x.named < length d.insts

  listed_inst : (x : DesignPart) → IsIn x (instance_parts d) → IsListed x
  listed_inst x there =
      let from = IsIn-map_from inst_part x (drop 1 (numbered d)) there in
      let e = from.0 in
      let at = later_in d.insts e from.1 in
      let path = inst_path e.0 e.1 at.1 in
      let made : IsListed (inst_part e) = record {
        is_named = HasJoinedName.instance e.0 e.1.path at.0 path;
        is_owner = sym (own_path_is d e.0 e.1.path path);
        within = path_within d e.0 e.1.path path;
      } in
      subst IsListed (sym from.2) made

  listed_port : (x : DesignPart) → IsIn x (port_parts d) → IsListed x
  listed_port x there =
      let outer = IsIn-flat_map_from (parts_of_ports d) (numbered d) x there in
      let e = outer.0 in
      let path = inst_path e.0 e.1 (number_in d.insts e outer.1) in
      let from = IsIn-map_from (port_part e) x (numbered_ports d e.0) outer.2 in
      let p = from.0 in
      let at = port_there e.0 p.0 p.1 (number_in (unwrap_or (ports_of d e.0) []) p from.1) in
      let made : IsListed (port_part e p) = record {
        is_named = HasJoinedName.port e.0 p.0 p.1 e.1.path path at;
        is_owner = sym (own_path_is d e.0 e.1.path path);
        within = path_within d e.0 e.1.path path;
      } in
      subst IsListed (sym from.2) made

  listed_bit : (x : DesignPart) → IsIn x (bit_parts d) → IsListed x
  listed_bit x there =
      let outer = IsIn-flat_map_from (bits_of d) (numbered d) x there in
      let e = outer.0 in
      let path = inst_path e.0 e.1 (number_in d.insts e outer.1) in
      let inner = IsIn-flat_map_from (bits_of_port e) (numbered_ports d e.0) x outer.2 in
      let p = inner.0 in
      let at = port_there e.0 p.0 p.1 (number_in (unwrap_or (ports_of d e.0) []) p inner.1) in
      let ranged = IsIn-flat_map_from (bits_in e p) (option_to_list p.1.range) x inner.2 in
      let range = ranged.0 in
      let vector = range_of p.1.range range ranged.1 in
      let from = IsIn-map_from (bit_part e p range) x (range_with_len 0 (width (Some range))) ranged.2 in
      let place = from.0 in
      let within : place < width p.1.range = subst (λ r. place < width r) (sym vector) (range_in (width (Some range)) place from.1) in
      let named : Named = BitNamed (record { inst = e.0; port = p.0; place = place }) in
      let bit : HasJoinedName d named (joined e.1.path (bit_name p.1.name p.1.range place)) =
      HasJoinedName.vector_bit (record { inst = e.0; port = p.0; place = place }) p.1 range e.1.path path at vector within in
      let made : IsListed (bit_part e p range place) = record {
        is_named = subst (λ r. HasJoinedName d named (joined e.1.path (bit_name p.1.name r place))) {x = p.1.range} vector bit;
        is_owner = sym (own_path_is d e.0 e.1.path path);
        within = path_within d e.0 e.1.path path;
      } in
      subst IsListed (sym from.2) made

  -- each part of the list has its joined name
  pub listed : (x : DesignPart) → IsIn x (design_parts d) → IsListed x
  listed x there = elim (IsIn-append_cases x (instance_parts d ++ port_parts d) (bit_parts d) there) [
    | inl front ↦ elim (IsIn-append_cases x (instance_parts d) (port_parts d) front) [ inl inst ↦ listed_inst x inst | inr port ↦ listed_port x port ]
    | inr bit ↦ listed_bit x bit
  ]

  -- and is known by it and by what it is
  pub as_part : (x : DesignPart) → IsListed x → x ≡ part_of d x.name x.named
  as_part x is = same_part x.name x.name x.owner (own_path d (owner_of x.named)) x.named x.named refl is.is_owner refl

  among_insts : (x : DesignPart) → IsIn x (instance_parts d) → IsIn x (design_parts d)
  among_insts x there = IsIn-append_left x (instance_parts d ++ port_parts d) (bit_parts d) (IsIn-append_left x (instance_parts d) (port_parts d) there)

  among_ports : (x : DesignPart) → IsIn x (port_parts d) → IsIn x (design_parts d)
  among_ports x there = IsIn-append_left x (instance_parts d ++ port_parts d) (bit_parts d) (IsIn-append_right x (instance_parts d) (port_parts d) there)

  among_bits : (x : DesignPart) → IsIn x (bit_parts d) → IsIn x (design_parts d)
  among_bits x there = IsIn-append_right x (instance_parts d ++ port_parts d) (bit_parts d) there

  -- whatever has a joined name is listed with it
  pub listed_at : (x : Named) (name : List ℕ) → HasJoinedName d x name → IsIn (part_of d name x) (design_parts d)
  listed_at _ _ (HasJoinedName.instance n path later is) =
      let i = inst_of_path d n path is in
      let e : ℕ × Instance = (n, i.0) in
      let made = IsIn-map inst_part e (drop 1 (numbered d)) (later_at d.insts n i.0 later i.1) in
      let same : inst_part e ≡ part_of d path (InstanceNamed n) =
      same_part i.0.path path i.0.path (own_path d n) (InstanceNamed n) (InstanceNamed n) i.2 (i.2 ∙ sym (own_path_is d n path is)) refl in
      among_insts (part_of d path (InstanceNamed n)) (subst (λ x. IsIn x (instance_parts d)) {x = inst_part e} same made)
  listed_at _ _ (HasJoinedName.port n number p path is at) =
      let i = inst_of_path d n path is in
      let e : ℕ × Instance = (n, i.0) in
      let q : ℕ × Port = (number, p) in
      let part = part_of d (joined path p.name) (PortNamed n number) in
      let made = IsIn-map (port_part e) q (numbered_ports d n) (number_at (unwrap_or (ports_of d n) []) number p (there_port n number p at)) in
      let same : port_part e q ≡ part =
      same_part (joined i.0.path p.name) (joined path p.name) i.0.path (own_path d n) (PortNamed n number) (PortNamed n number)
      (ap (λ t. joined t p.name) i.2) (i.2 ∙ sym (own_path_is d n path is)) refl in
      among_ports part
      (IsIn-flat_map (parts_of_ports d) e (numbered d) part (number_at d.insts n i.0 i.1) (subst (λ x. IsIn x (parts_of_ports d e)) {x = port_part e q} same made))
  listed_at _ _ (HasJoinedName.vector_bit b p range path is at vector within) =
      let i = inst_of_path d b.inst path is in
      let e : ℕ × Instance = (b.inst, i.0) in
      let q : ℕ × Port = (b.port, p) in
      let part = part_of d (joined path (bit_name p.name p.range b.place)) (BitNamed b) in
      let below : b.place < width (Some range) = subst (λ r. b.place < width r) vector within in
      let made = IsIn-map (bit_part e q range) b.place (range_with_len 0 (width (Some range))) (range_at (width (Some range)) b.place below) in
      let same : bit_part e q range b.place ≡ part =
      same_part (joined i.0.path (bit_name p.name (Some range) b.place)) (joined path (bit_name p.name p.range b.place)) i.0.path (own_path d b.inst) (BitNamed b) (BitNamed b)
      (ap (λ t. joined t (bit_name p.name (Some range) b.place)) i.2 ∙ ap (λ r. joined path (bit_name p.name r b.place)) (sym vector))
      (i.2 ∙ sym (own_path_is d b.inst path is)) refl in
      let ranged = IsIn-flat_map (bits_in e q) range (option_to_list p.range) part (of_range p.range range vector)
      (subst (λ x. IsIn x (bits_in e q range)) {x = bit_part e q range b.place} same made) in
      let here = IsIn-flat_map (bits_of_port e) q (numbered_ports d b.inst) part
      (number_at (unwrap_or (ports_of d b.inst) []) b.port p (there_port b.inst b.port p at)) ranged in
      among_bits part (IsIn-flat_map (bits_of d) e (numbered d) part (number_at d.insts b.inst i.0 i.1) here)
