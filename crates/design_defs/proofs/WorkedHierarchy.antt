-- The instances and the bits of the two blocks below their top.
use Rattle.std.proofs.Common.{◌≡◌, ℕ, ◌<◌, List, [], ◌∷◌, Option, Some, None, option_map, option_and_then, inl, inr, refl, sym, ap, ◌∙◌, subst, arith}
use Rattle.std.specs.Prelude.{codes}
use Rattle.std.specs.List.{flat_map}
use Rattle.pw_defs.specs.declared.cells.Dir.TheVariants.{Input, Output}
use Rattle.pw_defs.specs.declared.design.Body.{Body}
use Rattle.pw_defs.specs.declared.design.Body.TheVariants.{Module as ModuleBody, Cell as CellBody}
use Rattle.pw_defs.specs.declared.netlist.Inst.{Inst}
use Rattle.pw_defs.specs.declared.netlist.Module.{Module}
use Rattle.pw_defs.specs.declared.netlist.Net.{Net}
use Rattle.pw_defs.specs.declared.netlist.Port.{Port}
use Rattle.worked_jobs.specs.Libraries.{library}
use Rattle.worked_jobs.specs.Netlists.{driving, pair, pair_top, receiving}
use Rattle.list_defs.specs.Members.{IsIn, same_name}
use Rattle.list_defs.specs.Orders.{AreAllRising, IsRising}
use Rattle.list_defs.proofs.NameLemmas.{same_name-equal}
use Rattle.list_defs.proofs.Rising.{found_in}
use Rattle.design_defs.specs.Bits.{IsSpot, Spot, port_named, range_in, range_of, spot_cmp}
use Rattle.design_defs.specs.DesignFaults.{sources}
use Rattle.design_defs.specs.Hierarchy.{IsInstance, Sources, Way, body_at, module_at, ports_in, type_of, way_cmp}
use Rattle.design_defs.specs.Places.{exprs_in, names_alone}
use Rattle.design_defs.specs.Ranges.{width}
use Rattle.design_defs.proofs.Expressions.{of_expressions}
use Rattle.design_defs.proofs.Lookups.{IsInsideBy, IsNetBy, at_outer, body_of_spot, net_by}

abbrev pub s : Sources
s = sources pair library [] (codes "top")

-- INSTANCES.
abbrev pub block_a : Way
block_a = codes "u_a" ∷ []

abbrev pub buffer_a : Way
buffer_a = codes "o" ∷ block_a

abbrev pub block_b : Way
block_b = codes "u_b" ∷ []

abbrev pub buffer_b : Way
buffer_b = codes "i" ∷ block_b

abbrev pub all_ways : List Way
all_ways = [] ∷ block_a ∷ buffer_a ∷ block_b ∷ buffer_b ∷ []

-- what each instance is of
pub data IsPart (way : Way) (body : Body) : Type 0 where
  is_top : way ≡ [] → body ≡ ModuleBody 2 → IsPart way body
  is_block_a : way ≡ block_a → body ≡ ModuleBody 0 → IsPart way body
  is_buffer_a : way ≡ buffer_a → body ≡ CellBody 0 → IsPart way body
  is_block_b : way ≡ block_b → body ≡ ModuleBody 1 → IsPart way body
  is_buffer_b : way ≡ buffer_b → body ≡ CellBody 0 → IsPart way body

pub module_body : (n m : ℕ) → ModuleBody n ≡ ModuleBody m → n ≡ m
module_body n m e = cc

pub some_same : {X : Type 0} (a b : X) → Some a ≡ Some b → a ≡ b
some_same a b e = cc

-- the line that makes an instance is one of the module that it is inside
line_of : (name : List ℕ) (b body : Body) (n : ℕ) (m : Module) (inside : IsInsideBy s name b body) → b ≡ ModuleBody n → module_at s n ≡ Some m
    → IsIn inside.inst m.insts
line_of name b body n m inside e there =
    let numbers : inside.number ≡ n = module_body inside.number n (sym inside.is_outer ∙ e) in
    let same : inside.of_module ≡ m = some_same inside.of_module m (sym inside.is_module ∙ ap (module_at s) numbers ∙ there) in
    subst (λ (x : Module). IsIn inside.inst x.insts) same inside.is_line

-- the name and the type of an instance are those that its line says
named_so : (name : List ℕ) (b body : Body) (inside : IsInsideBy s name b body) (i : Inst) → inside.inst ≡ i → name ≡ i.name
named_so name b body inside i e = inside.is_name ∙ ap (λ (j : Inst). j.name) e

typed_so : (name : List ℕ) (b body other : Body) (inside : IsInsideBy s name b body) (i : Inst) → inside.inst ≡ i → type_of s i.kind ≡ Some other
    → body ≡ other
typed_so name b body other inside i e type = some_same body other (sym inside.is_type ∙ ap (λ (j : Inst). type_of s j.kind) e ∙ type)

way_of_parts : (name other : List ℕ) (outer way : Way) → name ≡ other → outer ≡ way → name ∷ outer ≡ other ∷ way
way_of_parts name other outer way e f = cc

pub each_part : (way : Way) (body : Body) → body_at s way ≡ Some body → IsPart way body
each_part [] body e = IsPart.is_top refl (some_same body (ModuleBody 2) (sym e))
each_part (name ∷ outer) body e = by out.0 out.2 (each_part outer out.0 out.1)
  where
    out : (b : Body) × (body_at s outer ≡ Some b) × IsInsideBy s name b body
    out = at_outer s name outer body e

    by : (b : Body) → IsInsideBy s name b body → IsPart outer b → IsPart (name ∷ outer) body
    by b inside (IsPart.is_top way is) = of_line (line_of name b body 2 pair_top inside is refl)
      where
        of_line : IsIn inside.inst pair_top.insts → IsPart (name ∷ outer) body
        of_line (inl i) =
            IsPart.is_block_a (way_of_parts name (codes "u_a") outer [] (named_so name b body inside _ i) way)
            (typed_so name b body (ModuleBody 0) inside _ i refl)
        of_line (inr (inl i)) =
            IsPart.is_block_b (way_of_parts name (codes "u_b") outer [] (named_so name b body inside _ i) way)
            (typed_so name b body (ModuleBody 1) inside _ i refl)
        of_line (inr (inr never)) = absurd never
    by b inside (IsPart.is_block_a way is) = of_line (line_of name b body 0 driving inside is refl)
      where
        of_line : IsIn inside.inst driving.insts → IsPart (name ∷ outer) body
        of_line (inl i) =
            IsPart.is_buffer_a (way_of_parts name (codes "o") outer block_a (named_so name b body inside _ i) way)
            (typed_so name b body (CellBody 0) inside _ i refl)
        of_line (inr never) = absurd never
    by b inside (IsPart.is_buffer_a way is) = let outer_is = inside.is_outer in cc
    by b inside (IsPart.is_block_b way is) = of_line (line_of name b body 1 receiving inside is refl)
      where
        of_line : IsIn inside.inst receiving.insts → IsPart (name ∷ outer) body
        of_line (inl i) =
            IsPart.is_buffer_b (way_of_parts name (codes "i") outer block_b (named_so name b body inside _ i) way)
            (typed_so name b body (CellBody 0) inside _ i refl)
        of_line (inr never) = absurd never
    by b inside (IsPart.is_buffer_b way is) = let outer_is = inside.is_outer in cc

-- an instance is one of the five
pub one_of_ways : (way : Way) (body : Body) → IsPart way body → IsIn way all_ways
one_of_ways way body (IsPart.is_top e is) = inl e
one_of_ways way body (IsPart.is_block_a e is) = inr (inl e)
one_of_ways way body (IsPart.is_buffer_a e is) = inr (inr (inl e))
one_of_ways way body (IsPart.is_block_b e is) = inr (inr (inr (inl e)))
one_of_ways way body (IsPart.is_buffer_b e is) = inr (inr (inr (inr (inl e))))

ways_rise : IsRising way_cmp all_ways
ways_rise = (
  (refl, (refl, (refl, (refl, tt)))),
  (
    (refl, (refl, (refl, tt))),
    (
      (refl, (refl, tt)),
      (
        (refl, tt),
        (
          tt,
          tt,
        ),
      ),
    ),
  ),
)

each_way : (way : Way) → IsIn way all_ways → IsInstance s way
each_way way (inl e) = (ModuleBody 2, ap (body_at s) e)
each_way way (inr (inl e)) = (ModuleBody 0, ap (body_at s) e)
each_way way (inr (inr (inl e))) = (CellBody 0, ap (body_at s) e)
each_way way (inr (inr (inr (inl e)))) = (ModuleBody 1, ap (body_at s) e)
each_way way (inr (inr (inr (inr (inl e))))) = (CellBody 0, ap (body_at s) e)
each_way way (inr (inr (inr (inr (inr never))))) = absurd never

pub ways_are_all : AreAllRising way_cmp (IsInstance s) all_ways
ways_are_all = record { rising = ways_rise; each = each_way; all = λ way there. one_of_ways way there.0 (each_part way there.0 there.1) }

-- BITS.
abbrev pub bit_at : Way → List ℕ → Spot
bit_at way net = record { way = way; net = net; place = 0 }

abbrev pub all_spots : List Spot
all_spots =
    bit_at [] (codes "n")
    ∷ bit_at [] (codes "x")
    ∷ bit_at block_a (codes "x")
    ∷ bit_at block_a (codes "y")
    ∷ bit_at buffer_a (codes "A")
    ∷ bit_at buffer_a (codes "Y")
    ∷ bit_at block_b (codes "a")
    ∷ bit_at block_b (codes "z")
    ∷ bit_at buffer_b (codes "A")
    ∷ bit_at buffer_b (codes "Y") ∷ []

spots_rise : IsRising spot_cmp all_spots
spots_rise = (
  (refl, (refl, (refl, (refl, (refl, (refl, (refl, (refl, (refl, tt))))))))),
  (
    (refl, (refl, (refl, (refl, (refl, (refl, (refl, (refl, tt)))))))),
    (
      (refl, (refl, (refl, (refl, (refl, (refl, (refl, tt))))))),
      (
        (refl, (refl, (refl, (refl, (refl, (refl, tt)))))),
        (
          (refl, (refl, (refl, (refl, (refl, tt))))),
          (
            (refl, (refl, (refl, (refl, tt)))),
            (
              (refl, (refl, (refl, tt))),
              (
                (refl, (refl, tt)),
                (
                  (refl, tt),
                  (
                    tt,
                    tt,
                  ),
                ),
              ),
            ),
          ),
        ),
      ),
    ),
  ),
)

is_spot : (x : Spot) (way : Way) (net : List ℕ) → x ≡ bit_at way net → range_of s (bit_at way net) ≡ Some None → IsSpot s x
is_spot x way net e range = subst (IsSpot s) (sym e) (None, range, omega arith)

each_spot : (x : Spot) → IsIn x all_spots → IsSpot s x
each_spot x (inl e) = is_spot x [] (codes "n") e refl
each_spot x (inr (inl e)) = is_spot x [] (codes "x") e refl
each_spot x (inr (inr (inl e))) = is_spot x block_a (codes "x") e refl
each_spot x (inr (inr (inr (inl e)))) = is_spot x block_a (codes "y") e refl
each_spot x (inr (inr (inr (inr (inl e))))) = is_spot x buffer_a (codes "A") e refl
each_spot x (inr (inr (inr (inr (inr (inl e)))))) = is_spot x buffer_a (codes "Y") e refl
each_spot x (inr (inr (inr (inr (inr (inr (inl e))))))) = is_spot x block_b (codes "a") e refl
each_spot x (inr (inr (inr (inr (inr (inr (inr (inl e)))))))) = is_spot x block_b (codes "z") e refl
each_spot x (inr (inr (inr (inr (inr (inr (inr (inr (inl e))))))))) = is_spot x buffer_b (codes "A") e refl
each_spot x (inr (inr (inr (inr (inr (inr (inr (inr (inr (inl e)))))))))) = is_spot x buffer_b (codes "Y") e refl
each_spot x (inr (inr (inr (inr (inr (inr (inr (inr (inr (inr never)))))))))) = absurd never

-- the bit of a net of one bit
bit_of : (x : Spot) (way : Way) (net : List ℕ) (range : Option (ℕ × ℕ)) → x.way ≡ way → x.net ≡ net → range ≡ None → x.place < width range → x ≡ bit_at way net
bit_of x way net range e name scalar within =
    let one : width range ≡ 1 = ap width scalar in
    let place : x.place ≡ 0 = omega arith in
    λ i. record { way = e i; net = name i; place = place i }

-- the pins of a cell
pin_by : (c : ℕ) (ports : List Port) (net : List ℕ) (range : Option (ℕ × ℕ)) → ports_in s (CellBody c) ≡ Some ports → range_in s (CellBody c) net ≡ Some range
    → (p : Port) × IsIn p ports × (net ≡ p.name) × (range ≡ p.range)
pin_by c ports net range pins e =
    found (port_named net ports) refl (sym (ap (λ o. option_map (λ (p : Port). p.range) (option_and_then (port_named net) o)) pins) ∙ e)
  where
    found : (o : Option Port) → port_named net ports ≡ o → option_map (λ (p : Port). p.range) o ≡ Some range
        → (p : Port) × IsIn p ports × (net ≡ p.name) × (range ≡ p.range)
    found None none h = cc
    found (Some p) there h =
        let among = found_in (λ (q : Port). same_name net q.name) ports p there in
        (p, among.0, same_name-equal net p.name among.1, sym (some_same p.range range h))

used_in_top : flat_map names_alone (exprs_in pair_top) ≡ codes "x" ∷ codes "n" ∷ codes "n" ∷ []
used_in_top = simp of_expressions

used_in_driving : flat_map names_alone (exprs_in driving) ≡ codes "x" ∷ codes "y" ∷ []
used_in_driving = simp of_expressions

used_in_receiving : flat_map names_alone (exprs_in receiving) ≡ codes "a" ∷ codes "z" ∷ []
used_in_receiving = simp of_expressions

-- the pins of a buffer
abbrev buffer_pins : List Port
buffer_pins = record { name = codes "A"; dir = Input; range = None } ∷ record { name = codes "Y"; dir = Output; range = None } ∷ []

in_top : (x : Spot) (range : Option (ℕ × ℕ)) → x.way ≡ [] → x.place < width range → IsNetBy pair_top x.net range → IsIn x all_spots
in_top x range way within (IsNetBy.by_port p (inl e) name scalar) =
    inr (inl (bit_of x [] (codes "x") range way (name ∙ ap (λ (q : Port). q.name) e) (scalar ∙ ap (λ (q : Port). q.range) e) within))
in_top x range way within (IsNetBy.by_port p (inr never) name scalar) = absurd never
in_top x range way within (IsNetBy.by_wire n (inl e) name scalar) =
    inl (bit_of x [] (codes "n") range way (name ∙ ap (λ (q : Net). q.name) e) (scalar ∙ ap (λ (q : Net). q.range) e) within)
in_top x range way within (IsNetBy.by_wire n (inr never) name scalar) = absurd never
in_top x range way within (IsNetBy.by_use used scalar) = of_name (subst (IsIn x.net) used_in_top used)
  where
    of_name : IsIn x.net (codes "x" ∷ codes "n" ∷ codes "n" ∷ []) → IsIn x all_spots
    of_name (inl e) = inr (inl (bit_of x [] (codes "x") range way (e) (scalar) within))
    of_name (inr (inl e)) = inl (bit_of x [] (codes "n") range way (e) (scalar) within)
    of_name (inr (inr (inl e))) = inl (bit_of x [] (codes "n") range way (e) (scalar) within)
    of_name (inr (inr (inr never))) = absurd never

in_block_a : (x : Spot) (range : Option (ℕ × ℕ)) → x.way ≡ block_a → x.place < width range → IsNetBy driving x.net range → IsIn x all_spots
in_block_a x range way within (IsNetBy.by_port p (inl e) name scalar) =
    inr (inr (inl (bit_of x block_a (codes "x") range way (name ∙ ap (λ (q : Port). q.name) e) (scalar ∙ ap (λ (q : Port). q.range) e) within)))
in_block_a x range way within (IsNetBy.by_port p (inr (inl e)) name scalar) =
    inr (inr (inr (inl (bit_of x block_a (codes "y") range way (name ∙ ap (λ (q : Port). q.name) e) (scalar ∙ ap (λ (q : Port). q.range) e) within))))
in_block_a x range way within (IsNetBy.by_port p (inr (inr never)) name scalar) = absurd never
in_block_a x range way within (IsNetBy.by_wire n never name scalar) = absurd never
in_block_a x range way within (IsNetBy.by_use used scalar) = of_name (subst (IsIn x.net) used_in_driving used)
  where
    of_name : IsIn x.net (codes "x" ∷ codes "y" ∷ []) → IsIn x all_spots
    of_name (inl e) = inr (inr (inl (bit_of x block_a (codes "x") range way (e) (scalar) within)))
    of_name (inr (inl e)) = inr (inr (inr (inl (bit_of x block_a (codes "y") range way (e) (scalar) within))))
    of_name (inr (inr never)) = absurd never

in_block_b : (x : Spot) (range : Option (ℕ × ℕ)) → x.way ≡ block_b → x.place < width range → IsNetBy receiving x.net range → IsIn x all_spots
in_block_b x range way within (IsNetBy.by_port p (inl e) name scalar) =
    inr (inr (inr (inr (inr (inr (inl (bit_of x block_b (codes "a") range way (name ∙ ap (λ (q : Port). q.name) e)
    (scalar ∙ ap (λ (q : Port). q.range) e) within)))))))
in_block_b x range way within (IsNetBy.by_port p (inr (inl e)) name scalar) =
    inr (inr (inr (inr (inr (inr (inr (inl (bit_of x block_b (codes "z") range way (name ∙ ap (λ (q : Port). q.name) e)
    (scalar ∙ ap (λ (q : Port). q.range) e) within))))))))
in_block_b x range way within (IsNetBy.by_port p (inr (inr never)) name scalar) = absurd never
in_block_b x range way within (IsNetBy.by_wire n never name scalar) = absurd never
in_block_b x range way within (IsNetBy.by_use used scalar) = of_name (subst (IsIn x.net) used_in_receiving used)
  where
    of_name : IsIn x.net (codes "a" ∷ codes "z" ∷ []) → IsIn x all_spots
    of_name (inl e) = inr (inr (inr (inr (inr (inr (inl (bit_of x block_b (codes "a") range way (e) (scalar) within)))))))
    of_name (inr (inl e)) = inr (inr (inr (inr (inr (inr (inr (inl (bit_of x block_b (codes "z") range way (e) (scalar) within))))))))
    of_name (inr (inr never)) = absurd never

in_buffer_a : (x : Spot) (range : Option (ℕ × ℕ)) → x.way ≡ buffer_a → x.place < width range → (p : Port) → IsIn p buffer_pins → x.net ≡ p.name
    → range ≡ p.range → IsIn x all_spots
in_buffer_a x range way within p (inl e) name scalar =
    inr (inr (inr (inr (inl (bit_of x buffer_a (codes "A") range way (name ∙ ap (λ (q : Port). q.name) e) (scalar ∙ ap (λ (q : Port). q.range) e) within)))))
in_buffer_a x range way within p (inr (inl e)) name scalar =
    inr (inr (inr (inr (inr (inl (bit_of x buffer_a (codes "Y") range way (name ∙ ap (λ (q : Port). q.name) e)
    (scalar ∙ ap (λ (q : Port). q.range) e) within))))))
in_buffer_a x range way within p (inr (inr never)) name scalar = absurd never

in_buffer_b : (x : Spot) (range : Option (ℕ × ℕ)) → x.way ≡ buffer_b → x.place < width range → (p : Port) → IsIn p buffer_pins → x.net ≡ p.name
    → range ≡ p.range → IsIn x all_spots
in_buffer_b x range way within p (inl e) name scalar =
    inr (inr (inr (inr (inr (inr (inr (inr (inl (bit_of x buffer_b (codes "A") range way (name ∙ ap (λ (q : Port). q.name) e)
    (scalar ∙ ap (λ (q : Port). q.range) e) within)))))))))
in_buffer_b x range way within p (inr (inl e)) name scalar =
    inr (inr (inr (inr (inr (inr (inr (inr (inr (inl (bit_of x buffer_b (codes "Y") range way (name ∙ ap (λ (q : Port). q.name) e)
    (scalar ∙ ap (λ (q : Port). q.range) e) within))))))))))
in_buffer_b x range way within p (inr (inr never)) name scalar = absurd never

-- each bit is one of the ten
of_part : (x : Spot) (range : Option (ℕ × ℕ)) (body : Body) → x.place < width range → range_in s body x.net ≡ Some range → IsPart x.way body → IsIn x all_spots
of_part x range body within there (IsPart.is_top way is) =
    in_top x range way within (net_by pair_top x.net range (sym (ap (λ b. range_in s b x.net) is) ∙ there))
of_part x range body within there (IsPart.is_block_a way is) =
    in_block_a x range way within (net_by driving x.net range (sym (ap (λ b. range_in s b x.net) is) ∙ there))
of_part x range body within there (IsPart.is_block_b way is) =
    in_block_b x range way within (net_by receiving x.net range (sym (ap (λ b. range_in s b x.net) is) ∙ there))
of_part x range body within there (IsPart.is_buffer_a way is) =
    let pin = pin_by 0 buffer_pins x.net range refl (sym (ap (λ b. range_in s b x.net) is) ∙ there) in in_buffer_a x range way within pin.0 pin.1 pin.2 pin.3
of_part x range body within there (IsPart.is_buffer_b way is) =
    let pin = pin_by 0 buffer_pins x.net range refl (sym (ap (λ b. range_in s b x.net) is) ∙ there) in in_buffer_b x range way within pin.0 pin.1 pin.2 pin.3

pub one_of_spots : (x : Spot) → IsSpot s x → IsIn x all_spots
one_of_spots x there =
    let found = body_of_spot s x there.0 there.1 in
    of_part x there.0 found.0 there.2 found.2 (each_part x.way found.0 found.1)

pub spots_are_all : AreAllRising spot_cmp (IsSpot s) all_spots
spots_are_all = record { rising = spots_rise; each = each_spot; all = one_of_spots }
