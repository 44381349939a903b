-- Where no fault comes before rings no two things have one joined name.
use Rattle.std.proofs.Common.{◌≡◌, ◌≢◌, ℕ, List, [], ◌∷◌, Option, Some, None, option_map, inl, inr, refl, sym, ap, ◌∙◌, subst, arith}
use Rattle.std.specs.declared.cmp.Ordering.{Ordering}
use Rattle.std.specs.declared.cmp.Ordering.TheVariants.{Less, Equal, Greater}
use Rattle.std.proofs.lemmas.Bool.{cases_order}
use Rattle.pw_defs.specs.declared.design.Body.{Body}
use Rattle.pw_defs.specs.declared.design.Body.TheVariants.{Module as ModuleBody, Cell as CellBody, Model as ModelBody}
use Rattle.pw_defs.specs.declared.netlist.Module.{Module}
use Rattle.pw_defs.specs.declared.netlist.Port.{Port}
use Rattle.list_defs.proofs.Rising.{not_both_before}
use Rattle.design_defs.specs.DesignFaults.{FaultKind, HasPortAt, HasThingName, IsFault, StandsAt, Thing, at_line, way_of, HasNoneBefore}
use Rattle.design_defs.specs.Hierarchy.{Sources, Way, body_at, module_at, path, ports_in, way_cmp}
use Rattle.design_defs.specs.Names.{joined}
use Rattle.design_defs.proofs.BitOrders.{way_total}
use Rattle.design_laws.proofs.Lines.{cell_inside, inst_line, line_of, model_inside}
use Rattle.design_defs.proofs.OneDesign.{no_early}

-- what a thing stands at
record StandsSomewhere (s : Sources) (t : Thing) : Type 0 where
  way : Way
  number : ℕ
  line : ℕ
  there : StandsAt s t way number line

-- a port or a bit of one, at an instance with ports
port_stands : (s : Sources) (t : Thing) → ((w : Way) → t ≢ Thing.instance w) → (way : Way) → way_of t ≡ way → (number : ℕ) (p : Port) → HasPortAt s way number p → StandsSomewhere s t
port_stands s t no_inst way of_way number p has = by has.0 has.2 way refl
  where
    of_module : (n : ℕ) → body_at s way ≡ Some (ModuleBody n) → (o : Option Module) → module_at s n ≡ o
        → option_map (λ (x : Module). x.ports) o ≡ Some has.1 → StandsSomewhere s t
    of_module n there None none h = cc
    of_module n there (Some m) is h =
        record { way = way; number = n; line = m.line; there = StandsAt.module_port m (no_inst way) of_way (record { body = there; is_module = is }) refl }

    by : (body : Body) → body_at s way ≡ Some body → (w : Way) → w ≡ way → StandsSomewhere s t
    by (ModuleBody n) there w same = of_module n there (module_at s n) refl (ap (ports_in s) (is_body n there) ∙ has.3)
      where
        is_body : (n : ℕ) → body_at s way ≡ Some (ModuleBody n) → ModuleBody n ≡ has.0
        is_body n there = let e = has.2 in cc
    by (CellBody c) there [] same = cell_inside s c (ap (body_at s) same ∙ there)
    by (CellBody c) there (name ∷ outer) same =
        let here = ap (body_at s) same ∙ there in
        let line = line_of s name outer (CellBody c) here in
        record {
          way = outer;
          number = line.number;
          line = line.inst.line;
          there = StandsAt.cell_port name c line.of_module (no_inst (name ∷ outer)) (of_way ∙ sym same) here line.is_module (inst_line s name outer (CellBody c) line);
        }
    by (ModelBody c) there [] same = model_inside s c (ap (body_at s) same ∙ there)
    by (ModelBody c) there (name ∷ outer) same =
        let here = ap (body_at s) same ∙ there in
        let line = line_of s name outer (ModelBody c) here in
        record {
          way = outer;
          number = line.number;
          line = line.inst.line;
          there = StandsAt.model_port name c line.of_module (no_inst (name ∷ outer)) (of_way ∙ sym same) here line.is_module (inst_line s name outer (ModelBody c) line);
        }

stands : (s : Sources) (t : Thing) (name : List ℕ) → HasThingName s t name → StandsSomewhere s t
stands s _ _ (HasThingName.instance name outer there) =
    let line = line_of s name outer there.0 there.1 in
    record {
      way = outer;
      number = line.number;
      line = line.inst.line;
      there = StandsAt.instance name line.of_module refl line.is_module (inst_line s name outer there.0 line);
    }
stands s _ _ (HasThingName.port way number p has) = port_stands s (Thing.port way number) (λ w e. cc) way refl number p has
stands s _ _ (HasThingName.vector_bit way number p range place has is within) =
    port_stands s (Thing.vector_bit way number place) (λ w e. cc) way refl number p has

-- No two things have one joined name.
pub no_two_names : (s : Sources) → HasNoneBefore FaultKind.wire_loop s → (t u : Thing) (name : List ℕ) → HasThingName s t name → HasThingName s u name → t ≢ u → ⊥
no_two_names s early t u name p q differ = by (way_cmp (way_of u) (way_of t)) refl
  where
    at_t : StandsSomewhere s t
    at_t = stands s t name p

    at_u : StandsSomewhere s u
    at_u = stands s u name q

    not_less : way_cmp (way_of u) (way_of t) ≢ Less → ⊥
    not_less behind =
        no_early s early (at_line FaultKind.path_twice at_u.way at_u.number at_u.line name)
        (IsFault.path_twice t u name at_u.way at_u.number at_u.line p q differ behind at_u.there) (omega arith)

    by : (o : Ordering) → way_cmp (way_of u) (way_of t) ≡ o → ⊥
    by Less e =
        no_early s early (at_line FaultKind.path_twice at_t.way at_t.number at_t.line name)
        (IsFault.path_twice u t name at_t.way at_t.number at_t.line q p (λ same. differ (sym same))
        (not_both_before way_cmp way_total (way_of u) (way_of t) e) at_t.there) (omega arith)
    by Equal e = not_less (λ less. unequal (sym e ∙ less))
      where
        unequal : Equal ≡ Less → ⊥
        unequal h = cc
    by Greater e = not_less (λ less. unequal (sym e ∙ less))
      where
        unequal : Greater ≡ Less → ⊥
        unequal h = cc

-- two ports of an instance have two names
pub one_port : (s : Sources) → HasNoneBefore FaultKind.wire_loop s → (way : Way) (k l : ℕ) (p q : Port) → HasPortAt s way k p → HasPortAt s way l q → p.name ≡ q.name → k ≡ l
one_port s early way k l p q has other same =
    elim (cases_order k l) [
      | inl e ↦ e
      | inr o ↦ elim o [ inl less ↦ absurd (two (λ e. omega arith)) | inr more ↦ absurd (two (λ e. omega arith)) ]
    ]
  where
    same_number : Thing.port way k ≡ Thing.port way l → k ≡ l
    same_number e = cc

    two : (k ≡ l → ⊥) → ⊥
    two differ =
        no_two_names s early (Thing.port way k) (Thing.port way l) (joined (path way) p.name) (HasThingName.port way k p has)
        (subst (λ name. HasThingName s (Thing.port way l) (joined (path way) name)) (sym same) (HasThingName.port way l q other))
        (λ e. differ (same_number e))
