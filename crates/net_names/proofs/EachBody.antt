-- Names that are apart in each body.
use Rattle.std.proofs.Common.{◌≡◌, ◌≢◌, ℕ, Bool, true, false, List, [], ◌∷◌, ◌++◌, Option, None, Some, not, ◌&&◌, ◌||◌, map, option_map, slice_get, inl, inr, refl, sym, ap, ◌∙◌, subst, arith}
use Rattle.std.specs.List.{list_any}
use Rattle.std.specs.Prelude.{IfSome}
use Rattle.std.proofs.lemmas.Bool.{and_parts, false≢true}
use Rattle.std.proofs.lemmas.List.Folds.{list_any-append}
use Rattle.std.proofs.lemmas.Simd.{map-map}
use Rattle.pw_defs.specs.declared.cells.Cell.{Cell}
use Rattle.pw_defs.specs.declared.design.Body.TheVariants.{Module as ModuleBody, Cell as CellBody, Model as ModelBody}
use Rattle.pw_defs.specs.declared.model.Model.{Model}
use Rattle.pw_defs.specs.declared.netlist.Module.{Module}
use Rattle.pw_defs.specs.declared.netlist.Net.{Net}
use Rattle.pw_defs.specs.declared.netlist.Port.{Port}
use Rattle.list_defs.specs.Members.{IsIn, all_differ, same_name}
use Rattle.list_defs.proofs.Members.{IsIn-append_left, IsIn-append_right, IsIn-map, IsIn-map_from, IsIn-slice_get}
use Rattle.list_defs.proofs.NameLemmas.{list_any-IsIn}
use Rattle.design_defs.specs.DesignFaults.{Fault, FaultKind, IsFault, kind_number}
use Rattle.design_defs.specs.Hierarchy.{Sources, module_at}
use Rattle.design_defs.specs.Inputs.{AreReadSources, IsReadCell, IsReadModule}
use Rattle.design_defs.specs.Models.{HasWellFormedFields, IsRange}
use Rattle.design_defs.specs.Ports.{port_of_pin}
use Rattle.net_names.specs.Apart.{AreAllApart, AreApart, GoesOn, HasOwnNames, IsNameApart, IsSmall, inst_names, names_or_none, port_names}

pub option_map_some : {X Y P : Type 0} (f : X → Y) (o : Option X) (y : Y) → option_map f o ≡ Some y → ((x : X) → o ≡ Some x → f x ≡ y → P) → P
option_map_some f None y e k = cc
option_map_some f (Some x) y e k = k x refl cc

-- NAMES that differ, in parts of a list
not_or : (a b : Bool) → not (a || b) ≡ true → not a ≡ true
not_or true b h = h
not_or false b h = refl

both_true : (a b : Bool) → a ≡ true → b ≡ true → (a && b) ≡ true
both_true true b h k = k
both_true false b h k = h

differ_front : (xs ys : List (List ℕ)) → all_differ same_name (xs ++ ys) ≡ true → all_differ same_name xs ≡ true
differ_front [] ys e = refl
differ_front (x ∷ xs) ys e =
    let parts = and_parts (not (list_any (same_name x) (xs ++ ys))) (all_differ same_name (xs ++ ys)) e in
    both_true (not (list_any (same_name x) xs)) (all_differ same_name xs)
    (not_or (list_any (same_name x) xs) (list_any (same_name x) ys) (ap not (sym (list_any-append (same_name x) xs ys)) ∙ parts.0)) (differ_front xs ys parts.1)

differ_apart : (x : List ℕ) (xs ys : List (List ℕ)) → all_differ same_name (xs ++ ys) ≡ true → IsIn x xs → IsIn x ys → ⊥
differ_apart x [] ys e in_xs in_ys = in_xs
differ_apart x (y ∷ xs) ys e in_xs in_ys =
    elim in_xs [
      | inl same ↦ (
          let again : list_any (same_name y) (xs ++ ys) ≡ true = list_any-IsIn y (xs ++ ys) (IsIn-append_right y xs ys (subst (λ z. IsIn z ys) same in_ys)) in
          absurd (false≢true (sym (ap not again) ∙ (and_parts (not (list_any (same_name y) (xs ++ ys))) (all_differ same_name (xs ++ ys)) e).0)))
      | inr later ↦ differ_apart x xs ys (and_parts (not (list_any (same_name y) (xs ++ ys))) (all_differ same_name (xs ++ ys)) e).1 later in_ys
    ]

-- BODIES. A module whose names were looked at
pub module_apart : (m : Module) → IsReadModule m → ((p : Port) → IsIn p m.ports → IsSmall p.range)
    → ((name : List ℕ) → IsIn name (inst_names m) → IsNameApart (inst_names m) m.ports name)
    → ((name : List ℕ) → IsIn name (port_names m.ports) → IsNameApart (inst_names m) m.ports name) → AreApart (inst_names m) m.ports
module_apart m read small insts ports = record {
  ports_differ = differ_front (port_names m.ports) wires (differ_front (port_names m.ports ++ wires) (inst_names m) read.own_names);
  kinds_differ = λ inst in_insts in_ports. differ_apart inst (port_names m.ports ++ wires) (inst_names m) read.own_names (IsIn-append_left inst (port_names m.ports) wires in_ports) in_insts;
  small = small;
  each_inst = insts;
  each_port = λ p one. ports p.name (IsIn-map (λ (x : Port). x.name) p m.ports one);
}
  where
    wires : List (List ℕ)
    wires = map (λ (n : Net). n.name) m.nets

-- no instance is inside a cell or a model
no_insts : (ports : List Port) (name : List ℕ) → ((p : Port) (r : ℕ × ℕ) → IsIn p ports → p.range ≡ Some r → GoesOn 91 p.name name → ⊥) → IsNameApart [] ports name
no_insts ports name bracket = record { slash = λ inst none on. none; bracket = bracket }

-- a model whose ports were looked at
model_small : (range : Option (ℕ × ℕ)) → IsRange range → IsSmall range
model_small None within = tt
model_small (Some r) within = (omega (arith, within.0), omega (arith, within.1))

pub model_apart : (m : Model) → HasWellFormedFields m → all_differ same_name (port_names m.ports) ≡ true
    → ((name front : List ℕ) → IsIn name (port_names m.ports) → GoesOn 91 front name → IsIn front (port_names m.ports) → ⊥) → AreApart [] m.ports
model_apart m formed differ none = record {
  ports_differ = differ;
  kinds_differ = λ inst there in_ports. there;
  small = λ p one. model_small p.range (formed.each_port p one).range;
  each_inst = λ name there. absurd there;
  each_port = λ p one. no_insts m.ports p.name
      (λ q r there ranged on. none p.name q.name (IsIn-map (λ (x : Port). x.name) p m.ports one) on (IsIn-map (λ (x : Port). x.name) q m.ports there));
}

pub model_looked : (m : Model) (found : Option (List (List ℕ))) (index : List (List ℕ)) (first second : List Port) → first ≡ m.ports → second ≡ m.ports
    → IfSome found (λ i. i ≡ port_names first) → found ≡ Some index → all_differ same_name index ≡ true
    → ((name front : List ℕ) → IsIn name (port_names second) → GoesOn 91 front name → IsIn front index → ⊥) → HasWellFormedFields m → AreApart [] m.ports
model_looked m found index first second is_first is_second names is differ none formed =
    let own : index ≡ port_names m.ports = subst (λ o. IfSome o (λ i. i ≡ port_names first)) is names ∙ ap port_names is_first in
    model_apart m formed (ap (all_differ same_name) (sym own) ∙ differ)
    (λ name front there on behind. none name front (subst (λ ps. IsIn name (port_names ps)) (sym is_second) there) on (subst (IsIn front) (sym own) behind))

-- a cell, whose pins are scalars
none_some : {X : Type 0} (x : X) → None ≡ Some x → ⊥
none_some x e = cc

cell_apart : (c : Cell) → IsReadCell c → AreApart [] (map port_of_pin c.pins)
cell_apart c read = record {
  ports_differ = ap (all_differ same_name) (map-map (λ (p : Port). p.name) port_of_pin c.pins) ∙ read.pin_names;
  kinds_differ = λ inst there in_ports. there;
  small = λ p one. (let pin = IsIn-map_from port_of_pin p c.pins one in subst (λ (q : Port). IsSmall q.range) (sym pin.2) tt);
  each_inst = λ name there. absurd there;
  each_port = λ p one. no_insts (map port_of_pin c.pins) p.name
      (λ q r there ranged on. (let pin = IsIn-map_from port_of_pin q c.pins there in none_some r (sym (ap (λ (x : Port). x.range) pin.2) ∙ ranged)));
}

-- ALL bodies
pub all_apart : (s : Sources) → AreReadSources s → ((n : ℕ) (m : Module) → module_at s n ≡ Some m → IsReadModule m → AreApart (inst_names m) m.ports)
    → ((m : Model) → IsIn m s.models → HasWellFormedFields m → AreApart [] m.ports) → AreAllApart s
all_apart s read modules models (ModuleBody n) ports are =
    option_map_some (λ (m : Module). m.ports) (module_at s n) ports are
    (λ m is same.
    let apart = modules n m is (read.each_module m (IsIn-slice_get s.modules n m is)) in
    subst (λ names. AreApart names ports) (sym (ap names_or_none is)) (subst (AreApart (inst_names m)) same apart))
all_apart s read modules models (CellBody c) ports are =
    option_map_some (λ (x : Cell). map port_of_pin x.pins) (slice_get s.cells.cells c) ports are
    (λ cell is same. subst (AreApart []) same (cell_apart cell (read.each_cell cell (IsIn-slice_get s.cells.cells c cell is))))
all_apart s read modules models (ModelBody k) ports are =
    option_map_some (λ (m : Model). m.ports) (slice_get s.models k) ports are
    (λ m is same.
    let one : IsIn m s.models = IsIn-slice_get s.models k m is in
    subst (AreApart []) same (models m one (read.each_model m one)))

-- FAULTS. Where all names are their own, none stands twice.
pub none_twice : (s : Sources) → HasOwnNames s → (f : Fault) → IsFault s f → kind_number f.kind ≢ kind_number FaultKind.path_twice
none_twice s own _ (IsFault.module_twice n earlier m other a b c d) e = omega (arith, e)
none_twice s own _ (IsFault.module_and_cell n c m a b) e = omega (arith, e)
none_twice s own _ (IsFault.port_mismatch n m model a b c d) e = omega (arith, e)
none_twice s own _ (IsFault.recursion way n of_inst m i a b c d) e = omega (arith, e)
none_twice s own _ (IsFault.no_top a) e = omega (arith, e)
none_twice s own _ (IsFault.unknown_type way n m i a b c) e = omega (arith, e)
none_twice s own _ (IsFault.size a) e = omega (arith, e)
none_twice s own _ (IsFault.unknown_port way n m i c body a b d f g) e = omega (arith, e)
none_twice s own _ (IsFault.selected_in_conn way n m i c x name a b d f g) e = omega (arith, e)
none_twice s own _ (IsFault.selected_in_assign way n m x name a b c) e = omega (arith, e)
none_twice s own _ (IsFault.width_of_conn way n m i c x p a b d f g h k) e = omega (arith, e)
none_twice s own _ (IsFault.width_of_assign way n m x name names a b c d f g) e = omega (arith, e)
none_twice s own _ (IsFault.path_twice x y name way n line of_x of_y other later stands) e = other (own x y name of_x of_y)
none_twice s own _ (IsFault.multi_driven way other_way n number other line other_line m x source other_source name a b c d f g) e = omega (arith, e)
none_twice s own _ (IsFault.driven_input way n number line m x source name a b c d) e = omega (arith, e)
none_twice s own _ (IsFault.wire_loop way n line m x source name a b c) e = omega (arith, e)
