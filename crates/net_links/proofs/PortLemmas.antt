-- The ports of what instances are of.
use Rattle.std.proofs.Common.{◌≡◌, ℕ, suc, ◌+◌, ◌<◌, Bool, true, false, cond, List, [], ◌∷◌, map, refl, sym, ap, ◌∙◌, subst}
use Rattle.std.specs.Prelude.{Option, Some, None, option_map, option_and_then, slice_get, slice_index_or}
use Rattle.std.specs.List.{find}
use Rattle.std.proofs.lemmas.Option.{get_or_from_slice_get, none-some, same_Some, slice_get-map}
use Rattle.pw_defs.specs.declared.cells.Cells.{Cells}
use Rattle.pw_defs.specs.declared.design.Body.{Body}
use Rattle.pw_defs.specs.declared.design.Body.TheVariants.{Module as ModuleBody, Cell as CellBody, Model as ModelBody}
use Rattle.pw_defs.specs.declared.model.Model.{Model}
use Rattle.pw_defs.specs.declared.netlist.Inst.{Inst}
use Rattle.pw_defs.specs.declared.netlist.Module.{Module}
use Rattle.pw_defs.specs.declared.netlist.Port.{Port}
use Rattle.list_defs.specs.Members.{place_of, same_name}
use Rattle.list_defs.proofs.NameLemmas.{same_name-equal}
use Rattle.design_defs.specs.Bits.{port_named, range_in}
use Rattle.design_defs.specs.Hierarchy.{Sources, module_at, number_named, ports_in, type_of, HasBody}
use Rattle.design_defs.specs.Places.{net_range}
use Rattle.design_defs.specs.Ports.{ports_among}
use Rattle.design_defs.specs.Ranges.{width}
use Rattle.module_rows.specs.declared.plain.Netlist.{Netlist}
use Rattle.net_hierarchy.specs.Graph.{Types, types_of}
use Rattle.net_places.specs.declared.plans.Plans.{Plans}
use Rattle.net_places.specs.declared.rows.NetRow.{NetRow}
use Rattle.net_places.specs.Nets.{OwnNet, own_net}
use Rattle.net_runs.specs.Known.{IsNetRow}
use Rattle.net_runs.specs.LocalNumbers.{IsBitNumber}
use Rattle.net_links.specs.Adding.{AreParts, dir_among}

-- what is found first has a place
found_place : {X : Type 0} (test : X → Bool) (xs : List X) (x : X) → find test xs ≡ Some x → (k : ℕ) × (place_of test xs ≡ Some k) × (slice_get xs k ≡ Some x) × (test x ≡ true)
found_place test [] x e = cc
found_place {X} test (y ∷ ys) x e = by (test y) refl (found_place test ys x) e
  where
    by : (b : Bool) → test y ≡ b → (find test ys ≡ Some x → (k : ℕ) × (place_of test ys ≡ Some k) × (slice_get ys k ≡ Some x) × (test x ≡ true))
        → cond b (Some y) (find test ys) ≡ Some x → (k : ℕ) × (place_of test (y ∷ ys) ≡ Some k) × (slice_get (y ∷ ys) k ≡ Some x) × (test x ≡ true)
    by true passes rest h =
        (0, ap (λ b. cond b (Some 0) (option_map suc (place_of test ys))) passes, h, subst (λ z. test z ≡ true) (same_Some y x h) passes)
    by false fails rest h =
        let more = rest h in
        (suc more.0, ap (λ b. cond b (Some 0) (option_map suc (place_of test ys))) fails ∙ ap (option_map suc) more.1, more.2, more.3)

-- the range under the name of a port is that of the port
port_range : (s : Sources) (body : Body) (ports : List Port) (name : List ℕ) (p : Port) → ports_in s body ≡ Some ports → port_named name ports ≡ Some p
    → range_in s body name ≡ Some p.range
port_range s (ModuleBody n) ports name p are found = by (module_at s n) are
  where
    of_module : (m : Module) → m.ports ≡ ports → net_range m name ≡ Some p.range
    of_module m same = let first : find (λ (q : Port). same_name name q.name) m.ports ≡ Some p = ap (port_named name) same ∙ found in rw first refl

    by : (o : Option Module) → option_map (λ (m : Module). m.ports) o ≡ Some ports → option_and_then (λ (m : Module). net_range m name) o ≡ Some p.range
    by None h = cc
    by (Some m) h = of_module m (same_Some m.ports ports h)
port_range s (CellBody c) ports name p are found =
    ap (λ o. option_map (λ (q : Port). q.range) (option_and_then (port_named name) o)) are ∙ ap (option_map (λ (q : Port). q.range)) found
port_range s (ModelBody c) ports name p are found =
    ap (λ o. option_map (λ (q : Port). q.range) (option_and_then (port_named name) o)) are ∙ ap (option_map (λ (q : Port). q.range)) found

-- a body has ports where a port of a name is one of them
has_ports : (s : Sources) (body : Body) (name : List ℕ) (p : Port) → option_and_then (port_named name) (ports_in s body) ≡ Some p
    → (ports : List Port) × (ports_in s body ≡ Some ports) × (port_named name ports ≡ Some p)
has_ports s body name p e = by (ports_in s body) refl e
  where
    by : (o : Option (List Port)) → ports_in s body ≡ o → option_and_then (port_named name) o ≡ Some p → (ports : List Port) × (ports_in s body ≡ Some ports) × (port_named name ports ≡ Some p)
    by None none h = cc
    by (Some ports) are h = (ports, are, h)

-- the port of a name, by its number among the ports and by its row
module _ (s : Sources) (n : Netlist) (cells : Cells) (models : List Model) (types : Types) (plans : Plans) (are : AreParts s n cells models types plans) (body : Body)
    (name : List ℕ) (p : Port) (e : option_and_then (port_named name) (ports_in s body) ≡ Some p) where
  port_there : (ports : List Port) × (ports_in s body ≡ Some ports) × (port_named name ports ≡ Some p)
  port_there = has_ports s body name p e

  port_place : (k : ℕ) × (place_of (λ (q : Port). same_name name q.name) port_there.0 ≡ Some k) × (slice_get port_there.0 k ≡ Some p) × (same_name name p.name ≡ true)
  port_place = found_place (λ (q : Port). same_name name q.name) port_there.0 p port_there.2

  port_owned : own_net s body name ≡ Some (record { name = name; range = p.range; port = Some port_place.0 })
  port_owned =
      let range = port_range s body port_there.0 name p port_there.1 port_there.2 in
      let number : option_and_then (number_named (λ (q : Port). q.name) name) (ports_in s body) ≡ Some port_place.0 =
      ap (option_and_then (number_named (λ (q : Port). q.name) name)) port_there.1 ∙ port_place.1 in
      ap (option_map (λ (r : Option (ℕ × ℕ)). record { name = name; range = r; port = option_and_then (number_named (λ (q : Port). q.name) name) (ports_in s body) })) range
      ∙ ap (λ (o : Option ℕ). Some (record { name = name; range = p.range; port = o })) number

  pub has_body : HasBody s body
  has_body = (port_there.0, port_there.1)

  pub same_body : ports_among n.modules cells models body ≡ ports_in s body
  same_body =
      ap (λ (x : List Module). ports_among x cells models body) (sym are.is_of.0) ∙ ap (λ (x : Cells). ports_among s.modules x models body) (sym are.is_of.1)
      ∙ ap (λ (x : List Model). ports_among s.modules s.cells x body) (sym are.is_of.2)

  module _ (row : NetRow) (is : IsNetRow s body name row) where
    abbrev row_net : OwnNet
    row_net = record { name = name; range = row.range; port = row.port }

    abbrev port_net : OwnNet
    port_net = record { name = name; range = p.range; port = Some port_place.0 }

    same_net : row_net ≡ port_net
    same_net = same_Some row_net port_net (sym is.owned ∙ port_owned)

    number_is : row.port ≡ Some port_place.0
    number_is = ap (λ (x : OwnNet). x.port) same_net

    pub not_portless : row.port ≡ None → ⊥
    not_portless none = none-some port_place.0 (sym none ∙ number_is)

    pub dir_is : (k : ℕ) → row.port ≡ Some k → dir_among (ports_among n.modules cells models body) k ≡ Some p.dir
    dir_is k port =
        let same : port_place.0 ≡ k = same_Some port_place.0 k (sym number_is ∙ port) in
        ap (λ o. dir_among o k) (same_body ∙ port_there.1) ∙ ap (option_map (λ (q : Port). q.dir)) (subst (λ j. slice_get port_there.0 j ≡ Some p) same port_place.2)

    pub bits_are : (place : ℕ) → place < width p.range → IsBitNumber s body (p.name, place) (row.first + place)
    bits_are place within =
        let range : row.range ≡ p.range = ap (λ (x : OwnNet). x.range) same_net in
        let named : name ≡ p.name = same_name-equal name p.name port_place.3 in
        subst (λ (x : List ℕ). IsBitNumber s body (x, place) (row.first + place)) named
        (is.bits place (subst (λ (r : Option (ℕ × ℕ)). place < width r) (sym range) within))

-- the type of a line
pub type_is : (s : Sources) (types : Types) (number inst : ℕ) (m : Module) (i : Inst) → types ≡ types_of s → module_at s number ≡ Some m → slice_get m.insts inst ≡ Some i
    → slice_index_or (slice_index_or types number []) inst None ≡ type_of s i.kind
type_is s types number inst m i same there at =
    let of_module : slice_get types number ≡ Some (map (λ (x : Inst). type_of s x.kind) m.insts) =
    ap (λ (t : Types). slice_get t number) same ∙ slice_get-map (λ (x : Module). map (λ (y : Inst). type_of s y.kind) x.insts) s.modules number
    ∙ ap (option_map (λ (x : Module). map (λ (y : Inst). type_of s y.kind) x.insts)) there in
    let row : slice_index_or types number [] ≡ map (λ (x : Inst). type_of s x.kind) m.insts = get_or_from_slice_get types number _ [] of_module in
    let one : slice_get (map (λ (x : Inst). type_of s x.kind) m.insts) inst ≡ Some (type_of s i.kind) =
    slice_get-map (λ (x : Inst). type_of s x.kind) m.insts inst ∙ ap (option_map (λ (x : Inst). type_of s x.kind)) at in
    ap (λ (x : List (Option Body)). slice_index_or x inst None) row ∙ get_or_from_slice_get (map (λ (x : Inst). type_of s x.kind) m.insts) inst (type_of s i.kind) None one
