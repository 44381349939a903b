-- In a made design each number is that of something that the design has.
use Rattle.std.proofs.Common.{◌≡◌, ℕ, ◌<◌, List, [], ◌∷◌, Option, Some, None, IfSome, option_map, length, slice_get, refl, sym, ap, ◌∙◌, subst}
use Rattle.std.specs.Option.{option_or}
use Rattle.std.proofs.lemmas.Option.{same_Some, slice_get_within}
use Rattle.std.proofs.lemmas.List.{length-map}
use Rattle.std.proofs.lemmas.Slice.Zip.{AllZip-long}
use Rattle.pw_defs.specs.declared.cells.Cell.{Cell}
use Rattle.pw_defs.specs.declared.cells.Cells.{Cells}
use Rattle.pw_defs.specs.declared.design.Bit.{Bit}
use Rattle.pw_defs.specs.declared.design.Body.{Body}
use Rattle.pw_defs.specs.declared.design.Body.TheVariants.{Module as ModuleBody, Cell as CellBody, Model as ModelBody}
use Rattle.pw_defs.specs.declared.design.Design.{Design}
use Rattle.pw_defs.specs.declared.design.Instance.{Instance}
use Rattle.pw_defs.specs.declared.design.PortBit.{PortBit}
use Rattle.pw_defs.specs.declared.model.Model.{Model}
use Rattle.pw_defs.specs.declared.netlist.Module.{Module}
use Rattle.list_defs.specs.Members.{same_name}
use Rattle.list_defs.proofs.Members.{IsIn-slice_get}
use Rattle.list_defs.proofs.NameLemmas.{place_of-within}
use Rattle.design_defs.specs.Bits.{IsSpot, Spot}
use Rattle.design_defs.specs.Designs.{IsBitAt, IsFeederOf, IsInstanceAt, IsMadeFrom, IsParentOf, head_of}
use Rattle.design_defs.specs.Hierarchy.{Sources, Way, body_at, cell_named, model_named, module_named, type_of}
use Rattle.design_defs.specs.Inputs.{AreReadSources}
use Rattle.design_defs.specs.Ports.{IsPortBit}
use Rattle.design_defs.specs.Sound.{HasItsPins, HasNumbersInRange, HasWellFormedModels, IsBitIn, IsBodyIn, IsFeederIn, IsInstanceIn}
use Rattle.design_laws.proofs.Lines.{line_of}
use Rattle.design_laws.proofs.Numbered.{IsSpotOf, IsWayOf, is_spot, spot_of_bit, way_of_inst}
use Rattle.design_laws.proofs.PortSpots.{port_bit_there, port_of_bit}

-- what a name stands for is there
module_in : (s : Sources) (d : Design) → IsMadeFrom s d → (name : List ℕ) (m : ℕ) → module_named s name ≡ Some m → m < length d.modules
module_in s d made name m e =
    let within = place_of-within (λ (x : Module). same_name name x.name) s.modules m e in
    let as_long : length d.modules ≡ length s.modules = ap length made.heads ∙ length-map s.modules head_of in
    subst (λ n. m < n) (sym as_long) within

cell_in : (s : Sources) (d : Design) → IsMadeFrom s d → (name : List ℕ) (c : ℕ) → cell_named s name ≡ Some c → c < length d.cells.cells
cell_in s d made name c e =
    let within = place_of-within (λ (x : Cell). same_name name x.name) s.cells.cells c e in
    subst (λ (cs : Cells). c < length cs.cells) (sym made.same_cells) within

model_in : (s : Sources) (d : Design) → IsMadeFrom s d → (name : List ℕ) (m : ℕ) → model_named s name ≡ Some m → m < length d.models
model_in s d made name m e =
    let within = place_of-within (λ (x : Model). same_name name x.module) s.models m e in
    subst (λ (ms : List Model). m < length ms) (sym made.same_models) within

type_in : (s : Sources) (d : Design) → IsMadeFrom s d → (kind : List ℕ) (body : Body) → type_of s kind ≡ Some body → IsBodyIn d body
type_in s d made kind body e = by (model_named s kind) refl (module_named s kind) refl (cell_named s kind) refl e
  where
    is : (b : Body) → IsBodyIn d b → Some b ≡ Some body → IsBodyIn d body
    is b there same = subst (IsBodyIn d) (same_Some b body same) there

    by : (a : Option ℕ) → model_named s kind ≡ a → (b : Option ℕ) → module_named s kind ≡ b → (c : Option ℕ) → cell_named s kind ≡ c
        → option_or (option_map ModelBody a) (option_or (option_map ModuleBody b) (option_map CellBody c)) ≡ Some body → IsBodyIn d body
    by (Some n) p b q c r h = is (ModelBody n) (model_in s d made kind n p) h
    by None p (Some n) q c r h = is (ModuleBody n) (module_in s d made kind n q) h
    by None p None q (Some n) r h = is (CellBody n) (cell_in s d made kind n r) h
    by None p None q None r h = cc

body_in : (s : Sources) (d : Design) → IsMadeFrom s d → (way : Way) (body : Body) → body_at s way ≡ Some body → IsBodyIn d body
body_in s d made [] body e = by (module_named s s.top) refl e
  where
    by : (o : Option ℕ) → module_named s s.top ≡ o → option_map ModuleBody o ≡ Some body → IsBodyIn d body
    by None none h = cc
    by (Some m) is h = subst (IsBodyIn d) (same_Some (ModuleBody m) body h) (module_in s d made s.top m is)
body_in s d made (name ∷ outer) body e = let line = line_of s name outer body e in type_in s d made line.inst.kind body line.is_type

-- as many instances as ways, and bits as spots
inst_within : (s : Sources) (d : Design) (made : IsMadeFrom s d) (n : ℕ) (way : Way) → IsWayOf made n way → n < length d.insts
inst_within s d made n way e =
    let as_long = AllZip-long (IsInstanceAt s made.numbering.ways) made.numbering.ways d.insts made.instances in
    subst (λ k. n < k) (sym as_long) (slice_get_within made.numbering.ways n way e)

bit_within : (s : Sources) (d : Design) (made : IsMadeFrom s d) (n : ℕ) (x : Spot) → IsSpotOf made n x → n < length d.bits
bit_within s d made n x e =
    let as_long = AllZip-long (IsBitAt s made.numbering.ways made.numbering.spots) made.numbering.spots d.bits made.all_bits in
    subst (λ k. n < k) (sym as_long) (slice_get_within made.numbering.spots n x e)

parent_in : (s : Sources) (d : Design) (made : IsMadeFrom s d) (way : Way) (parent : Option ℕ) → IsParentOf made.numbering.ways way parent
    → IfSome parent (λ p. p < length d.insts)
parent_in s d made [] parent is = subst (λ o. IfSome o (λ p. p < length d.insts)) (sym is) tt
parent_in s d made (name ∷ outer) parent is = subst (λ o. IfSome o (λ p. p < length d.insts)) (sym is.1) (inst_within s d made is.0 outer is.2)

-- the port and the feeder of a bit are there
port_in : (s : Sources) (d : Design) (made : IsMadeFrom s d) (x : Spot) (b : Bit) → IsSpot s x → IsBitAt s made.numbering.ways made.numbering.spots x b
    → (o : Option PortBit) → b.port ≡ o → IfSome o (IsPortBit d)
port_in s d made x b there is None e = tt
port_in s d made x b there is (Some p) e = port_bit_there s d made x b.owner p (port_of_bit s d made x b there is p e)

feeder_in : (s : Sources) (d : Design) (made : IsMadeFrom s d) (x : Spot) (b : Bit) → IsSpot s x → IsBitAt s made.numbering.ways made.numbering.spots x b
    → IsFeederOf s made.numbering.spots x b → IsFeederIn d b.feeder
feeder_in s d made x b there is (IsFeederOf.driver p port signal f) =
    subst (IsFeederIn d) (sym f) (port_bit_there s d made x b.owner p (port_of_bit s d made x b there is p port))
feeder_in s d made x b there is (IsFeederOf.through p source n port passes pin at f) =
    let of = port_of_bit s d made x b there is p port in
    subst (IsFeederIn d) (sym f) (inst_within s d made p.inst x.way of.at_way, bit_within s d made n source at)
feeder_in s d made x b there is (IsFeederOf.bit source n plain link at f) = subst (IsFeederIn d) (sym f) (bit_within s d made n source at)
feeder_in s d made x b there is (IsFeederOf.constant plain link f) = subst (IsFeederIn d) (sym f) tt
feeder_in s d made x b there is (IsFeederOf.nothing plain none f) = subst (IsFeederIn d) (sym f) tt

-- Numbers are in range.
pub has_numbers_in_range : (s : Sources) (d : Design) → AreReadSources s → IsMadeFrom s d → HasNumbersInRange d
has_numbers_in_range s d read made = record { each_cell = each_cell; each_instance = each_instance; each_bit = each_bit }
  where
    each_cell : (n : ℕ) (c : Cell) → slice_get d.cells.cells n ≡ Some c → HasItsPins c
    each_cell n c e = (read.each_cell c (IsIn-slice_get s.cells.cells n c (sym (ap (λ (cs : Cells). slice_get cs.cells n) made.same_cells) ∙ e))).pins

    each_instance : (n : ℕ) (i : Instance) → slice_get d.insts n ≡ Some i → IsInstanceIn d i
    each_instance n i e =
        let found = way_of_inst s d made n i e in
        record { parent_in = parent_in s d made found.0 i.parent found.2.parent_there; body_in = body_in s d made found.0 i.body found.2.body_there }

    each_bit : (n : ℕ) (b : Bit) → slice_get d.bits n ≡ Some b → IsBitIn d b
    each_bit n b e =
        let found = spot_of_bit s d made n b e in
        let there = is_spot s d made n found.0 found.1 in
        record {
          owner_in = inst_within s d made b.owner found.0.way found.2.owner_there;
          port_in = port_in s d made found.0 b there found.2 b.port refl;
          feeder_in = feeder_in s d made found.0 b there found.2 found.2.fed_so;
        }

-- Models are well-formed.
pub has_well_formed_models : (s : Sources) (d : Design) → AreReadSources s → IsMadeFrom s d → HasWellFormedModels d
has_well_formed_models s d read made n m e =
    read.each_model m (IsIn-slice_get s.models n m (sym (ap (λ (ms : List Model). slice_get ms n) made.same_models) ∙ e))
