-- Each thing has one name, and stands at one place.
use Rattle.std.proofs.Common.{◌≡◌, ◌≢◌, ℕ, ◌<◌, Bool, true, false, not, ◌&&◌, List, [], ◌∷◌, ◌++◌, Option, None, Some, length, slice_get, refl, sym, ap, ◌∙◌, subst, arith, length-append}
use Rattle.std.proofs.lemmas.Bool.{false≢true}
use Rattle.std.proofs.lemmas.Option.{same_Some}
use Rattle.pw_defs.specs.declared.design.Body.{Body}
use Rattle.pw_defs.specs.declared.design.Body.TheVariants.{Module as ModuleBody, Cell as CellBody, Model as ModelBody}
use Rattle.pw_defs.specs.declared.netlist.Inst.{Inst}
use Rattle.pw_defs.specs.declared.netlist.Module.{Module}
use Rattle.pw_defs.specs.declared.netlist.Port.{Port}
use Rattle.list_defs.specs.Orders.{IsRising}
use Rattle.list_defs.proofs.OneList.{one_place}
use Rattle.design_defs.specs.DesignFaults.{HasPortAt, HasThingName, StandsAt, Thing, way_of}
use Rattle.design_defs.specs.Hierarchy.{IsOfModule, Sources, Way, body_at, inst_named, module_at, path, ports_in, way_cmp}
use Rattle.design_defs.specs.Links.{IsInstLine}
use Rattle.design_defs.specs.Names.{joined}
use Rattle.design_defs.specs.Ranges.{bit_name, width}
use Rattle.design_defs.proofs.BitOrders.{way_total}
use Rattle.net_instances.specs.Ways.{AreNamed}
use Rattle.net_names.specs.Things.{HasPlace}
use Rattle.net_names.specs.declared.meeting.Place.{Place}

abbrev pub is_instance : Thing → Bool
is_instance (Thing.instance way) = true
is_instance (Thing.port way number) = false
is_instance (Thing.vector_bit way number place) = false

pub no_instance : (t : Thing) (way : Way) → is_instance t ≡ false → t ≢ Thing.instance way
no_instance t way not_one e = false≢true (sym not_one ∙ ap is_instance e)

not_instance : (t : Thing) (way : Way) → t ≢ Thing.instance way → way_of t ≡ way → is_instance t ≡ false
not_instance (Thing.instance w) way other same = absurd (other (ap Thing.instance same))
not_instance (Thing.port w number) way other same = refl
not_instance (Thing.vector_bit w number place) way other same = refl

-- STANDING. Whether a thing stands in its own module, and not in the one that its instance is inside
abbrev is_module : Option Body → Bool
is_module None = false
is_module (Some (ModuleBody n)) = true
is_module (Some (CellBody c)) = false
is_module (Some (ModelBody m)) = false

abbrev is_own : Sources → Thing → Bool
is_own s t = not (is_instance t) && is_module (body_at s (way_of t))

is_own_by : (s : Sources) (t : Thing) (way : Way) (body : Body) → is_instance t ≡ false → way_of t ≡ way → body_at s way ≡ Some body → is_own s t ≡ is_module (Some body)
is_own_by s t way body not_one same there =
    ap (λ b. not b && is_module (body_at s (way_of t))) not_one ∙ ap is_module (ap (body_at s) same ∙ there)

abbrev StandsBy : Sources → Bool → Way → Way → ℕ → ℕ → Type 0
StandsBy s true own way number line = (own ≡ way) × ((m : Module) × IsOfModule s way number m × (line ≡ m.line))
StandsBy s false own way number line = (name : List ℕ) × (own ≡ name ∷ way) × ((m : Module) × IsOfModule s way number m) × IsInstLine s way name line

stands_by : (s : Sources) (t : Thing) (way : Way) (number line : ℕ) → StandsAt s t way number line → StandsBy s (is_own s t) (way_of t) way number line
stands_by s t way number line (StandsAt.instance name m e is on) =
    subst (λ x. StandsBy s (is_own s x) (way_of x) way number line) (sym e) (name, refl, (m, is), on)
stands_by s t way number line (StandsAt.module_port m other same is on) =
    subst (λ b. StandsBy s b (way_of t) way number line) (sym (is_own_by s t way (ModuleBody number) (not_instance t way other same) same is.body)) (same, (m, is, on))
stands_by s t way number line (StandsAt.cell_port name c m other same body is on) =
    subst (λ b. StandsBy s b (way_of t) way number line) (sym (is_own_by s t (name ∷ way) (CellBody c) (not_instance t (name ∷ way) other same) same body)) (name, same, (m, is), on)
stands_by s t way number line (StandsAt.model_port name c m other same body is on) =
    subst (λ b. StandsBy s b (way_of t) way number line) (sym (is_own_by s t (name ∷ way) (ModelBody c) (not_instance t (name ∷ way) other same) same body)) (name, same, (m, is), on)

-- the module of an instance, and its line of a name
pub record IsOneModule (n k : ℕ) (m other : Module) : Type 0 where
  pub numbers : n ≡ k
  pub modules : m ≡ other

pub one_module : (s : Sources) (way : Way) (n k : ℕ) (m other : Module) → IsOfModule s way n m → IsOfModule s way k other → IsOneModule n k m other
one_module s way n k m other a b =
    let bodies : ModuleBody n ≡ ModuleBody k = same_Some (ModuleBody n) (ModuleBody k) (sym a.body ∙ b.body) in
    let numbers : n ≡ k = cc in
    record { numbers = numbers; modules = same_Some m other (sym a.is_module ∙ ap (module_at s) numbers ∙ b.is_module) }

one_line : (s : Sources) (way : Way) (name : List ℕ) (line other : ℕ) → IsInstLine s way name line → IsInstLine s way name other → line ≡ other
one_line s way name line other a b =
    let modules = one_module s way a.module_number b.module_number a.of_module b.of_module a.is_module b.is_module in
    let insts : a.inst ≡ b.inst = same_Some a.inst b.inst (sym a.is_inst ∙ ap (λ m. inst_named m name) modules.modules ∙ b.is_inst) in
    sym a.on_line ∙ ap (λ (i : Inst). i.line) insts ∙ b.on_line

pub record AreOneStand (v w : Way) (n k line other : ℕ) : Type 0 where
  pub ways : v ≡ w
  pub numbers : n ≡ k
  pub lines : line ≡ other

one_stand_by : (s : Sources) (b : Bool) (own v w : Way) (n k line other : ℕ) → StandsBy s b own v n line → StandsBy s b own w k other → AreOneStand v w n k line other
one_stand_by s true own v w n k line other p q =
    let ways : w ≡ v = sym q.0 ∙ p.0 in
    let modules = one_module s v n k p.1.0 q.1.0 p.1.1 (subst (λ x. IsOfModule s x k q.1.0) ways q.1.1) in
    record { ways = sym ways; numbers = modules.numbers; lines = p.1.2 ∙ ap (λ (m : Module). m.line) modules.modules ∙ sym q.1.2 }
one_stand_by s false own v w n k line other p q =
    let both : q.0 ∷ w ≡ p.0 ∷ v = sym q.1 ∙ p.1 in
    let ways : w ≡ v = cc in
    let names : q.0 ≡ p.0 = cc in
    let modules = one_module s v n k p.2.0 q.2.0 p.2.1 (subst (λ x. IsOfModule s x k q.2.0) ways q.2.1) in
    let on : IsInstLine s v p.0 other = subst (λ x. IsInstLine s x p.0 other) ways (subst (λ x. IsInstLine s w x other) names q.3) in
    record { ways = sym ways; numbers = modules.numbers; lines = one_line s v p.0 line other p.3 on }

pub one_stand : (s : Sources) (t : Thing) (v w : Way) (n k line other : ℕ) → StandsAt s t v n line → StandsAt s t w k other → AreOneStand v w n k line other
one_stand s t v w n k line other a b = one_stand_by s (is_own s t) (way_of t) v w n k line other (stands_by s t v n line a) (stands_by s t w k other b)

-- what is no instance stands where all that is at its instance does
pub stands_alike : (s : Sources) (x y : Thing) (way : Way) (number line : ℕ) → is_instance x ≡ false → is_instance y ≡ false → way_of x ≡ way_of y → StandsAt s y way number line
    → StandsAt s x way number line
stands_alike s x y way number line not_x not_y same (StandsAt.instance name m e is on) = absurd (no_instance y (name ∷ way) not_y e)
stands_alike s x y way number line not_x not_y same (StandsAt.module_port m other at is on) = StandsAt.module_port m (no_instance x way not_x) (same ∙ at) is on
stands_alike s x y way number line not_x not_y same (StandsAt.cell_port name c m other at body is on) =
    StandsAt.cell_port name c m (no_instance x (name ∷ way) not_x) (same ∙ at) body is on
stands_alike s x y way number line not_x not_y same (StandsAt.model_port name c m other at body is on) =
    StandsAt.model_port name c m (no_instance x (name ∷ way) not_x) (same ∙ at) body is on

-- PLACES
place_of_parts : (p q : Place) → p.holder ≡ q.holder → p.line ≡ q.line → p ≡ q
place_of_parts p q holders lines = λ i. record { holder = holders i; line = lines i }

pub one_place_of : (s : Sources) (ways : List Way) (t : Thing) (p q : Place) → IsRising way_cmp ways → HasPlace s ways t p → HasPlace s ways t q → p ≡ q
one_place_of s ways t p q rising a b =
    let one = one_stand s t a.way b.way a.number b.number p.line q.line a.stands b.stands in
    place_of_parts p q (one_place way_cmp way_total ways rising p.holder q.holder b.way (a.there ∙ ap Some one.ways) b.there) one.lines

pub places_alike : (s : Sources) (ways : List Way) (x y : Thing) (p : Place) → is_instance x ≡ false → is_instance y ≡ false → way_of x ≡ way_of y → HasPlace s ways y p
    → HasPlace s ways x p
places_alike s ways x y p not_x not_y same a =
    record { way = a.way; number = a.number; there = a.there; stands = stands_alike s x y a.way a.number p.line not_x not_y same a.stands }

-- NAMES
pub one_port : (s : Sources) (way : Way) (number : ℕ) (p q : Port) → HasPortAt s way number p → HasPortAt s way number q → p ≡ q
one_port s way number p q a b =
    let bodies : a.0 ≡ b.0 = same_Some a.0 b.0 (sym a.2 ∙ b.2) in
    let ports : a.1 ≡ b.1 = same_Some a.1 b.1 (sym a.3 ∙ ap (ports_in s) bodies ∙ b.3) in
    same_Some p q (sym a.4 ∙ ap (λ (ps : List Port). slice_get ps number) ports ∙ b.4)

-- the bit of a vector port is there
pub record IsBitThere (s : Sources) (way : Way) (number place : ℕ) (name : List ℕ) : Type 0 where
  pub p : Port
  pub range : ℕ × ℕ
  pub has : HasPortAt s way number p
  pub ranged : p.range ≡ Some range
  pub within : place < width (Some range)
  pub named : name ≡ joined (path way) (bit_name p.name (Some range) place)

-- the instance is below the top
pub record IsInstanceThere (s : Sources) (way : Way) (name : List ℕ) : Type 0 where
  pub own : List ℕ
  pub outer : Way
  pub body : Body
  pub is_way : way ≡ own ∷ outer
  pub there : body_at s way ≡ Some body
  pub named : name ≡ path way

-- the port is there
pub record IsPortThere (s : Sources) (way : Way) (number : ℕ) (name : List ℕ) : Type 0 where
  pub p : Port
  pub has : HasPortAt s way number p
  pub named : name ≡ joined (path way) p.name

abbrev pub IsThere : Sources → Thing → List ℕ → Type 0
IsThere s (Thing.instance way) name = IsInstanceThere s way name
IsThere s (Thing.port way number) name = IsPortThere s way number name
IsThere s (Thing.vector_bit way number place) name = IsBitThere s way number place name

pub is_there : (s : Sources) (t : Thing) (name : List ℕ) → HasThingName s t name → IsThere s t name
is_there s _ _ (HasThingName.instance name outer is) = record { own = name; outer = outer; body = is.0; is_way = refl; there = is.1; named = refl }
is_there s _ _ (HasThingName.port way number p has) = record { p = p; has = has; named = refl }
is_there s _ _ (HasThingName.vector_bit way number p range place has ranged within) = record {
  p = p;
  range = range;
  has = has;
  ranged = ranged;
  within = subst (λ (r : Option (ℕ × ℕ)). place < width r) ranged within;
  named = ap (λ r. joined (path way) (bit_name p.name r place)) ranged;
}

one_name_there : (s : Sources) (t : Thing) (n m : List ℕ) → IsThere s t n → IsThere s t m → n ≡ m
one_name_there s (Thing.instance way) n m a b = a.named ∙ sym b.named
one_name_there s (Thing.port way number) n m a b =
    a.named ∙ ap (λ (p : Port). joined (path way) p.name) (one_port s way number a.p b.p a.has b.has) ∙ sym b.named
one_name_there s (Thing.vector_bit way number place) n m a b =
    let ports : a.p ≡ b.p = one_port s way number a.p b.p a.has b.has in
    let ranges : a.range ≡ b.range = same_Some a.range b.range (sym a.ranged ∙ ap (λ (p : Port). p.range) ports ∙ b.ranged) in
    a.named ∙ ap (λ (p : Port). joined (path way) (bit_name p.name (Some a.range) place)) ports ∙ ap (λ r. joined (path way) (bit_name b.p.name (Some r) place)) ranges ∙ sym b.named

pub one_name : (s : Sources) (t : Thing) (n m : List ℕ) → HasThingName s t n → HasThingName s t m → n ≡ m
one_name s t n m a b = one_name_there s t n m (is_there s t n a) (is_there s t m b)

-- NAMES of an instance and of what is at it
not_joined : (p name : List ℕ) → p ≢ [] → p ≡ joined p name → ⊥
not_joined [] name some e = some refl
not_joined (c ∷ p) name some e =
    let lengths : length (c ∷ p) ≡ length ((c ∷ p) ++ 47 ∷ name) = ap length e in
    omega (arith, lengths, length-append (c ∷ p) (47 ∷ name))

joined_some : (p name : List ℕ) → name ≢ [] → joined p name ≢ []
joined_some [] name some = some
joined_some (c ∷ p) name some = λ e. (let never : (c ∷ p) ++ 47 ∷ name ≡ [] = e in cc)

path_some : (way : Way) (own : List ℕ) (outer : Way) → AreNamed way → way ≡ own ∷ outer → path way ≢ []
path_some [] own outer named e = cc
path_some (name ∷ rest) own outer named e = joined_some (path rest) name named.0

module _ (s : Sources) (named_way : (way : Way) (body : Body) → body_at s way ≡ Some body → AreNamed way) where
  alone : (way : Way) (name last : List ℕ) → IsInstanceThere s way name → name ≡ joined (path way) last → ⊥
  alone way name last a e = not_joined (path way) last (path_some way a.own a.outer (named_way way a.body a.there) a.is_way) (sym a.named ∙ e)

  -- two things of one name at one instance are no instances
  no_instances : (x y : Thing) (name : List ℕ) → IsThere s x name → IsThere s y name → x ≢ y → way_of x ≡ way_of y → (is_instance x ≡ false) × (is_instance y ≡ false)
  no_instances (Thing.instance v) (Thing.instance w) name a b other same = absurd (other (ap Thing.instance same))
  no_instances (Thing.instance v) (Thing.port w n) name a b other same = absurd (alone v name b.p.name a (b.named ∙ ap (λ u. joined (path u) b.p.name) (sym same)))
  no_instances (Thing.instance v) (Thing.vector_bit w n i) name a b other same =
      absurd (alone v name (bit_name b.p.name (Some b.range) i) a (b.named ∙ ap (λ u. joined (path u) (bit_name b.p.name (Some b.range) i)) (sym same)))
  no_instances (Thing.port v n) (Thing.instance w) name a b other same = absurd (alone w name a.p.name b (a.named ∙ ap (λ u. joined (path u) a.p.name) same))
  no_instances (Thing.vector_bit v n i) (Thing.instance w) name a b other same =
      absurd (alone w name (bit_name a.p.name (Some a.range) i) b (a.named ∙ ap (λ u. joined (path u) (bit_name a.p.name (Some a.range) i)) same))
  no_instances (Thing.port v n) (Thing.port w m) name a b other same = (refl, refl)
  no_instances (Thing.port v n) (Thing.vector_bit w m i) name a b other same = (refl, refl)
  no_instances (Thing.vector_bit v n i) (Thing.port w m) name a b other same = (refl, refl)
  no_instances (Thing.vector_bit v n i) (Thing.vector_bit w m j) name a b other same = (refl, refl)

  pub same_place : (ways : List Way) (x y : Thing) (name : List ℕ) (p : Place) → HasThingName s x name → HasThingName s y name → x ≢ y → way_of x ≡ way_of y → HasPlace s ways y p
      → HasPlace s ways x p
  same_place ways x y name p of_x of_y other same place =
      let no = no_instances x y name (is_there s x name of_x) (is_there s y name of_y) other same in
      places_alike s ways x y p no.0 no.1 same place
