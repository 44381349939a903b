-- Bits of one net and place in two instances at one way below two of one module are alike.
use Rattle.std.proofs.Common.{◌≡◌, ◌≢◌, ℕ, ◌⊎◌, ◌==◌, ◌&&◌, Bool, true, false, List, [], ◌∷◌, ◌++◌, Option, Some, None, option_and_then, option_map, inl, inr, refl, sym, ap, ◌∙◌, subst}
use Rattle.std.proofs.lemmas.Bool.{eqb-true}
use Rattle.std.proofs.lemmas.Option.{same_Some}
use Rattle.pw_defs.specs.declared.design.Bit.{Bit}
use Rattle.pw_defs.specs.declared.design.Body.{Body}
use Rattle.pw_defs.specs.declared.design.Body.TheVariants.{Module as ModuleBody, Cell as CellBody, Model as ModelBody}
use Rattle.pw_defs.specs.declared.design.Design.{Design}
use Rattle.pw_defs.specs.declared.design.Feeder.{Feeder}
use Rattle.pw_defs.specs.declared.design.Feeder.TheVariants.{Bit as BitFeeder, Through, Driver, Constant, Nothing}
use Rattle.pw_defs.specs.declared.design.PortBit.{PortBit}
use Rattle.pw_defs.specs.declared.netlist.Module.{Module}
use Rattle.design_defs.specs.Alike.{AreBitsAlike, AreFeedersAlike, ArePortBitsAlike, ArePortsAlike, HaveSameName, IsInputBitOf, named_below}
use Rattle.design_defs.specs.Bits.{IsSpot, Spot, port_number, range_in, range_of}
use Rattle.design_defs.specs.Designs.{IsBitAt, IsFeederOf, IsLinked, IsMadeFrom, IsPlainBit, begins_signal_at, parts_of, passes_on_at}
use Rattle.design_defs.specs.Drivers.{asked_at, begins_signal_in, passes_on_in}
use Rattle.design_defs.specs.Hierarchy.{Sources, Way, body_at, module_at, path}
use Rattle.design_defs.specs.Links.{IsThrough}
use Rattle.design_defs.specs.Names.{joined}
use Rattle.design_defs.specs.Places.{net_range}
use Rattle.design_defs.specs.Ports.{dir_in, is_input}
use Rattle.design_defs.specs.Ranges.{bit_name}
use Rattle.design_defs.proofs.Lookups.{body_of_spot}
use Rattle.design_laws.proofs.Below.{inst_full, joined_below, net_full, path_below, path_full}
use Rattle.design_laws.proofs.Feeders.{asked_there, there_driver, there_passes, through_bit}
use Rattle.design_laws.proofs.LinkFeeders.{fed_by_bit, fed_by_constant, fed_by_nothing}
use Rattle.design_laws.proofs.Numbered.{IsSpotOf, IsWayOf, body_of_way, is_spot, one_number, one_way, path_of_way, spot_number}
use Rattle.design_laws.proofs.Parts.{same_dirs}
use Rattle.design_laws.proofs.PortSpots.{port_of_bit}
use Rattle.design_laws.proofs.Top.{top_is_first}
use Rattle.design_laws.proofs.Twins.{ArePair, AreTwins, IsInner, same_below, same_port_number, same_range, same_spot, turned, twin_bits, twin_instances, twin_link}
use Rattle.design_laws.specs.OwnPlaces.{spot_at}

-- a bit below the one of a pair
abbrev pub IsBitBelow : {s : Sources} {d : Design} → IsMadeFrom s d → Way → Way → List ℕ × ℕ → Bit → Type 0
IsBitBelow {s} {d} made top below e x = IsBitAt s made.numbering.ways made.numbering.spots (spot_at (below ++ top) e) x

-- NAMES. The name of a bit isn't empty where that of its net isn't.
bit_full : (name : List ℕ) (range : Option (ℕ × ℕ)) (place : ℕ) → name ≢ [] → bit_name name range place ≢ []
bit_full name None place some e = some e
bit_full [] (Some r) place some e = some refl
bit_full (c ∷ cs) (Some r) place some e = cc

-- the range of a bit of a module is that of a net
net_of_module : (s : Sources) (n : ℕ) (net : List ℕ) (range : Option (ℕ × ℕ)) → range_in s (ModuleBody n) net ≡ Some range
    → (m : Module) × (module_at s n ≡ Some m) × (net_range m net ≡ Some range)
net_of_module s n net range e = by (module_at s n) refl e
  where
    by : (o : Option Module) → module_at s n ≡ o → option_and_then (λ (m : Module). net_range m net) o ≡ Some range
        → (m : Module) × (module_at s n ≡ Some m) × (net_range m net ≡ Some range)
    by None none h = cc
    by (Some m) is h = (m, is, h)

name_below : (s : Sources) (d : Design) (made : IsMadeFrom s d) (a b : ℕ) (pair : ArePair s d made a b) (below : Way) (e : List ℕ × ℕ) (range : Option (ℕ × ℕ))
    → range_of s (spot_at (below ++ pair.way) e) ≡ Some range
    → joined (path (below ++ pair.way)) (bit_name e.0 range e.1) ≡ named_below (path pair.way) (joined (path below) (bit_name e.0 range e.1))
name_below s d made a b pair below e range is =
    ap (λ p. joined p (bit_name e.0 range e.1)) (path_below s pair.full pair.way below (body.0, body.1))
    ∙ joined_below (path pair.way) (path below) (bit_name e.0 range e.1) (λ none. full below refl none)
  where
    body : (x : Body) × (body_at s (below ++ pair.way) ≡ Some x) × (range_in s x e.0 ≡ Some range)
    body = body_of_spot s (spot_at (below ++ pair.way) e) range is

    full : (u : Way) → u ≡ below → path below ≡ [] → bit_name e.0 range e.1 ≢ []
    full [] same none =
        let bodies : Some (ModuleBody pair.module_number) ≡ Some body.0 = sym pair.body ∙ ap (λ (w : Way). body_at s (w ++ pair.way)) same ∙ body.1 in
        let net = net_of_module s pair.module_number e.0 range
        (ap (λ x. range_in s x e.0) (same_Some (ModuleBody pair.module_number) body.0 bodies) ∙ body.2) in
        bit_full e.0 range e.1 (net_full s pair.full pair.module_number net.0 e.0 range net.1 net.2)
    full (name ∷ outer) same none =
        absurd (path_full name outer
        (inst_full s pair.full name (outer ++ pair.way) (body.0, ap (λ (w : Way). body_at s (w ++ pair.way)) same ∙ body.1)) (ap path same ∙ none))

same_names : (s : Sources) (d : Design) (made : IsMadeFrom s d) (a b : ℕ) (pair : ArePair s d made a b) (below : Way) (e : List ℕ × ℕ) (x y : Bit)
    → IsBitBelow made pair.way below e x → IsBitBelow made pair.other below e y → HaveSameName d a b x y
same_names s d made a b pair below e x y is is' =
    let range = is.name_there in
    let other = is'.name_there in
    let ranges : range.0 ≡ other.0 = same_Some range.0 other.0 (sym range.1 ∙ same_range s d made a b pair below e ∙ other.1) in
    let there : range_of s (spot_at (below ++ pair.other) e) ≡ Some range.0 = other.1 ∙ ap Some (sym ranges) in
    record {
      name = joined (path below) (bit_name e.0 range.0 e.1);
      path = path pair.way;
      other = path pair.other;
      path_of_first = path_of_way s d made a pair.way pair.at;
      path_of_second = path_of_way s d made b pair.other pair.at_other;
      first = range.2 ∙ name_below s d made a b pair below e range.0 range.1;
      second = other.2 ∙ ap (λ r. joined (path (below ++ pair.other)) (bit_name e.0 r e.1)) (sym ranges)
          ∙ name_below s d made b a (turned s d made a b pair) below e range.0 there;
    }

-- PORTS.
abbrev port_bit : ℕ → ℕ → List ℕ × ℕ → PortBit
port_bit owner k e = record { inst = owner; port = k; place = e.1 }

port_is : (s : Sources) (d : Design) (made : IsMadeFrom s d) (top below : Way) (e : List ℕ × ℕ) (x : Bit) → IsBitBelow made top below e x
    → (k : ℕ) → port_number s (spot_at (below ++ top) e) ≡ Some k → x.port ≡ Some (port_bit x.owner k e)
port_is s d made top below e x is k number =
    is.port_there ∙ ap (option_map (λ (port : ℕ). record { inst = x.owner; port = port; place = e.1 })) number

same_port_bits : (s : Sources) (d : Design) (made : IsMadeFrom s d) (a b : ℕ) (pair : ArePair s d made a b) (below : Way) (e : List ℕ × ℕ) (x y : Bit)
    → IsBitBelow made pair.way below e x → IsBitBelow made pair.other below e y → (k : ℕ) → ArePortBitsAlike d a b (port_bit x.owner k e) (port_bit y.owner k e)
same_port_bits s d made a b pair below e x y is is' k =
    record { owners = twin_instances s d made a b pair below x.owner y.owner is.owner_there is'.owner_there; port = refl; place = refl }

same_port : (s : Sources) (d : Design) (made : IsMadeFrom s d) (a b : ℕ) (pair : ArePair s d made a b) (below : Way) (e : List ℕ × ℕ) (x y : Bit)
    → IsBitBelow made pair.way below e x → IsBitBelow made pair.other below e y → ArePortsAlike d a b x.port y.port
same_port s d made a b pair below e x y is is' = by (port_number s (spot_at (below ++ pair.way) e)) refl
  where
    alike : (p q : Option PortBit) → x.port ≡ p → y.port ≡ q → ArePortsAlike d a b p q → ArePortsAlike d a b x.port y.port
    alike p q first second are = subst (λ o. ArePortsAlike d a b o y.port) (sym first) (subst (ArePortsAlike d a b p) (sym second) are)

    by : (o : Option ℕ) → port_number s (spot_at (below ++ pair.way) e) ≡ o → ArePortsAlike d a b x.port y.port
    by None none =
        alike None None (is.port_there ∙ ap (option_map (λ (port : ℕ). record { inst = x.owner; port = port; place = e.1 })) none)
        (is'.port_there ∙ ap (option_map (λ (port : ℕ). record { inst = y.owner; port = port; place = e.1 }))
        (sym (same_port_number s d made a b pair below e) ∙ none)) tt
    by (Some k) number =
        alike (Some (port_bit x.owner k e)) (Some (port_bit y.owner k e)) (port_is s d made pair.way below e x is k number)
        (port_is s d made pair.other below e y is' k (sym (same_port_number s d made a b pair below e) ∙ number))
        (same_port_bits s d made a b pair below e x y is is' k)

-- INPUTS. A bit is an input bit of the one of the two itself, or isn't.
input_or_inner : (s : Sources) (d : Design) (made : IsMadeFrom s d) (a b : ℕ) (pair : ArePair s d made a b) (below : Way) (e : List ℕ × ℕ) (x : Bit)
    → IsBitBelow made pair.way below e x → IsInputBitOf d a x ⊎ IsInner s d made a b pair below e
unfolding IsInner
input_or_inner s d made a b pair (name ∷ below) e x is = inr (λ h k number. cc)
input_or_inner s d made a b pair [] e x is = by (port_number s (spot_at pair.way e)) refl
  where
    dir : ℕ → Bool
    dir k = is_input (dir_in (parts_of s) (ModuleBody pair.module_number) k)

    none_is : (k : ℕ) → None ≡ Some k → dir k ≡ false
    none_is k h = cc

    by_dir : (k : ℕ) → port_number s (spot_at pair.way e) ≡ Some k → (o : Bool) → dir k ≡ o
        → IsInputBitOf d a x ⊎ IsInner s d made a b pair [] e
    by_dir k number true input =
        inl (record {
          port = port_bit x.owner k e;
          is_port = port_is s d made pair.way [] e x is k number;
          of_instance = one_number s d made x.owner a pair.way is.owner_there pair.at;
          body = ModuleBody pair.module_number;
          is_body = body_of_way s d made a pair.way pair.at ∙ pair.body;
          input = ap is_input (same_dirs s d made (ModuleBody pair.module_number) k) ∙ input;
        })
    by_dir k number false output = inr (λ h l other. ap dir (same_Some l k (sym other ∙ number)) ∙ output)

    by : (o : Option ℕ) → port_number s (spot_at pair.way e) ≡ o
        → IsInputBitOf d a x ⊎ IsInner s d made a b pair [] e
    by None none = inr (λ h l other. none_is l (sym none ∙ other))
    by (Some k) number = by_dir k number (dir k) refl

-- and so for its twin
turned_inner : (s : Sources) (d : Design) (made : IsMadeFrom s d) (a b : ℕ) (pair : ArePair s d made a b) (below : Way) (e : List ℕ × ℕ)
    → IsInner s d made a b pair below e → IsInner s d made b a (turned s d made a b pair) below e
unfolding IsInner
turned_inner s d made a b pair below e inner none k number = inner none k (same_port_number s d made a b pair [] e ∙ number)

-- SIGNALS begin, and are passed on, at both of two inner twins or at neither.
no_way : (v w : Way) → v ++ w ≡ [] → v ≡ []
no_way [] w e = refl
no_way (name ∷ v) w e = cc

-- no signal begins at a port of a module that isn't an input of the top
module_signals_not : (s : Sources) (d : Design) (made : IsMadeFrom s d) (a b : ℕ) (pair : ArePair s d made a b) (below : Way) (e : List ℕ × ℕ)
    → IsInner s d made a b pair below e → (owner k m : ℕ) → port_number s (spot_at (below ++ pair.way) e) ≡ Some k → IsWayOf made owner (below ++ pair.way)
    → body_at s (below ++ pair.way) ≡ Some (ModuleBody m) → (owner == 0 && is_input (dir_in (parts_of s) (ModuleBody m) k)) ≡ false
unfolding IsInner
module_signals_not s d made a b pair below e inner owner k m number at is = by (owner == 0) refl
  where
    by : (o : Bool) → (owner == 0) ≡ o → (o && is_input (dir_in (parts_of s) (ModuleBody m) k)) ≡ false
    by false other = refl
    by true first =
        let top = top_is_first s d made pair.faultless in
        let way : below ++ pair.way ≡ [] = one_way s d made 0 (below ++ pair.way) [] (subst (λ n. IsWayOf made n (below ++ pair.way)) (eqb-true owner 0 first) at) top in
        let none : below ≡ [] = no_way below pair.way way in
        let own_number : port_number s (spot_at pair.way e) ≡ Some k = ap (λ (w : Way). port_number s (spot_at (w ++ pair.way) e)) (sym none) ∙ number in
        let bodies : Some (ModuleBody m) ≡ Some (ModuleBody pair.module_number) = sym is ∙ ap (λ (w : Way). body_at s (w ++ pair.way)) none ∙ pair.body in
        let same : ModuleBody m ≡ ModuleBody pair.module_number = same_Some (ModuleBody m) (ModuleBody pair.module_number) bodies in
        ap (λ (x : Body). is_input (dir_in (parts_of s) x k)) same ∙ inner none k own_number

same_signal : (s : Sources) (d : Design) (made : IsMadeFrom s d) (a b : ℕ) (pair : ArePair s d made a b) (below : Way) (e : List ℕ × ℕ)
    → IsInner s d made a b pair below e → (i j k : ℕ) → port_number s (spot_at (below ++ pair.way) e) ≡ Some k → IsWayOf made i (below ++ pair.way)
    → IsWayOf made j (below ++ pair.other)
    → begins_signal_at s (below ++ pair.way) (port_bit i k e) ≡ begins_signal_at s (below ++ pair.other) (port_bit j k e)
same_signal s d made a b pair below e inner i j k number at other =
    by (body_at s (below ++ pair.way)) refl ∙ ap (asked_at begins_signal_in (parts_of s) (port_bit j k e)) (same_below s d made a b pair below)
  where
    by : (o : Option Body) → body_at s (below ++ pair.way) ≡ o
        → asked_at begins_signal_in (parts_of s) (port_bit i k e) o ≡ asked_at begins_signal_in (parts_of s) (port_bit j k e) o
    by None is = refl
    by (Some (ModuleBody m)) is =
        module_signals_not s d made a b pair below e inner i k m number at is
        ∙ sym (module_signals_not s d made b a (turned s d made a b pair) below e (turned_inner s d made a b pair below e inner) j k m
        (sym (same_port_number s d made a b pair below e) ∙ number) other (sym (same_below s d made a b pair below) ∙ is))
    by (Some (CellBody c)) is = refl
    by (Some (ModelBody m)) is = refl

same_pass : (s : Sources) (d : Design) (made : IsMadeFrom s d) (a b : ℕ) (pair : ArePair s d made a b) (below : Way) (e : List ℕ × ℕ) (i j k : ℕ)
    → passes_on_at s (below ++ pair.way) (port_bit i k e) ≡ passes_on_at s (below ++ pair.other) (port_bit j k e)
same_pass s d made a b pair below e i j k =
    by (body_at s (below ++ pair.way)) ∙ ap (asked_at passes_on_in (parts_of s) (port_bit j k e)) (same_below s d made a b pair below)
  where
    by : (o : Option Body) → asked_at passes_on_in (parts_of s) (port_bit i k e) o ≡ asked_at passes_on_in (parts_of s) (port_bit j k e) o
    by None = refl
    by (Some (ModuleBody m)) = refl
    by (Some (CellBody c)) = refl
    by (Some (ModelBody m)) = refl

-- FEEDERS. The port of a bit by its number.
port_parts : (s : Sources) (d : Design) (made : IsMadeFrom s d) (top below : Way) (e : List ℕ × ℕ) (x : Bit) → IsSpot s (spot_at (below ++ top) e)
    → IsBitBelow made top below e x → (p : PortBit) → x.port ≡ Some p → (port_number s (spot_at (below ++ top) e) ≡ Some p.port) × (p ≡ port_bit x.owner p.port e)
port_parts s d made top below e x there is p port =
    let of = port_of_bit s d made (spot_at (below ++ top) e) x there is p port in
    (of.number, same_Some p (port_bit x.owner p.port e) (sym port ∙ port_is s d made top below e x is p.port of.number))

same_plain : (s : Sources) (d : Design) (made : IsMadeFrom s d) (a b : ℕ) (pair : ArePair s d made a b) (below : Way) (e : List ℕ × ℕ) (x y : Bit)
    → IsInner s d made a b pair below e → IsSpot s (spot_at (below ++ pair.other) e) → IsBitBelow made pair.way below e x → IsBitBelow made pair.other below e y
    → IsPlainBit s (spot_at (below ++ pair.way) e) x → IsPlainBit s (spot_at (below ++ pair.other) e) y
same_plain s d made a b pair below e x y inner there is is' plain = record { no_signal = no_signal; not_passing = not_passing }
  where
    twin_port : (q : PortBit) → y.port ≡ Some q → (port_number s (spot_at (below ++ pair.way) e) ≡ Some q.port) × (x.port ≡ Some (port_bit x.owner q.port e))
        × (q ≡ port_bit y.owner q.port e)
    twin_port q port =
        let of = port_parts s d made pair.other below e y there is' q port in
        let number = same_port_number s d made a b pair below e ∙ of.0 in
        (number, port_is s d made pair.way below e x is q.port number, of.1)

    no_signal : (q : PortBit) → y.port ≡ Some q → begins_signal_at s (below ++ pair.other) q ≡ false
    no_signal q port =
        let twin = twin_port q port in
        ap (begins_signal_at s (below ++ pair.other)) twin.2
        ∙ sym (same_signal s d made a b pair below e inner x.owner y.owner q.port twin.0 is.owner_there is'.owner_there)
        ∙ plain.no_signal (port_bit x.owner q.port e) twin.1

    not_passing : (q : PortBit) → y.port ≡ Some q → passes_on_at s (below ++ pair.other) q ≡ false
    not_passing q port =
        let twin = twin_port q port in
        ap (passes_on_at s (below ++ pair.other)) twin.2 ∙ sym (same_pass s d made a b pair below e x.owner y.owner q.port)
        ∙ plain.not_passing (port_bit x.owner q.port e) twin.1

alike_by : (d : Design) (a b : ℕ) (f g f' g' : Feeder) → f ≡ f' → g ≡ g' → AreFeedersAlike d a b f' g' → AreFeedersAlike d a b f g
alike_by d a b f g f' g' p q are = subst (λ h. AreFeedersAlike d a b h g) (sym p) (subst (AreFeedersAlike d a b f') (sym q) are)

-- bits through a through pin
same_through : (s : Sources) (d : Design) (made : IsMadeFrom s d) (a b : ℕ) (pair : ArePair s d made a b) (below : Way) (e : List ℕ × ℕ) (x y : Bit)
    → IsSpot s (spot_at (below ++ pair.other) e) → IsBitBelow made pair.way below e x → IsBitBelow made pair.other below e y
    → IsSpot s (spot_at (below ++ pair.way) e) → (p : PortBit) (source : Spot) (n : ℕ) → x.port ≡ Some p → passes_on_at s (below ++ pair.way) p ≡ true
    → IsThrough s (spot_at (below ++ pair.way) e) source → IsSpotOf made n source → x.feeder ≡ Through p.inst n → AreFeedersAlike d a b x.feeder y.feeder
same_through s d made a b pair below e x y there' is is' there p source n port passes pin at f =
    alike_by d a b x.feeder y.feeder (Through x.owner n) (Through y.owner number.0) (f ∙ ap (λ k. Through k n) (ap (λ (z : PortBit). z.inst) own.1)) through (
      twin_instances s d made a b pair below x.owner y.owner is.owner_there is'.owner_there,
      twin_bits s d made a b pair below (pin.through_pin.name, 0) n number.0 (subst (IsSpotOf made n) pin.is_source at) number.1,
    )
  where
    own : (port_number s (spot_at (below ++ pair.way) e) ≡ Some p.port) × (p ≡ port_bit x.owner p.port e)
    own = port_parts s d made pair.way below e x there is p port

    twin : Spot
    twin = spot_at (below ++ pair.other) (pin.through_pin.name, 0)

    first : IsSpot s (spot_at (below ++ pair.way) (pin.through_pin.name, 0))
    first = subst (IsSpot s) pin.is_source (is_spot s d made n source at)

    number : (m : ℕ) × IsSpotOf made m twin
    number = spot_number s d made twin (same_spot s d made a b pair below (pin.through_pin.name, 0) first)

    other_pin : IsThrough s (spot_at (below ++ pair.other) e) twin
    other_pin =
        record {
          number = pin.number;
          cell = pin.cell;
          body = sym (same_below s d made a b pair below) ∙ pin.body;
          is_cell = pin.is_cell;
          interface_cell = pin.interface_cell;
          out_pin = pin.out_pin;
          is_out_pin = pin.is_out_pin;
          is_out = pin.is_out;
          through_pin = pin.through_pin;
          is_through_pin = pin.is_through_pin;
          is_source = refl;
        }

    other_port : y.port ≡ Some (port_bit y.owner p.port e)
    other_port = port_is s d made pair.other below e y is' p.port (sym (same_port_number s d made a b pair below e) ∙ own.0)

    other_passes : passes_on_at s (below ++ pair.other) (port_bit y.owner p.port e) ≡ true
    other_passes = sym (same_pass s d made a b pair below e x.owner y.owner p.port) ∙ ap (passes_on_at s (below ++ pair.way)) (sym own.1) ∙ passes

    through : y.feeder ≡ Through y.owner number.0
    through =
        there_passes s d made pair.faultless (spot_at (below ++ pair.other) e) y y.owner number.0 there' is' is'.fed_so
        (record {
          port = port_bit y.owner p.port e;
          is_port = other_port;
          interface_output = (asked_there s d made (spot_at (below ++ pair.other) e) y there' is').passing (port_bit y.owner p.port e) other_port ∙ other_passes;
          of_instance = refl;
          through = through_bit s d made pair.faultless (spot_at (below ++ pair.other) e) twin y.owner number.0 is'.owner_there other_pin number.1;
        })

-- What feeds two inner twins is alike.
same_feeders : (s : Sources) (d : Design) (made : IsMadeFrom s d) (a b : ℕ) (pair : ArePair s d made a b) (below : Way) (e : List ℕ × ℕ) (x y : Bit)
    → IsInner s d made a b pair below e → IsSpot s (spot_at (below ++ pair.way) e) → IsSpot s (spot_at (below ++ pair.other) e)
    → IsBitBelow made pair.way below e x → IsBitBelow made pair.other below e y → IsFeederOf s made.numbering.spots (spot_at (below ++ pair.way) e) x
    → AreFeedersAlike d a b x.feeder y.feeder
same_feeders s d made a b pair below e x y inner there there' is is' (IsFeederOf.driver p port signal f) =
    let own = port_parts s d made pair.way below e x there is p port in
    let other_port = port_is s d made pair.other below e y is' p.port (sym (same_port_number s d made a b pair below e) ∙ own.0) in
    let begins = sym (same_signal s d made a b pair below e inner x.owner y.owner p.port own.0 is.owner_there is'.owner_there)
    ∙ ap (begins_signal_at s (below ++ pair.way)) (sym own.1) ∙ signal in
    let asked = asked_there s d made (spot_at (below ++ pair.other) e) y there' is' in
    let driven = there_driver s d made (spot_at (below ++ pair.other) e) y (port_bit y.owner p.port e) asked is'.fed_so other_port
    (asked.signal (port_bit y.owner p.port e) other_port ∙ begins) in
    alike_by d a b x.feeder y.feeder (Driver (port_bit x.owner p.port e)) (Driver (port_bit y.owner p.port e)) (f ∙ ap Driver own.1) driven
    (same_port_bits s d made a b pair below e x y is is' p.port)
same_feeders s d made a b pair below e x y inner there there' is is' (IsFeederOf.through p source n port passes pin at f) =
    same_through s d made a b pair below e x y there' is is' there p source n port passes pin at f
same_feeders s d made a b pair below e x y inner there there' is is' (IsFeederOf.bit source n plain link at f) =
    by (Some source) twin.0 twin.2 refl twin.1
  where
    twin : (o : Option Spot) × IsLinked s (spot_at (below ++ pair.other) e) o × AreTwins pair.way pair.other (Some source) o
    twin = twin_link s d made a b pair below e inner (Some source) link

    plain_twin : IsPlainBit s (spot_at (below ++ pair.other) e) y
    plain_twin = same_plain s d made a b pair below e x y inner there' is is' plain

    by : (o t : Option Spot) → AreTwins pair.way pair.other o t → o ≡ Some source → IsLinked s (spot_at (below ++ pair.other) e) t
        → AreFeedersAlike d a b x.feeder y.feeder
    by _ _ (AreTwins.bits under g) same other =
        let fed = fed_by_bit s pair.faultless made.numbering.spots (spot_at (below ++ pair.other) e) there' y is'.fed_so plain_twin (spot_at (under ++ pair.other) g) other in
        alike_by d a b x.feeder y.feeder (BitFeeder n) (BitFeeder fed.0) f fed.2
        (twin_bits s d made a b pair under g n fed.0 (subst (IsSpotOf made n) (sym (same_Some (spot_at (under ++ pair.way) g) source same)) at) fed.1)
    by _ _ AreTwins.constant same other = cc
same_feeders s d made a b pair below e x y inner there there' is is' (IsFeederOf.constant plain link f) =
    by None twin.0 twin.2 refl twin.1
  where
    twin : (o : Option Spot) × IsLinked s (spot_at (below ++ pair.other) e) o × AreTwins pair.way pair.other None o
    twin = twin_link s d made a b pair below e inner None link

    plain_twin : IsPlainBit s (spot_at (below ++ pair.other) e) y
    plain_twin = same_plain s d made a b pair below e x y inner there' is is' plain

    by : (o t : Option Spot) → AreTwins pair.way pair.other o t → o ≡ None → IsLinked s (spot_at (below ++ pair.other) e) t → AreFeedersAlike d a b x.feeder y.feeder
    by _ _ (AreTwins.bits under g) same other = cc
    by _ _ AreTwins.constant same other =
        alike_by d a b x.feeder y.feeder Constant Constant f
        (fed_by_constant s pair.faultless made.numbering.spots (spot_at (below ++ pair.other) e) there' y is'.fed_so plain_twin other) tt
same_feeders s d made a b pair below e x y inner there there' is is' (IsFeederOf.nothing plain none f) =
    alike_by d a b x.feeder y.feeder Nothing Nothing f
    (fed_by_nothing s made.numbering.spots (spot_at (below ++ pair.other) e) y is'.fed_so (same_plain s d made a b pair below e x y inner there' is is' plain)
    (λ source link.
    let back = twin_link s d made b a (turned s d made a b pair) below e (turned_inner s d made a b pair below e inner) source link in
    none back.0 back.1)) tt

-- Twins are alike.
pub twins_alike : (s : Sources) (d : Design) (made : IsMadeFrom s d) (a b : ℕ) (pair : ArePair s d made a b) (below : Way) (e : List ℕ × ℕ) (x y : Bit)
    → IsSpot s (spot_at (below ++ pair.way) e) → IsBitBelow made pair.way below e x → IsBitBelow made pair.other below e y → AreBitsAlike d a b x y
twins_alike s d made a b pair below e x y there is is' =
    record {
      names = same_names s d made a b pair below e x y is is';
      ports = same_port s d made a b pair below e x y is is';
      feeders =
          elim (input_or_inner s d made a b pair below e x is) [
            | inl input ↦ inl input
            | inr inner ↦ inr (same_feeders s d made a b pair below e x y inner there (same_spot s d made a b pair below e there) is is' is.fed_so)
          ];
    }
