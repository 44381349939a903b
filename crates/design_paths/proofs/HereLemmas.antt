-- What has a name directly at an instance: an instance inside it, a port, or a bit of a vector port.
use Rattle.std.proofs.Common.{◌≡◌, ℕ, decimal, zero, suc, ◌<◌, Bool, true, false, cond, List, [], ◌∷◌, ◌++◌, length, take, Option, Some, None, MatchOption, map, slice_get, slice_index_or, inl, inr, refl, sym, ap, ◌∙◌, subst, arith}
use Rattle.std.specs.Cmp.Lexicographic.{bytes_decides}
use Rattle.std.specs.List.{position}
use Rattle.std.specs.Option.{option_and_then, option_map}
use Rattle.pw_defs.specs.declared.design.Design.{Design}
use Rattle.pw_defs.specs.declared.design.Named.{Named}
use Rattle.pw_defs.specs.declared.design.Named.TheVariants.{Instance, Port as PortNamed, PortBit as BitNamed}
use Rattle.pw_defs.specs.declared.design.PortBit.{PortBit}
use Rattle.pw_defs.specs.declared.netlist.Port.{Port}
use Rattle.pw_defs.specs.declared.cells.Cell.{Cell}
use Rattle.pw_defs.specs.declared.cells.Pin.{Pin}
use Rattle.pw_defs.specs.declared.design.Body.TheVariants.{Cell as CellBody}
use Rattle.pw_defs.specs.declared.design.Instance.{Instance as InstanceRecord}
use Rattle.std.proofs.lemmas.List.{append_assoc}
use Rattle.std.proofs.lemmas.Option.{slice_get_cases}
use Rattle.list_defs.specs.Members.{place_of}
use Rattle.list_defs.proofs.NameLemmas.{place_of-position}
use Rattle.design_defs.specs.Alike.{IsAtOrBelow}
use Rattle.design_defs.specs.Joined.{HasJoinedName, HaveOwnNames, parent_of, path_of}
use Rattle.design_defs.specs.Names.{joined}
use Rattle.design_defs.specs.Ports.{body_of, port_at, port_of_pin, ports_among, ports_of}
use Rattle.design_defs.specs.Ranges.{bit_name, index_at, width}
use Rattle.design_defs.specs.Resolves.{HasNameBelow}
use Rattle.design_defs.specs.Sound.{HasParentsFirst}
use Rattle.design_rows.specs.Children.{HasNoneInside, IsNamedInside}
use Rattle.design_rows.proofs.ChildLemmas.{joined_once}
use Rattle.design_paths.specs.BitNames.{HasNoBit, HasNoBitFrom, HasNoBitOf, HasNoBracket, IsBitNamed}
use Rattle.port_order.specs.PortNames.{has_name}
use Rattle.design_paths.specs.Ways.{HasNoneHere, HasNoneOwn}
use Rattle.design_paths.proofs.WayLemmas.{once, take_front}

-- what stands at the first place that passes a test passes it
found_place : {X : Type 0} (test : X → Bool) (xs : List X) (n : ℕ) → place_of test xs ≡ Some n → (x : X) × (slice_get xs n ≡ Some x) × (test x ≡ true)
found_place test [] n e = cc
found_place {X} test (x ∷ xs) n e = by (test x) refl e (λ k f. found_place test xs k f)
  where
    later : (found : Option ℕ) → place_of test xs ≡ found → option_map suc found ≡ Some n
        → ((k : ℕ) → place_of test xs ≡ Some k → (y : X) × (slice_get xs k ≡ Some y) × (test y ≡ true))
        → (y : X) × (slice_get (x ∷ xs) n ≡ Some y) × (test y ≡ true)
    later None f e rest = cc
    later (Some k) f e rest =
        let found = rest k f in
        let same : suc k ≡ n = once e in
        (found.0, ap (slice_get (x ∷ xs)) (sym same) ∙ found.1, found.2)

    by : (b : Bool) → test x ≡ b → cond b (Some 0) (option_map suc (place_of test xs)) ≡ Some n
        → ((k : ℕ) → place_of test xs ≡ Some k → (y : X) × (slice_get xs k ≡ Some y) × (test y ≡ true))
        → (y : X) × (slice_get (x ∷ xs) n ≡ Some y) × (test y ≡ true)
    by true t e rest = let same : 0 ≡ n = once e in (x, ap (slice_get (x ∷ xs)) (sym same), t)
    by false t e rest = later (place_of test xs) refl e rest

-- where there is no such place nothing passes it
none_place : {X : Type 0} (test : X → Bool) (xs : List X) → place_of test xs ≡ None → (n : ℕ) (x : X) → slice_get xs n ≡ Some x → test x ≡ true → ⊥
none_place test [] e n x at t = cc
none_place {X} test (y ∷ ys) e n x at t = by (test y) refl e n at (λ none m there. none_place test ys none m x there t)
  where
    rest : (found : Option ℕ) → place_of test ys ≡ found → option_map suc found ≡ None → place_of test ys ≡ None
    rest None f e = f
    rest (Some k) f e = cc

    by : (b : Bool) → test y ≡ b → cond b (Some 0) (option_map suc (place_of test ys)) ≡ None → (m : ℕ) → slice_get (y ∷ ys) m ≡ Some x
        → (place_of test ys ≡ None → (k : ℕ) → slice_get ys k ≡ Some x → ⊥) → ⊥
    by true s e m at later = cc
    by false s e zero at later = let same : y ≡ x = once at in cc
    by false s e (suc m) at later = later (rest (place_of test ys) refl e) m at

module _ (d : Design) (inst : ℕ) where
  -- the first port of a name is a port of that name
  pub port_found : (name : List ℕ) (n : ℕ) → option_and_then (position (has_name name)) (ports_of d inst) ≡ Some n → (p : Port) × (port_at d inst n ≡ Some p) × (p.name ≡ name)
  port_found name n found = by (ports_of d inst) refl found
    where
      by : (ports : Option (List Port)) → ports_of d inst ≡ ports → option_and_then (position (has_name name)) ports ≡ Some n
          → (p : Port) × (port_at d inst n ≡ Some p) × (p.name ≡ name)
      by None e f = cc
      by (Some ports) e f =
          let at = found_place (has_name name) ports n (place_of-position (has_name name) ports ∙ f) in
          (at.0, ap (option_and_then (λ (xs : List Port). slice_get xs n)) e ∙ at.1, (bytes_decides at.0.name name).0 at.2)

  -- where none is found no port has the name
  pub port_absent : (name : List ℕ) → option_and_then (position (has_name name)) (ports_of d inst) ≡ None → (n : ℕ) (p : Port) → port_at d inst n ≡ Some p → p.name ≡ name → ⊥
  port_absent name lost n p at same = by (ports_of d inst) refl lost at
    where
      by : (ports : Option (List Port)) → ports_of d inst ≡ ports → option_and_then (position (has_name name)) ports ≡ None
          → option_and_then (λ (xs : List Port). slice_get xs n) (ports_of d inst) ≡ Some p → ⊥
      by None e f at = let none : option_and_then (λ (xs : List Port). slice_get xs n) (ports_of d inst) ≡ None = ap (option_and_then (λ (xs : List Port). slice_get xs n)) e in cc
      by (Some ports) e f at =
          let there : slice_get ports n ≡ Some p = sym (ap (option_and_then (λ (xs : List Port). slice_get xs n)) e) ∙ at in
          none_place (has_name name) ports (place_of-position (has_name name) ports ∙ f) n p there ((bytes_decides p.name name).1 same)

  -- an instance inside that has the name
  pub instance_here : HasParentsFirst d → (name : List ℕ) (n : ℕ) → IsNamedInside d inst name n → HasNameBelow d inst name (Instance n)
  instance_here first name n is =
      let before = (first n inst is.inside).0 in
      record {
        below = (inst, is.inside, IsAtOrBelow.at inst refl);
        path = is.path;
        path_of_scope = is.path_of_outer;
        named = HasJoinedName.instance n (joined is.path name) (omega (arith, before)) is.path_there;
      }

  module _ (path : List ℕ) (path_is : path_of d inst ≡ Some path) where
    -- a port of the name
    pub port_here : (name : List ℕ) (n : ℕ) (p : Port) → port_at d inst n ≡ Some p → p.name ≡ name → HasNameBelow d inst name (PortNamed inst n)
    port_here name n p at same = record {
      below = IsAtOrBelow.at inst refl;
      path = path;
      path_of_scope = path_is;
      named = subst (λ own. HasJoinedName d (PortNamed inst n) (joined path own)) same (HasJoinedName.port inst n p path path_is at);
    }

    -- a bit of the name
    pub bit_here : (name : List ℕ) (b : PortBit) → IsBitNamed d inst name b → HasNameBelow d inst name (BitNamed b)
    bit_here name b is =
        let here : path_of d b.inst ≡ Some path = ap (path_of d) is.owner ∙ path_is in
        let at : port_at d b.inst b.port ≡ Some is.port = ap (λ i. port_at d i b.port) is.owner ∙ is.is_port in
        let within : b.place < width is.port.range = subst (λ r. b.place < width r) (sym is.is_vector) is.within in
        let spelled : bit_name is.port.name is.port.range b.place ≡ name = ap (λ r. bit_name is.port.name r b.place) is.is_vector ∙ sym is.named in
        record {
          below = IsAtOrBelow.at b.inst (is.owner);
          path = path;
          path_of_scope = path_is;
          named = subst (λ own. HasJoinedName d (BitNamed b) (joined path own)) spelled (HasJoinedName.vector_bit b is.port is.range path here at is.is_vector within);
        }

  -- Whatever is directly there and has the name is one of these.
  instance_of_name : (name : List ℕ) (n : ℕ) → parent_of d n ≡ Some (Some inst) → HasNameBelow d inst name (Instance n) → IsNamedInside d inst name n
  instance_of_name name n parent has = by (Instance n) (joined has.path name) refl refl has.named
    where
      by : (x : Named) (whole : List ℕ) → Instance n ≡ x → joined has.path name ≡ whole → HasJoinedName d x whole → IsNamedInside d inst name n
      by _ _ this same (HasJoinedName.instance m path inner is_path) =
          let number : n ≡ m = cc in
          record { inside = parent; path = has.path; path_of_outer = has.path_of_scope; path_there = ap (path_of d) number ∙ is_path ∙ ap Some (sym same) }
      by _ _ this same (HasJoinedName.port i m p path is_path at) = cc
      by _ _ this same (HasJoinedName.vector_bit c p range path is_path at vector within) = cc

  port_of_name : (name : List ℕ) (n : ℕ) → HasNameBelow d inst name (PortNamed inst n) → (p : Port) × (port_at d inst n ≡ Some p) × (p.name ≡ name)
  port_of_name name n has = by (PortNamed inst n) (joined has.path name) refl refl has.named
    where
      by : (x : Named) (whole : List ℕ) → PortNamed inst n ≡ x → joined has.path name ≡ whole → HasJoinedName d x whole
          → (p : Port) × (port_at d inst n ≡ Some p) × (p.name ≡ name)
      by _ _ this same (HasJoinedName.instance m path inner is_path) = cc
      by _ _ this same (HasJoinedName.port i m p path is_path at) =
          let owner : inst ≡ i = cc in
          let number : n ≡ m = cc in
          let paths : path ≡ has.path = once (sym is_path ∙ ap (path_of d) (sym owner) ∙ has.path_of_scope) in (
            p,
            ap (λ k. port_at d k n) owner ∙ ap (port_at d i) number ∙ at,
            joined_once has.path p.name name (ap (λ q. joined q p.name) (sym paths) ∙ sym same),
          )
      by _ _ this same (HasJoinedName.vector_bit c p range path is_path at vector within) = cc

  bit_of_name : (name : List ℕ) (b : PortBit) → b.inst ≡ inst → HasNameBelow d inst name (BitNamed b) → IsBitNamed d inst name b
  bit_of_name name b owner has = by (BitNamed b) (joined has.path name) refl refl has.named
    where
      by : (x : Named) (whole : List ℕ) → BitNamed b ≡ x → joined has.path name ≡ whole → HasJoinedName d x whole → IsBitNamed d inst name b
      by _ _ this same (HasJoinedName.instance m path inner is_path) = cc
      by _ _ this same (HasJoinedName.port i m p path is_path at) = cc
      by _ _ this same (HasJoinedName.vector_bit c p range path is_path at vector within) =
          let bit : b ≡ c = cc in
          let owner_is : c.inst ≡ inst = ap (λ (x : PortBit). x.inst) (sym bit) ∙ owner in
          let paths : path ≡ has.path = once (sym is_path ∙ ap (path_of d) owner_is ∙ has.path_of_scope) in
          let own : bit_name p.name p.range c.place ≡ name =
          joined_once has.path (bit_name p.name p.range c.place) name (ap (λ q. joined q (bit_name p.name p.range c.place)) (sym paths) ∙ sym same) in
          subst (IsBitNamed d inst name) (sym bit)
          (record {
            owner = owner_is;
            port = p;
            is_port = ap (λ i. port_at d i c.port) (sym owner_is) ∙ at;
            range = range;
            is_vector = vector;
            within = subst (λ r. c.place < width r) vector within;
            named = sym own ∙ ap (λ r. bit_name p.name r c.place) vector;
          })

  -- where there is neither an instance nor a port nor a bit of the name, nothing that is there has it
  pub none_here : (name : List ℕ) → HasNoneInside d inst name → option_and_then (position (has_name name)) (ports_of d inst) ≡ None → HasNoBit d inst name → HasNoneHere d inst name
  none_here name instances ports bits (Instance n) here has = instances n (instance_of_name name n here has)
  none_here name instances ports bits (PortNamed owner n) here has =
      let at : HasNameBelow d inst name (PortNamed inst n) = subst (λ i. HasNameBelow d inst name (PortNamed i n)) here has in
      let port = port_of_name name n at in
      port_absent name ports n port.0 port.1 port.2
  none_here name instances ports bits (BitNamed b) here has = bits b (bit_of_name name b here has)

  -- two ports of one name are one port
  pub one_port : HaveOwnNames d → (path : List ℕ) → path_of d inst ≡ Some path → (n m : ℕ) (p q : Port) → port_at d inst n ≡ Some p → port_at d inst m ≡ Some q → p.name ≡ q.name → n ≡ m
  one_port own path path_is n m p q e f same =
      let first = HasJoinedName.port inst n p path path_is e in
      let second : HasJoinedName d (PortNamed inst m) (joined path p.name) =
      subst (λ name. HasJoinedName d (PortNamed inst m) (joined path name)) (sym same) (HasJoinedName.port inst m q path path_is f) in
      same_number (own (PortNamed inst n) (PortNamed inst m) (joined path p.name) first second)
    where
      same_number : PortNamed inst n ≡ PortNamed inst m → n ≡ m
      same_number same = cc

-- what stands behind a front of that many bytes
pub byte_at : (front rest name : List ℕ) (at b : ℕ) → length front ≡ at → name ≡ front ++ b ∷ rest → slice_index_or name at 0 ≡ b
byte_at front rest name at b long is = ap (λ xs. slice_index_or xs at 0) is ∙ by front at long
  where
    by : (xs : List ℕ) (n : ℕ) → length xs ≡ n → slice_index_or (xs ++ b ∷ rest) n 0 ≡ b
    by [] zero same = refl
    by [] (suc n) same = absurd (omega arith)
    by (x ∷ xs) zero same = absurd (omega arith)
    by (x ∷ xs) (suc n) same = by xs n (omega arith)

-- an instance that there is has a path
pub path_there : (d : Design) (inst : ℕ) → inst < length d.insts → (path : List ℕ) × (path_of d inst ≡ Some path)
path_there d inst within = elim (slice_get_cases d.insts inst).1 [
  | inl found ↦ (found.0.path, ap (option_map (λ (i : InstanceRecord). i.path)) found.2)
  | inr past ↦ absurd (omega (arith, past.0, within))
]

-- what is found step by step
pub here_from : (d : Design) (inst : ℕ) (name : List ℕ) → HasNoneInside d inst name → (found : Option Named) → MatchOption found (HasNoneOwn d inst name) (λ x. HasNameBelow d inst name x)
    → MatchOption found (HasNoneHere d inst name) (λ x. HasNameBelow d inst name x)
here_from d inst name instances None own = none_here d inst name instances own.0 own.1
here_from d inst name instances (Some x) has = has

pub own_from : (d : Design) (inst : ℕ) (name : List ℕ) → option_and_then (position (has_name name)) (ports_of d inst) ≡ None → (found : Option Named)
    → MatchOption found (HasNoBit d inst name) (λ x. HasNameBelow d inst name x) → MatchOption found (HasNoneOwn d inst name) (λ x. HasNameBelow d inst name x)
own_from d inst name ports None bits = (ports, bits)
own_from d inst name ports (Some x) has = has

-- the text behind the bracket of a bit's name
abbrev pub behind_bracket : (range : ℕ × ℕ) (place : ℕ) → List ℕ
behind_bracket range place = decimal (index_at range place) ++ 93 ∷ []

pub bit_split : (name : List ℕ) (range : ℕ × ℕ) (place : ℕ) → bit_name name (Some range) place ≡ name ++ 91 ∷ behind_bracket range place
bit_split name range place = append_assoc name (91 ∷ decimal (index_at range place)) (93 ∷ [])

pub no_bracket : (d : Design) (inst at : ℕ) (name : List ℕ) → HasNoBracket name at → HasNoBitFrom d inst name at
no_bracket d inst at name none b is long = none is.port.name (behind_bracket is.range b.place) long (is.named ∙ bit_split is.port.name is.range b.place)

pub bit_from : (d : Design) (inst at : ℕ) (name vector : List ℕ) → vector ≡ take at name → (found : Option PortBit)
    → MatchOption found (HasNoBitOf d inst vector name) (λ b. IsBitNamed d inst name b) → MatchOption found (HasNoBitFrom d inst name at) (λ b. IsBitNamed d inst name b)
bit_from d inst at name vector front None none = λ b is long.
    none b is (sym (take_front is.port.name (behind_bracket is.range b.place) at 91 long) ∙ ap (take at) (sym (is.named ∙ bit_split is.port.name is.range b.place)) ∙ sym front)
bit_from d inst at name vector front (Some b) is = is

module _ (d : Design) (inst : ℕ) (vector : List ℕ) (port : ℕ) (first : option_and_then (position (has_name vector)) (ports_of d inst) ≡ Some port) where
  range_in : (range : Option (ℕ × ℕ)) → option_and_then (λ (p : Port). p.range) (port_at d inst port) ≡ range → (port_found d inst vector port first).0.range ≡ range
  range_in range is = sym (ap (option_and_then (λ (p : Port). p.range)) (port_found d inst vector port first).1) ∙ is

  pub bit_is : (name : List ℕ) (range : ℕ × ℕ) (place : ℕ) → option_and_then (λ (p : Port). p.range) (port_at d inst port) ≡ Some range
      → place < width (Some range) → name ≡ bit_name vector (Some range) place → IsBitNamed d inst name (record { inst = inst; port = port; place = place })
  bit_is name range place ranged within named =
      let found = port_found d inst vector port first in
      record {
        owner = refl;
        port = found.0;
        is_port = found.1;
        range = range;
        is_vector = range_in (Some range) ranged;
        within = within;
        named = named ∙ ap (λ own. bit_name own (Some range) place) (sym found.2);
      }

  -- a bit of a port of the name is one of this port
  same_range : HaveOwnNames d → inst < length d.insts → (name : List ℕ) (b : PortBit) (is : IsBitNamed d inst name b) → is.port.name ≡ vector
      → option_and_then (λ (p : Port). p.range) (port_at d inst port) ≡ Some is.range
  same_range own there name b is same =
      let found = port_found d inst vector port first in
      let path = path_there d inst there in
      let number : port ≡ b.port = one_port d inst own path.0 path.1 port b.port found.0 is.port found.1 is.is_port (found.2 ∙ sym same) in
      ap (λ n. option_and_then (λ (p : Port). p.range) (port_at d inst n)) number ∙ ap (option_and_then (λ (p : Port). p.range)) is.is_port ∙ is.is_vector

  pub no_vector : HaveOwnNames d → inst < length d.insts → (name : List ℕ) → option_and_then (λ (p : Port). p.range) (port_at d inst port) ≡ None → HasNoBitOf d inst vector name
  no_vector own there name none b is same = let ranged = same_range own there name b is same in cc

  pub no_place : HaveOwnNames d → inst < length d.insts → (name : List ℕ) (range : ℕ × ℕ) (place : Option ℕ) → place ≡ None
      → option_and_then (λ (p : Port). p.range) (port_at d inst port) ≡ Some range
      → ((n : ℕ) → n < width (Some range) → name ≡ bit_name vector (Some range) n → place ≡ Some n) → HasNoBitOf d inst vector name
  no_place own there name range place none ranged each b is same =
      let one : is.range ≡ range = once (sym (same_range own there name b is same) ∙ ranged) in
      let found : place ≡ Some b.place =
      each b.place (subst (λ r. b.place < width (Some r)) one is.within)
      (is.named ∙ ap (λ own. bit_name own (Some is.range) b.place) same ∙ ap (λ r. bit_name vector (Some r) b.place) one) in
      cc

-- pins are no vectors
no_pin_range : (pins : List Pin) (n : ℕ) → option_and_then (λ (p : Port). p.range) (slice_get (map port_of_pin pins) n) ≡ None
no_pin_range [] n = refl
no_pin_range (p ∷ pins) zero = refl
no_pin_range (p ∷ pins) (suc n) = no_pin_range pins n

pub cell_range : (d : Design) (inst cell port : ℕ) → body_of d inst ≡ Some (CellBody cell) → option_and_then (λ (p : Port). p.range) (port_at d inst port) ≡ None
cell_range d inst cell port body =
    ap (λ b. option_and_then (λ (p : Port). p.range) (option_and_then (λ (ports : List Port). slice_get ports port) (option_and_then (ports_among d.modules d.cells d.models) b))) body
    ∙ by (slice_get d.cells.cells cell)
  where
    by : (c : Option Cell) → option_and_then (λ (p : Port). p.range) (option_and_then (λ (ports : List Port). slice_get ports port) (option_map (λ (x : Cell). map port_of_pin x.pins) c)) ≡ None
    by None = refl
    by (Some x) = no_pin_range x.pins port
