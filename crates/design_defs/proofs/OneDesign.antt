-- Modules, cells and models below a top have at most one fault that comes first, or make at most one design, and not both.
use Rattle.std.proofs.Common.{◌≡◌, ◌≢◌, ℕ, Bool, true, false, not, ◌&&◌, List, [], ◌∷◌, Option, Some, None, option_and_then, inl, inr, refl, sym, ap, ◌∙◌, subst, ◌<◌, arith}
use Rattle.std.specs.List.{AllZip, slice_get}
use Rattle.std.specs.Ordering.{nat_cmp, ordering_reverse}
use Rattle.std.specs.declared.cmp.Ordering.{Ordering}
use Rattle.std.specs.declared.cmp.Ordering.TheVariants.{Less, Equal, Greater}
use Rattle.std.proofs.lemmas.Map.Lookups.{exact_unsigned}
use Rattle.std.proofs.lemmas.Cmp.{nat_cmp_total}
use Rattle.pw_defs.specs.declared.cells.Cell.{Cell}
use Rattle.pw_defs.specs.declared.cells.Cells.{Cells}
use Rattle.pw_defs.specs.declared.cells.Pin.{Pin}
use Rattle.pw_defs.specs.declared.design.Bit.{Bit}
use Rattle.pw_defs.specs.declared.design.Body.{Body}
use Rattle.pw_defs.specs.declared.design.Body.TheVariants.{Module as ModuleBody, Cell as CellBody, Model as ModelBody}
use Rattle.pw_defs.specs.declared.design.Design.{Design}
use Rattle.pw_defs.specs.declared.design.Instance.{Instance}
use Rattle.pw_defs.specs.declared.design.PortBit.{PortBit}
use Rattle.pw_defs.specs.declared.faults.DesignFault.{DesignFault}
use Rattle.pw_defs.specs.declared.model.Model.{Model}
use Rattle.pw_defs.specs.declared.netlist.Module.{Module}
use Rattle.list_defs.specs.Members.{IsIn}
use Rattle.design_defs.specs.Bits.{HasSpotName, IsSpot, Spot, port_bit_of, spot_cmp}
use Rattle.design_defs.specs.DesignFaults.{Fault, FaultKind, HasDesignFault, HasFirstFault, IsDesignOf, IsFault, IsFaultless, answer_of, at_line, fault_cmp, place_cmp, place_of_fault, sources, HasNoneBefore, kind_number}
use Rattle.design_defs.specs.Designs.{begins_signal_at, IsBitAt, IsFeederOf, IsInstanceAt, IsLinked, IsMadeFrom, IsParentOf, IsPlainBit, parts_of, passes_on_at}
use Rattle.design_defs.specs.Drivers.{asked_at, begins_signal_in, is_interface_cell, passes_on_in}
use Rattle.design_defs.specs.Hierarchy.{IsInstance, Sources, Way, body_at, path, way_cmp}
use Rattle.design_defs.specs.Links.{IsLink, IsThrough, spot_of}
use Rattle.design_defs.specs.Names.{joined}
use Rattle.design_defs.specs.Ports.{dir_in, is_output}
use Rattle.design_defs.specs.Ranges.{bit_name}
use Rattle.design_defs.proofs.BitOrders.{fault_exact, fault_total, place_total, spot_total, way_exact, way_total}
use Rattle.list_defs.proofs.OneList.{one_least, one_list, one_place}
use Rattle.list_defs.proofs.Rising.{not_before_itself, not_both_before}

-- there is one first fault
pub one_first_fault : (s : Sources) (a b : DesignFault) → HasFirstFault s a → HasFirstFault s b → a ≡ b
one_first_fault s a b f g =
    let same : f.0 ≡ g.0 = one_least fault_cmp fault_total fault_exact (IsFault s) f.0 g.0 f.1 g.1 in
    f.2 ∙ ap (λ (x : Fault). answer_of x.kind (place_of_fault x)) same ∙ sym g.2

-- LINKS. Two links with one number in one instance are the same.
same_link : (s : Sources) (way other : Way) (number other_number line other_line : ℕ) (x y : Spot) (a b : Option Spot) → way ≡ other → number ≡ other_number
    → IsLink s way number line x a → IsLink s other other_number other_line y b → a ≡ b
same_link s way other number other_number line other_line x y a b ways numbers k l =
    let bodies : body_at s way ≡ body_at s other = ap (body_at s) ways in
    let modules : k.module_number ≡ l.module_number = cc in
    let held = ap (slice_get s.modules) modules in
    let same_module : k.of_module ≡ l.of_module = cc in
    let same : k.link ≡ l.link = cc in
    let from : spot_of way k.link.source ≡ spot_of other l.link.source = cc in
    sym k.source_there ∙ from ∙ l.source_there

-- a bit that there is has a name
pub spot_name : (s : Sources) (x : Spot) → IsSpot s x → (name : List ℕ) × HasSpotName s x name
spot_name s x there = (joined (path x.way) (bit_name x.net there.0 x.place), (there.0, there.1, refl))

-- there is no fault of a kind before rings
pub no_early : (s : Sources) → HasNoneBefore FaultKind.wire_loop s → (f : Fault) → IsFault s f → kind_number f.kind < 9 → ⊥
no_early s early f is below = let late = early f is in omega (arith, late, below)

-- where nothing is wrong no fault comes before rings
pub early_of : (s : Sources) → IsFaultless s → HasNoneBefore FaultKind.wire_loop s
early_of s faultless f is = absurd (faultless f is)

-- where no fault comes before rings no two links feed one bit
two_links : (s : Sources) → HasNoneBefore FaultKind.wire_loop s → (x : Spot) → IsSpot s x → (way other : Way) (number other_number line other_line : ℕ) (a b : Option Spot)
    → IsLink s way number line x a → IsLink s other other_number other_line x b → (way ≡ other → number ≢ other_number) → ⊥
two_links s early x there way other number other_number line other_line a b k l differ = later (place_cmp (way, line) (other, other_line)) refl
  where
    named : (name : List ℕ) × HasSpotName s x name
    named = spot_name s x there

    first_is_later : place_cmp (way, line) (other, other_line) ≢ Less → ⊥
    first_is_later behind =
        no_early s early (at_line FaultKind.multi_driven way k.module_number line named.0)
        (IsFault.multi_driven way other k.module_number number other_number line other_line k.of_module x a b named.0 l k
        (λ e f. differ (sym e) (sym f)) behind k.is_module named.1) (omega arith)

    later : (o : Ordering) → place_cmp (way, line) (other, other_line) ≡ o → ⊥
    later Less e =
        no_early s early (at_line FaultKind.multi_driven other l.module_number other_line named.0)
        (IsFault.multi_driven other way l.module_number other_number number other_line line l.of_module x b a named.0 k l
        differ (not_both_before place_cmp place_total (way, line) (other, other_line) e) l.is_module named.1) (omega arith)
    later Equal e = first_is_later (λ less. absurd (unequal (sym e ∙ less)))
      where
        unequal : Equal ≡ Less → ⊥
        unequal h = cc
    later Greater e = first_is_later (λ less. absurd (unequal (sym e ∙ less)))
      where
        unequal : Greater ≡ Less → ⊥
        unequal h = cc

-- where no fault comes before rings all links to a bit come from one bit, or from a constant
pub one_source : (s : Sources) → HasNoneBefore FaultKind.wire_loop s → (x : Spot) → IsSpot s x → (a b : Option Spot) → IsLinked s x a → IsLinked s x b → a ≡ b
one_source s early x there a b k l = by_way (way_cmp k.0 l.0) refl
  where
    no_two : (k.0 ≡ l.0 → k.1 ≢ l.1) → a ≡ b
    no_two differ = absurd (two_links s early x there k.0 l.0 k.1 l.1 k.2 l.2 a b k.3 l.3 differ)

    by_number : k.0 ≡ l.0 → (o : Ordering) → nat_cmp k.1 l.1 ≡ o → a ≡ b
    by_number ways Less e = no_two (λ _ same. not_before_itself nat_cmp nat_cmp_total l.1 (subst (λ n. nat_cmp n l.1 ≡ Less) same e))
    by_number ways Equal e = same_link s k.0 l.0 k.1 l.1 k.2 l.2 x x a b ways (exact_unsigned k.1 l.1 e) k.3 l.3
    by_number ways Greater e =
        no_two (λ _ same. not_before_itself nat_cmp nat_cmp_total l.1
        (subst (λ n. nat_cmp l.1 n ≡ Less) same (nat_cmp_total.antisymm l.1 k.1 ∙ ap ordering_reverse e)))

    by_way : (o : Ordering) → way_cmp k.0 l.0 ≡ o → a ≡ b
    by_way Less e = no_two (λ ways _. not_before_itself way_cmp way_total l.0 (subst (λ w. way_cmp w l.0 ≡ Less) ways e))
    by_way Equal e = by_number (way_exact k.0 l.0 e) (nat_cmp k.1 l.1) refl
    by_way Greater e =
        no_two (λ ways _. not_before_itself way_cmp way_total l.0
        (subst (λ w. way_cmp l.0 w ≡ Less) ways (way_total.antisymm l.0 k.0 ∙ ap ordering_reverse e)))

-- the through pin of a cell stands at one place
same_through : (s : Sources) (x a b : Spot) → IsThrough s x a → IsThrough s x b → a ≡ b
same_through s x a b p q =
    let numbers : p.number ≡ q.number = cc in
    let held = ap (slice_get s.cells.cells) numbers in
    let cells : p.cell ≡ q.cell = cc in
    let pins : option_and_then (slice_get p.cell.pins) p.cell.through ≡ option_and_then (slice_get q.cell.pins) q.cell.through =
    ap (λ (c : Cell). option_and_then (slice_get c.pins) c.through) cells in
    let through : p.through_pin ≡ q.through_pin = cc in
    let spot : Pin → Spot = λ pin. record { way = x.way; net = pin.name; place = 0 } in
    p.is_source ∙ ap spot through ∙ sym q.is_source

-- INSTANCES. The number of what an instance is inside is one.
same_parent : (ways : List Way) → ((n m : ℕ) (w : Way) → slice_get ways n ≡ Some w → slice_get ways m ≡ Some w → n ≡ m) → (way : Way) (a b : Option ℕ)
    → IsParentOf ways way a → IsParentOf ways way b → a ≡ b
same_parent ways one [] a b p q = p ∙ sym q
same_parent ways one (name ∷ outer) a b p q = let numbers : p.0 ≡ q.0 = one p.0 q.0 outer p.2 q.2 in cc

instance_of_parts : (i j : Instance) → i.path ≡ j.path → i.parent ≡ j.parent → i.body ≡ j.body → i ≡ j
instance_of_parts i j p q r = λ k. record { path = p k; parent = q k; body = r k }

same_instance : (s : Sources) (ways : List Way) → ((n m : ℕ) (w : Way) → slice_get ways n ≡ Some w → slice_get ways m ≡ Some w → n ≡ m) → (way : Way)
    (i j : Instance) → IsInstanceAt s ways way i → IsInstanceAt s ways way j → i ≡ j
same_instance s ways one way i j p q =
    let bodies : i.body ≡ j.body = cc in
    instance_of_parts i j (p.path_there ∙ sym q.path_there) (same_parent ways one way i.parent j.parent p.parent_there q.parent_there) bodies

-- lists that answer the same things one by one are the same
same_answers : {X Y : Type 0} (R S : X → Y → Type 0) (xs : List X) (ys zs : List Y) → ((x : X) (y z : Y) → IsIn x xs → R x y → S x z → y ≡ z)
    → AllZip R xs ys → AllZip S xs zs → ys ≡ zs
same_answers R S [] [] [] one p q = refl
same_answers R S [] [] (z ∷ zs) one p q = absurd q
same_answers R S [] (y ∷ ys) zs one p q = absurd p
same_answers R S (x ∷ xs) [] zs one p q = absurd p
same_answers R S (x ∷ xs) (y ∷ ys) [] one p q = absurd q
same_answers R S (x ∷ xs) (y ∷ ys) (z ∷ zs) one p q =
    let head : y ≡ z = one x y z (inl refl) p.0 q.0 in
    let rest : ys ≡ zs = same_answers R S xs ys zs (λ w u v there. one w u v (inr there)) p.1 q.1 in
    cc

-- FEEDERS. A signal doesn't begin where one is passed on.
not_both : (d : Design) (p : PortBit) (body : Option Body) → asked_at begins_signal_in d p body ≡ true → asked_at passes_on_in d p body ≡ true → ⊥
not_both d p None e f = cc
not_both d p (Some (ModuleBody m)) e f = cc
not_both d p (Some (CellBody c)) e f = apart (is_output (dir_in d (CellBody c) p.port)) (is_interface_cell (slice_get d.cells.cells c)) e f
  where
    apart : (a b : Bool) → a && not b ≡ true → a && b ≡ true → ⊥
    apart true true e f = cc
    apart true false e f = cc
    apart false b e f = cc
not_both d p (Some (ModelBody m)) e f = cc

unequal : true ≡ false → ⊥
unequal e = cc

-- a plain bit isn't where a signal begins, nor where one is passed on
not_plain : (s : Sources) (x : Spot) (b c : Bit) (p : PortBit) → b.port ≡ c.port → b.port ≡ Some p → begins_signal_at s x.way p ≡ true → IsPlainBit s x c → ⊥
not_plain s x b c p ports port signal plain = unequal (sym signal ∙ plain.no_signal p (sym ports ∙ port))

not_plain_through : (s : Sources) (x : Spot) (b c : Bit) (p : PortBit) → b.port ≡ c.port → b.port ≡ Some p → passes_on_at s x.way p ≡ true
    → IsPlainBit s x c → ⊥
not_plain_through s x b c p ports port passes plain = unequal (sym passes ∙ plain.not_passing p (sym ports ∙ port))

-- where a signal begins at a port bit, none is passed on at the same port bit
not_through : (s : Sources) (x : Spot) (b c : Bit) (p q : PortBit) → b.port ≡ c.port → b.port ≡ Some p → c.port ≡ Some q → begins_signal_at s x.way p ≡ true
    → passes_on_at s x.way q ≡ true → ⊥
not_through s x b c p q ports port other signal passes =
    let same : q ≡ p = cc in
    not_both (parts_of s) p (body_at s x.way) signal (subst (λ z. passes_on_at s x.way z ≡ true) same passes)

-- a bit is linked to one bit, or to a constant
linked_to_bit : (a b : Spot) → Some a ≡ Some b → a ≡ b
linked_to_bit a b e = cc

bit_or_constant : (a : Spot) → Some a ≡ None → ⊥
bit_or_constant a e = cc

-- what feeds a bit is one thing
same_feeder : (s : Sources) → IsFaultless s → (spots : List Spot) → ((n m : ℕ) (y : Spot) → slice_get spots n ≡ Some y → slice_get spots m ≡ Some y → n ≡ m)
    → (x : Spot) → IsSpot s x → (b c : Bit) → b.port ≡ c.port → IsFeederOf s spots x b → IsFeederOf s spots x c → b.feeder ≡ c.feeder
same_feeder s faultless spots one x there b c ports (IsFeederOf.driver p port signal f) (IsFeederOf.driver q other again g) = let same : p ≡ q = cc in cc
same_feeder s faultless spots one x there b c ports (IsFeederOf.driver p port signal f) (IsFeederOf.through q source n other passes pin at g) =
    absurd (not_through s x b c p q ports port other signal passes)
same_feeder s faultless spots one x there b c ports (IsFeederOf.driver p port signal f) (IsFeederOf.bit source n plain link at g) =
    absurd (not_plain s x b c p ports port signal plain)
same_feeder s faultless spots one x there b c ports (IsFeederOf.driver p port signal f) (IsFeederOf.constant plain link g) =
    absurd (not_plain s x b c p ports port signal plain)
same_feeder s faultless spots one x there b c ports (IsFeederOf.driver p port signal f) (IsFeederOf.nothing plain none g) =
    absurd (not_plain s x b c p ports port signal plain)
same_feeder s faultless spots one x there b c ports (IsFeederOf.through p source n port passes pin at f) (IsFeederOf.driver q other signal g) =
    absurd (not_through s x c b q p (sym ports) other port signal passes)
same_feeder s faultless spots one x there b c ports (IsFeederOf.through p source n port passes pin at f)
    (IsFeederOf.through q source' m other again pin' at' g) =
    let same : p ≡ q = cc in
    let insts : p.inst ≡ q.inst = ap (λ (z : PortBit). z.inst) same in
    let from : source ≡ source' = same_through s x source source' pin pin' in
    let numbers : n ≡ m = one n m source' (subst (λ y. slice_get spots n ≡ Some y) from at) at' in
    cc
same_feeder s faultless spots one x there b c ports (IsFeederOf.through p source n port passes pin at f) (IsFeederOf.bit source' m plain link at' g) =
    absurd (not_plain_through s x b c p ports port passes plain)
same_feeder s faultless spots one x there b c ports (IsFeederOf.through p source n port passes pin at f) (IsFeederOf.constant plain link g) =
    absurd (not_plain_through s x b c p ports port passes plain)
same_feeder s faultless spots one x there b c ports (IsFeederOf.through p source n port passes pin at f) (IsFeederOf.nothing plain none g) =
    absurd (not_plain_through s x b c p ports port passes plain)
same_feeder s faultless spots one x there b c ports (IsFeederOf.bit source n plain link at f) (IsFeederOf.driver q other signal g) =
    absurd (not_plain s x c b q (sym ports) other signal plain)
same_feeder s faultless spots one x there b c ports (IsFeederOf.bit source n plain link at f) (IsFeederOf.through q source' m other passes pin at' g) =
    absurd (not_plain_through s x c b q (sym ports) other passes plain)
same_feeder s faultless spots one x there b c ports (IsFeederOf.bit source n plain link at f) (IsFeederOf.bit source' m plain' link' at' g) =
    let from : source ≡ source' = linked_to_bit source source' (one_source s (early_of s faultless) x there (Some source) (Some source') link link') in
    let numbers : n ≡ m = one n m source' (subst (λ y. slice_get spots n ≡ Some y) from at) at' in
    cc
same_feeder s faultless spots one x there b c ports (IsFeederOf.bit source n plain link at f) (IsFeederOf.constant plain' link' g) =
    absurd (bit_or_constant source (one_source s (early_of s faultless) x there (Some source) None link link'))
same_feeder s faultless spots one x there b c ports (IsFeederOf.bit source n plain link at f) (IsFeederOf.nothing plain' none g) =
    absurd (none (Some source) link)
same_feeder s faultless spots one x there b c ports (IsFeederOf.constant plain link f) (IsFeederOf.driver q other signal g) =
    absurd (not_plain s x c b q (sym ports) other signal plain)
same_feeder s faultless spots one x there b c ports (IsFeederOf.constant plain link f) (IsFeederOf.through q source m other passes pin at g) =
    absurd (not_plain_through s x c b q (sym ports) other passes plain)
same_feeder s faultless spots one x there b c ports (IsFeederOf.constant plain link f) (IsFeederOf.bit source m plain' link' at g) =
    absurd (bit_or_constant source (one_source s (early_of s faultless) x there (Some source) None link' link))
same_feeder s faultless spots one x there b c ports (IsFeederOf.constant plain link f) (IsFeederOf.constant plain' link' g) = cc
same_feeder s faultless spots one x there b c ports (IsFeederOf.constant plain link f) (IsFeederOf.nothing plain' none g) = absurd (none None link)
same_feeder s faultless spots one x there b c ports (IsFeederOf.nothing plain none f) (IsFeederOf.driver q other signal g) =
    absurd (not_plain s x c b q (sym ports) other signal plain)
same_feeder s faultless spots one x there b c ports (IsFeederOf.nothing plain none f) (IsFeederOf.through q source m other passes pin at g) =
    absurd (not_plain_through s x c b q (sym ports) other passes plain)
same_feeder s faultless spots one x there b c ports (IsFeederOf.nothing plain none f) (IsFeederOf.bit source m plain' link at g) =
    absurd (none (Some source) link)
same_feeder s faultless spots one x there b c ports (IsFeederOf.nothing plain none f) (IsFeederOf.constant plain' link g) = absurd (none None link)
same_feeder s faultless spots one x there b c ports (IsFeederOf.nothing plain none f) (IsFeederOf.nothing plain' none' g) = cc

-- BITS.
bit_of_parts : (b c : Bit) → b.name ≡ c.name → b.owner ≡ c.owner → b.port ≡ c.port → b.feeder ≡ c.feeder → b ≡ c
bit_of_parts b c p q r t = λ i. record { name = p i; owner = q i; port = r i; feeder = t i }

-- the name of a bit is one
same_name_of_spot : (s : Sources) (x : Spot) (n m : List ℕ) → HasSpotName s x n → HasSpotName s x m → n ≡ m
same_name_of_spot s x n m p q =
    let ranges : p.0 ≡ q.0 = cc in
    p.2 ∙ ap (λ range. joined (path x.way) (bit_name x.net range x.place)) ranges ∙ sym q.2

same_bit : (s : Sources) → IsFaultless s → (ways : List Way) (spots : List Spot)
    → ((n m : ℕ) (w : Way) → slice_get ways n ≡ Some w → slice_get ways m ≡ Some w → n ≡ m)
    → ((n m : ℕ) (y : Spot) → slice_get spots n ≡ Some y → slice_get spots m ≡ Some y → n ≡ m)
    → (x : Spot) → IsSpot s x → (b c : Bit) → IsBitAt s ways spots x b → IsBitAt s ways spots x c → b ≡ c
same_bit s faultless ways spots one_way one_spot x there b c p q =
    let owners : b.owner ≡ c.owner = one_way b.owner c.owner x.way p.owner_there q.owner_there in
    let ports : b.port ≡ c.port = p.port_there ∙ ap (port_bit_of s x) owners ∙ sym q.port_there in
    bit_of_parts b c (same_name_of_spot s x b.name c.name p.name_there q.name_there) owners ports
    (same_feeder s faultless spots one_spot x there b c ports p.fed_so q.fed_so)

design_of_parts : (d e : Design) → d.cells ≡ e.cells → d.modules ≡ e.modules → d.models ≡ e.models → d.insts ≡ e.insts → d.bits ≡ e.bits → d ≡ e
design_of_parts d e p q r t u = λ i. record { cells = p i; modules = q i; models = r i; insts = t i; bits = u i }

-- sources without faults make one design
pub one_made : (s : Sources) → IsFaultless s → (d e : Design) → IsMadeFrom s d → IsMadeFrom s e → d ≡ e
one_made s faultless d e p q =
    let a = p.numbering in
    let b = q.numbering in
    let ways : a.ways ≡ b.ways = one_list way_cmp way_total (IsInstance s) a.ways b.ways a.all_ways b.all_ways in
    let spots : a.spots ≡ b.spots = one_list spot_cmp spot_total (IsSpot s) a.spots b.spots a.all_spots b.all_spots in
    let one_way : (n m : ℕ) (w : Way) → slice_get a.ways n ≡ Some w → slice_get a.ways m ≡ Some w
    → n ≡ m = one_place way_cmp way_total a.ways a.all_ways.rising in
    let one_spot : (n m : ℕ) (y : Spot) → slice_get a.spots n ≡ Some y → slice_get a.spots m ≡ Some y
    → n ≡ m = one_place spot_cmp spot_total a.spots a.all_spots.rising in
    let other_insts = subst (λ ws. AllZip (IsInstanceAt s ws) ws e.insts) (sym ways) q.instances in
    let other_bits = subst (λ ws. AllZip (IsBitAt s ws a.spots) a.spots e.bits) (sym ways)
    (subst (λ ys. AllZip (IsBitAt s b.ways ys) ys e.bits) (sym spots) q.all_bits) in
    design_of_parts d e (p.same_cells ∙ sym q.same_cells) (p.heads ∙ sym q.heads) (p.same_models ∙ sym q.same_models)
    (same_answers (IsInstanceAt s a.ways) (IsInstanceAt s a.ways) a.ways d.insts e.insts
    (λ way i j there. same_instance s a.ways one_way way i j) p.instances other_insts)
    (same_answers (IsBitAt s a.ways a.spots) (IsBitAt s a.ways a.spots) a.spots d.bits e.bits
    (λ x b c there. same_bit s faultless a.ways a.spots one_way one_spot x (a.all_spots.each x there) b c) p.all_bits other_bits)

-- THE LAWS. There is one design at most.
pub one_design : (modules : List Module) (cells : Cells) (models : List Model) (top : List ℕ) (d e : Design)
    → IsDesignOf modules cells models top d → IsDesignOf modules cells models top e → d ≡ e
one_design modules cells models top d e p q = one_made (sources modules cells models top) p.faultless d e p.made q.made

-- There is one first fault at most.
pub one_design_fault : (modules : List Module) (cells : Cells) (models : List Model) (top : List ℕ) (a b : DesignFault)
    → HasDesignFault modules cells models top a → HasDesignFault modules cells models top b → a ≡ b
one_design_fault modules cells models top a b p q = one_first_fault (sources modules cells models top) a b p q

-- There is no design where there is a fault.
pub design_or_fault : (modules : List Module) (cells : Cells) (models : List Model) (top : List ℕ) (d : Design) (f : DesignFault)
    → IsDesignOf modules cells models top d → HasDesignFault modules cells models top f → ⊥
design_or_fault modules cells models top d f p q = p.faultless q.0 q.1.holds
