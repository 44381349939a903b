-- Where no fault comes before rings, an output bit of an instance of a model is fed as one line of the model says.
use Rattle.std.proofs.Common.{◌≡◌, ℕ, zero, suc, ◌+◌, ◌<◌, ◌≤◌, Bool, true, false, List, [], ◌∷◌, ◌++◌, Option, Some, None, option_and_then, option_map, length, map, filter, slice_get, inl, inr, refl, sym, ap, ◌∙◌, subst, arith}
use Rattle.std.specs.List.{flat_map, range_with_len}
use Rattle.std.proofs.lemmas.Option.{same_Some}
use Rattle.pw_defs.specs.declared.chains.Element.{Element}
use Rattle.pw_defs.specs.declared.chains.Partial.TheVariants.{Feed}
use Rattle.pw_defs.specs.declared.design.Body.TheVariants.{Model as ModelBody}
use Rattle.pw_defs.specs.declared.model.Model.{Model}
use Rattle.pw_defs.specs.declared.netlist.Port.{Port}
use Rattle.list_defs.specs.Members.{IsIn, same_name}
use Rattle.list_defs.proofs.Few.{place_of_member}
use Rattle.list_defs.proofs.Members.{IsIn-append_cases, IsIn-filter_from, IsIn-flat_map_from, IsIn-map, IsIn-map_from}
use Rattle.list_defs.proofs.NameLemmas.{same_name-equal}
use Rattle.list_defs.proofs.Rising.{found_in}
use Rattle.design_defs.specs.Bits.{Spot, port_named, range_in, range_of}
use Rattle.design_defs.specs.DesignFaults.{HasPortAt, FaultKind, HasNoneBefore}
use Rattle.design_defs.specs.Hierarchy.{Sources, Way, body_at}
use Rattle.design_defs.specs.Models.{AreOpenWalks, HasWellFormedFields, bit_of_walk, bits_of_port}
use Rattle.design_defs.specs.Ports.{is_input, is_output}
use Rattle.design_defs.specs.Ranges.{bit_name, width}
use Rattle.design_laws.proofs.PortBitNames.{one_port_bit}

-- no thing stands twice in a list
abbrev AllApart : {X : Type 0} → List X → Type 0
AllApart [] = Unit {0}
AllApart (x ∷ xs) = (IsIn x xs → ⊥) × AllApart xs

apart_append : {X : Type 0} (xs ys : List X) → AllApart xs → AllApart ys → ((z : X) → IsIn z xs → IsIn z ys → ⊥) → AllApart (xs ++ ys)
apart_append [] ys a b none = b
apart_append (x ∷ xs) ys a b none = (
  λ there. elim (IsIn-append_cases x xs ys there) [ inl own ↦ a.0 own | inr other ↦ none x (inl refl) other ],
  apart_append xs ys a.1 b (λ z there other. none z (inr there) other),
)

one_of : {X Y : Type 0} (f : X → Y) (xs : List X) (x y : X) → AllApart (map f xs) → IsIn x xs → IsIn y xs → f x ≡ f y → x ≡ y
one_of f [] x y apart there other same = absurd there
one_of f (z ∷ zs) x y apart (inl e) (inl g) same = e ∙ sym g
one_of {X} {Y} f (z ∷ zs) x y apart (inl e) (inr later) same =
    let moved : f z ≡ f y = ap f (sym e) ∙ same in
    absurd (apart.0 (subst (λ (w : Y). IsIn w (map f zs)) (sym moved) (IsIn-map f y zs later)))
one_of {X} {Y} f (z ∷ zs) x y apart (inr later) (inl g) same =
    let moved : f z ≡ f x = ap f (sym g) ∙ sym same in
    absurd (apart.0 (subst (λ (w : Y). IsIn w (map f zs)) (sym moved) (IsIn-map f x zs later)))
one_of f (z ∷ zs) x y apart (inr later) (inr other) same = one_of f zs x y apart.1 later other same

from_range : (a n k : ℕ) → IsIn k (range_with_len a n) → (a ≤ k) × (k < a + n)
from_range a zero k there = absurd there
from_range a (suc n) k (inl e) = (omega (arith, e), omega (arith, e))
from_range a (suc n) k (inr later) = let found = from_range (a + 1) n k later in (omega (arith, found.0), omega (arith, found.1))

-- the names of numbers that tell these apart
apart_names : {Y : Type 0} (f : ℕ → Y) (most a n : ℕ) → ((i j : ℕ) → i < most → j < most → f i ≡ f j → i ≡ j) → a + n ≤ most → AllApart (map f (range_with_len a n))
apart_names f most a zero one within = tt
apart_names f most a (suc n) one within = (first, apart_names f most (a + 1) n one (omega (arith, within)))
  where
    first : IsIn (f a) (map f (range_with_len (a + 1) n)) → ⊥
    first there =
        let found = IsIn-map_from f (f a) (range_with_len (a + 1) n) there in
        let range = from_range (a + 1) n found.0 found.1 in
        let same : a ≡ found.0 = one a found.0 (omega (arith, within)) (omega (arith, within, range.1)) found.2 in
        omega (arith, same, range.0)

-- a bit of one of the ports that pass a test
pub record IsBitAmong (test : Port → Bool) (ports : List Port) (name : List ℕ) : Type 0 where
  pub at : ℕ
  pub port : Port
  pub is_port : slice_get ports at ≡ Some port
  pub passes : test port ≡ true
  pub place : ℕ
  pub within : place < width port.range
  pub named : name ≡ bit_name port.name port.range place

pub bit_among : (test : Port → Bool) (ports : List Port) (name : List ℕ) → IsIn name (flat_map bits_of_port (filter test ports)) → IsBitAmong test ports name
bit_among test ports name there =
    let port = IsIn-flat_map_from bits_of_port (filter test ports) name there in
    let own = IsIn-filter_from test port.0 ports port.1 in
    let at = place_of_member port.0 ports own.0 in
    let place = IsIn-map_from (bit_name port.0.name port.0.range) name (range_with_len 0 (width port.0.range)) port.2 in
    let range = from_range 0 (width port.0.range) place.0 place.1 in
    record { at = at.0; port = port.0; is_port = at.1; passes = own.1; place = place.0; within = omega (arith, range.1); named = place.2 }

-- the bits of ports of an instance have names apart
bits_apart : (s : Sources) → HasNoneBefore FaultKind.wire_loop s → (way : Way) (test : Port → Bool) (from : ℕ) (ports : List Port)
    → ((at : ℕ) (p : Port) → slice_get ports at ≡ Some p → HasPortAt s way (from + at) p) → AllApart (flat_map bits_of_port (filter test ports))
bits_apart s early way test from [] has = tt
bits_apart s early way test from (p ∷ ports) has =
    by (test p) refl (bits_apart s early way test (from + 1) ports
    (λ at q e. subst (λ n. HasPortAt s way n q) {x = from + suc at} {y = from + 1 + at} (omega arith) (has (suc at) q e)))
  where
    own : AllApart (bits_of_port p)
    own =
        apart_names (bit_name p.name p.range) (width p.range) 0 (width p.range)
        (λ i j in_range other same. (one_port_bit s early way (from + 0) (from + 0) p p i j (has 0 p refl) (has 0 p refl) in_range other same).1) (omega arith)

    apart : (name : List ℕ) → IsIn name (bits_of_port p) → IsIn name (flat_map bits_of_port (filter test ports)) → ⊥
    apart name there later =
        let place = IsIn-map_from (bit_name p.name p.range) name (range_with_len 0 (width p.range)) there in
        let range = from_range 0 (width p.range) place.0 place.1 in
        let other = bit_among test ports name later in
        let same = one_port_bit s early way (from + 0) (from + suc other.at) p other.port place.0 other.place (has 0 p refl)
        (has (suc other.at) other.port other.is_port) (omega (arith, range.1)) other.within (sym place.2 ∙ other.named) in
        omega (arith, same.0)

    by : (b : Bool) → test p ≡ b → AllApart (flat_map bits_of_port (filter test ports)) → AllApart (flat_map bits_of_port (filter test (p ∷ ports)))
    by true e rest = rw e (apart_append (bits_of_port p) (flat_map bits_of_port (filter test ports)) own rest apart)
    by false e rest = rw e rest

-- a port of an instance of a model
pub model_port : (s : Sources) (way : Way) (n : ℕ) (m : Model) → body_at s way ≡ Some (ModelBody n) → slice_get s.models n ≡ Some m → (k : ℕ) (p : Port)
    → slice_get m.ports k ≡ Some p → HasPortAt s way k p
model_port s way n m body is k p at = (ModelBody n, m.ports, body, ap (option_map (λ (x : Model). x.ports)) is, at)

-- the port of a net of an instance of a model
pub port_of_net : (s : Sources) (x : Spot) (range : Option (ℕ × ℕ)) (n : ℕ) (m : Model) → body_at s x.way ≡ Some (ModelBody n) → slice_get s.models n ≡ Some m
    → range_of s x ≡ Some range → (k : ℕ) × (p : Port) × HasPortAt s x.way k p × (x.net ≡ p.name) × (range ≡ p.range)
port_of_net s x range n m body is e = by (port_named x.net m.ports) refl (sym own ∙ e)
  where
    own : range_of s x ≡ option_map (λ (p : Port). p.range) (port_named x.net m.ports)
    own =
        ap (option_and_then (λ b. range_in s b x.net)) body
        ∙ ap (λ o. option_map (λ (p : Port). p.range) (option_and_then (port_named x.net) o)) (ap (option_map (λ (y : Model). y.ports)) is)

    by : (o : Option Port) → port_named x.net m.ports ≡ o → option_map (λ (p : Port). p.range) o ≡ Some range
        → (k : ℕ) × (p : Port) × HasPortAt s x.way k p × (x.net ≡ p.name) × (range ≡ p.range)
    by None none h = cc
    by (Some p) found h =
        let there = found_in (λ (q : Port). same_name x.net q.name) m.ports p found in
        let at = place_of_member p m.ports there.0 in
        (at.0, p, model_port s x.way n m body is at.0 p at.1, same_name-equal x.net p.name there.1, sym (same_Some p.range range h))

-- LINES of a model. A line that feeds an output stands among those of the outputs.
among_outputs : (m : Model) (walks : AreOpenWalks m.ports (length m.supplies) m.partials) (out source : List ℕ) (elements : List Element)
    → IsIn (Feed out source elements) m.partials → IsIn (Feed out source elements) walks.outputs
among_outputs m walks out source elements there =
    elim (IsIn-append_cases (Feed out source elements) walks.outputs walks.inputs (subst (IsIn (Feed out source elements)) walks.all there))
    [ inl own ↦ own | inr other ↦ absurd (walks.each_input (Feed out source elements) other) ]

-- the output that a line feeds, and the input that feeds it
pub out_of_line : (m : Model) → HasWellFormedFields m → (out source : List ℕ) (elements : List Element) → IsIn (Feed out source elements) m.partials
    → IsBitAmong (λ (p : Port). is_output (Some p.dir)) m.ports out
out_of_line m well out source elements there =
    bit_among (λ (p : Port). is_output (Some p.dir)) m.ports out (subst (IsIn out) well.walks.output_order
    (IsIn-map bit_of_walk (Feed out source elements) well.walks.outputs (among_outputs m well.walks out source elements there)))

pub in_of_line : (m : Model) → HasWellFormedFields m → (out source : List ℕ) (elements : List Element) → IsIn (Feed out source elements) m.partials
    → IsBitAmong (λ (p : Port). is_input (Some p.dir)) m.ports source
in_of_line m well out source elements there =
    bit_among (λ (p : Port). is_input (Some p.dir)) m.ports source
    (well.walks.each_output (Feed out source elements) (among_outputs m well.walks out source elements there)).0

-- one line feeds an output
pub one_line : (s : Sources) → HasNoneBefore FaultKind.wire_loop s → (way : Way) (n : ℕ) (m : Model) → body_at s way ≡ Some (ModelBody n) → slice_get s.models n ≡ Some m
    → HasWellFormedFields m → (out source other : List ℕ) (elements more : List Element) → IsIn (Feed out source elements) m.partials
    → IsIn (Feed out other more) m.partials → source ≡ other
one_line s early way n m body is well out source other elements more there again =
    let apart = bits_apart s early way (λ (p : Port). is_output (Some p.dir)) 0 m.ports
    (λ at p e. model_port s way n m body is (0 + at) p (subst (λ k. slice_get m.ports k ≡ Some p) {x = at} {y = 0 + at} (omega arith) e)) in
    let outputs : AllApart (map bit_of_walk well.walks.outputs) = subst (λ (xs : List (List ℕ)). AllApart xs) (sym well.walks.output_order) apart in
    let same : Feed out source elements ≡ Feed out other more =
    one_of bit_of_walk well.walks.outputs (Feed out source elements) (Feed out other more) outputs (among_outputs m well.walks out source elements there)
    (among_outputs m well.walks out other more again) refl in
    cc
