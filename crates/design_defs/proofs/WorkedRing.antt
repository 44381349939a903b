-- Two wires that feed one another: their first fault is the ring, at the line that feeds the least bit.
use Rattle.std.proofs.Common.{◌≡◌, ◌≢◌, ℕ, zero, suc, List, [], ◌∷◌, Option, Some, None, ◌⊎◌, inl, inr, refl, sym, ap, ◌∙◌, subst, arith}
use Rattle.std.specs.Prelude.{codes}
use Rattle.std.specs.List.{flat_map, slice_get}
use Rattle.std.specs.declared.cmp.Ordering.TheVariants.{Less}
use Rattle.pw_defs.specs.declared.design.Body.TheVariants.{Cell as CellBody, Model as ModelBody}
use Rattle.pw_defs.specs.declared.faults.DesignFault.TheVariants.{N10}
use Rattle.pw_defs.specs.declared.netlist.Assign.{Assign}
use Rattle.pw_defs.specs.declared.netlist.Expr.TheVariants.{Whole}
use Rattle.pw_defs.specs.declared.netlist.Net.{Net}
use Rattle.pw_defs.specs.declared.netlist.Port.{Port}
use Rattle.worked_jobs.specs.Libraries.{library}
use Rattle.worked_jobs.specs.Netlists.{ring}
use Rattle.list_defs.specs.Members.{IsIn}
use Rattle.list_defs.specs.Orders.{IsLeast, name_cmp}
use Rattle.design_defs.specs.Bits.{HasSpotName, IsSpot, Spot, range_of}
use Rattle.design_defs.specs.DesignFaults.{Fault, FaultKind, HasDesignFault, IsFault, IsLeastOnRing, at_line, fault_cmp}
use Rattle.design_defs.specs.Hierarchy.{Sources, Way}
use Rattle.design_defs.specs.Links.{End, Feeds, IsFed, IsLink, Link, links_in, spot_of}
use Rattle.design_defs.specs.Places.{exprs_in, names_alone}
use Rattle.design_defs.specs.Ranges.{bit_name}
use Rattle.list_defs.specs.Rings.{IsReached}
use Rattle.design_defs.proofs.BitOrders.{fault_total}
use Rattle.design_defs.proofs.Expressions.{of_expressions}
use Rattle.design_defs.proofs.FlatNetlists.{Fits, at, at_net, flat, flat_net, flat_module, no_early_fault, one_port, only_top, the_module}
use Rattle.design_defs.proofs.Lookups.{IsNetBy, other_name}
use Rattle.list_defs.proofs.Rising.{not_before_itself}

-- the wires and the assignments of the netlist
abbrev wires : List Net
wires = record { name = codes "n"; range = None } ∷ record { name = codes "m"; range = None } ∷ []

abbrev lines : List Assign
lines =
    record { left = Whole (codes "n"); right = Whole (codes "m"); line = 3 } ∷ record { left = Whole (codes "m"); right = Whole (codes "n"); line = 4 } ∷ []

abbrev s : Sources
s = flat wires lines

abbrev two_links : List Link
two_links =
    record { fed = End.inner (codes "n") 0; source = End.inner (codes "m") 0; line = 3 }
    ∷ record { fed = End.inner (codes "m") 0; source = End.inner (codes "n") 0; line = 4 } ∷ []

links_of_ring : links_in s (flat_module wires lines) ≡ two_links
links_of_ring = simp of_expressions

-- the two links, wherever one is said to be
data IsOneOfTwo (way : Way) (number line : ℕ) (x : Spot) (source : Option Spot) : Type 0 where
  first : way ≡ [] → number ≡ 0 → line ≡ 3 → x ≡ at (codes "n") → source ≡ Some (at (codes "m")) → IsOneOfTwo way number line x source
  second : way ≡ [] → number ≡ 1 → line ≡ 4 → x ≡ at (codes "m") → source ≡ Some (at (codes "n")) → IsOneOfTwo way number line x source

in_top : (way : Way) (net : List ℕ) (x : Spot) → way ≡ [] → Some (record { way = way; net = net; place = 0 }) ≡ Some x → x ≡ at net
in_top way net x top e = let here : x ≡ record { way = way; net = net; place = 0 } = cc in here ∙ ap (λ w. record { way = w; net = net; place = 0 }) top

from_top : (way : Way) (net : List ℕ) (source : Option Spot) → way ≡ [] → Some (record { way = way; net = net; place = 0 }) ≡ source → source ≡ Some (at net)
from_top way net source top e = sym e ∙ ap (λ w. Some (record { way = w; net = net; place = 0 })) top

of_link : (way : Way) (number line : ℕ) (x : Spot) (source : Option Spot) (l : Link) → way ≡ [] → slice_get two_links number ≡ Some l → l.line ≡ line
    → spot_of way l.fed ≡ Some x → spot_of way l.source ≡ source → IsOneOfTwo way number line x source
of_link way zero line x source l top there on fed from =
    let same : record { fed = End.inner (codes "n") 0; source = End.inner (codes "m") 0; line = 3 } ≡ l = cc in
    let fed_by : spot_of way (End.inner (codes "n") 0) ≡ Some x = ap (λ (k : Link). spot_of way k.fed) same ∙ fed in
    let source_by : spot_of way (End.inner (codes "m") 0) ≡ source = ap (λ (k : Link). spot_of way k.source) same ∙ from in
    let line_by : 3 ≡ line = ap (λ (k : Link). k.line) same ∙ on in
    IsOneOfTwo.first top refl (sym line_by) (in_top way (codes "n") x top fed_by) (from_top way (codes "m") source top source_by)
of_link way (suc zero) line x source l top there on fed from =
    let same : record { fed = End.inner (codes "m") 0; source = End.inner (codes "n") 0; line = 4 } ≡ l = cc in
    let fed_by : spot_of way (End.inner (codes "m") 0) ≡ Some x = ap (λ (k : Link). spot_of way k.fed) same ∙ fed in
    let source_by : spot_of way (End.inner (codes "n") 0) ≡ source = ap (λ (k : Link). spot_of way k.source) same ∙ from in
    let line_by : 4 ≡ line = ap (λ (k : Link). k.line) same ∙ on in
    IsOneOfTwo.second top refl (sym line_by) (in_top way (codes "m") x top fed_by) (from_top way (codes "n") source top source_by)
of_link way (suc (suc number)) line x source l top there on fed from = cc

one_of_two : (way : Way) (number line : ℕ) (x : Spot) (source : Option Spot) → IsLink s way number line x source → IsOneOfTwo way number line x source
one_of_two way number line x source k =
    let held = the_module wires lines way k.module_number k.of_module k.is_module in
    let there : slice_get (links_in s (flat_module wires lines)) number ≡ Some k.link = subst
    (λ m. slice_get (links_in s m) number ≡ Some k.link) held.2 k.there in
    of_link way number line x source k.link held.0 (subst (λ ls. slice_get ls number ≡ Some k.link) links_of_ring there) k.on_line k.fed_there k.source_there

-- no instance is of a cell or a model, so bits are fed over the links alone
by_link : (x y : Spot) (way : Way) (line : ℕ) → IsFed s x y way line → (number : ℕ) × IsOneOfTwo way number line x (Some y)
by_link x y way line (IsFed.link number k) = (number, one_of_two way number line x (Some y) k)
by_link x y way line (IsFed.through name inside inst through) = let top = only_top wires lines x.way (CellBody through.number) through.body in cc
by_link x y way line (IsFed.feed name inside inst feed) = let top = only_top wires lines x.way (ModelBody feed.number) feed.body in cc

-- what is reached is one of the two wires
source_of : (way : Way) (number line : ℕ) (x y : Spot) → IsOneOfTwo way number line x (Some y) → (y ≡ at (codes "n")) ⊎ (y ≡ at (codes "m"))
source_of way number line x y (IsOneOfTwo.first top n on fed from) = inr cc
source_of way number line x y (IsOneOfTwo.second top n on fed from) = inl cc

reached : (x y : Spot) → IsReached (Feeds s) x y → (y ≡ at (codes "n")) ⊎ (y ≡ at (codes "m"))
reached _ _ (IsReached.one x y step) = let link = by_link x y step.0 step.1 step.2 in source_of step.0 link.0 step.1 x y link.1
reached _ _ (IsReached.more x y z step rest) = reached y z rest

-- THE RING.
first_link : IsLink s [] 0 3 (at (codes "n")) (Some (at (codes "m")))
first_link = record {
  module_number = 0;
  of_module = flat_module wires lines;
  is_module = record { body = refl; is_module = refl };
  link = record { fed = End.inner (codes "n") 0; source = End.inner (codes "m") 0; line = 3 };
  there = ap (λ ls. slice_get ls 0) links_of_ring;
  on_line = refl;
  fed_there = refl;
  source_there = refl;
}

second_link : IsLink s [] 1 4 (at (codes "m")) (Some (at (codes "n")))
second_link = record {
  module_number = 0;
  of_module = flat_module wires lines;
  is_module = record { body = refl; is_module = refl };
  link = record { fed = End.inner (codes "m") 0; source = End.inner (codes "n") 0; line = 4 };
  there = ap (λ ls. slice_get ls 1) links_of_ring;
  on_line = refl;
  fed_there = refl;
  source_there = refl;
}

m_from_n : Feeds s (at (codes "m")) (at (codes "n"))
m_from_n = ([], 4, IsFed.link 1 second_link)

n_from_m : Feeds s (at (codes "n")) (at (codes "m"))
n_from_m = ([], 3, IsFed.link 0 first_link)

-- the name of a wire is that of its bit
name_of : (x : Spot) (net name : List ℕ) → range_of s (at net) ≡ Some None → x ≡ at net → HasSpotName s x name → name ≡ net
name_of x net name scalar e named =
    let moved : HasSpotName s (at net) name = subst (λ y. HasSpotName s y name) e named in
    let range : moved.0 ≡ None = cc in
    moved.2 ∙ ap (λ r. bit_name net r 0) range

least_on_ring : IsLeastOnRing s (at (codes "m")) (codes "m")
least_on_ring = record {
  named = (None, refl, refl);
  ring = IsReached.more (at (codes "m")) (at (codes "n")) (at (codes "m")) m_from_n (IsReached.one (at (codes "n")) (at (codes "m")) n_from_m);
  least = λ y other reach named. not_before y other (reached (at (codes "m")) y reach) named;
}
  where
    not_before : (y : Spot) (other : List ℕ) → (y ≡ at (codes "n")) ⊎ (y ≡ at (codes "m")) → HasSpotName s y other → name_cmp other (codes "m") ≢ Less
    not_before y other (inl e) named less = let same : other ≡ codes "n" = name_of y (codes "n") other refl e named in cc
    not_before y other (inr e) named less = let same : other ≡ codes "m" = name_of y (codes "m") other refl e named in cc

abbrev the_fault : Fault
the_fault = at_line FaultKind.wire_loop [] 0 4 (codes "m")

is_fault : IsFault s the_fault
is_fault = IsFault.wire_loop [] 0 4 (flat_module wires lines) (at (codes "m")) (at (codes "n")) (codes "m") least_on_ring (IsFed.link 1 second_link)
    (record { body = refl; is_module = refl })

-- NO OTHER FAULT.
fits : (a : Assign) → IsIn a lines → Fits wires lines a
fits a (inl e) = subst (Fits wires lines) (sym e) (record { left = simp of_expressions; right = simp of_expressions; widths = simp of_expressions })
fits a (inr (inl e)) = subst (Fits wires lines) (sym e) (record { left = simp of_expressions; right = simp of_expressions; widths = simp of_expressions })
fits a (inr (inr never)) = absurd never

abbrev all_spots : List Spot
all_spots = at (codes "x") ∷ at (codes "n") ∷ at (codes "m") ∷ []

names_used : flat_map names_alone (exprs_in (flat_module wires lines)) ≡ codes "n" ∷ codes "m" ∷ codes "m" ∷ codes "n" ∷ []
names_used = simp of_expressions

each_spot : (x : Spot) → IsSpot s x → IsIn x all_spots
each_spot x there = by (flat_net wires lines x there.0 there.1).0 (flat_net wires lines x there.0 there.1).1
  where
    by : x.way ≡ [] → IsNetBy (flat_module wires lines) x.net there.0 → IsIn x all_spots
    by top (IsNetBy.by_port p (inl e) name range) =
        inl (at_net x (codes "x") there.0 top (name ∙ ap (λ (q : Port). q.name) e) (range ∙ ap (λ (q : Port). q.range) e) there.2)
    by top (IsNetBy.by_port p (inr never) name range) = absurd never
    by top (IsNetBy.by_wire n (inl e) name range) =
        inr (inl (at_net x (codes "n") there.0 top (name ∙ ap (λ (q : Net). q.name) e) (range ∙ ap (λ (q : Net). q.range) e) there.2))
    by top (IsNetBy.by_wire n (inr (inl e)) name range) =
        inr (inr (inl (at_net x (codes "m") there.0 top (name ∙ ap (λ (q : Net). q.name) e) (range ∙ ap (λ (q : Net). q.range) e) there.2)))
    by top (IsNetBy.by_wire n (inr (inr never)) name range) = absurd never
    by top (IsNetBy.by_use used range) = of_name (subst (IsIn x.net) names_used used)
      where
        of_name : IsIn x.net (codes "n" ∷ codes "m" ∷ codes "m" ∷ codes "n" ∷ []) → IsIn x all_spots
        of_name (inl e) = inr (inl (at_net x (codes "n") there.0 top e range there.2))
        of_name (inr (inl e)) = inr (inr (inl (at_net x (codes "m") there.0 top e range there.2)))
        of_name (inr (inr (inl e))) = inr (inr (inl (at_net x (codes "m") there.0 top e range there.2)))
        of_name (inr (inr (inr (inl e)))) = inr (inl (at_net x (codes "n") there.0 top e range there.2))
        of_name (inr (inr (inr (inr never)))) = absurd never

-- one bit has one of the two links
same_number : (way other : Way) (k l line line' : ℕ) (x : Spot) (a b : Option Spot) → IsOneOfTwo way k line x a → IsOneOfTwo other l line' x b
    → (way ≡ other) × (k ≡ l)
same_number way other k l line line' x a b (IsOneOfTwo.first top n on fed from) (IsOneOfTwo.first top' n' on' fed' from') = (top ∙ sym top', n ∙ sym n')
same_number way other k l line line' x a b (IsOneOfTwo.first top n on fed from) (IsOneOfTwo.second top' n' on' fed' from') =
    absurd (other_name (codes "n") (codes "m") refl (ap (λ (y : Spot). y.net) (sym fed ∙ fed')))
same_number way other k l line line' x a b (IsOneOfTwo.second top n on fed from) (IsOneOfTwo.first top' n' on' fed' from') =
    absurd (other_name (codes "m") (codes "n") refl (ap (λ (y : Spot). y.net) (sym fed ∙ fed')))
same_number way other k l line line' x a b (IsOneOfTwo.second top n on fed from) (IsOneOfTwo.second top' n' on' fed' from') = (top ∙ sym top', n ∙ sym n')

-- no link feeds the input
not_input : (way : Way) (k line : ℕ) (x : Spot) (a : Option Spot) → IsOneOfTwo way k line x a → x.net ≡ codes "x" → ⊥
not_input way k line x a (IsOneOfTwo.first top n on fed from) e = other_name (codes "x") (codes "n") refl (sym e ∙ ap (λ (y : Spot). y.net) fed)
not_input way k line x a (IsOneOfTwo.second top n on fed from) e = other_name (codes "x") (codes "m") refl (sym e ∙ ap (λ (y : Spot). y.net) fed)

-- the ring has its fault at the second line, with the name of the second wire
ring_fault : (way : Way) (n k line : ℕ) (x source : Spot) (name : List ℕ) → IsLeastOnRing s x name → n ≡ 0 → IsOneOfTwo way k line x (Some source)
    → at_line FaultKind.wire_loop way n line name ≡ the_fault
ring_fault way n k line x source name on_ring first_module (IsOneOfTwo.first top number on fed from) =
    let named : name ≡ codes "n" = name_of x (codes "n") name refl fed on_ring.named in
    let reach : IsReached (Feeds s) x (at (codes "m")) = subst (λ y. IsReached (Feeds s) y (at (codes "m"))) (sym fed)
    (IsReached.one (at (codes "n")) (at (codes "m")) n_from_m) in
    let before : name_cmp (codes "m") name ≡ Less = ap (name_cmp (codes "m")) named in
    absurd (on_ring.least (at (codes "m")) (codes "m") reach (None, refl, refl) before)
ring_fault way n k line x source name on_ring first_module (IsOneOfTwo.second top number on fed from) =
    let named : name ≡ codes "m" = name_of x (codes "m") name refl fed on_ring.named in
    λ i. at_line FaultKind.wire_loop (top i) (first_module i) (on i) (named i)

only_fault : (f : Fault) → IsFault s f → f ≡ the_fault
only_fault _ (IsFault.multi_driven way other n k l line line' m x a b name p q differ later of_module named) =
    let same = same_number other way l k line' line x b a (one_of_two other l line' x b p) (one_of_two way k line x a q) in
    absurd (differ same.0 same.1)
only_fault _ (IsFault.driven_input way n k line m x a name p input of_module named) =
    let port = one_port wires lines [] input.port input.has_port in
    absurd (not_input way k line x a (one_of_two way k line x a p) (sym input.same ∙ ap (λ (q : Port). q.name) port.1))
only_fault _ (IsFault.wire_loop way n line m x source name on_ring fed of_module) =
    let link = by_link x source way line fed in
    ring_fault way n link.0 line x source name on_ring (the_module wires lines way n m of_module).1 link.1
only_fault f other = absurd (no_early_fault wires lines all_spots each_spot (omega arith) fits f other (omega arith))

-- The netlist with the ring has N10 in its first module at line 4, with the name of the second wire.
pub ring_is_found : HasDesignFault ring library [] (codes "top") (N10 (record { «module» = 0; line = 4; name = codes "m" }))
ring_is_found = (the_fault, least, refl)
  where
    least : IsLeast fault_cmp (IsFault s) the_fault
    least = record {
      holds = is_fault;
      least = λ f there less. not_before_itself fault_cmp fault_total the_fault (subst (λ g. fault_cmp g the_fault ≡ Less) (only_fault f there) less);
    }
