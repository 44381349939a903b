-- A wire that is driven twice: its first fault is the second of its feeders.
use Rattle.std.proofs.Common.{◌≡◌, ◌≢◌, ℕ, zero, suc, List, [], ◌∷◌, Option, Some, None, inl, inr, refl, sym, ap, ◌∙◌, subst, arith}
use Rattle.std.specs.Prelude.{codes}
use Rattle.std.specs.List.{flat_map, slice_get}
use Rattle.std.specs.declared.cmp.Ordering.TheVariants.{Less}
use Rattle.pw_defs.specs.declared.faults.DesignFault.TheVariants.{N8}
use Rattle.pw_defs.specs.declared.netlist.Assign.{Assign}
use Rattle.pw_defs.specs.declared.netlist.Expr.TheVariants.{Whole}
use Rattle.pw_defs.specs.declared.netlist.Net.{Net}
use Rattle.pw_defs.specs.declared.netlist.Port.{Port}
use Rattle.worked_jobs.specs.Libraries.{library}
use Rattle.worked_jobs.specs.Netlists.{twice}
use Rattle.list_defs.specs.Members.{IsIn}
use Rattle.design_defs.specs.Bits.{HasSpotName, IsSpot, Spot, range_of}
use Rattle.design_defs.specs.DesignFaults.{Fault, FaultKind, HasDesignFault, IsFault, at_line, fault_cmp, place_cmp}
use Rattle.design_defs.specs.Hierarchy.{Sources, Way}
use Rattle.design_defs.specs.Links.{End, IsLink, Link, links_in, spot_of}
use Rattle.design_defs.specs.Places.{exprs_in, names_alone}
use Rattle.design_defs.specs.Ranges.{bit_name}
use Rattle.design_defs.proofs.BitOrders.{fault_total}
use Rattle.design_defs.proofs.Expressions.{of_expressions}
use Rattle.design_defs.proofs.FlatNetlists.{Fits, at, at_net, flat, flat_module, flat_net, no_early_fault, one_port, the_module}
use Rattle.design_defs.proofs.Lookups.{IsNetBy, other_name}
use Rattle.list_defs.proofs.Rising.{not_before_itself}

abbrev wires : List Net
wires = []

-- the wire isn't declared, so it has one bit
abbrev lines : List Assign
lines =
    record { left = Whole (codes "n"); right = Whole (codes "x"); line = 2 } ∷ record { left = Whole (codes "n"); right = Whole (codes "x"); line = 3 } ∷ []

abbrev s : Sources
s = flat wires lines

abbrev link_on : ℕ → Link
link_on line = record { fed = End.inner (codes "n") 0; source = End.inner (codes "x") 0; line = line }

links_of_twice : links_in s (flat_module wires lines) ≡ link_on 2 ∷ link_on 3 ∷ []
links_of_twice = simp of_expressions

-- one of the two links
data IsOneOfTwo (way : Way) (number line : ℕ) (x : Spot) : Type 0 where
  first : way ≡ [] → number ≡ 0 → line ≡ 2 → x ≡ at (codes "n") → IsOneOfTwo way number line x
  second : way ≡ [] → number ≡ 1 → line ≡ 3 → x ≡ at (codes "n") → IsOneOfTwo way number line x

in_top : (way : Way) (line : ℕ) (x : Spot) (l : Link) → way ≡ [] → link_on line ≡ l → spot_of way l.fed ≡ Some x → x ≡ at (codes "n")
in_top way line x l top same fed =
    let here : spot_of way (End.inner (codes "n") 0) ≡ Some x = ap (λ (k : Link). spot_of way k.fed) same ∙ fed in
    let there : x ≡ record { way = way; net = codes "n"; place = 0 } = cc in
    there ∙ ap (λ w. record { way = w; net = codes "n"; place = 0 }) top

of_link : (way : Way) (number line : ℕ) (x : Spot) (l : Link) → way ≡ [] → slice_get (link_on 2 ∷ link_on 3 ∷ []) number ≡ Some l → l.line ≡ line
    → spot_of way l.fed ≡ Some x → IsOneOfTwo way number line x
of_link way zero line x l top there on fed =
    let same : link_on 2 ≡ l = cc in
    IsOneOfTwo.first top refl (sym (ap (λ (k : Link). k.line) same ∙ on)) (in_top way 2 x l top same fed)
of_link way (suc zero) line x l top there on fed =
    let same : link_on 3 ≡ l = cc in
    IsOneOfTwo.second top refl (sym (ap (λ (k : Link). k.line) same ∙ on)) (in_top way 3 x l top same fed)
of_link way (suc (suc number)) line x l top there on fed = cc

one_of_two : (way : Way) (number line : ℕ) (x : Spot) (source : Option Spot) → IsLink s way number line x source → IsOneOfTwo way number line x
one_of_two way number line x source k =
    let held = the_module wires lines way k.module_number k.of_module k.is_module in
    let there : slice_get (links_in s (flat_module wires lines)) number ≡ Some k.link = subst
    (λ m. slice_get (links_in s m) number ≡ Some k.link) held.2 k.there in
    of_link way number line x k.link held.0 (subst (λ ls. slice_get ls number ≡ Some k.link) links_of_twice there) k.on_line k.fed_there

fed_wire : (way : Way) (number line : ℕ) (x : Spot) → IsOneOfTwo way number line x → x ≡ at (codes "n")
fed_wire way number line x (IsOneOfTwo.first top n on fed) = fed
fed_wire way number line x (IsOneOfTwo.second top n on fed) = fed

link_at : (number line : ℕ) → slice_get (link_on 2 ∷ link_on 3 ∷ []) number ≡ Some (link_on line)
    → IsLink s [] number line (at (codes "n")) (Some (at (codes "x")))
link_at number line there = record {
  module_number = 0;
  of_module = flat_module wires lines;
  is_module = record { body = refl; is_module = refl };
  link = link_on line;
  there = subst (λ ls. slice_get ls number ≡ Some (link_on line)) (sym links_of_twice) there;
  on_line = refl;
  fed_there = refl;
  source_there = refl;
}

abbrev the_fault : Fault
the_fault = at_line FaultKind.multi_driven [] 0 3 (codes "n")

names_used : flat_map names_alone (exprs_in (flat_module wires lines)) ≡ codes "n" ∷ codes "x" ∷ codes "n" ∷ codes "x" ∷ []
names_used = simp of_expressions

wire_range : range_of s (at (codes "n")) ≡ Some None
wire_range = simp of_expressions

is_fault : IsFault s the_fault
is_fault =
    IsFault.multi_driven [] [] 0 1 0 3 2 (flat_module wires lines) (at (codes "n")) (Some (at (codes "x"))) (Some (at (codes "x"))) (codes "n")
    (link_at 0 2 refl) (link_at 1 3 refl) (λ _ same. zero_or_one same) (λ less. behind less) (record { body = refl; is_module = refl })
    (None, wire_range, refl)
  where
    zero_or_one : zero ≡ suc zero → ⊥
    zero_or_one same = cc

    behind : place_cmp ([], 3) ([], 2) ≢ Less
    behind less = cc

fits : (a : Assign) → IsIn a lines → Fits wires lines a
fits a (inl e) = subst (Fits wires lines) (sym e) (record { left = simp of_expressions; right = simp of_expressions; widths = simp of_expressions })
fits a (inr (inl e)) = subst (Fits wires lines) (sym e) (record { left = simp of_expressions; right = simp of_expressions; widths = simp of_expressions })
fits a (inr (inr never)) = absurd never

abbrev all_spots : List Spot
all_spots = at (codes "x") ∷ at (codes "n") ∷ []

each_spot : (x : Spot) → IsSpot s x → IsIn x all_spots
each_spot x there = by (flat_net wires lines x there.0 there.1).0 (flat_net wires lines x there.0 there.1).1
  where
    of_name : x.way ≡ [] → there.0 ≡ None → IsIn x.net (codes "n" ∷ codes "x" ∷ codes "n" ∷ codes "x" ∷ []) → IsIn x all_spots
    of_name top range (inl e) = inr (inl (at_net x (codes "n") there.0 top e range there.2))
    of_name top range (inr (inl e)) = inl (at_net x (codes "x") there.0 top e range there.2)
    of_name top range (inr (inr (inl e))) = inr (inl (at_net x (codes "n") there.0 top e range there.2))
    of_name top range (inr (inr (inr (inl e)))) = inl (at_net x (codes "x") there.0 top e range there.2)
    of_name top range (inr (inr (inr (inr never)))) = absurd never

    by : x.way ≡ [] → IsNetBy (flat_module wires lines) x.net there.0 → IsIn x all_spots
    by top (IsNetBy.by_port p (inl e) name range) =
        inl (at_net x (codes "x") there.0 top (name ∙ ap (λ (q : Port). q.name) e) (range ∙ ap (λ (q : Port). q.range) e) there.2)
    by top (IsNetBy.by_port p (inr never) name range) = absurd never
    by top (IsNetBy.by_wire n never name range) = absurd never
    by top (IsNetBy.by_use used range) = of_name top range (subst (IsIn x.net) names_used used)

-- the name of the wire is that of its bit
name_of : (x : Spot) (name : List ℕ) → x ≡ at (codes "n") → HasSpotName s x name → name ≡ codes "n"
name_of x name e named =
    let moved : HasSpotName s (at (codes "n")) name = subst (λ y. HasSpotName s y name) e named in
    let range : moved.0 ≡ None = some_same moved.0 None (sym moved.1 ∙ wire_range) in
    moved.2 ∙ ap (λ r. bit_name (codes "n") r 0) range
  where
    some_same : (a b : Option (ℕ × ℕ)) → Some a ≡ Some b → a ≡ b
    some_same a b same = cc

-- of two links that aren't the same the second is the later one
second_is_later : (way other : Way) (k l line line' : ℕ) (x : Spot) → IsOneOfTwo other l line' x → IsOneOfTwo way k line x → (other ≡ way → l ≢ k)
    → place_cmp (way, line) (other, line') ≢ Less → (way ≡ []) × (line ≡ 3)
second_is_later way other k l line line' x (IsOneOfTwo.first top n on fed) (IsOneOfTwo.first top' n' on' fed') differ behind =
    absurd (differ (top ∙ sym top') (n ∙ sym n'))
second_is_later way other k l line line' x (IsOneOfTwo.first top n on fed) (IsOneOfTwo.second top' n' on' fed') differ behind = (top', on')
second_is_later way other k l line line' x (IsOneOfTwo.second top n on fed) (IsOneOfTwo.first top' n' on' fed') differ behind =
    absurd (behind (λ i. place_cmp (top' i, on' i) (top i, on i)))
second_is_later way other k l line line' x (IsOneOfTwo.second top n on fed) (IsOneOfTwo.second top' n' on' fed') differ behind =
    absurd (differ (top ∙ sym top') (n ∙ sym n'))

none_before : (f : Fault) → IsFault s f → fault_cmp f the_fault ≢ Less
none_before _ (IsFault.multi_driven way other n k l line line' m x a b name p q differ later of_module named) less =
    let link = one_of_two way k line x a q in
    let place = second_is_later way other k l line line' x (one_of_two other l line' x b p) link differ later in
    let number = (the_module wires lines way n m of_module).1 in
    let name_is = name_of x name (fed_wire way k line x link) named in
    let same : at_line FaultKind.multi_driven way n line name ≡ the_fault = λ i. at_line FaultKind.multi_driven (place.0 i) (number i) (place.1 i)
    (name_is i) in
    not_before_itself fault_cmp fault_total the_fault (subst (λ g. fault_cmp g the_fault ≡ Less) same less)
none_before _ (IsFault.driven_input way n k line m x a name p input of_module named) less =
    let port = one_port wires lines [] input.port input.has_port in
    other_name (codes "x") (codes "n") refl
    (sym (ap (λ (q : Port). q.name) port.1) ∙ input.same ∙ ap (λ (y : Spot). y.net) (fed_wire way k line x (one_of_two way k line x a p)))
none_before _ (IsFault.wire_loop way n line m x source name on_ring fed of_module) less = cc
none_before f other less = no_early_fault wires lines all_spots each_spot (omega arith) fits f other (omega arith)

-- The netlist with the wire that is driven twice has N8 in its first module at line 3, with the name of the wire.
pub second_feeder_is_found : HasDesignFault twice library [] (codes "top") (N8 (record { «module» = 0; line = 3; name = codes "n" }))
second_feeder_is_found = (the_fault, record { holds = is_fault; least = none_before }, refl)
