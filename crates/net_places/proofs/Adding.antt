-- Bodies that are added one after the other.
use Rattle.std.proofs.Common.{◌≡◌, ℕ, ◌+◌, ◌<◌, List, [], ◌∷◌, ◌++◌, length, get_or, map, ap, ◌∙◌, subst, arith}
use Rattle.std.specs.Prelude.{Option, Some, slice_get, slice_index_or}
use Rattle.std.proofs.lemmas.List.{length_push}
use Rattle.std.proofs.lemmas.Option.{get_or_from_slice_get}
use Rattle.pw_defs.specs.declared.cells.Pin.{Pin}
use Rattle.pw_defs.specs.declared.netlist.Port.{Port}
use Rattle.list_defs.specs.Orders.{IsPutInOrder}
use Rattle.design_defs.specs.Ports.{port_of_pin}
use Rattle.net_places.specs.declared.rows.NamedRow.{NamedRow}
use Rattle.net_places.specs.declared.rows.NetRow.{NetRow}
use Rattle.net_places.specs.Nets.{OwnNet, net_among}
use Rattle.net_places.specs.Mentions.{Mention, net_mentioned, of_ports}
use Rattle.net_places.specs.Gathered.{AreGathered}
use Rattle.net_places.specs.Tables.{AddsPlan, IsPlanOf, placed_from, row_cmp}
use Rattle.net_places.proofs.Indexing.{pin_names}
use Rattle.net_places.proofs.Owning.{ports_mentioned}
use Rattle.net_places.proofs.Placing.{plan_of}
use Rattle.net_places.proofs.Wholes.{plans_more}

pub added_count : (old new : List (List NetRow)) (rows : List NetRow) (count : ℕ) → new ≡ old ++ rows ∷ [] → length old ≡ count → length new ≡ count + 1
added_count old new rows count same size = omega (arith, ap length same, length_push old rows)

-- rows that are put in order and added
pub body_added : (own : List ℕ → Option OwnNet) (names : List (List ℕ)) (rows sorted shown : List NamedRow) (mentions : List Mention) (old new : List (List NetRow))
    → ((name : List ℕ) → net_mentioned mentions name ≡ own name) → AreGathered names rows mentions → IsPutInOrder row_cmp rows sorted → shown ≡ sorted
    → new ≡ old ++ placed_from 0 shown ∷ [] → AddsPlan own names old new
body_added own names rows sorted shown mentions old new owned g put same grown =
    (placed_from 0 sorted, grown ∙ ap (λ (all : List NamedRow). old ++ placed_from 0 all ∷ []) same, plan_of own names rows sorted mentions owned g put)

pub ports_added : (ports given : List Port) (rows sorted shown : List NamedRow) (old new : List (List NetRow)) → given ≡ ports
    → AreGathered (map (λ (p : Port). p.name) given) rows (of_ports 0 given) → IsPutInOrder row_cmp rows sorted → shown ≡ sorted
    → new ≡ old ++ placed_from 0 shown ∷ [] → AddsPlan (net_among ports) (map (λ (p : Port). p.name) ports) old new
ports_added ports given rows sorted shown old new same g put is grown =
    let P : List Port → Type 0 = λ ps. AreGathered (map (λ (p : Port). p.name) ps) rows (of_ports 0 ps) in
    body_added (net_among ports) (map (λ (p : Port). p.name) ports) rows sorted shown (of_ports 0 ports) old new (ports_mentioned ports) (subst P same g) put is grown

pub pins_added : (pins given : List Pin) (rows sorted shown : List NamedRow) (old new : List (List NetRow)) → given ≡ pins
    → AreGathered (map (λ (p : Pin). p.name) given) rows (of_ports 0 (map port_of_pin given)) → IsPutInOrder row_cmp rows sorted → shown ≡ sorted
    → new ≡ old ++ placed_from 0 shown ∷ [] → AddsPlan (net_among (map port_of_pin pins)) (map (λ (p : Port). p.name) (map port_of_pin pins)) old new
pins_added pins given rows sorted shown old new same g put is grown =
    let P : List (List ℕ) → Type 0 = λ names. AreGathered names rows (of_ports 0 (map port_of_pin given)) in
    ports_added (map port_of_pin pins) (map port_of_pin given) rows sorted shown old new (ap (map port_of_pin) same) (subst P (pin_names given) g) put is grown

-- one body more, by the thing that it is of
pub bodies_more : {X : Type 0} (own : X → List ℕ → Option OwnNet) (names : X → List (List ℕ)) (xs : List X) (i : ℕ) (x : X) (old new : List (List NetRow)) → x ≡ get_or xs i x
    → length old ≡ i → ((n : ℕ) (y : X) → n < i → slice_get xs n ≡ Some y → IsPlanOf (own y) (names y) (slice_index_or old n [])) → AddsPlan (own x) (names x) old new
    → (n : ℕ) (y : X) → n < i + 1 → slice_get xs n ≡ Some y → IsPlanOf (own y) (names y) (slice_index_or new n [])
bodies_more {X} own names xs i x old new here size each (rows, grown, plan) n y within at =
    plans_more (λ k all. (z : X) → slice_get xs k ≡ Some z → IsPlanOf (own z) (names z) all) old new rows i grown size
    (λ k below z there. each k z below there)
    (λ z there. subst (λ (w : X). IsPlanOf (own w) (names w) rows) (here ∙ get_or_from_slice_get xs i z x there) plan)
    n within y at
