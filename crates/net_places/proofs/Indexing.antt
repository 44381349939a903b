-- Rows that are gathered by name.
use Rattle.std.proofs.Common.{◌≡◌, ℕ, ◌+◌, Bool, true, false, ◌||◌, List, [], ◌∷◌, ◌++◌, get_or, map, take, refl, sym, ap, ◌∙◌, subst, arith}
use Rattle.std.specs.Prelude.{Some, None, option_map, slice_get}
use Rattle.std.specs.List.{list_any}
use Rattle.std.proofs.lemmas.List.Folds.{list_any-append}
use Rattle.std.proofs.lemmas.Option.{get_or_from_slice_get, slice_get-map, slice_get_within}
use Rattle.pw_defs.specs.declared.cells.Pin.{Pin}
use Rattle.pw_defs.specs.declared.netlist.Port.{Port}
use Rattle.list_defs.specs.Members.{same_name}
use Rattle.list_defs.proofs.NameLemmas.{same_name-equal}
use Rattle.design_defs.specs.Ports.{port_of_pin}
use Rattle.net_places.specs.declared.bodies.Indexed.{Indexed}
use Rattle.net_places.specs.declared.rows.NamedRow.{NamedRow}
use Rattle.net_places.specs.declared.rows.NetRow.{NetRow}
use Rattle.net_places.specs.Mentions.{Mention, is_mentioned, of_port, of_ports}
use Rattle.net_places.specs.Gathered.{AreGathered, HasIndexed, IsSpelled, mention_of, net_of}
use Rattle.net_places.proofs.Mentioning.{gathered_again, gathered_more, says}
use Rattle.net_places.proofs.Steps.{ports_next}

or_again : (a b : Bool) → (b ≡ true → a ≡ true) → (a || (b || false)) ≡ a
or_again true b same = refl
or_again false true same = sym (same refl)
or_again false false same = refl

-- a name that is there already
pub indexed_again : (names : List (List ℕ)) (old new : Indexed) (name : List ℕ) (row : NetRow) (vs : List Mention) → list_any (same_name name) old.index ≡ true
    → new.index ≡ old.index → new.rows.items ≡ old.rows.items → HasIndexed names old vs → HasIndexed names new (vs ++ mention_of name row ∷ [])
indexed_again names old new name row vs there index rows has =
    let v = mention_of name row in
    let known : is_mentioned vs name ≡ true = sym (has.indexed name) ∙ there in
    record {
      indexed = λ other. ap (list_any (same_name other)) index ∙ has.indexed other
          ∙ sym (list_any-append (says other) vs (v ∷ [])
          ∙ or_again (is_mentioned vs other) (same_name other name) (λ same. subst (λ (x : List ℕ). is_mentioned vs x ≡ true) (sym (same_name-equal other name same)) known));
      rows = subst (λ (all : List NamedRow). AreGathered names all (vs ++ v ∷ [])) (sym rows) (gathered_again names old.rows.items vs v known has.rows);
    }

-- a new name
pub indexed_first : (names : List (List ℕ)) (old new : Indexed) (name : List ℕ) (row : NetRow) (named : NamedRow) (vs : List Mention) → list_any (same_name name) old.index ≡ false
    → new.index ≡ old.index ++ name ∷ [] → new.rows.items ≡ old.rows.items ++ named ∷ [] → named.name.now ≡ name → named.row ≡ row → slice_get names row.name ≡ Some name
    → HasIndexed names old vs → HasIndexed names new (vs ++ mention_of name row ∷ [])
indexed_first names old new name row named vs absent index rows is_name is_row spelled has =
    let v = mention_of name row in
    let new_name : is_mentioned vs name ≡ false = sym (has.indexed name) ∙ absent in
    let P : NetRow → Type 0 = λ r. v.net ≡ Some (record { name = named.name.now; range = r.range; port = r.port }) in
    let is_net : v.net ≡ Some (net_of named) = subst P (sym is_row) (ap (λ (n : List ℕ). Some (record { name = n; range = row.range; port = row.port })) (sym is_name)) in
    let fits : IsSpelled names named = ap (λ (r : NetRow). slice_get names r.name) is_row ∙ spelled ∙ ap Some (sym is_name) in
    record {
      indexed = λ other. ap (list_any (same_name other)) index ∙ list_any-append (same_name other) old.index (name ∷ [])
          ∙ ap (λ (b : Bool). b || (same_name other name || false)) (has.indexed other) ∙ sym (list_any-append (says other) vs (v ∷ []));
      rows = subst (λ (all : List NamedRow). AreGathered names all (vs ++ v ∷ [])) (sym rows) (gathered_more names old.rows.items vs v named new_name is_net is_name fits has.rows);
    }

-- one pin or port more
pub port_after : (ps : List Port) (i : ℕ) (p : Port) → slice_get ps i ≡ Some p
    → of_ports 0 (take (i + 1) ps) ≡ of_ports 0 (take i ps) ++ mention_of p.name (record { name = i; range = p.range; port = Some i; first = 0 }) ∷ []
port_after ps i p at =
    let same : get_or ps i p ≡ p = get_or_from_slice_get ps i p p at in
    let zero_on : 0 + i ≡ i = omega arith in
    ports_next 0 ps i p (slice_get_within ps i p at)
    ∙ ap (λ (q : Port). of_ports 0 (take i ps) ++ of_port (0 + i) q ∷ []) same
    ∙ ap (λ (k : ℕ). of_ports 0 (take i ps) ++ of_port k p ∷ []) zero_on

pub pin_after : (pins : List Pin) (i : ℕ) (p : Pin) → slice_get pins i ≡ Some p
    → of_ports 0 (take (i + 1) (map port_of_pin pins)) ≡ of_ports 0 (take i (map port_of_pin pins)) ++ mention_of p.name (record { name = i; range = None; port = Some i; first = 0 }) ∷ []
pin_after pins i p at = port_after (map port_of_pin pins) i (port_of_pin p) (slice_get-map port_of_pin pins i ∙ ap (option_map port_of_pin) at)

pub pin_names : (pins : List Pin) → map (λ (p : Pin). p.name) pins ≡ map (λ (p : Port). p.name) (map port_of_pin pins)
pin_names [] = refl
pin_names (p ∷ ps) = ap (λ (names : List (List ℕ)). p.name ∷ names) (pin_names ps)
