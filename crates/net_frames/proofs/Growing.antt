-- Rows that grow by the places of bits.
use Rattle.std.proofs.Common.{◌≡◌, ℕ, ◌+◌, true, List, [], ◌∷◌, ◌++◌, append-nil, append_assoc, Option, Some, length, map, option_map, take, refl, sym, ap, ◌∙◌, subst, arith}
use Rattle.std.specs.List.{AllZip, range_with_len, slice_get}
use Rattle.std.proofs.lemmas.Grind.{flat_map-append}
use Rattle.std.proofs.lemmas.List.{map-append, take_more}
use Rattle.std.proofs.lemmas.List.FromFn.{map-range_with_len_more}
use Rattle.std.proofs.lemmas.Option.{get_or_from_slice_get, slice_get-get_or, slice_get-map, slice_get_within}
use Rattle.pw_defs.specs.declared.cells.Cell.{Cell}
use Rattle.pw_defs.specs.declared.cells.Pin.{Pin}
use Rattle.pw_defs.specs.declared.netlist.Port.{Port}
use Rattle.design_defs.specs.Ports.{port_of_pin}
use Rattle.net_places.specs.Plans.{port_names}
use Rattle.pw_defs.specs.declared.design.Body.{Body}
use Rattle.pw_defs.specs.declared.design.Body.TheVariants.{Module as ModuleBody, Cell as CellBody, Model as ModelBody}
use Rattle.list_defs.proofs.Longer.{slice_get-append, slice_get_last}
use Rattle.design_defs.specs.Ranges.{bit_name}
use Rattle.design_rows.specs.declared.tables.KindRow.{KindRow}
use Rattle.design_rows.specs.declared.tables.PlaceRow.{PlaceRow}
use Rattle.design_rows.specs.declared.tables.Rows.{Rows}
use Rattle.design_rows.specs.Growth.{with_name, with_place}
use Rattle.design_rows.specs.View.{place_name, port_in}
use Rattle.module_rows.specs.declared.plain.Netlist.{Netlist}
use Rattle.module_rows.specs.View.{name_at}
use Rattle.net_places.specs.declared.rows.NetRow.{NetRow}
use Rattle.net_places.specs.Gathered.{net_by}
use Rattle.net_places.specs.Nets.{OwnNet}
use Rattle.net_frames.specs.Places.{HasBitName, HasPlaces, HasSymbolNames, HasSymbols, IsPlaceOf, IsSymbolOf, NetBit, bits_of_nets, net_bits, spellings, with_parts}
use Rattle.net_frames.proofs.ListLemmas.{zip_joined, zip_kept}

-- ROWS with more parts
pub no_parts : (r : Rows) → r ≡ with_parts r [] [] []
no_parts r = sym (λ i. record r { names = append-nil r.names i; places = append-nil r.places i; kinds = append-nil r.kinds i })

pub parts_joined : (r : Rows) (names others : List (List ℕ)) (places more : List PlaceRow) (kinds further : List KindRow)
    → with_parts (with_parts r names places kinds) others more further ≡ with_parts r (names ++ others) (places ++ more) (kinds ++ further)
parts_joined r names others places more kinds further =
    λ i. record r { names = append_assoc r.names names others i; places = append_assoc r.places places more i; kinds = append_assoc r.kinds kinds further i }

pub name_part : (r : Rows) (name : List ℕ) → with_name r name ≡ with_parts r (name ∷ []) [] []
name_part r name = λ i. record r { names = r.names ++ name ∷ []; places = sym (append-nil r.places) i; kinds = sym (append-nil r.kinds) i }

pub place_part : (r : Rows) (place : PlaceRow) → with_place r place ≡ with_parts r [] (place ∷ []) []
place_part r place = λ i. record r { names = sym (append-nil r.names) i; places = r.places ++ place ∷ []; kinds = sym (append-nil r.kinds) i }

pub symbols_kept : (n : Netlist) (old new : Rows) (names : List (List ℕ)) → new.names ≡ old.names ++ names → HasSymbols n old → HasSymbols n new
symbols_kept n old new names grown has = (has.0 ++ names, grown ∙ ap (λ xs. xs ++ names) has.1 ∙ append_assoc n.symbols has.0 names)

-- a place stays that of a bit where there are more names
pub place_kept : (names more : List (List ℕ)) (bit : NetBit) (p : PlaceRow) → IsPlaceOf names bit p → IsPlaceOf (names ++ more) bit p
place_kept names more bit p is = record { named = slice_get-append names more (place_name p) _ is.named; ported = is.ported }

-- PLACES of bits, one list behind another
module _ (n : Netlist) where
  pub no_places : (r : Rows) → HasPlaces n r r []
  no_places r = record { names = []; places = []; grown = no_parts r; each = λ has. tt }

  pub places_joined : (a b c : Rows) (bits more : List NetBit) → HasPlaces n a b bits → HasPlaces n b c more → HasPlaces n a c (bits ++ more)
  places_joined a b c bits more one two = record {
    names = one.names ++ two.names;
    places = one.places ++ two.places;
    grown = two.grown ∙ ap (λ r. with_parts r two.names two.places []) one.grown ∙ parts_joined a one.names two.names one.places two.places [] [];
    each = λ has.
        let grown : c.names ≡ b.names ++ two.names = ap (λ (r : Rows). r.names) two.grown in
        let first : AllZip (IsPlaceOf (b.names ++ two.names)) bits one.places =
        zip_kept (IsPlaceOf b.names) (IsPlaceOf (b.names ++ two.names)) bits one.places (place_kept b.names two.names) (one.each has) in
        let kept : AllZip (IsPlaceOf c.names) bits one.places = subst (λ (names : List (List ℕ)). AllZip (IsPlaceOf names) bits one.places) (sym grown) first in
        zip_joined (IsPlaceOf c.names) bits more one.places two.places kept
        (two.each (symbols_kept n a b one.names (ap (λ (r : Rows). r.names) one.grown) has));
  }

  -- the spellings of nets are the same
  pub same_spellings : (a b : Rows) (bits : List NetBit) (body : Body) → HasPlaces n a b bits → spellings n b body ≡ spellings n a body
  same_spellings a b bits body has = ap (λ (r : Rows). spellings n r body) has.grown

  -- one place more
  pub one_place : (a b c : Rows) (body : Body) (row : NetRow) (place name : ℕ) (p : PlaceRow) → HasBitName n a b body row place name → c ≡ with_place b p
      → place_name p ≡ name → ((owner : ℕ) → port_in owner p ≡ option_map (λ port. record { inst = owner; port = port; place = place }) row.port)
      → HasPlaces n a c ((net_by (spellings n a body) row, place) ∷ [])
  one_place a b c body row place name p has added named ported = record {
    names = has.names;
    places = p ∷ [];
    grown = added ∙ place_part b p ∙ ap (λ r. with_parts r [] (p ∷ []) []) has.grown ∙ parts_joined a has.names [] [] (p ∷ []) [] []
        ∙ ap (λ names. with_parts a names (p ∷ []) []) (append-nil has.names);
    each = λ symbols. (
      record {
        named = ap (λ (r : Rows). slice_get r.names (place_name p)) added ∙ ap (slice_get b.names) named ∙ has.named symbols;
        ported = ported;
      },
      tt,
    );
  }

  -- the name of a symbol is there
  pub symbol_named : (r : Rows) (body : Body) (row : NetRow) (place : ℕ) → IsSymbolOf n body row true → HasBitName n r r body row place row.name
  symbol_named r body row place is = record {
    names = [];
    grown = no_parts r;
    named = λ has.
        let same : spellings n r body ≡ n.symbols = by body is.2 in
        let there : slice_get n.symbols row.name ≡ Some (name_at n.symbols row.name) = slice_get-get_or n.symbols row.name [] is.1 in
        ap (λ (names : List (List ℕ)). slice_get names row.name) has.1
        ∙ slice_get-append n.symbols has.0 row.name (name_at n.symbols row.name) there
        ∙ ap (λ (names : List (List ℕ)). Some (name_at names row.name)) (sym same)
        ∙ ap (λ (range : Option (ℕ × ℕ)). Some (bit_name (name_at (spellings n r body) row.name) range place)) (sym is.0);
  }
    where
      by : (b : Body) → HasSymbolNames b → spellings n r b ≡ n.symbols
      by (ModuleBody m) h = refl
      by (CellBody c) h = absurd h
      by (ModelBody m) h = absurd h

  -- a name that is added is there
  pub name_added : (a b : Rows) (body : Body) (row : NetRow) (place name : ℕ) (text : List ℕ) → b ≡ with_name a text → name ≡ length a.names
      → text ≡ bit_name (name_at (spellings n a body) row.name) row.range place → HasBitName n a b body row place name
  name_added a b body row place name text added number is = record {
    names = text ∷ [];
    grown = added ∙ name_part a text;
    named = λ has. ap (λ (r : Rows). slice_get r.names name) added ∙ slice_get_last a.names text name number ∙ ap Some is;
  }

  -- one bit of a net more
  pub bit_more : (a b c : Rows) (body : Body) (row : NetRow) (k : ℕ) → let net = net_by (spellings n a body) row in
      HasPlaces n a b (map (λ place. (net, place)) (range_with_len 0 k)) → HasPlaces n b c ((net_by (spellings n b body) row, k) ∷ [])
      → HasPlaces n a c (map (λ place. (net, place)) (range_with_len 0 (k + 1)))
  bit_more a b c body row k so_far one =
      let net : OwnNet = net_by (spellings n a body) row in
      let bits : List NetBit = map (λ place. (net, place)) (range_with_len 0 k) in
      let same = same_spellings a b bits body so_far in
      let P : List (List ℕ) → Type 0 = λ names. HasPlaces n b c ((net_by names row, k) ∷ []) in
      subst (HasPlaces n a c) (sym (map-range_with_len_more (λ place. (net, place)) 0 k k (omega arith)))
      (places_joined a b c bits ((net, k) ∷ []) so_far (subst P same one))

  -- one net more
  pub net_more : (a b c : Rows) (body : Body) (rows : List NetRow) (i : ℕ) (row : NetRow) → slice_get rows i ≡ Some row
      → HasPlaces n a b (bits_of_nets (map (net_by (spellings n a body)) (take i rows))) → HasPlaces n b c (net_bits (net_by (spellings n b body) row))
      → HasPlaces n a c (bits_of_nets (map (net_by (spellings n a body)) (take (i + 1) rows)))
  net_more a b c body rows i row at so_far one =
      let to_net : NetRow → OwnNet = net_by (spellings n a body) in
      let bits : List NetBit = bits_of_nets (map to_net (take i rows)) in
      let same = same_spellings a b bits body so_far in
      let P : List (List ℕ) → Type 0 = λ names. HasPlaces n b c (net_bits (net_by names row)) in
      let taken : take (i + 1) rows ≡ take i rows ++ row ∷ [] =
      take_more rows i row (slice_get_within rows i row at) ∙ ap (λ (r : NetRow). take i rows ++ r ∷ []) (get_or_from_slice_get rows i row row at) in
      let grown : bits_of_nets (map to_net (take (i + 1) rows)) ≡ bits ++ net_bits (to_net row) =
      ap (λ some. bits_of_nets (map to_net some)) taken ∙ ap bits_of_nets (map-append to_net (take i rows) (row ∷ []))
      ∙ flat_map-append net_bits (map to_net (take i rows)) (to_net row ∷ [])
      ∙ ap (λ more. bits ++ more) (append-nil (net_bits (to_net row))) in
      subst (HasPlaces n a c) (sym grown) (places_joined a b c bits (net_bits (to_net row)) so_far (subst P same one))

-- the name of a pin is its spelling
pub pin_spelled : (n : Netlist) (r : Rows) (c k : ℕ) (cell : Cell) (pin : Pin) → slice_get r.cells.cells c ≡ Some cell → slice_get cell.pins k ≡ Some pin
    → Some pin.name ≡ slice_get (spellings n r (CellBody c)) k
pin_spelled n r c k cell pin cell_at pin_at =
    sym (ap (λ (o : Option Cell). slice_get (port_names (option_map (λ (x : Cell). map port_of_pin x.pins) o)) k) cell_at
    ∙ slice_get-map (λ (q : Port). q.name) (map port_of_pin cell.pins) k
    ∙ ap (option_map (λ (q : Port). q.name)) (slice_get-map port_of_pin cell.pins k ∙ ap (option_map port_of_pin) pin_at))

-- one symbol more
pub symbol_more : (a b c : Rows) (symbols : List (List ℕ)) (i : ℕ) (name : List ℕ) → b ≡ with_parts a (take i symbols) [] [] → slice_get symbols i ≡ Some name
    → c ≡ with_name b name → c ≡ with_parts a (take (i + 1) symbols) [] []
symbol_more a b c symbols i name so_far at added =
    let taken : take (i + 1) symbols ≡ take i symbols ++ name ∷ [] =
    take_more symbols i name (slice_get_within symbols i name at) ∙ ap (λ (x : List ℕ). take i symbols ++ x ∷ []) (get_or_from_slice_get symbols i name name at) in
    added ∙ name_part b name ∙ ap (λ r. with_parts r (name ∷ []) [] []) so_far ∙ parts_joined a (take i symbols) (name ∷ []) [] [] [] []
    ∙ ap (λ names. with_parts a names [] []) (sym taken)
