-- Rows that grow by kinds and by instances.
use Rattle.std.proofs.Common.{◌≡◌, ℕ, ◌+◌, ◌-◌, ◌≤◌, ◌⊎◌, inl, inr, List, [], ◌∷◌, ◌++◌, append-nil, Some, get_or, length, take, refl, sym, ap, ◌∙◌, subst, arith}
use Rattle.std.specs.List.{AllZip, slice_get, slice_range}
use Rattle.std.proofs.lemmas.List.{length-append, take_more}
use Rattle.std.proofs.lemmas.Option.{get_or_from_slice_get, none-some, slice_get_within}
use Rattle.pw_defs.specs.declared.cells.Cells.{Cells}
use Rattle.pw_defs.specs.declared.design.Body.{Body}
use Rattle.pw_defs.specs.declared.model.Model.{Model}
use Rattle.pw_defs.specs.declared.netlist.Module.{Module}
use Rattle.list_defs.proofs.Longer.{early_part, last_part, slice_get-append, slice_get_last}
use Rattle.net_hierarchy.proofs.Places.{get_pushed}
use Rattle.design_rows.specs.declared.tables.InstanceRow.{InstanceRow as Row}
use Rattle.design_rows.specs.declared.tables.KindRow.{KindRow}
use Rattle.design_rows.specs.declared.tables.PlaceRow.{PlaceRow}
use Rattle.design_rows.specs.declared.tables.Rows.{Rows}
use Rattle.design_rows.specs.Growth.{HaveSameKinds, IsEmpty, with_kind}
use Rattle.design_rows.specs.Growth as growth
use Rattle.design_rows.specs.Sound.{AreRows}
use Rattle.design_rows.specs.View.{no_kind}
use Rattle.module_rows.specs.declared.plain.Netlist.{Netlist}
use Rattle.net_instances.specs.declared.numbering.InstanceRow.{InstanceRow}
use Rattle.net_places.specs.declared.plans.Plans.{Plans}
use Rattle.net_frames.specs.Framed.{AreFramed, AreKinds, HasInstance, HasKindOf, HaveSameParts, IsKind, IsKindOf, IsRowOf}
use Rattle.net_frames.specs.Places.{HasPlaces, IsPlaceOf, bits_in, with_parts}
use Rattle.net_frames.proofs.Growing.{no_parts, place_kept, symbols_kept}
use Rattle.net_frames.proofs.ListLemmas.{zip_joined, zip_kept}

module _ (n : Netlist) (p : Plans) where
  -- KINDS
  -- the places of a kind stay where there are more names and places
  kind_kept : (r : Rows) (names : List (List ℕ)) (places : List PlaceRow) (k : ℕ) (kind : KindRow) → AreRows r → slice_get r.kinds k ≡ Some kind
      → IsKind n p r kind → IsKind n p (with_parts r names places []) kind
  kind_kept r names places k kind rows at is =
      let same : get_or r.kinds k no_kind ≡ kind = get_or_from_slice_get r.kinds k kind no_kind at in
      let fits : kind.first + kind.size ≤ length r.places = subst (λ (x : KindRow). x.first + x.size ≤ length r.places) same (rows.kind_places k (slice_get_within r.kinds k kind at)) in
      let part : slice_range (r.places ++ places) kind.first (kind.first + kind.size) ≡ slice_range r.places kind.first (kind.first + kind.size) =
      early_part r.places places kind.first (kind.first + kind.size) (omega arith) fits in
      subst (λ (xs : List PlaceRow). AllZip (IsPlaceOf (r.names ++ names)) (bits_in n p r kind.body) xs) (sym part)
      (zip_kept (IsPlaceOf r.names) (IsPlaceOf (r.names ++ names)) (bits_in n p r kind.body) _ (place_kept r.names names) is)

  kinds_kept : (r : Rows) (names : List (List ℕ)) (places : List PlaceRow) → AreRows r → AreKinds n p r → AreKinds n p (with_parts r names places [])
  kinds_kept r names places rows are = record {
    symbols = symbols_kept n r (with_parts r names places []) names refl are.symbols;
    each = λ k kind at.
        let there : slice_get r.kinds k ≡ Some kind = ap (λ (kinds : List KindRow). slice_get kinds k) (sym (append-nil r.kinds)) ∙ at in
        kind_kept r names places k kind rows there (are.each k kind there);
  }

  -- one kind more
  kinds_more : (r : Rows) (kind : KindRow) → AreKinds n p r → IsKind n p r kind → AreKinds n p (with_kind r kind)
  kinds_more r kind are is = record { symbols = are.symbols; each = λ k other at. by k other (get_pushed r.kinds kind k other at) }
    where
      by : (k : ℕ) (other : KindRow) → (slice_get r.kinds k ≡ Some other) ⊎ ((k ≡ length r.kinds) × (other ≡ kind)) → IsKind n p (with_kind r kind) other
      by k other (inl old) = are.each k other old
      by k other (inr new) = subst (IsKind n p r) (sym new.1) is

  -- a kind with the places of its body
  pub kind_added : (a b c : Rows) (body : Body) (number : ℕ) → AreRows a → HasPlaces n a b (bits_in n p a body)
      → c ≡ with_kind b (record { body = body; first = length a.places; size = length b.places - length a.places }) → number ≡ length b.kinds
      → HasKindOf n p a c body number
  kind_added a b c body number rows has added is = record {
    names = has.names;
    places = has.places;
    kinds = kind ∷ [];
    grown = added ∙ ap (λ r. with_kind r kind) has.grown
        ∙ ap (λ (kinds : List KindRow). record a { names = a.names ++ has.names; places = a.places ++ has.places; kinds = kinds ++ kind ∷ [] }) (append-nil a.kinds);
    kept = λ are.
        let more : AreKinds n p b = subst (AreKinds n p) (sym has.grown) (kinds_kept a has.names has.places rows are) in
        subst (AreKinds n p) (sym added) (kinds_more b kind more (of_kind are));
    there = (kind, ap (λ (r : Rows). slice_get r.kinds number) added ∙ slice_get_last b.kinds kind number is, refl);
  }
    where
      kind : KindRow
      kind = record { body = body; first = length a.places; size = length b.places - length a.places }

      longer : b.places ≡ a.places ++ has.places
      longer = ap (λ (r : Rows). r.places) has.grown

      count : length b.places ≡ length a.places + length has.places
      count = ap length longer ∙ length-append a.places has.places

      part : slice_range b.places kind.first (kind.first + kind.size) ≡ has.places
      part = ap (λ (xs : List PlaceRow). slice_range xs kind.first (kind.first + kind.size)) longer
          ∙ last_part a.places has.places kind.first (kind.first + kind.size) refl (omega (arith, count))

      of_kind : AreKinds n p a → IsKind n p b kind
      of_kind are =
          let bits : bits_in n p b body ≡ bits_in n p a body = ap (λ (r : Rows). bits_in n p r body) has.grown in
          subst (λ xs. AllZip (IsPlaceOf b.names) xs (slice_range b.places kind.first (kind.first + kind.size))) (sym bits)
          (subst (λ (xs : List PlaceRow). AllZip (IsPlaceOf b.names) (bits_in n p a body) xs) (sym part) (has.each are.symbols))

  -- a kind that is known
  pub kind_known : (r : Rows) (body : Body) (number : ℕ) → IsKindOf r body number → HasKindOf n p r r body number
  kind_known r body number there = record { names = []; places = []; kinds = []; grown = no_parts r; kept = λ are. are; there = there }

  -- INSTANCES
  -- rows with other instances and bits
  pub other_insts : (a b : Rows) → HaveSameKinds a b → b ≡ record a { insts = b.insts; feeds = b.feeds }
  other_insts a b same = λ i. record {
    cells = same.cells i;
    modules = same.modules i;
    models = same.models i;
    names = same.names i;
    kinds = same.kinds i;
    places = same.places i;
    insts = b.insts;
    children = same.children i;
    feeds = b.feeds;
  }

  pub kinds_stay : (a b : Rows) → HaveSameKinds a b → AreKinds n p a → AreKinds n p b
  kinds_stay a b same are =
      subst (AreKinds n p) (sym (other_insts a b same)) (record { symbols = are.symbols; each = are.each })

  -- one instance more
  pub instance_added : (a b c : Rows) (instance : InstanceRow) (row : Row) → HasKindOf n p a b instance.body row.kind → growth.HasInstance b c row
      → row.parent ≡ instance.parent → row.name ≡ instance.name → HasInstance n p a c instance
  instance_added a b c instance row has more parent name = record { parts = parts; framed = framed }
    where
      same_insts : b.insts ≡ a.insts
      same_insts = ap (λ (r : Rows). r.insts) has.grown

      parts : HaveSameParts a c
      parts = record {
        cells = more.same.cells ∙ ap (λ (r : Rows). r.cells) has.grown;
        modules = more.same.modules ∙ ap (λ (r : Rows). r.modules) has.grown;
        models = more.same.models ∙ ap (λ (r : Rows). r.models) has.grown;
      }

      kinds : c.kinds ≡ a.kinds ++ has.kinds
      kinds = more.same.kinds ∙ ap (λ (r : Rows). r.kinds) has.grown

      row_kept : (other : InstanceRow) (old : Row) → IsRowOf a other old → IsRowOf c other old
      row_kept other old is = record {
        inside = is.inside;
        name = is.name;
        kind = (is.kind.0, ap (λ (xs : List KindRow). slice_get xs old.kind) kinds ∙ slice_get-append a.kinds has.kinds old.kind is.kind.0 is.kind.1, is.kind.2);
      }

      new_row : IsRowOf c instance row
      new_row = record {
        inside = parent;
        name = name;
        kind = (has.there.0, ap (λ (xs : List KindRow). slice_get xs row.kind) more.same.kinds ∙ has.there.1, has.there.2);
      }

      framed : (instances : List InstanceRow) → AreFramed n p instances a → AreFramed n p (instances ++ instance ∷ []) c
      framed instances are = record {
        kinds = kinds_stay b c more.same (has.kept are.kinds);
        rows = subst (AllZip (IsRowOf c) (instances ++ instance ∷ [])) (sym (more.insts ∙ ap (λ (xs : List Row). xs ++ row ∷ []) same_insts))
            (zip_joined (IsRowOf c) instances (instance ∷ []) a.insts (row ∷ []) (zip_kept (IsRowOf a) (IsRowOf c) instances a.insts row_kept are.rows) (new_row, tt));
      }

  -- rows that have only the spellings of the symbols
  pub framed_empty : (cells : Cells) (modules : List Module) (models : List Model) (a b : Rows) → IsEmpty cells modules models a
      → b ≡ with_parts a n.symbols [] [] → AreFramed n p [] b
  framed_empty cells modules models a b empty added = record {
    kinds = record { symbols = ([], names); each = λ k kind at. none kind k at };
    rows = subst (AllZip (IsRowOf b) []) (sym insts) tt;
  }
    where
      names : b.names ≡ n.symbols ++ []
      names = ap (λ (r : Rows). r.names) added ∙ ap (λ (xs : List (List ℕ)). xs ++ n.symbols) empty.no_names ∙ sym (append-nil n.symbols)

      insts : b.insts ≡ []
      insts = ap (λ (r : Rows). r.insts) added ∙ empty.no_insts

      kinds : b.kinds ≡ []
      kinds = ap (λ (r : Rows). r.kinds) added ∙ append-nil a.kinds ∙ empty.no_kinds

      none : (kind : KindRow) (k : ℕ) → slice_get b.kinds k ≡ Some kind → IsKind n p b kind
      none kind k at = absurd (none-some kind (ap (λ (xs : List KindRow). slice_get xs k) (sym kinds) ∙ at))

  -- the next of all instances
  pub next_framed : (a b c : Rows) (instances : List InstanceRow) (i : ℕ) (instance : InstanceRow) → slice_get instances i ≡ Some instance
      → (AreFramed n p [] a → AreFramed n p (take i instances) b) → HasInstance n p b c instance → AreFramed n p [] a → AreFramed n p (take (i + 1) instances) c
  next_framed a b c instances i instance at before has are =
      let taken : take (i + 1) instances ≡ take i instances ++ instance ∷ [] =
      take_more instances i instance (slice_get_within instances i instance at)
      ∙ ap (λ (x : InstanceRow). take i instances ++ x ∷ []) (get_or_from_slice_get instances i instance instance at) in
      subst (λ (xs : List InstanceRow). AreFramed n p xs c) (sym taken) (has.framed (take i instances) (before are))

-- the parts of rows that are the same in turn
pub same_joined : (a b c : Rows) → HaveSameParts a b → HaveSameParts b c → HaveSameParts a c
same_joined a b c one two = record { cells = two.cells ∙ one.cells; modules = two.modules ∙ one.modules; models = two.models ∙ one.models }
