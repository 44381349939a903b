-- The first port of a name stands where the ports begin that don't come before its key.
use Rattle.std.proofs.Common.{◌≡◌, ◌≢◌, ◌⊎◌, ℕ, ◌<◌, ◌≤◌, true, false, List, [], length, Option, Some, None, get_or, slice_get, inl, inr, refl, sym, ap, ◌∙◌, subst, arith}
use Rattle.std.specs.Cmp.Lexicographic.{bytes_decides}
use Rattle.std.specs.List.{position, position_or_len}
use Rattle.std.specs.List.Sorted.{IsPartitionPoint}
use Rattle.std.specs.Option.{option_and_then}
use Rattle.std.specs.Ordering.{is_lt, ordering_reverse}
use Rattle.std.specs.declared.cmp.Ordering.{Ordering}
use Rattle.std.specs.declared.cmp.Ordering.TheVariants.{Less, Equal, Greater}
use Rattle.std.proofs.lemmas.Bool.{cases_eq, cases_lt, false_from_ne_true, le-ltb, lt-ltb}
use Rattle.std.proofs.lemmas.List.Sums.{position_or_len_is}
use Rattle.std.proofs.lemmas.Option.{get_or_from_slice_get, slice_get-get_or, slice_get_within}
use Rattle.pw_defs.specs.declared.cells.Cells.{Cells}
use Rattle.pw_defs.specs.declared.cells.Dir.TheVariants.{Input}
use Rattle.pw_defs.specs.declared.design.Body.{Body}
use Rattle.pw_defs.specs.declared.model.Model.{Model}
use Rattle.pw_defs.specs.declared.netlist.Module.{Module}
use Rattle.pw_defs.specs.declared.netlist.Port.{Port}
use Rattle.design_defs.specs.Ports.{ports_among}
use Rattle.list_defs.proofs.Few.{place_of_member}
use Rattle.list_defs.proofs.Members.{IsIn-slice_get}
use Rattle.list_defs.proofs.Rising.{not_before_itself, not_both_before, rising_at}
use Rattle.port_order.specs.declared.keys.PortNumber.{PortNumber}
use Rattle.port_order.specs.PortNames.{has_name}
use Rattle.port_order.specs.PortOrders.{IsPortOrder, key_cmp, key_of, name_of, port_cmp, port_in}
use Rattle.port_order.proofs.KeyLemmas.{key_total, less_parts, same_key}
use Rattle.port_order.proofs.Risings.{is_less}

once : {X : Type 0} {x y : X} → Some x ≡ Some y → x ≡ y
once same = cc

-- the first port of a name among some ports
first_named : (name : List ℕ) (ports : List Port) (n : ℕ) (p : Port) → slice_get ports n ≡ Some p → p.name ≡ name
    → ((m : ℕ) (q : Port) → m < n → slice_get ports m ≡ Some q → q.name ≡ name → ⊥) → position (has_name name) ports ≡ Some n
first_named name ports n p at named before =
    let within = slice_get_within ports n p at in
    let fails : (m : ℕ) → m < n → has_name name (get_or ports m p) ≡ false =
    λ m less. false_from_ne_true (has_name name (get_or ports m p)) (λ passes.
    before m (get_or ports m p) less (slice_get-get_or ports m p (omega (arith, less, within))) ((bytes_decides (get_or ports m p).name name).0 passes)) in
    let here : has_name name (get_or ports n p) ≡ true =
    ap (has_name name) (get_or_from_slice_get ports n p p at) ∙ (bytes_decides p.name name).1 named in
    let first : position_or_len (has_name name) ports ≡ n = position_or_len_is (has_name name) ports n p (omega (arith, within)) fails (λ _. here) in
    rw (first, lt-ltb n (length ports) within) refl

abbrev no_port : Port
no_port = record { name = []; dir = Input; range = None }

none_named : (name : List ℕ) (ports : List Port) → ((m : ℕ) (q : Port) → slice_get ports m ≡ Some q → q.name ≡ name → ⊥) → position (has_name name) ports ≡ None
none_named name ports none =
    let fails : (m : ℕ) → m < length ports → has_name name (get_or ports m no_port) ≡ false =
    λ m less. false_from_ne_true (has_name name (get_or ports m no_port)) (λ passes.
    none m (get_or ports m no_port) (slice_get-get_or ports m no_port less) ((bytes_decides (get_or ports m no_port).name name).0 passes)) in
    let end : position_or_len (has_name name) ports ≡ length ports =
    position_or_len_is (has_name name) ports (length ports) no_port (omega arith) fails (λ past. absurd (omega (arith, past))) in
    rw (end, le-ltb (length ports) (length ports) (omega arith)) refl

module _ (modules : List Module) (cells : Cells) (models : List Model) (numbers : List PortNumber) (order : IsPortOrder modules cells models numbers)
    (body : Body) (name : List ℕ) (k : ℕ)
    (point : IsPartitionPoint (λ n. is_lt (key_cmp (key_of modules cells models n) (body, name)) ≡ true) (λ n. is_lt (key_cmp (key_of modules cells models n) (body, name)) ≡ false) numbers k) where
  abbrev key : PortNumber → Body × List ℕ
  key = key_of modules cells models

  abbrev named : Option ℕ
  named = option_and_then (position (has_name name)) (ports_among modules cells models body)

  -- a port of the body that has the name has the key
  keyed : (ports : List Port) → ports_among modules cells models body ≡ Some ports → (n : ℕ) (p : Port) → slice_get ports n ≡ Some p → p.name ≡ name
      → (port_in modules cells models (record { body = body; port = n }) ≡ Some p) × (key (record { body = body; port = n }) ≡ (body, name))
  keyed ports are n p at same =
      let there : port_in modules cells models (record { body = body; port = n }) ≡ Some p = ap (option_and_then (λ (xs : List Port). slice_get xs n)) are ∙ at in
      (there, ap (λ own. (body, own)) (ap name_of there ∙ same))

  -- it stands at some place from there on
  stands : (ports : List Port) → ports_among modules cells models body ≡ Some ports → (n : ℕ) (p : Port) → slice_get ports n ≡ Some p → p.name ≡ name
      → (j : ℕ) × (slice_get numbers j ≡ Some (record { body = body; port = n })) × (k ≤ j)
  stands ports are n p at same = (place.0, place.1, by (cases_lt place.0 k))
    where
      x : PortNumber
      x = record { body = body; port = n }

      own : (port_in modules cells models x ≡ Some p) × (key x ≡ (body, name))
      own = keyed ports are n p at same

      place : (j : ℕ) × (slice_get numbers j ≡ Some x)
      place = place_of_member x numbers (order.all x (p, own.0))

      by : (place.0 < k) ⊎ (k ≤ place.0) → k ≤ place.0
      by (inr behind) = behind
      by (inl before) =
          let passes = point.0 place.0 x (omega arith) before in
          let here : key (get_or numbers place.0 x) ≡ (body, name) = ap key (get_or_from_slice_get numbers place.0 x x place.1) ∙ own.1 in
          let less : key_cmp (body, name) (body, name) ≡ Less = subst (λ own_key. key_cmp own_key (body, name) ≡ Less) here (is_less (key_cmp (key (get_or numbers place.0 x)) (body, name)) passes) in
          absurd (not_before_itself key_cmp key_total (body, name) less)

  -- so it is what stands there, or comes behind that
  follows : (x : PortNumber) → slice_get numbers k ≡ Some x → (ports : List Port) → ports_among modules cells models body ≡ Some ports → (n : ℕ) (p : Port)
      → slice_get ports n ≡ Some p → p.name ≡ name → (x ≡ record { body = body; port = n }) ⊎ (port_cmp modules cells models x (record { body = body; port = n }) ≡ Less)
  follows x there ports are n p at same = by (cases_eq k place.0)
    where
      y : PortNumber
      y = record { body = body; port = n }

      place : (j : ℕ) × (slice_get numbers j ≡ Some y) × (k ≤ j)
      place = stands ports are n p at same

      by : (k ≡ place.0) ⊎ (k ≢ place.0) → (x ≡ y) ⊎ (port_cmp modules cells models x y ≡ Less)
      by (inl here) = inl (once (sym there ∙ ap (slice_get numbers) here ∙ place.1))
      by (inr other) = inr (rising_at (port_cmp modules cells models) numbers order.rising k place.0 x y (omega (arith, place.2, other)) there place.1)

  -- a port that has the key is of the body and has the name
  has_key : (x : PortNumber) (p : Port) → port_in modules cells models x ≡ Some p → key x ≡ (body, name) → (ports : List Port) → ports_among modules cells models body ≡ Some ports
      → (slice_get ports x.port ≡ Some p) × (p.name ≡ name)
  has_key x p has same ports are =
      let of : List Port → Option Port = λ xs. slice_get xs x.port in
      let same_body : x.body ≡ body = ap (λ (pair : Body × List ℕ). pair.0) same in
      let among : port_in modules cells models x ≡ slice_get ports x.port = ap (λ b. option_and_then of (ports_among modules cells models b)) same_body ∙ ap (option_and_then of) are in
      (sym among ∙ has, sym (ap name_of has) ∙ ap (λ (pair : Body × List ℕ). pair.1) same)

  -- the port that stands there, if it has the key, is the first of the name
  pub found : (x : PortNumber) → slice_get numbers k ≡ Some x → key_cmp (key x) (body, name) ≡ Equal → Some x.port ≡ named
  found x there equal = by (ports_among modules cells models body) refl
    where
      same : key x ≡ (body, name)
      same = same_key (key x) (body, name) equal

      has : (p : Port) × (port_in modules cells models x ≡ Some p)
      has = order.each x (IsIn-slice_get numbers k x there)

      none_before : (ports : List Port) → ports_among modules cells models body ≡ Some ports → (m : ℕ) (q : Port) → m < x.port → slice_get ports m ≡ Some q → q.name ≡ name → ⊥
      none_before ports are m q before at its = elim (follows x there ports are m q at its) [
        | inl one ↦ (let number : x.port ≡ m = ap (λ (y : PortNumber). y.port) one in absurd (omega (arith, before, number)))
        | inr less ↦ elim (less_parts modules cells models x (record { body = body; port = m }) less) [
          | inl keys ↦
              let itself : key_cmp (body, name) (body, name) ≡ Less =
              subst (λ other. key_cmp (body, name) other ≡ Less) (keyed ports are m q at its).1 (subst (λ one. key_cmp one (key (record { body = body; port = m })) ≡ Less) same keys) in
              not_before_itself key_cmp key_total (body, name) itself
          | inr both ↦ absurd (omega (arith, before, both.1))
        ]
      ]

      by : (o : Option (List Port)) → ports_among modules cells models body ≡ o → Some x.port ≡ named
      by None none =
          let of : List Port → Option Port = λ xs. slice_get xs x.port in
          let same_body : x.body ≡ body = ap (λ (pair : Body × List ℕ). pair.0) same in
          let lost : port_in modules cells models x ≡ None = ap (λ b. option_and_then of (ports_among modules cells models b)) same_body ∙ ap (option_and_then of) none in
          let is = has.1 in
          cc
      by (Some ports) are =
          let its = has_key x has.0 has.1 same ports are in
          sym (ap (option_and_then (position (has_name name))) are ∙ first_named name ports x.port has.0 its.0 its.1 (none_before ports are))

  -- nothing has the name where no port has it
  unnamed : ((ports : List Port) → ports_among modules cells models body ≡ Some ports → (n : ℕ) (p : Port) → slice_get ports n ≡ Some p → p.name ≡ name → ⊥) → None ≡ named
  unnamed none = by (ports_among modules cells models body) refl
    where
      by : (o : Option (List Port)) → ports_among modules cells models body ≡ o → None ≡ named
      by None e = sym (ap (option_and_then (position (has_name name))) e)
      by (Some ports) are = sym (ap (option_and_then (position (has_name name))) are ∙ none_named name ports (none ports are))

  -- where another stands there
  pub missed : (x : PortNumber) → slice_get numbers k ≡ Some x → key_cmp (key x) (body, name) ≢ Equal → None ≡ named
  missed x there unlike = unnamed (λ ports are n p at same. absurd (apart ports are n p at same))
    where
      not_before : is_lt (key_cmp (key x) (body, name)) ≡ false
      not_before =
          ap (λ y. is_lt (key_cmp (key y) (body, name))) (sym (get_or_from_slice_get numbers k x x there))
          ∙ point.1 k x (omega arith) (slice_get_within numbers k x there)

      greater : (o : Ordering) → key_cmp (key x) (body, name) ≡ o → is_lt o ≡ false → key_cmp (key x) (body, name) ≡ Greater
      greater Less e lt = cc
      greater Equal e lt = absurd (unlike e)
      greater Greater e lt = e

      behind : key_cmp (body, name) (key x) ≡ Less
      behind = key_total.antisymm (body, name) (key x) ∙ ap ordering_reverse (greater (key_cmp (key x) (body, name)) refl not_before)

      not_same : key x ≡ (body, name) → ⊥
      not_same same = not_before_itself key_cmp key_total (body, name) (subst (λ one. key_cmp (body, name) one ≡ Less) same behind)

      apart : (ports : List Port) → ports_among modules cells models body ≡ Some ports → (n : ℕ) (p : Port) → slice_get ports n ≡ Some p → p.name ≡ name → ⊥
      apart ports are n p at same =
          let own = (keyed ports are n p at same).1 in
          elim (follows x there ports are n p at same) [
            | inl one ↦ not_same (ap key one ∙ own)
            | inr less ↦ elim (less_parts modules cells models x (record { body = body; port = n }) less) [
              | inl keys ↦ not_both_before key_cmp key_total (body, name) (key x) behind (subst (λ other. key_cmp (key x) other ≡ Less) own keys)
              | inr both ↦ not_same (both.0 ∙ own)
            ]
          ]

  -- where none stands there
  pub past : slice_get numbers k ≡ None → None ≡ named
  past none = unnamed (λ ports are n p at same.
      let place = stands ports are n p at same in
      let within = slice_get_within numbers place.0 (record { body = body; port = n }) place.1 in
      elim (cases_lt k (length numbers)) [
        | inl inside ↦ (let here = slice_get-get_or numbers k (record { body = body; port = n }) inside in cc)
        | inr outside ↦ absurd (omega (arith, outside, within, place.2))
      ])
