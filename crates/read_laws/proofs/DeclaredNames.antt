-- A module that a netlist gives declares no name twice.
use Rattle.std.proofs.Common.{◌≡◌, ◌≢◌, ℕ, ◌<◌, Bool, true, false, cond, List, [], ◌∷◌, ◌++◌}
use Rattle.std.proofs.Common.{Option, None, Some, ◌⊎◌, ◌||◌, map, inl, inr, refl, sym, ap, ◌∙◌, subst, arith}
use Rattle.std.specs.List.{cons_option, filter_map, flat_map, list_any}
use Rattle.std.specs.Option.{option_map}
use Rattle.std.proofs.lemmas.Bool.{false≢true}
use Rattle.std.proofs.lemmas.List.{map-append}
use Rattle.std.proofs.lemmas.List.Elements.{filter_map-append}
use Rattle.std.proofs.lemmas.Option.{none-some, same_Some}
use Rattle.pw_defs.specs.declared.netlist.Inst.{Inst}
use Rattle.pw_defs.specs.declared.netlist.Net.{Net}
use Rattle.pw_defs.specs.declared.netlist.Port.{Port}
use Rattle.list_defs.specs.Members.{IsIn, same_name}
use Rattle.list_defs.proofs.Members.{IsIn-append_cases, IsIn-map_from}
use Rattle.list_defs.proofs.NameLemmas.{same_name-itself}
use Rattle.text_defs.specs.FirstPlace.{HasNoPlace}
use Rattle.net_text.specs.ModulesMeant.{insts_in, is_port_named, module_of, net_in, port_in, shape_of}
use Rattle.net_text.specs.NetlistGrammar.{Assigns, Directions, Header, Instance, Item, ModuleWords, Named, Names, Range, Shape, Shaped, Wires}
use Rattle.net_text.specs.SecondDeclarations.{Declaration, HeaderPort, InstanceName, PortDirection, WireName}
use Rattle.net_text.specs.SecondDeclarations.{IsInstance, IsNamed, IsRefused, IsWire, declarations, header_ports, item_declarations, named_in, shaped_ports}
use Rattle.design_defs.specs.Inputs.{AllDiffer, declared_names}
use Rattle.read_laws.proofs.OwnNames.{AreApart, apart_joined, differ_apart, made_from, split_at}

-- ports, wires and instances apart from what declares nothing anew
abbrev pub kind_of : Declaration → ℕ
kind_of (HeaderPort n shape) = 0
kind_of (WireName n range) = 1
kind_of (InstanceName n) = 2
kind_of (PortDirection n shape) = 3

abbrev pub text_of : Declaration → List ℕ
text_of d = (named_in d).text

-- the second cannot stand behind the first
abbrev Clash : Declaration → Declaration → Type 0
Clash d (HeaderPort n shape) = IsNamed n.text d
Clash d (PortDirection n shape) = ⊥
Clash d (WireName n range) = IsWire n.text d ⊎ IsInstance n.text d
Clash d (InstanceName n) = IsNamed n.text d

refused_behind : (before : List Declaration) (d e : Declaration) (behind : List Declaration) → IsIn d before → Clash d e → IsRefused before e behind
refused_behind before d (HeaderPort n shape) behind i c = inl (d, i, c)
refused_behind before d (PortDirection n shape) behind i c = absurd c
refused_behind before d (WireName n range) behind i (inl c) = inl (d, i, c)
refused_behind before d (WireName n range) behind i (inr c) = inr (inl (d, i, c))
refused_behind before d (InstanceName n) behind i c = (d, i, c)

-- declarations of one name clash, unless a wire repeats a port
clash_of : (d e : Declaration) → text_of d ≡ text_of e → kind_of d ≢ 3 → kind_of e ≢ 3 → ((kind_of d ≡ 0) → (kind_of e ≡ 1) → ⊥) → Clash d e
clash_of d (HeaderPort n shape) same not_d not_e other = same
clash_of d (PortDirection n shape) same not_d not_e other = absurd (not_e refl)
clash_of d (InstanceName n) same not_d not_e other = same
clash_of (HeaderPort m shape) (WireName n range) same not_d not_e other = absurd (other refl refl)
clash_of (PortDirection m shape) (WireName n range) same not_d not_e other = absurd (not_d refl)
clash_of (WireName m range') (WireName n range) same not_d not_e other = inl same
clash_of (InstanceName m) (WireName n range) same not_d not_e other = inr same

-- no two of the list clash
abbrev AreFree : List Declaration → Type 0
AreFree [] = Unit {0}
AreFree (d ∷ ds) = ((e : Declaration) → IsIn e ds → ¬ Clash d e) × AreFree ds

are_free : (ds : List Declaration)
    → ((front : List Declaration) (e : Declaration) (rest : List Declaration) → ds ≡ front ++ e ∷ rest → (d : Declaration) → IsIn d front → ¬ Clash d e)
    → AreFree ds
are_free [] none = tt
are_free (d ∷ ds) none = (
  (λ e i. let split = split_at e ds i in none (d ∷ split.0) e split.1 (ap (λ xs. d ∷ xs) split.2) d (inl refl)),
  are_free ds (λ front e rest split c i. none (d ∷ front) e rest (ap (λ xs. d ∷ xs) split) c (inr i)),
)

-- of two that clash both ways, one is the other
one_kind : (ds : List Declaration) → AreFree ds → (d e : Declaration) → IsIn d ds → IsIn e ds → Clash d e → Clash e d → kind_of d ≡ kind_of e
one_kind [] free d e i j c back = absurd i
one_kind (x ∷ ds) free d e (inl p) (inl q) c back = ap kind_of (p ∙ sym q)
one_kind (x ∷ ds) free d e (inl p) (inr j) c back = absurd (free.0 e j (subst (λ y. Clash y e) p c))
one_kind (x ∷ ds) free d e (inr i) (inl q) c back = absurd (free.0 d i (subst (λ y. Clash y d) q back))
one_kind (x ∷ ds) free d e (inr i) (inr j) c back = one_kind ds free.1 d e i j c back

-- what is chosen of declarations of one kind, under their names
abbrev pub Chooses : {X : Type 0} → ℕ → (Declaration → Option X) → (X → List ℕ) → Type 0
Chooses {X} kind choose name = (d : Declaration) (x : X) → choose d ≡ Some x → (kind_of d ≡ kind) × (name x ≡ text_of d)

chosen_apart : {X : Type 0} (kind : ℕ) (choose : Declaration → Option X) (name : X → List ℕ) → kind < 3 → Chooses kind choose name → (ds : List Declaration)
    → AreFree ds → AreApart (map name (filter_map choose ds))
chosen_apart kind choose name below chooses [] free = tt
chosen_apart {X} kind choose name below chooses (d ∷ ds) free = by (choose d) refl (chosen_apart kind choose name below chooses ds free.1)
  where
    other : (x : X) → choose d ≡ Some x → ¬ IsIn (name x) (map name (filter_map choose ds))
    other x chosen i =
        let from = IsIn-map_from name (name x) (filter_map choose ds) i in
        let made = made_from choose ds from.0 from.1 in
        let one = chooses d x chosen in
        let two = chooses made.0 from.0 made.2 in
        let of_one : kind_of d ≡ kind = one.0 in
        let of_two : kind_of made.0 ≡ kind = two.0 in
        free.0 made.0 made.1 (clash_of d made.0 (sym one.1 ∙ from.2 ∙ two.1) (λ h. omega (arith, h, of_one, below))
        (λ h. omega (arith, h, of_two, below)) (λ g h. omega (arith, g, h, of_one, of_two)))

    by : (o : Option X) → choose d ≡ o → AreApart (map name (filter_map choose ds)) → AreApart (map name (cons_option o (filter_map choose ds)))
    by None e rest = rest
    by (Some x) e rest = (other x e, rest)

-- what is chosen of ports or wires has no name of an instance
none_shared : {X : Type 0} (kind : ℕ) (choose : Declaration → Option X) (name : X → List ℕ) → kind < 2 → Chooses kind choose name
    → (text : Declaration → Option (List ℕ)) → Chooses 2 text (λ n. n) → (ds : List Declaration) → AreFree ds → (n : List ℕ)
    → IsIn n (map name (filter_map choose ds)) → ¬ IsIn n (filter_map text ds)
none_shared kind choose name below chooses text texts ds free n i j =
    let from = IsIn-map_from name n (filter_map choose ds) i in
    let first = made_from choose ds from.0 from.1 in
    let second = made_from text ds n j in
    let one = chooses first.0 from.0 first.2 in
    let two = texts second.0 n second.2 in
    let of_one : kind_of first.0 ≡ kind = one.0 in
    let of_two : kind_of second.0 ≡ 2 = two.0 in
    let same : text_of first.0 ≡ text_of second.0 = sym one.1 ∙ sym from.2 ∙ two.1 in
    let clash = clash_of first.0 second.0 same (λ h. omega (arith, h, of_one, below)) (λ h. omega (arith, h, of_two)) (λ g h. omega (arith, h, of_two)) in
    let back = clash_of second.0 first.0 (sym same) (λ h. omega (arith, h, of_two)) (λ h. omega (arith, h, of_one, below)) (λ g h. omega (arith, g, of_two)) in
    let kinds : kind_of first.0 ≡ kind_of second.0 = one_kind ds free first.0 second.0 first.1 second.1 clash back in
    omega (arith, kinds, of_one, of_two, below)

-- ---- ports, wires and instances

pub chooses_port : (given : List Declaration) → Chooses 0 (port_in given) (λ (p : Port). p.name)
chooses_port given (HeaderPort n shape) p made =
    (refl, by (λ s. record { name = n.text; dir = s.dir; range = s.range }) (λ s. refl) (shape_of n.text given) made)
  where
    by : (to : Shape → Port) → ((s : Shape) → (to s).name ≡ n.text) → (o : Option Shape) → option_map to o ≡ Some p → p.name ≡ n.text
    by to keeps None e = absurd (none-some p e)
    by to keeps (Some s) e = ap (λ (q : Port). q.name) (sym (same_Some (to s) p e)) ∙ keeps s
chooses_port given (PortDirection n shape) p made = absurd (none-some p made)
chooses_port given (WireName n range) p made = absurd (none-some p made)
chooses_port given (InstanceName n) p made = absurd (none-some p made)

-- a wire that is a port's is none of its own
net_told : (given : List Declaration) (n : Named) (range : Option Range) (w : Net) → net_in given (WireName n range) ≡ Some w
    → (w.name ≡ n.text) × (list_any (is_port_named n.text) given ≡ false)
net_told given n range w made = by (list_any (is_port_named n.text) given) made
  where
    by : (b : Bool) → cond b None (Some (record { name = n.text; range = range })) ≡ Some w → (w.name ≡ n.text) × (b ≡ false)
    by true e = absurd (none-some w e)
    by false e = (ap (λ (v : Net). v.name) (sym (same_Some _ w e)), refl)

pub chooses_net : (given : List Declaration) → Chooses 1 (net_in given) (λ (w : Net). w.name)
chooses_net given (HeaderPort n shape) w made = absurd (none-some w made)
chooses_net given (PortDirection n shape) w made = absurd (none-some w made)
chooses_net given (WireName n range) w made = (refl, (net_told given n range w made).0)
chooses_net given (InstanceName n) w made = absurd (none-some w made)

abbrev pub instance_text : Declaration → Option (List ℕ)
instance_text (HeaderPort n shape) = None
instance_text (PortDirection n shape) = None
instance_text (WireName n range) = None
instance_text (InstanceName n) = Some n.text

pub chooses_instance : Chooses 2 instance_text (λ n. n)
chooses_instance (HeaderPort n shape) t made = absurd (none-some t made)
chooses_instance (PortDirection n shape) t made = absurd (none-some t made)
chooses_instance (WireName n range) t made = absurd (none-some t made)
chooses_instance (InstanceName n) t made = (refl, sym (same_Some n.text t made))

passing_one : (test : Declaration → Bool) (ds : List Declaration) (d : Declaration) → IsIn d ds → test d ≡ true → list_any test ds ≡ true
passing_one test [] d i passes = absurd i
passing_one test (x ∷ ds) d (inl e) passes = let first : test x ≡ true = ap test (sym e) ∙ passes in cc
passing_one test (x ∷ ds) d (inr i) passes = by (test x) (passing_one test ds d i passes)
  where
    by : (b : Bool) → list_any test ds ≡ true → (b || list_any test ds) ≡ true
    by true rest = refl
    by false rest = rest

-- no wire has the name of a port
no_port_is_wire : (ds : List Declaration) (n : List ℕ) → IsIn n (map (λ (p : Port). p.name) (filter_map (port_in ds) ds))
    → ¬ IsIn n (map (λ (w : Net). w.name) (filter_map (net_in ds) ds))
no_port_is_wire ds n i j =
    let port = IsIn-map_from (λ (p : Port). p.name) n (filter_map (port_in ds) ds) i in
    let wire = IsIn-map_from (λ (w : Net). w.name) n (filter_map (net_in ds) ds) j in
    let of_port = made_from (port_in ds) ds port.0 port.1 in
    let of_wire = made_from (net_in ds) ds wire.0 wire.1 in
    by of_port.0 port.0 of_port.2 of_wire.0 wire.0 of_wire.2 of_port.1 (sym port.2 ∙ wire.2)
  where
    by : (d : Declaration) (p : Port) → port_in ds d ≡ Some p → (e : Declaration) (w : Net) → net_in ds e ≡ Some w → IsIn d ds → p.name ≡ w.name → ⊥
    by (HeaderPort m shape) p as_port (WireName k range) w as_wire i same =
        let told = net_told ds k range w as_wire in
        let name : m.text ≡ k.text = sym (chooses_port ds (HeaderPort m shape) p as_port).1 ∙ same ∙ told.0 in
        let here : same_name m.text k.text ≡ true = ap (same_name m.text) (sym name) ∙ same_name-itself m.text in
        false≢true (sym told.1 ∙ passing_one (is_port_named k.text) ds (HeaderPort m shape) i here)
    by (HeaderPort m shape) p as_port (HeaderPort k other) w as_wire i same = none-some w as_wire
    by (HeaderPort m shape) p as_port (PortDirection k other) w as_wire i same = none-some w as_wire
    by (HeaderPort m shape) p as_port (InstanceName k) w as_wire i same = none-some w as_wire
    by (PortDirection m shape) p as_port e w as_wire i same = none-some p as_port
    by (WireName m range) p as_port e w as_wire i same = none-some p as_port
    by (InstanceName m) p as_port e w as_wire i same = none-some p as_port

-- instances are declared by their items alone
none_in_shaped : (shape : Shape) (more : List (Option Shape × Named)) → filter_map instance_text (shaped_ports shape more) ≡ []
none_in_shaped shape [] = refl
none_in_shaped shape ((None, name) ∷ more) = none_in_shaped shape more
none_in_shaped shape ((Some other, name) ∷ more) = none_in_shaped other more

none_made : {X : Type 0} (to : X → Declaration) → ((x : X) → instance_text (to x) ≡ None) → (xs : List X) → filter_map instance_text (map to xs) ≡ []
none_made to none [] = refl
none_made to none (x ∷ xs) = ap (λ o. cons_option o (filter_map instance_text (map to xs))) (none x) ∙ none_made to none xs

none_in_header : (header : Header) → filter_map instance_text (header_ports header) ≡ []
none_in_header (Names names) = none_made (λ n. HeaderPort n None) (λ n. refl) names
none_in_header (Shaped shape name more) = none_in_shaped shape more

abbrev pub inst_name : Inst → List ℕ
inst_name i = i.name

of_item : (item : Item) → map inst_name (insts_in item) ≡ filter_map instance_text (item_declarations item)
of_item (Directions shape names) = sym (none_made (λ n. PortDirection n shape) (λ n. refl) names)
of_item (Wires range names) = sym (none_made (λ n. WireName n range) (λ n. refl) names)
of_item (Assigns assigns) = refl
of_item (Instance words) = refl

of_items : (items : List Item) → map inst_name (flat_map insts_in items) ≡ filter_map instance_text (flat_map item_declarations items)
of_items [] = refl
of_items (item ∷ items) =
    map-append inst_name (insts_in item) (flat_map insts_in items)
    ∙ (λ i. of_item item i ++ of_items items i)
    ∙ sym (filter_map-append instance_text (item_declarations item) (flat_map item_declarations items))

pub instance_names : (m : ModuleWords) → map inst_name (flat_map insts_in m.items) ≡ filter_map instance_text (declarations m)
unfolding declarations
instance_names m =
    of_items m.items
    ∙ ap (λ ns. ns ++ filter_map instance_text (flat_map item_declarations m.items)) (sym (none_in_header m.header))
    ∙ sym (filter_map-append instance_text (header_ports m.header) (flat_map item_declarations m.items))

pub same_texts : (ns : List (List ℕ)) → map (λ (n : List ℕ). n) ns ≡ ns
same_texts [] = refl
same_texts (n ∷ ns) = ap (λ xs. n ∷ xs) (same_texts ns)

module _ (m : ModuleWords) (none : HasNoPlace IsRefused (declarations m)) where
  free : AreFree (declarations m)
  free = are_free (declarations m) (λ front e rest split d i clash. none front e rest split (refused_behind front d e rest i clash))

  abbrev ports : List (List ℕ)
  ports = map (λ (p : Port). p.name) (filter_map (port_in (declarations m)) (declarations m))

  abbrev wires : List (List ℕ)
  wires = map (λ (w : Net). w.name) (filter_map (net_in (declarations m)) (declarations m))

  abbrev texts : List (List ℕ)
  texts = filter_map instance_text (declarations m)

  apart : AreApart (ports ++ wires ++ texts)
  apart = apart_joined (ports ++ wires) texts
      (apart_joined ports wires
      (chosen_apart 0 (port_in (declarations m)) (λ (p : Port). p.name) (omega arith) (chooses_port (declarations m)) (declarations m) free)
      (chosen_apart 1 (net_in (declarations m)) (λ (w : Net). w.name) (omega arith) (chooses_net (declarations m)) (declarations m) free)
      (no_port_is_wire (declarations m)))
      (subst AreApart (same_texts texts) (chosen_apart 2 instance_text (λ n. n) (omega arith) chooses_instance (declarations m) free))
      (λ n i. elim (IsIn-append_cases n ports wires i) [
        | inl port ↦ none_shared 0 (port_in (declarations m)) (λ (p : Port). p.name) (omega arith) (chooses_port (declarations m)) instance_text
            chooses_instance (declarations m) free n port
        | inr wire ↦ none_shared 1 (net_in (declarations m)) (λ (w : Net). w.name) (omega arith) (chooses_net (declarations m)) instance_text
            chooses_instance (declarations m) free n wire
      ])

-- a module that declares only what it can has names of their own
pub own_names : (m : ModuleWords) → HasNoPlace IsRefused (declarations m) → AllDiffer (declared_names (module_of m))
unfolding module_of
own_names m none =
    let P : List (List ℕ) → Type 0 = λ ns. AreApart (ports m none ++ wires m none ++ ns) in
    differ_apart (declared_names (module_of m)) (subst P (sym (instance_names m)) (apart m none))
