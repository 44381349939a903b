-- What is gathered of one thing after the other is gathered of all of them.
use Rattle.std.proofs.Common.{◌≡◌, ℕ, ◌+◌, ◌<◌, ◌≤◌, Bool, true, false, eqb, List, [], ◌∷◌, length, take, get_or, slice_get, Option, Some, None, option_map, unwrap_or, ◌⊎◌, inl, inr, refl, sym, ap, ◌∙◌, subst, arith}
use Rattle.std.proofs.lemmas.Bool.{eqb-true, eqb-false}
use Rattle.std.proofs.lemmas.List.{take_more}
use Rattle.std.proofs.lemmas.Option.{slice_get_within, slice_get-get_or}
use Rattle.pw_defs.specs.declared.intent.Unit.{Unit as PowerUnit}
use Rattle.pw_defs.specs.declared.supplies.Said.{Said}
use Rattle.pw_defs.specs.declared.supplies.Supply.{Supply}
use Rattle.pw_defs.specs.declared.supplies.SupplyKind.TheVariants.{SwitchOut}
use Rattle.list_defs.specs.Members.{IsIn}
use Rattle.list_defs.proofs.Members.{IsIn-append_cases, IsIn-slice_get}
use Rattle.supply_defs.specs.UnitLists.{IsSeen}
use Rattle.supply_defs.specs.UnitViews.{kind_at}
use Rattle.supply_defs.specs.Values.{IsMentioned, IsNamedInput, IsPortWithin, IsSwitchOutput}
use Rattle.unit_lists.specs.Plans.{Always, Grows, IsInputPlanned, IsPlan, IsPortPlanned, IsSaidPlanned, IsSeenPlanned, IsSupplyPlanned, IsUnitPlanned, IsWholePlan, Plans}
use Rattle.unit_lists.specs.Roots.{AreRoots}
use Rattle.unit_lists.specs.declared.plans.Plan.{Plan}
use Rattle.unit_lists.proofs.PlanLemmas.{grows_none, grows_on, input_stays, port_stays, said_stays, seen_stays}

-- a thing at a place of a list is one of it
pub at_place : {X : Type 0} (xs : List X) (i : ℕ) (d : X) → i < length xs → IsIn (get_or xs i d) xs
at_place xs i d below = IsIn-slice_get xs i (get_or xs i d) (slice_get-get_or xs i d below)

-- one thing more is gathered
pub one_gathered : {X : Type 0} (supplies : List Supply) (p q r : Plan) (xs : List X) (i : ℕ) (d : X) (Holds : List PowerUnit → X → Type 0)
    (Planned : List PowerUnit → Plan → X → Type 0) → ((units : List PowerUnit) (x : X) → Grows q r → Planned units q x → Planned units r x) → i < length xs
    → Plans supplies p q (λ units. (x : X) → IsIn x xs → Holds units x) (λ units. (x : X) → IsIn x (take i xs) → Planned units q x)
    → Plans supplies q r (λ units. Holds units (get_or xs i d)) (λ units. Planned units r (get_or xs i d))
    → Plans supplies p r (λ units. (x : X) → IsIn x xs → Holds units x) (λ units. (x : X) → IsIn x (take (i + 1) xs) → Planned units r x)
one_gathered {X} supplies p q r xs i d Holds Planned stays below h k = record {
  grows = grows_on p q r h.grows k.grows;
  plan = λ units holds was.
      let before = h.plan units holds was in
      let now = k.plan units (holds (get_or xs i d) (at_place xs i d below)) before.0 in
      (now.0, λ x there. at units x before.1 now.1 (IsIn-append_cases x (take i xs) (get_or xs i d ∷ []) (let I : List X → Type 0 = λ ys. IsIn x ys in subst I (take_more xs i d below) there)));
}
  where
    at : (units : List PowerUnit) (x : X) → ((y : X) → IsIn y (take i xs) → Planned units q y) → Planned units r (get_or xs i d)
        → IsIn x (take i xs) ⊎ IsIn x (get_or xs i d ∷ []) → Planned units r x
    at units x before now (inl was) = stays units x k.grows (before x was)
    at units x before now (inr (inl same)) = let P : X → Type 0 = λ y. Planned units r y in subst P (sym same) now
    at units x before now (inr (inr none)) = absurd none

-- what stands at the next place is gathered
pub one_more_at : {X : Type 0} (supplies : List Supply) (p q r : Plan) (xs : List X) (i : ℕ) (Holds Here : List PowerUnit → Type 0)
    (Planned : List PowerUnit → Plan → ℕ → X → Type 0) → ((units : List PowerUnit) (n : ℕ) (x : X) → Grows q r → Planned units q n x → Planned units r n x)
    → ((units : List PowerUnit) → Holds units → Here units)
    → Plans supplies p q Holds (λ units. (n : ℕ) → n < i → (x : X) → slice_get xs n ≡ Some x → Planned units q n x)
    → Plans supplies q r Here (λ units. (x : X) → slice_get xs i ≡ Some x → Planned units r i x)
    → Plans supplies p r Holds (λ units. (n : ℕ) → n < i + 1 → (x : X) → slice_get xs n ≡ Some x → Planned units r n x)
one_more_at {X} supplies p q r xs i Holds Here Planned stays here h k = record {
  grows = grows_on p q r h.grows k.grows;
  plan = λ units holds was.
      let before = h.plan units holds was in
      let now = k.plan units (here units holds) before.0 in
      (now.0, λ n below x there. at units before.1 now.1 n below x there (eqb n i) refl);
}
  where
    at : (units : List PowerUnit) → ((n : ℕ) → n < i → (x : X) → slice_get xs n ≡ Some x → Planned units q n x) → ((x : X) → slice_get xs i ≡ Some x → Planned units r i x)
        → (n : ℕ) → n < i + 1 → (x : X) → slice_get xs n ≡ Some x → (b : Bool) → eqb n i ≡ b → Planned units r n x
    at units before now n below x there true e =
        let same : n ≡ i = eqb-true n i e in
        let P : ℕ → Type 0 = λ m. Planned units r m x in
        let S : ℕ → Type 0 = λ m. slice_get xs m ≡ Some x in
        subst P (sym same) (now x (subst S same there))
    at units before now n below x there false e = let other = eqb-false n i e in stays units n x k.grows (before n (omega arith) x there)

-- what was gathered at all places is gathered of all
pub all_gathered : {X : Type 0} (supplies : List Supply) (p q : Plan) (xs : List X) (i : ℕ) (Holds : List PowerUnit → Type 0) (Planned : List PowerUnit → ℕ → X → Type 0)
    → length xs ≤ i → Plans supplies p q Holds (λ units. (n : ℕ) → n < i → (x : X) → slice_get xs n ≡ Some x → Planned units n x)
    → Plans supplies p q Holds (λ units. (n : ℕ) (x : X) → slice_get xs n ≡ Some x → Planned units n x)
all_gathered supplies p q xs i Holds Planned all h = record {
  grows = h.grows;
  plan = λ units holds was. let now = h.plan units holds was in (now.0, λ n x there. now.1 n (let below = slice_get_within xs n x there in omega arith) x there);
}

pub supply_stays : (supplies : List Supply) (units : List PowerUnit) (p q : Plan) (n : ℕ) (s : Supply) → Grows p q → IsSupplyPlanned supplies units p n s
    → IsSupplyPlanned supplies units q n s
supply_stays supplies units p q n s grows h = record {
  own = seen_stays supplies units p q s.unit n grows h.own;
  said = λ said there. said_stays supplies units p q n said grows (h.said said there);
  inputs = λ switch input there. input_stays supplies units p q s.unit n input grows (h.inputs switch input there);
}

pub unit_stays : (supplies : List Supply) (units : List PowerUnit) (p q : Plan) (n : ℕ) (u : PowerUnit) → Grows p q → IsUnitPlanned supplies units p n u
    → IsUnitPlanned supplies units q n u
unit_stays supplies units p q n u grows h outer is port there = port_stays supplies units p q outer n port grows (h outer is port there)

-- what stands at the place of a supply
one_there : {X : Type 0} (xs : List X) (n : ℕ) (a b : X) → slice_get xs n ≡ Some a → slice_get xs n ≡ Some b → a ≡ b
one_there xs n a b e f = cc

said_there : (supplies : List Supply) (n : ℕ) (s : Supply) (saids : List Said) → slice_get supplies n ≡ Some s → saids ≡ s.said → (said : Said) → IsIn said saids
    → IsMentioned supplies said.unit n said.value
said_there supplies n s saids is same said there =
    let I : List Said → Type 0 = λ xs. IsIn said xs in
    subst I (same ∙ sym (ap (λ (o : Option Supply). unwrap_or (option_map (λ (t : Supply). t.said) o) []) is)) there

-- a supply is seen by its unit, and what is said on it is added
own_and_said : (supplies : List Supply) (p q r : Plan) (n : ℕ) (s : Supply) (saids : List Said) → slice_get supplies n ≡ Some s → saids ≡ s.said
    → Plans supplies p q (λ units. IsSeen supplies units s.unit n) (λ units. IsSeenPlanned supplies units q s.unit n)
    → Plans supplies q r (λ units. (said : Said) → IsIn said saids → IsMentioned supplies said.unit n said.value)
    (λ units. (said : Said) → IsIn said saids → IsSaidPlanned supplies units r n said)
    → Plans supplies p r Always (λ units. IsSeenPlanned supplies units r s.unit n × ((said : Said) → IsIn said s.said → IsSaidPlanned supplies units r n said))
own_and_said supplies p q r n s saids is same h k = record {
  grows = grows_on p q r h.grows k.grows;
  plan = λ units any was.
      let one = h.plan units (IsSeen.own s is refl) was in
      let two = k.plan units (said_there supplies n s saids is same) one.0 in (
        two.0,
        (
          seen_stays supplies units q r s.unit n k.grows one.1,
          λ said there. two.1 said (let I : List Said → Type 0 = λ xs. IsIn said xs in subst I (sym same) there),
        ),
      );
}

kind_there : (supplies : List Supply) (n : ℕ) (s : Supply) → slice_get supplies n ≡ Some s → kind_at supplies n ≡ Some s.kind
kind_there supplies n s is = ap (option_map (λ (t : Supply). t.kind)) is

-- a supply that is no switch output is whole
pub plain_whole : (supplies : List Supply) (p q r : Plan) (n : ℕ) (s : Supply) (saids : List Said) → slice_get supplies n ≡ Some s → saids ≡ s.said
    → ¬ (kind_at supplies n ≡ Some SwitchOut) → Plans supplies p q (λ units. IsSeen supplies units s.unit n) (λ units. IsSeenPlanned supplies units q s.unit n)
    → Plans supplies q r (λ units. (said : Said) → IsIn said saids → IsMentioned supplies said.unit n said.value)
    (λ units. (said : Said) → IsIn said saids → IsSaidPlanned supplies units r n said)
    → Plans supplies p r Always (λ units. (x : Supply) → slice_get supplies n ≡ Some x → IsSupplyPlanned supplies units r n x)
plain_whole supplies p q r n s saids is same other h k =
    let both = own_and_said supplies p q r n s saids is same h k in
    record {
      grows = both.grows;
      plan = λ units any was.
          let now = both.plan units any was in (
            now.0,
            λ x there. (let P : Supply → Type 0 = λ t. IsSupplyPlanned supplies units r n t in subst P (one_there supplies n s x is there) (record {
              own = now.1.0;
              said = now.1.1;
              inputs = λ switch. absurd (other (kind_there supplies n s is ∙ ap Some switch));
            })),
          );
    }

-- a switch output is whole where links from its inputs are added
pub switch_whole : (supplies : List Supply) (p q r t : Plan) (n : ℕ) (s : Supply) (saids : List Said) (inputs : List ℕ) → slice_get supplies n ≡ Some s → saids ≡ s.said
    → inputs ≡ s.inputs → kind_at supplies n ≡ Some SwitchOut
    → Plans supplies p q (λ units. IsSeen supplies units s.unit n) (λ units. IsSeenPlanned supplies units q s.unit n)
    → Plans supplies q r (λ units. (said : Said) → IsIn said saids → IsMentioned supplies said.unit n said.value)
    (λ units. (said : Said) → IsIn said saids → IsSaidPlanned supplies units r n said)
    → Plans supplies r t (λ units. (input : ℕ) → IsIn input inputs → IsSwitchOutput supplies s.unit n × IsNamedInput supplies n input)
    (λ units. (input : ℕ) → IsIn input inputs → IsInputPlanned supplies units t s.unit n input)
    → Plans supplies p t Always (λ units. (x : Supply) → slice_get supplies n ≡ Some x → IsSupplyPlanned supplies units t n x)
switch_whole supplies p q r t n s saids inputs is same same_inputs switch h k l =
    let both = own_and_said supplies p q r n s saids is same h k in
    record {
      grows = grows_on p r t both.grows l.grows;
      plan = λ units any was.
          let now = both.plan units any was in
          let then = l.plan units (λ input there. (output, named input there)) now.0 in (
            then.0,
            λ x there. (let P : Supply → Type 0 = λ y. IsSupplyPlanned supplies units t n y in subst P (one_there supplies n s x is there) (record {
              own = seen_stays supplies units r t s.unit n l.grows now.1.0;
              said = λ said there. said_stays supplies units r t n said l.grows (now.1.1 said there);
              inputs = λ kind input there. then.1 input (let I : List ℕ → Type 0 = λ xs. IsIn input xs in subst I (sym same_inputs) there);
            })),
          );
    }
  where
    output : IsSwitchOutput supplies s.unit n
    output = record { switch = s; there = is; kind = (let e = kind_there supplies n s is in cc); made_in = refl }

    named : (input : ℕ) → IsIn input inputs → IsNamedInput supplies n input
    named input there =
        let I : List ℕ → Type 0 = λ xs. IsIn input xs in
        subst I (same_inputs ∙ sym (ap (λ (o : Option Supply). unwrap_or (option_map (λ (y : Supply). y.inputs) o) []) is)) there

-- the ports of a unit that stands in another one are in the plan
pub unit_whole : (supplies : List Supply) (p q : Plan) (n outer : ℕ) (u : PowerUnit) (ports : List ℕ) → u.outer ≡ Some outer → ports ≡ u.ports
    → Plans supplies p q (λ units. (port : ℕ) → IsIn port ports → IsPortWithin units outer n port) (λ units. (port : ℕ) → IsIn port ports → IsPortPlanned supplies units q outer n port)
    → Plans supplies p q (λ units. slice_get units n ≡ Some u) (λ units. IsUnitPlanned supplies units q n u)
unit_whole supplies p q n outer u ports is same h = record {
  grows = h.grows;
  plan = λ units there was.
      let now = h.plan units (λ port listed. record { macro = u; there = there; outer = is; listed = (let I : List ℕ → Type 0 = λ xs. IsIn port xs in subst I same listed) }) was in (
        now.0,
        λ other also port listed.
            let one : outer ≡ other = cc in
            let P : ℕ → Type 0 = λ m. IsPortPlanned supplies units q m n port in
            subst P one (now.1 port (let I : List ℕ → Type 0 = λ xs. IsIn port xs in subst I (sym same) listed)),
      );
}

-- the ports of a unit that stands in none are no one's
pub outermost_whole : (supplies : List Supply) (p : Plan) (n : ℕ) (u : PowerUnit) → u.outer ≡ None
    → Plans supplies p p (λ units. slice_get units n ≡ Some u) (λ units. IsUnitPlanned supplies units p n u)
outermost_whole supplies p n u none = record { grows = grows_none p; plan = λ units there was. (was, λ outer is port listed. cc) }

-- what is planned of a unit is planned of the one at its place
pub unit_at : (supplies : List Supply) (p q : Plan) (units : List PowerUnit) (n : ℕ) (u : PowerUnit) → slice_get units n ≡ Some u
    → Plans supplies p q (λ all. slice_get all n ≡ Some u) (λ all. IsUnitPlanned supplies all q n u)
    → Plans supplies p q (λ all. slice_get all n ≡ Some u) (λ all. (x : PowerUnit) → slice_get units n ≡ Some x → IsUnitPlanned supplies all q n x)
unit_at supplies p q units n u is h = record {
  grows = h.grows;
  plan = λ all there was.
      let now = h.plan all there was in
      (now.0, λ x also. (let P : PowerUnit → Type 0 = λ y. IsUnitPlanned supplies all q n y in subst P (one_there units n u x is also) now.1));
}

-- where nothing was in a plan but roots, all that is then gathered makes it whole
pub whole_plan : (supplies : List Supply) (units : List PowerUnit) (p q r : Plan) → AreRoots supplies units p.roots → p.seen.keys ≡ [] → p.met.keys ≡ [] → p.given.keys ≡ []
    → p.begins.items ≡ [] → p.links.keys ≡ []
    → Plans supplies p q Always (λ all. (n : ℕ) (s : Supply) → slice_get supplies n ≡ Some s → IsSupplyPlanned supplies all q n s)
    → Plans supplies q r (λ all. all ≡ units) (λ all. (n : ℕ) (u : PowerUnit) → slice_get units n ≡ Some u → IsUnitPlanned supplies all r n u)
    → IsWholePlan supplies units r
whole_plan supplies units p q r roots no_seen no_met no_given no_begins no_links h k =
    let one = h.plan units tt begun in
    let two = k.plan units refl one.0 in
    record {
      plan = two.0;
      supplies_in = λ n s there. supply_stays supplies units q r n s k.grows (one.1 n s there);
      units_in = two.1;
    }
  where
    gone : {X : Type 0} (xs : List X) (x : X) → xs ≡ [] → IsIn x xs → ⊥
    gone xs x none there = let I : List _ → Type 0 = λ ys. IsIn x ys in subst I none there

    begun : IsPlan supplies units p
    begun = record {
      roots = roots;
      seen = λ a there. absurd (gone p.seen.keys a no_seen there);
      met = λ a there. absurd (gone p.met.keys a no_met there);
      given = λ a there. absurd (gone p.given.keys a no_given there);
      begins = λ a v there. absurd (gone p.begins.items (a, v) no_begins there);
      links = λ a b there. absurd (gone p.links.keys (a, b) no_links there);
    }
