-- What the names that were met say of the faults of a design.
use Rattle.std.proofs.Common.{◌≡◌, ◌≢◌, ℕ, List, Option, None, Some, length, slice_get, inl, inr, refl, sym, ap, ◌∙◌, subst, arith}
use Rattle.std.specs.Prelude.{MatchOption}
use Rattle.std.specs.Cmp.{nat_cmp_is}
use Rattle.std.specs.Ordering.{nat_cmp, ordering_then}
use Rattle.std.specs.declared.cmp.Ordering.{Ordering}
use Rattle.std.specs.declared.cmp.Ordering.TheVariants.{Less, Equal, Greater}
use Rattle.std.proofs.lemmas.Bool.{cases_lt}
use Rattle.std.proofs.lemmas.Option.{same_Some, slice_get_within}
use Rattle.pw_defs.specs.declared.design.Body.TheVariants.{Module as ModuleBody}
use Rattle.pw_defs.specs.declared.faults.AtModule.{AtModule}
use Rattle.pw_defs.specs.declared.faults.DesignFault.TheVariants.{N12}
use Rattle.pw_defs.specs.declared.netlist.Module.{Module}
use Rattle.list_defs.specs.Orders.{IsLeast, IsRising, name_cmp}
use Rattle.list_defs.proofs.Few.{place_of_member}
use Rattle.list_defs.proofs.OneList.{one_place}
use Rattle.list_defs.proofs.Rising.{not_before_itself, not_both_before, rising_at}
use Rattle.design_defs.specs.DesignFaults.{Fault, FaultKind, HasFirstFault, HasThingName, IsFault, StandsAt, Thing, at_line, fault_cmp, kind_number, place_of_fault, way_of, HasNoneBefore}
use Rattle.design_defs.specs.Hierarchy.{IsInstance, IsOfModule, Sources, Way, way_cmp}
use Rattle.design_defs.proofs.BitOrders.{way_exact, way_total}
use Rattle.module_rows.specs.declared.plain.Netlist.{Netlist}
use Rattle.net_hierarchy.proofs.NoneBefore.{later_kind, nat_cmp_same, same_or_less}
use Rattle.net_hierarchy.specs.Ordered.{HasNoneOf}
use Rattle.net_instances.specs.Instances.{AreInstances}
use Rattle.net_instances.specs.declared.numbering.Instances.{Instances}
use Rattle.net_sizes.specs.declared.sizes.Counts.{Counts}
use Rattle.net_names.specs.Answers.{IsAnswer}
use Rattle.net_names.specs.Meets.{name_at_cmp}
use Rattle.net_names.specs.Things.{HasMet, HasPlace, IsBelow, IsTwice}
use Rattle.net_names.specs.declared.meeting.Meeting.{Meeting}
use Rattle.net_names.specs.declared.meeting.NameAt.{NameAt}
use Rattle.net_names.proofs.Stands.{one_module}

-- what stands somewhere stands in a module
stand_module : (s : Sources) (t : Thing) (way : Way) (number line : ℕ) → StandsAt s t way number line → (m : Module) × IsOfModule s way number m
stand_module s t way number line (StandsAt.instance name m e is on) = (m, is)
stand_module s t way number line (StandsAt.module_port m other same is on) = (m, is)
stand_module s t way number line (StandsAt.cell_port name c m other same body is on) = (m, is)
stand_module s t way number line (StandsAt.model_port name c m other same body is on) = (m, is)

-- a thing is at an instance
at_instance : (s : Sources) (t : Thing) (name : List ℕ) → HasThingName s t name → IsInstance s (way_of t)
at_instance s _ _ (HasThingName.instance name outer is) = is
at_instance s _ _ (HasThingName.port way number p has) = (has.0, has.2)
at_instance s _ _ (HasThingName.vector_bit way number p range place has ranged within) = (has.0, has.2)

-- a fault of two things of one name
record IsTwiceFault (s : Sources) (g : Fault) : Type 0 where
  pub x : Thing
  pub y : Thing
  pub name : List ℕ
  pub way : Way
  pub n : ℕ
  pub line : ℕ
  pub of_x : HasThingName s x name
  pub of_y : HasThingName s y name
  pub other : x ≢ y
  pub later : way_cmp (way_of y) (way_of x) ≢ Less
  pub stands : StandsAt s y way n line
  pub is : g ≡ at_line FaultKind.path_twice way n line name

twice_fault : (s : Sources) (g : Fault) → IsFault s g → kind_number FaultKind.path_twice ≡ kind_number g.kind → IsTwiceFault s g
twice_fault s _ (IsFault.path_twice x y name way n line of_x of_y other later stands) e =
    record { x = x; y = y; name = name; way = way; n = n; line = line; of_x = of_x; of_y = of_y; other = other; later = later; stands = stands; is = refl }
twice_fault s _ (IsFault.module_twice n earlier m other a b c d) e = absurd (omega (arith, e))
twice_fault s _ (IsFault.module_and_cell n c m a b) e = absurd (omega (arith, e))
twice_fault s _ (IsFault.port_mismatch n m model a b c d) e = absurd (omega (arith, e))
twice_fault s _ (IsFault.recursion way n of_inst m i a b c d) e = absurd (omega (arith, e))
twice_fault s _ (IsFault.no_top a) e = absurd (omega (arith, e))
twice_fault s _ (IsFault.unknown_type way n m i a b c) e = absurd (omega (arith, e))
twice_fault s _ (IsFault.size a) e = absurd (omega (arith, e))
twice_fault s _ (IsFault.unknown_port way n m i c body a b d f g) e = absurd (omega (arith, e))
twice_fault s _ (IsFault.selected_in_conn way n m i c x name a b d f g) e = absurd (omega (arith, e))
twice_fault s _ (IsFault.selected_in_assign way n m x name a b c) e = absurd (omega (arith, e))
twice_fault s _ (IsFault.width_of_conn way n m i c x p a b d f g h k) e = absurd (omega (arith, e))
twice_fault s _ (IsFault.width_of_assign way n m x name names a b c d f g) e = absurd (omega (arith, e))
twice_fault s _ (IsFault.multi_driven way other_way n number other line other_line m x source other_source name a b c d f g) e = absurd (omega (arith, e))
twice_fault s _ (IsFault.driven_input way n number line m x source name a b c d) e = absurd (omega (arith, e))
twice_fault s _ (IsFault.wire_loop way n line m x source name a b c) e = absurd (omega (arith, e))

module _ (s : Sources) (n : Netlist) (bits : Counts) (made : Instances) (are : AreInstances s n bits made) (m : Meeting)
    (h : HasMet s are.ways (IsBelow are.ways (length made.rows) 0 0) m) where
  rising : IsRising way_cmp are.ways
  rising = are.all_ways.rising

  -- the number of an instance
  number_of : (way : Way) → IsInstance s way → (k : ℕ) × (slice_get are.ways k ≡ Some way)
  number_of way is = place_of_member way are.ways (are.all_ways.all way is)

  all_below : (x : Thing) (name : List ℕ) → HasThingName s x name → IsBelow are.ways (length made.rows) 0 0 x
  all_below x name of_x =
      let place = number_of (way_of x) (at_instance s x name of_x) in
      record { at = place.0; there = place.1; below = inl (omega (arith, slice_get_within are.ways place.0 (way_of x) place.1, are.count)) }

  -- a fault as a name that was met again
  record IsMetAgain (g : Fault) (twice : IsTwiceFault s g) : Type 0 where
    pub holder : ℕ
    pub there : slice_get are.ways holder ≡ Some twice.way
    pub is : IsTwice s are.ways (IsBelow are.ways (length made.rows) 0 0) (record { place = record { holder = holder; line = twice.line }; name = twice.name })

  met_again : (g : Fault) (twice : IsTwiceFault s g) → IsMetAgain g twice
  met_again g twice =
      let in_module = stand_module s twice.y twice.way twice.n twice.line twice.stands in
      let place = number_of twice.way (ModuleBody twice.n, in_module.1.body) in
      record {
        holder = place.0;
        there = place.1;
        is = record {
          x = twice.x;
          y = twice.y;
          has_x = all_below twice.x twice.name twice.of_x;
          has_y = all_below twice.y twice.name twice.of_y;
          of_x = twice.of_x;
          of_y = twice.of_y;
          other = twice.other;
          later = twice.later;
          stands = record { way = twice.way; number = twice.n; there = place.1; stands = twice.stands };
        };
      }

  pub none_answered : m.first ≡ None → HasNoneOf s FaultKind.path_twice
  none_answered none g is same =
      let again = met_again g (twice_fault s g is (sym same)) in
      let P : Option NameAt → Type 0 = λ o.
      MatchOption o ((at : NameAt) → IsTwice s are.ways (IsBelow are.ways (length made.rows) 0 0) at → ⊥)
      (λ at. IsLeast name_at_cmp (IsTwice s are.ways (IsBelow are.ways (length made.rows) 0 0)) at) in
      subst P none h.first _ again.is

  -- THE ORDER of faults and of names at places
  later_at : (v w : Way) (a b k l line other : ℕ) (name last : List ℕ) → slice_get are.ways a ≡ Some v → slice_get are.ways b ≡ Some w → (v ≡ w → k ≡ l)
      → fault_cmp (at_line FaultKind.path_twice v k line name) (at_line FaultKind.path_twice w l other last) ≡ Less
      → name_at_cmp (record { place = record { holder = a; line = line }; name = name }) (record { place = record { holder = b; line = other }; name = last }) ≡ Less
  later_at v w a b k l line other name last at_v at_w numbers less = by (way_cmp v w) refl less
    where
      rest : Ordering
      rest = ordering_then (nat_cmp line other) (name_cmp name last)

      of_less : way_cmp v w ≡ Less → ordering_then (nat_cmp a b) rest ≡ Less
      of_less ways = elim (cases_lt a b) [
        | inl lower ↦ ap (λ o. ordering_then o rest) (sym (nat_cmp_is a b Less lower))
        | inr past ↦ elim (same_or_less b a past) [
          | inl e ↦ absurd (not_before_itself way_cmp way_total w (subst (λ u. way_cmp u w ≡ Less) (same_Some v w (sym at_v ∙ ap (slice_get are.ways) (sym e) ∙ at_w)) ways))
          | inr more ↦ absurd (not_both_before way_cmp way_total v w ways (rising_at way_cmp are.ways rising b a w v more at_w at_v))
        ]
      ]

      by : (o : Ordering) → way_cmp v w ≡ o → ordering_then o (ordering_then (nat_cmp k l) rest) ≡ Less → ordering_then (nat_cmp a b) rest ≡ Less
      by Less ways e = of_less ways
      by Equal ways e =
          let same : v ≡ w = way_exact v w ways in
          let places : a ≡ b = one_place way_cmp way_total are.ways rising a b w (at_v ∙ ap Some same) at_w in
          ap (λ o. ordering_then o rest) (nat_cmp_same a b places) ∙ sym (ap (λ o. ordering_then o rest) (nat_cmp_same k l (numbers same))) ∙ e
      by Greater ways e = cc

  answer_of_parts : (found : AtModule) (number line : ℕ) (name : List ℕ) → found.«module» ≡ number → found.line ≡ line → found.name ≡ name
      → found ≡ record { «module» = number; line = line; name = name }
  answer_of_parts found number line name p q r = λ i. record { «module» = p i; line = q i; name = r i }

  pub first_answered : (at : NameAt) (found : AtModule) → m.first ≡ Some at → IsAnswer made.rows at found → HasNoneBefore FaultKind.path_twice s → HasFirstFault s (N12 found)
  first_answered at found is_first answer none = (f, record { holds = fault; least = least }, ap N12 same)
    where
      first : IsLeast name_at_cmp (IsTwice s are.ways (IsBelow are.ways (length made.rows) 0 0)) at
      first =
          let P : Option NameAt → Type 0 = λ o.
          MatchOption o ((x : NameAt) → IsTwice s are.ways (IsBelow are.ways (length made.rows) 0 0) x → ⊥)
          (λ x. IsLeast name_at_cmp (IsTwice s are.ways (IsBelow are.ways (length made.rows) 0 0)) x) in
          subst P is_first h.first

      twice : IsTwice s are.ways (IsBelow are.ways (length made.rows) 0 0) at
      twice = first.holds

      place : HasPlace s are.ways twice.y at.place
      place = twice.stands

      f : Fault
      f = at_line FaultKind.path_twice place.way place.number at.place.line at.name

      fault : IsFault s f
      fault = IsFault.path_twice twice.x twice.y at.name place.way place.number at.place.line twice.of_x twice.of_y twice.other twice.later place.stands

      in_module : (m : Module) × IsOfModule s place.way place.number m
      in_module = stand_module s twice.y place.way place.number at.place.line place.stands

      number : found.«module» ≡ place.number
      number =
          let bodies : ModuleBody found.«module» ≡ ModuleBody place.number =
          sym answer.body ∙ same_Some answer.row.body (ModuleBody place.number) (sym (are.each at.place.holder place.way answer.row place.there answer.there).body ∙ in_module.1.body) in
          cc

      same : found ≡ place_of_fault f
      same = answer_of_parts found place.number at.place.line at.name number answer.line answer.name

      least : (g : Fault) → IsFault s g → fault_cmp g f ≢ Less
      least g is = elim (same_or_less (kind_number FaultKind.path_twice) (kind_number g.kind) (none g is)) [
        | inl e ↦ (λ less. (
            let other = twice_fault s g is e in
            let again = met_again g other in
            let their = stand_module s other.y other.way other.n other.line other.stands in
            let order : fault_cmp (at_line FaultKind.path_twice other.way other.n other.line other.name) f ≡ Less = subst (λ x. fault_cmp x f ≡ Less) other.is less in
            first.least _ again.is (later_at other.way place.way again.holder at.place.holder other.n place.number other.line at.place.line other.name at.name again.there place.there
            (λ ways. (one_module s place.way other.n place.number their.0 in_module.0 (subst (λ w. IsOfModule s w other.n their.0) ways their.1) in_module.1).numbers) order)))
        | inr later ↦ later_kind f g later
      ]
