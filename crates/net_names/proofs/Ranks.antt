-- What is known when the names at one instance after the other are met, in the order of their ranks.
use Rattle.std.proofs.Common.{◌≡◌, ◌≢◌, ◌⊎◌, ℕ, zero, suc, false, ◌+◌, ◌<◌, List, [], ◌∷◌, ◌++◌, Option, None, Some, length, map, slice_get, inl, inr, refl, sym, ap, ◌∙◌, subst, arith, append_assoc}
use Rattle.std.specs.Prelude.{decimal}
use Rattle.std.specs.List.{range_with_len}
use Rattle.std.specs.declared.cmp.Ordering.TheVariants.{Less}
use Rattle.std.proofs.lemmas.Bool.{cases_eq}
use Rattle.std.proofs.lemmas.Option.{same_Some}
use Rattle.pw_defs.specs.declared.design.Body.{Body}
use Rattle.pw_defs.specs.declared.netlist.Port.{Port}
use Rattle.list_defs.specs.Orders.{IsRising}
use Rattle.list_defs.proofs.OneList.{one_place}
use Rattle.list_defs.proofs.Rising.{not_before_itself, not_both_before, rising_at}
use Rattle.design_defs.specs.DesignFaults.{HasPortAt, HasThingName, Thing, way_of}
use Rattle.design_defs.specs.Hierarchy.{Sources, Way, body_at, path, way_cmp}
use Rattle.design_defs.specs.Names.{joined}
use Rattle.design_defs.specs.Ranges.{bit_name, index_at, width}
use Rattle.design_defs.proofs.BitOrders.{way_total}
use Rattle.net_instances.specs.Ways.{AreNamed}
use Rattle.net_names.specs.Meets.{met, met_all, port_at, ports_at, vector_at}
use Rattle.net_names.specs.Things.{HasMet, HasPlace, IsBelow, RanksBelow, bit_rank, port_rank}
use Rattle.net_names.specs.declared.meeting.Meeting.{Meeting}
use Rattle.net_names.specs.declared.meeting.NameAt.{NameAt}
use Rattle.net_names.specs.declared.meeting.Place.{Place}
use Rattle.net_names.proofs.MeetLaws.{Keeps, met_all-append, met_more, met_same}
use Rattle.net_names.proofs.Stands.{is_instance, is_there, one_port}

-- a thing by its ranks
ranks_one : (x y : Thing) → way_of x ≡ way_of y → port_rank x ≡ port_rank y → bit_rank x ≡ bit_rank y → x ≡ y
ranks_one (Thing.instance v) (Thing.instance w) ways ports bits = ap Thing.instance ways
ranks_one (Thing.instance v) (Thing.port w m) ways ports bits = absurd (omega (arith, ports))
ranks_one (Thing.instance v) (Thing.vector_bit w m j) ways ports bits = absurd (omega (arith, ports))
ranks_one (Thing.port v n) (Thing.instance w) ways ports bits = absurd (omega (arith, ports))
ranks_one (Thing.port v n) (Thing.port w m) ways ports bits =
    let numbers : n ≡ m = omega (arith, ports) in
    ap (λ z. Thing.port z n) ways ∙ ap (Thing.port w) numbers
ranks_one (Thing.port v n) (Thing.vector_bit w m j) ways ports bits = absurd (omega (arith, bits))
ranks_one (Thing.vector_bit v n i) (Thing.instance w) ways ports bits = absurd (omega (arith, ports))
ranks_one (Thing.vector_bit v n i) (Thing.port w m) ways ports bits = absurd (omega (arith, bits))
ranks_one (Thing.vector_bit v n i) (Thing.vector_bit w m j) ways ports bits =
    let numbers : n ≡ m = omega (arith, ports) in
    let places : i ≡ j = omega (arith, bits) in
    ap (λ z. Thing.vector_bit z n i) ways ∙ ap (λ (z : ℕ). Thing.vector_bit w z i) numbers ∙ ap (Thing.vector_bit w m) places

-- the name of a bit below a path
bit_joined : (p name : List ℕ) (range : ℕ × ℕ) (place : ℕ) → bit_name (joined p name) (Some range) place ≡ joined p (bit_name name (Some range) place)
bit_joined [] name range place = refl
bit_joined (c ∷ p) name range place =
    let digits = 91 ∷ decimal (index_at range place) in
    ap (λ t. t ++ 93 ∷ []) (append_assoc (c ∷ p) (47 ∷ name) digits) ∙ append_assoc (c ∷ p) (47 ∷ (name ++ digits)) (93 ∷ [])

module _ (s : Sources) (ways : List Way) (rising : IsRising way_cmp ways) (named_way : (way : Way) (body : Body) → body_at s way ≡ Some body → AreNamed way)
    (k : ℕ) (way : Way) (is_way : slice_get ways k ≡ Some way) where
  abbrev Met : ℕ → ℕ → Meeting → Type 0
  Met port bit m = HasMet s ways (IsBelow ways k port bit) m

  at_way : (x : Thing) (at : ℕ) → slice_get ways at ≡ Some (way_of x) → at ≡ k → way_of x ≡ way
  at_way x at there e = same_Some (way_of x) way (sym there ∙ ap (slice_get ways) e ∙ is_way)

  -- of two ranks, what is below the one is below the other
  ranks_kept : (port bit other_port other_bit : ℕ)
      → ((x : Thing) (name : List ℕ) → HasThingName s x name → way_of x ≡ way → RanksBelow port bit x → RanksBelow other_port other_bit x)
      → Keeps s ways rising named_way (IsBelow ways k port bit) (IsBelow ways k other_port other_bit)
  ranks_kept port bit other_port other_bit keeps x name of_x is = record {
    at = is.at;
    there = is.there;
    below = elim is.below [ inl less ↦ inl less | inr here ↦ inr (here.0, keeps x name of_x (at_way x is.at is.there here.0) here.1) ];
  }

  -- the thing of the next ranks is met
  pub next_met : (port bit : ℕ) (t : Thing) (n : NameAt) (m : Meeting) → way_of t ≡ way → port_rank t ≡ port → bit_rank t ≡ bit → HasThingName s t n.name → HasPlace s ways t n.place
      → Met port bit m → Met port (suc bit) (met m n)
  next_met port bit t n m at ports bits of_t place h =
      met_more s ways rising named_way (IsBelow ways k port bit) (IsBelow ways k port (suc bit)) t n of_t place order from m h new more here
    where
      order : (x : Thing) → IsBelow ways k port bit x → way_cmp (way_of t) (way_of x) ≢ Less
      order x is = elim is.below [
        | inl less ↦ not_both_before way_cmp way_total (way_of x) (way_of t) (rising_at way_cmp ways rising is.at k (way_of x) (way_of t) less is.there (is_way ∙ ap Some (sym at)))
        | inr same ↦ (λ less. not_before_itself way_cmp way_total (way_of x)
            (subst (λ v. way_cmp v (way_of x) ≡ Less) (at ∙ sym (at_way x is.at is.there same.0)) less))
      ]

      from : (x : Thing) (name : List ℕ) → HasThingName s x name → IsBelow ways k port (suc bit) x → IsBelow ways k port bit x ⊎ (x ≡ t)
      from x name of_x is = elim is.below [
        | inl less ↦ inl (record { at = is.at; there = is.there; below = inl less })
        | inr same ↦ elim same.1 [
          | inl lower ↦ inl (record { at = is.at; there = is.there; below = inr (same.0, inl lower) })
          | inr last ↦ elim (cases_eq (bit_rank x) bit) [
            | inl e ↦ inr (ranks_one x t (at_way x is.at is.there same.0 ∙ sym at) (last.0 ∙ sym ports) (e ∙ sym bits))
            | inr other ↦ inl (record { at = is.at; there = is.there; below = inr (same.0, inr (last.0, omega (arith, last.1, other))) })
          ]
        ]
      ]

      new : IsBelow ways k port bit t → ⊥
      new is =
          let same : is.at ≡ k = one_place way_cmp way_total ways rising is.at k (way_of t) is.there (is_way ∙ ap Some (sym at)) in
          elim is.below [
            | inl less ↦ absurd (omega (arith, less, same))
            | inr here ↦ elim here.1 [ inl lower ↦ absurd (omega (arith, lower, ports)) | inr last ↦ absurd (omega (arith, last.1, bits)) ]
          ]

      more : Keeps s ways rising named_way (IsBelow ways k port bit) (IsBelow ways k port (suc bit))
      more = ranks_kept port bit port (suc bit)
          (λ x name of_x in_way below. elim below [ inl lower ↦ inl lower | inr last ↦ inr (last.0, omega (arith, last.1)) ])

      here : IsBelow ways k port (suc bit) t
      here = record { at = k; there = is_way ∙ ap Some (sym at); below = inr (refl, inr (ports, omega (arith, bits))) }

  -- nothing is left of the ranks of a port
  pub port_done : (port bit : ℕ) (m : Meeting) → ((x : Thing) (name : List ℕ) → HasThingName s x name → way_of x ≡ way → port_rank x ≡ port → bit_rank x < bit) → Met port bit m
      → Met (suc port) 0 m
  port_done port bit m all h =
      met_same s ways rising named_way (IsBelow ways k port bit) (IsBelow ways k (suc port) 0) m
      (ranks_kept port bit (suc port) 0 (λ x name of_x in_way below. inl (elim below [ inl lower ↦ omega (arith, lower) | inr last ↦ omega (arith, last.0) ])))
      (ranks_kept (suc port) 0 port bit (λ x name of_x in_way below. elim below [
        | inl lower ↦ elim (cases_eq (port_rank x) port) [ inl e ↦ inr (e, all x name of_x in_way e) | inr other ↦ inl (omega (arith, lower, other)) ]
        | inr last ↦ absurd (omega (arith, last.1))
      ])) h

  -- nothing is left at the instance
  pub instance_done : (port : ℕ) (m : Meeting) → ((x : Thing) (name : List ℕ) → HasThingName s x name → way_of x ≡ way → port_rank x < port) → Met port 0 m
      → HasMet s ways (IsBelow ways (suc k) 0 0) m
  instance_done port m all h =
      met_same s ways rising named_way (IsBelow ways k port 0) (IsBelow ways (suc k) 0 0) m
      (λ x name of_x is. record {
        at = is.at;
        there = is.there;
        below = inl (elim is.below [ inl less ↦ omega (arith, less) | inr same ↦ omega (arith, same.0) ]);
      })
      (λ x name of_x is. record {
        at = is.at;
        there = is.there;
        below = elim is.below [
          | inl less ↦ elim (cases_eq is.at k) [
            | inl e ↦ inr (e, inl (all x name of_x (at_way x is.at is.there e)))
            | inr other ↦ inl (omega (arith, less, other))
          ]
          | inr same ↦ elim same.1 [ inl lower ↦ absurd (omega (arith, lower)) | inr last ↦ absurd (omega (arith, last.1)) ]
        ];
      }) h

  -- BITS of a port
  module _ (place : Place) (all_stand : (t : Thing) → is_instance t ≡ false → way_of t ≡ way → HasPlace s ways t place) where
    bit_named : (number : ℕ) (p : Port) (range : ℕ × ℕ) (bit : ℕ) → HasPortAt s way number p → p.range ≡ Some range → bit < width (Some range)
        → HasThingName s (Thing.vector_bit way number bit) (bit_name (joined (path way) p.name) (Some range) bit)
    bit_named number p range bit has ranged within =
        subst (HasThingName s (Thing.vector_bit way number bit)) (sym (bit_joined (path way) p.name range bit))
        (subst (λ r. HasThingName s (Thing.vector_bit way number bit) (joined (path way) (bit_name p.name r bit))) ranged
        (HasThingName.vector_bit way number p range bit has ranged (subst (λ (r : Option (ℕ × ℕ)). bit < width r) (sym ranged) within)))

    bits_met : (number : ℕ) (p : Port) (range : ℕ × ℕ) → HasPortAt s way number p → p.range ≡ Some range → (count first : ℕ) (m : Meeting)
        → first + count ≡ width (Some range) → Met (suc number) (suc first) m
        → Met (suc number) (suc (width (Some range)))
        (met_all m (map (λ j. record { place = place; name = bit_name (joined (path way) p.name) (Some range) j }) (range_with_len first count)))
    unfolding met_all
    bits_met number p range has ranged zero first m whole h =
        let all : first ≡ width (Some range) = omega (arith, whole) in
        subst (λ (n : ℕ). Met (suc number) (suc n) m) all h
    bits_met number p range has ranged (suc count) first m whole h =
        let next : NameAt = record { place = place; name = bit_name (joined (path way) p.name) (Some range) first } in
        let within : first < width (Some range) = omega (arith, whole) in
        let met_it = next_met (suc number) (suc first) (Thing.vector_bit way number first) next m refl refl refl (bit_named number p range first has ranged within)
        (all_stand (Thing.vector_bit way number first) refl refl) h in
        let further : suc (suc first) ≡ suc (first + 1) = omega arith in
        bits_met number p range has ranged count (first + 1) (met m next) (omega (arith, whole)) (subst (λ (n : ℕ). Met (suc number) n (met m next)) further met_it)

    -- the ranks of what is at a port
    bits_of : (number : ℕ) (p : Port) → HasPortAt s way number p → (x : Thing) (name : List ℕ) → HasThingName s x name → way_of x ≡ way → port_rank x ≡ suc number
        → (range : Option (ℕ × ℕ)) → p.range ≡ range → (bit : ℕ) → ((r : ℕ × ℕ) → range ≡ Some r → suc (width (Some r)) ≡ bit) → 0 < bit → bit_rank x < bit
    bits_of number p has (Thing.instance v) name of_x at e range ranged bit wide some = absurd (omega (arith, e))
    bits_of number p has (Thing.port v n) name of_x at e range ranged bit wide some = some
    bits_of number p has (Thing.vector_bit v n i) name of_x at e range ranged bit wide some =
        let there = is_there s (Thing.vector_bit v n i) name of_x in
        let numbers : n ≡ number = omega (arith, e) in
        let same : there.p ≡ p =
        one_port s way number there.p p (subst (λ (z : ℕ). HasPortAt s way z there.p) numbers (subst (λ w. HasPortAt s w n there.p) at there.has)) has in
        let bound = wide there.range (sym ranged ∙ ap (λ (q : Port). q.range) (sym same) ∙ there.ranged) in
        omega (arith, there.within, bound)

    vector_met : (number : ℕ) (p : Port) (m : Meeting) → HasPortAt s way number p → (range : Option (ℕ × ℕ)) → p.range ≡ range → Met (suc number) 1 m
        → Met (suc (suc number)) 0 (met_all m (vector_at place (joined (path way) p.name) range))
    unfolding met_all
    vector_met number p m has None ranged h =
        port_done (suc number) 1 m (λ x name of_x at e. bits_of number p has x name of_x at e None ranged 1 (λ r none. absurd (none_some r none)) (omega arith)) h
      where
        none_some : (r : ℕ × ℕ) → None ≡ Some r → ⊥
        none_some r e = cc
    vector_met number p m has (Some range) ranged h =
        port_done (suc number) (suc (width (Some range))) _
        (λ x name of_x at e. bits_of number p has x name of_x at e (Some range) ranged (suc (width (Some range)))
        (λ r same. ap (λ (q : ℕ × ℕ). suc (width (Some q))) (sym (same_Some range r same))) (omega arith))
        (bits_met number p range has ranged (width (Some range)) 0 m (omega arith) h)

    port_met : (number : ℕ) (p : Port) (m : Meeting) → HasPortAt s way number p → Met (suc number) 0 m
        → Met (suc (suc number)) 0 (met_all m (port_at place (path way) p.name p.range))
    unfolding met_all
    port_met number p m has h =
        let own : NameAt = record { place = place; name = joined (path way) p.name } in
        vector_met number p (met m own) has p.range refl
        (next_met (suc number) 0 (Thing.port way number) own m refl refl refl (HasThingName.port way number p has) (all_stand (Thing.port way number) refl refl) h)

    -- PORTS
    pub ports_met : (ps : List Port) (number : ℕ) (m : Meeting) → ((j : ℕ) (p : Port) → slice_get ps j ≡ Some p → HasPortAt s way (number + j) p) → Met (suc number) 0 m
        → Met (suc (number + length ps)) 0 (met_all m (ports_at place (path way) ps))
    unfolding met_all
    ports_met [] number m has h =
        let same : number ≡ number + 0 = omega arith in
        subst (λ (n : ℕ). Met (suc n) 0 m) same h
    ports_met (p ∷ ps) number m has h =
        let here : number + 0 ≡ number = omega arith in
        let is = subst (λ (n : ℕ). HasPortAt s way n p) here (has 0 p refl) in
        let first = port_met number p m is h in
        let behind = λ (j : ℕ) (q : Port) (e : slice_get ps j ≡ Some q). (
        let moved : number + suc j ≡ suc number + j = omega arith in
        subst (λ (n : ℕ). HasPortAt s way n q) moved (has (suc j) q e)) in
        let rest = ports_met ps (suc number) (met_all m (port_at place (path way) p.name p.range)) behind first in
        let count : suc number + length ps ≡ number + length (p ∷ ps) = omega arith in
        subst (λ (n : ℕ). Met (suc n) 0 (met_all m (ports_at place (path way) (p ∷ ps)))) count
        (subst (Met (suc (suc number + length ps)) 0) (sym (met_all-append m (port_at place (path way) p.name p.range) (ports_at place (path way) ps))) rest)
