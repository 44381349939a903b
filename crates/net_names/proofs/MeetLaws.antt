-- What is known when one name more is met.
use Rattle.std.proofs.Common.{◌≡◌, ◌≢◌, ◌⊎◌, ℕ, Bool, true, false, cond, List, [], ◌∷◌, ◌++◌, Option, None, Some, inl, inr, refl, sym, ◌∙◌, subst}
use Rattle.std.specs.Prelude.{MatchOption}
use Rattle.std.specs.Cmp.{IsTotalOrder}
use Rattle.std.specs.List.{list_any}
use Rattle.std.specs.declared.cmp.Ordering.{Ordering}
use Rattle.std.specs.declared.cmp.Ordering.TheVariants.{Less, Equal, Greater}
use Rattle.std.proofs.lemmas.Bool.{true≢false}
use Rattle.std.proofs.lemmas.Cmp.{nat_cmp_total, nat_list_cmp_total, on_total, then_total}
use Rattle.list_defs.specs.Members.{IsIn, same_name}
use Rattle.list_defs.specs.Orders.{IsLeast, IsRising}
use Rattle.list_defs.proofs.Members.{IsIn-append_cases, IsIn-append_left, IsIn-append_right}
use Rattle.list_defs.proofs.NameLemmas.{IsIn-list_any, list_any-IsIn}
use Rattle.list_defs.proofs.OneList.{same_of_neither}
use Rattle.list_defs.proofs.Rising.{not_before_itself}
use Rattle.design_defs.specs.DesignFaults.{HasThingName, Thing, way_of}
use Rattle.design_defs.specs.Hierarchy.{Sources, Way, body_at, way_cmp}
use Rattle.design_defs.proofs.BitOrders.{way_exact, way_total}
use Rattle.pw_defs.specs.declared.design.Body.{Body}
use Rattle.net_instances.specs.Ways.{AreNamed}
use Rattle.net_names.specs.Meets.{by_order, first_of, met, met_all, name_at_cmp}
use Rattle.net_names.specs.Things.{HasMet, HasPlace, IsTwice}
use Rattle.net_names.specs.declared.meeting.Meeting.{Meeting}
use Rattle.net_names.specs.declared.meeting.NameAt.{NameAt}
use Rattle.net_names.proofs.Stands.{one_name, one_place_of, same_place}

pub name_at_total : IsTotalOrder name_at_cmp
name_at_total =
    then_total (on_total (λ (x : NameAt). x.place.holder) nat_cmp_total)
    (then_total (on_total (λ (x : NameAt). x.place.line) nat_cmp_total) (on_total (λ (x : NameAt). x.name) nat_list_cmp_total))

name_at_of_parts : (a b : NameAt) → a.place ≡ b.place → a.name ≡ b.name → a ≡ b
name_at_of_parts a b places names = λ i. record { place = places i; name = names i }

pub met_all-append : (m : Meeting) (xs ys : List NameAt) → met_all m (xs ++ ys) ≡ met_all (met_all m xs) ys
unfolding met_all
met_all-append m [] ys = refl
met_all-append m (x ∷ xs) ys = met_all-append (met m x) xs ys

-- the first of some names is the first of these and one more, or it is the new one
abbrev IsFirst : (NameAt → Type 0) → Option NameAt → Type 0
IsFirst P first = MatchOption first ((x : NameAt) → P x → ⊥) (λ x. IsLeast name_at_cmp P x)

not_itself : (x y : NameAt) → x ≡ y → name_at_cmp x y ≢ Less
not_itself x y e less = not_before_itself name_at_cmp name_at_total y (subst (λ z. name_at_cmp z y ≡ Less) e less)

first_again : (P Q : NameAt → Type 0) (at : NameAt) (first : Option NameAt) → IsFirst P first → ((x : NameAt) → P x → Q x) → Q at → ((x : NameAt) → Q x → P x ⊎ (x ≡ at))
    → IsLeast name_at_cmp Q (first_of first at)
first_again P Q at None none more here from = record {
  holds = here;
  least = λ x q. elim (from x q) [ inl p ↦ absurd (none x p) | inr e ↦ not_itself x at e ];
}
first_again P Q at (Some before) first more here from = by (name_at_cmp at before) refl
  where
    old : (name_at_cmp at before ≢ Less) → IsLeast name_at_cmp Q before
    old later = record {
      holds = more before first.holds;
      least = λ x q. elim (from x q) [ inl p ↦ first.least x p | inr e ↦ (λ less. later (subst (λ z. name_at_cmp z before ≡ Less) e less)) ];
    }

    by : (o : Ordering) → name_at_cmp at before ≡ o → IsLeast name_at_cmp Q (by_order before at o)
    by Less is = record {
      holds = here;
      least = λ x q. elim (from x q) [ inl p ↦ (λ less. first.least x p (name_at_total.trans x at before less is)) | inr e ↦ not_itself x at e ];
    }
    by Equal is = old (λ less. (let never : Equal ≡ Less = sym is ∙ less in cc))
    by Greater is = old (λ less. (let never : Greater ≡ Less = sym is ∙ less in cc))

keep_first : (P Q : NameAt → Type 0) (first : Option NameAt) → IsFirst P first → ((x : NameAt) → P x → Q x) → ((x : NameAt) → Q x → P x) → IsFirst Q first
keep_first P Q None none to from = λ x q. none x (from x q)
keep_first P Q (Some before) first to from = record { holds = to before first.holds; least = λ x q. first.least x (from x q) }

module _ (s : Sources) (ways : List Way) (rising : IsRising way_cmp ways) (named_way : (way : Way) (body : Body) → body_at s way ≡ Some body → AreNamed way) where
  -- things that there are
  abbrev pub Keeps : (Thing → Type 0) → (Thing → Type 0) → Type 0
  Keeps P Q = (x : Thing) (name : List ℕ) → HasThingName s x name → P x → Q x

  twice_kept : (P Q : Thing → Type 0) → Keeps P Q → (at : NameAt) → IsTwice s ways P at → IsTwice s ways Q at
  twice_kept P Q keeps at is = record {
    x = is.x;
    y = is.y;
    has_x = keeps is.x at.name is.of_x is.has_x;
    has_y = keeps is.y at.name is.of_y is.has_y;
    of_x = is.of_x;
    of_y = is.of_y;
    other = is.other;
    later = is.later;
    stands = is.stands;
  }

  -- what is said of some things is said of others, where these are the same as far as there are any
  pub met_same : (P Q : Thing → Type 0) (m : Meeting) → Keeps P Q → Keeps Q P → HasMet s ways P m → HasMet s ways Q m
  met_same P Q m to from h = record {
    known = λ x name q of_x. h.known x name (from x name of_x q) of_x;
    from = λ name there. (let one = h.from name there in (one.0, to one.0 name one.2 one.1, one.2));
    first = keep_first (IsTwice s ways P) (IsTwice s ways Q) m.first h.first (twice_kept P Q to) (twice_kept Q P from);
  }

  -- ONE THING more
  module _ (P Q : Thing → Type 0) (t : Thing) (n : NameAt) (of_t : HasThingName s t n.name) (place : HasPlace s ways t n.place)
      (order : (x : Thing) → P x → way_cmp (way_of t) (way_of x) ≢ Less) (from : (x : Thing) (name : List ℕ) → HasThingName s x name → Q x → P x ⊎ (x ≡ t)) where
    -- the new thing has the name of an earlier one
    record IsAgain (at : NameAt) : Type 0 where
      pub same : at ≡ n
      pub x : Thing
      pub before : P x
      pub of_x : HasThingName s x n.name

    again : (at : NameAt) (x : Thing) → HasThingName s t at.name → HasPlace s ways t at.place → P x → HasThingName s x at.name → IsAgain at
    again at x named stands before of_x =
        let names : at.name ≡ n.name = one_name s t at.name n.name named of_t in
        record {
          same = name_at_of_parts at n (one_place_of s ways t at.place n.place rising stands place) names;
          x = x;
          before = before;
          of_x = subst (HasThingName s x) names of_x;
        }

    twice_from : (at : NameAt) → IsTwice s ways Q at → IsTwice s ways P at ⊎ IsAgain at
    twice_from at is = by (from is.x at.name is.of_x is.has_x) (from is.y at.name is.of_y is.has_y)
      where
        by : P is.x ⊎ (is.x ≡ t) → P is.y ⊎ (is.y ≡ t) → IsTwice s ways P at ⊎ IsAgain at
        by (inl p) (inl q) = inl (record { x = is.x; y = is.y; has_x = p; has_y = q; of_x = is.of_x; of_y = is.of_y; other = is.other; later = is.later; stands = is.stands })
        by (inl p) (inr e) =
            inr (again at is.x (subst (λ z. HasThingName s z at.name) e is.of_y) (subst (λ z. HasPlace s ways z at.place) e is.stands) p is.of_x)
        by (inr e) (inl q) =
            let ways_same : way_of t ≡ way_of is.y =
            same_of_neither way_cmp way_total way_exact (way_of t) (way_of is.y) (order is.y q)
            (subst (λ z. way_cmp (way_of is.y) (way_of z) ≢ Less) e is.later) in
            let named : HasThingName s t at.name = subst (λ z. HasThingName s z at.name) e is.of_x in
            let stands = same_place s named_way ways t is.y at.name at.place named is.of_y (λ same. is.other (e ∙ same)) ways_same is.stands in
            inr (again at is.y named stands q is.of_y)
        by (inr e) (inr f) = absurd (is.other (e ∙ sym f))

    pub met_more : (m : Meeting) → HasMet s ways P m → (P t → ⊥) → Keeps P Q → Q t → HasMet s ways Q (met m n)
    met_more m h new more here = by (list_any (same_name n.name) m.names) refl
      where
        known_names : (x : Thing) (name : List ℕ) → Q x → HasThingName s x name → IsIn name m.names ⊎ (name ≡ n.name)
        known_names x name q of_x = elim (from x name of_x q) [
          | inl p ↦ inl (h.known x name p of_x)
          | inr e ↦ inr (one_name s t name n.name (subst (λ z. HasThingName s z name) e of_x) of_t)
        ]

        old_name : (name : List ℕ) → IsIn name m.names → (x : Thing) × Q x × HasThingName s x name
        old_name name there = let one = h.from name there in (one.0, more one.0 name one.2 one.1, one.2)

        here_again : IsIn n.name m.names → IsTwice s ways Q n
        here_again there =
            let one = h.from n.name there in
            record {
              x = one.0;
              y = t;
              has_x = more one.0 n.name one.2 one.1;
              has_y = here;
              of_x = one.2;
              of_y = of_t;
              other = λ e. new (subst P e one.1);
              later = order one.0 one.1;
              stands = place;
            }

        not_again : list_any (same_name n.name) m.names ≡ false → (at : NameAt) → IsTwice s ways Q at → IsTwice s ways P at
        not_again absent at is = elim (twice_from at is) [
          | inl p ↦ p
          | inr again ↦ absurd (true≢false (sym (list_any-IsIn n.name m.names (h.known again.x n.name again.before again.of_x)) ∙ absent))
        ]

        by : (b : Bool) → list_any (same_name n.name) m.names ≡ b
            → HasMet s ways Q (cond b (record { names = m.names; first = Some (first_of m.first n) }) (record { names = m.names ++ n.name ∷ []; first = m.first }))
        by true there = record {
          known = λ x name q of_x. elim (known_names x name q of_x) [
            | inl old ↦ old
            | inr e ↦ subst (λ z. IsIn z m.names) (sym e) (IsIn-list_any n.name m.names there)
          ];
          from = old_name;
          first = first_again (IsTwice s ways P) (IsTwice s ways Q) n m.first h.first (twice_kept P Q more) (here_again (IsIn-list_any n.name m.names there))
              (λ at is. elim (twice_from at is) [ inl p ↦ inl p | inr again ↦ inr again.same ]);
        }
        by false absent = record {
          known = λ x name q of_x. elim (known_names x name q of_x) [
            | inl old ↦ IsIn-append_left name m.names (n.name ∷ []) old
            | inr e ↦ IsIn-append_right name m.names (n.name ∷ []) (inl e)
          ];
          from = λ name there. elim (IsIn-append_cases name m.names (n.name ∷ []) there) [
            | inl old ↦ old_name name old
            | inr last ↦ elim last [ inl e ↦ (t, here, subst (HasThingName s t) (sym e) of_t) | inr none ↦ absurd none ]
          ];
          first = keep_first (IsTwice s ways P) (IsTwice s ways Q) m.first h.first (twice_kept P Q more) (not_again absent);
        }
