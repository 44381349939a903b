-- The first of the refusals of a module, as more are found.
use Rattle.std.proofs.Common.{◌≡◌, ◌≢◌, ℕ, ◌⊎◌, List, [], ◌∷◌, ◌++◌, append-nil, append_assoc, Option, None, Some, slice_get, inl, inr, refl, sym, ap, ◌∙◌, subst}
use Rattle.std.specs.declared.cmp.Ordering.TheVariants.{Less}
use Rattle.list_defs.specs.Members.{IsIn}
use Rattle.list_defs.proofs.Members.{IsIn-append_cases, IsIn-append_left, IsIn-append_right}
use Rattle.list_defs.proofs.Rising.{not_before_itself}
use Rattle.net_least.specs.Lines.{IsFirstOwn}
use Rattle.net_least.specs.OwnFaults.{line_cmp}
use Rattle.net_least.specs.declared.own.OwnFault.{OwnFault}
use Rattle.net_least.proofs.FirstLines.{line_total}
use Rattle.net_widths.specs.Refusals.{Finds, IsFirst, IsFirstName, IsFirstOf, Refusal, at_one_line, first_of}

module _ (symbols : List (List ℕ)) (next : OwnFault) (x : List ℕ) (named : slice_get symbols next.name ≡ Some x) (before : List Refusal) where
  in_more : (y : Refusal) → IsIn y (before ++ (next.line, x) ∷ []) → IsIn y before ⊎ (y ≡ (next.line, x))
  in_more y there = elim (IsIn-append_cases y before ((next.line, x) ∷ []) there) [ inl old ↦ inl old | inr new ↦ elim new [ inl e ↦ inr e | inr never ↦ absurd never ] ]

  next_first : (result : OwnFault) → result ≡ next → ((y : Refusal) → IsIn y before → line_cmp y (next.line, x) ≢ Less)
      → IsFirst symbols (before ++ (next.line, x) ∷ []) result
  next_first result is least_old =
      subst (IsFirst symbols (before ++ (next.line, x) ∷ [])) (sym is) (record {
        name = x;
        is_name = named;
        one = IsIn-append_right (next.line, x) before ((next.line, x) ∷ []) (inl refl);
        least = least;
      })
    where
      least : (y : Refusal) → IsIn y (before ++ (next.line, x) ∷ []) → line_cmp y (next.line, x) ≢ Less
      least y there =
          elim (in_more y there) [
            | inl old ↦ least_old y old
            | inr same ↦ subst (λ (z : Refusal). line_cmp z (next.line, x) ≢ Less) (sym same) (not_before_itself line_cmp line_total (next.line, x))
          ]

  pub one_more : (best : Option OwnFault) (result : OwnFault) → (best ≡ None → result ≡ next) → IsFirstOwn symbols best next result
      → IsFirstOf symbols before best → IsFirst symbols (before ++ (next.line, x) ∷ []) result
  one_more None result one first known = next_first result (one refl) (λ y there. absurd (known y there))
  one_more (Some own) result one first known =
      elim (first own known.name x refl known.is_name named) [ inl new ↦ next_first result new.1 (earlier new.0) | inr old ↦ stays old.0 old.1 ]
    where
      earlier : line_cmp (next.line, x) (own.line, known.name) ≡ Less → (y : Refusal) → IsIn y before → line_cmp y (next.line, x) ≢ Less
      earlier less y there before_next = known.least y there (line_total.trans y (next.line, x) (own.line, known.name) before_next less)

      stays : line_cmp (next.line, x) (own.line, known.name) ≢ Less → result ≡ own → IsFirst symbols (before ++ (next.line, x) ∷ []) result
      stays not_less is =
          subst (IsFirst symbols (before ++ (next.line, x) ∷ [])) (sym is) (record {
            name = known.name;
            is_name = known.is_name;
            one = IsIn-append_left (own.line, known.name) before ((next.line, x) ∷ []) known.one;
            least = least;
          })
        where
          least : (y : Refusal) → IsIn y (before ++ (next.line, x) ∷ []) → line_cmp y (own.line, known.name) ≢ Less
          least y there =
              elim (in_more y there) [
                | inl old ↦ known.least y old
                | inr same ↦ subst (λ (z : Refusal). line_cmp z (own.line, known.name) ≢ Less) (sym same) not_less
              ]

-- some refusals, and then more
pub finds_none : (symbols : List (List ℕ)) (best : Option OwnFault) (more : List Refusal) → more ≡ [] → Finds symbols best best more
finds_none symbols best more none before known =
    let same : before ++ more ≡ before = ap (λ xs. before ++ xs) none ∙ append-nil before in
    subst (λ xs. IsFirstOf symbols xs best) (sym same) known

pub finds_also : (symbols : List (List ℕ)) (a b c : Option OwnFault) (xs ys zs : List Refusal) → Finds symbols a b xs → Finds symbols b c ys → zs ≡ xs ++ ys
    → Finds symbols a c zs
finds_also symbols a b c xs ys zs first second joined before known =
    subst (λ all. IsFirstOf symbols all c) (append_assoc before xs ys ∙ ap (λ more. before ++ more) (sym joined)) (second (before ++ xs) (first before known))

-- the first of names, by the symbol of it
pub finds_first : (symbols : List (List ℕ)) (best result : Option OwnFault) (line symbol : ℕ)
    → ((x : List ℕ) → slice_get symbols symbol ≡ Some x → Finds symbols best result ((line, x) ∷ []))
    → (names : List (List ℕ)) → IsFirstName symbols names (Some symbol) → Finds symbols best result (at_one_line line (first_of names))
finds_first symbols best result line symbol one [] is = absurd is
finds_first symbols best result line symbol one (name ∷ names) is = one name is

pub finds_no_name : (symbols : List (List ℕ)) (best : Option OwnFault) (line : ℕ) (names : List (List ℕ)) → IsFirstName symbols names None
    → Finds symbols best best (at_one_line line (first_of names))
finds_no_name symbols best line [] is = finds_none symbols best [] refl
finds_no_name symbols best line (name ∷ names) is = absurd is
