-- Marks of bits, and ranks of those that are marked.
use Rattle.std.proofs.Common.{◌≡◌, ◌≢◌, ℕ, ◌+◌, ◌<◌, ◌⊎◌, inl, inr, Bool, true, false, List, [], ◌∷◌}
use Rattle.std.proofs.Common.{◌++◌, Option, None, Some, get_or, length, replicate, set, take, slice_get, refl, sym, ap, ◌∙◌, subst, arith}
use Rattle.std.specs.Option.{option_and_then}
use Rattle.std.proofs.lemmas.Bool.{cases_eq}
use Rattle.std.proofs.lemmas.List.{length-set, take_more}
use Rattle.std.proofs.lemmas.Option.{none-some, same_Some, slice_get_within}
use Rattle.list_defs.specs.Members.{IsIn}
use Rattle.list_defs.proofs.Longer.{slice_get-set_other, slice_get-set_same}
use Rattle.list_defs.proofs.Members.{IsIn-append_cases, IsIn-append_left, IsIn-append_right}
use Rattle.net_hierarchy.proofs.Places.{get_replicate}
use Rattle.net_rings.specs.Least.{HasRank}
use Rattle.net_rings.specs.declared.minima.Ranked.{Ranked}
use Rattle.net_loops.specs.Least.{AreMarked, AreMarkedRanks, with_rank}
use Rattle.net_loops.specs.Lines.{mark_at}

-- no bit is marked
pub none_marked : (count : ℕ) (marks : List Bool) → marks ≡ replicate count false → length marks ≡ count → AreMarked [] count marks
none_marked count marks is long = record {
  all = long;
  only = λ n at. let never : true ≡ false = sym (get_replicate count false true n (ap (λ ms. slice_get ms n) (sym is) ∙ at)) in cc;
  each = λ n there. absurd there;
}

-- one more is marked
pub marked_more : (bits : List ℕ) (i d count : ℕ) (marks new : List Bool) → i < length bits → new ≡ set marks (get_or bits i d) true → AreMarked (take i bits) count marks
    → AreMarked (take (i + 1) bits) count new
marked_more bits i d count marks new within grown old = subst (λ bs. AreMarked bs count new) (sym (take_more bits i d within)) (subst (AreMarked (take i bits ++ bit ∷ []) count) (sym grown) (record {
  all = length-set marks bit true ∙ old.all;
  only = λ n at. only n at (cases_eq n bit);
  each = λ n there less. each n less (cases_eq n bit) (IsIn-append_cases n (take i bits) (bit ∷ []) there);
}))
  where
    bit : ℕ
    bit = get_or bits i d

    only : (n : ℕ) → slice_get (set marks bit true) n ≡ Some true → (n ≡ bit) ⊎ (n ≢ bit) → IsIn n (take i bits ++ bit ∷ [])
    only n at (inl same) = IsIn-append_right n (take i bits) (bit ∷ []) (inl same)
    only n at (inr other) = IsIn-append_left n (take i bits) (bit ∷ []) (old.only n (sym (slice_get-set_other marks bit n true other) ∙ at))

    each : (n : ℕ) → n < count → (n ≡ bit) ⊎ (n ≢ bit) → IsIn n (take i bits) ⊎ IsIn n (bit ∷ []) → slice_get (set marks bit true) n ≡ Some true
    each n less (inl same) there =
        subst (λ (k : ℕ). slice_get (set marks bit true) k ≡ Some true) (sym same) (slice_get-set_same marks bit true (omega (arith, less, same, old.all)))
    each n less (inr other) (inl early) = slice_get-set_other marks bit n true other ∙ old.each n early less
    each n less (inr other) (inr (inl same)) = absurd (other same)
    each n less (inr other) (inr (inr later)) = absurd later

-- no bit has a rank
pub none_ranked : (marks : List Bool) (ranks : List (Option ℕ)) → ranks ≡ replicate (length marks) None → length ranks ≡ length marks → AreMarkedRanks [] marks ranks
none_ranked marks ranks is long = record { all = long; only = λ n rank at. absurd (none n rank at); each = λ n rank has. absurd has }
  where
    none : (n rank : ℕ) → mark_at ranks n ≡ Some rank → ⊥
    none n rank at = by (slice_get ranks n) refl at
      where
        by : (o : Option (Option ℕ)) → slice_get ranks n ≡ o → option_and_then (λ mark. mark) o ≡ Some rank → ⊥
        by None e h = none-some rank h
        by (Some mark) e h = none-some rank (get_replicate (length marks) None mark n (ap (λ ms. slice_get ms n) (sym is) ∙ e) ∙ h)

-- one more item of the order
pub ranked_next : (order : List Ranked) (i : ℕ) (d : Ranked) (marks : List Bool) (ranks new : List (Option ℕ)) → i < length order
    → new ≡ with_rank (slice_get marks (get_or order i d).bit) (get_or order i d) ranks → AreMarkedRanks (take i order) marks ranks → AreMarkedRanks (take (i + 1) order) marks new
ranked_next order i d marks ranks new within grown old =
    subst (λ os. AreMarkedRanks os marks new) (sym (take_more order i d within)) (subst (AreMarkedRanks (take i order ++ item ∷ []) marks) (sym grown) (by (slice_get marks item.bit) refl))
  where
    item : Ranked
    item = get_or order i d

    front : List Ranked
    front = take i order

    still : (n rank : ℕ) → HasRank front n rank → HasRank (front ++ item ∷ []) n rank
    still n rank has = IsIn-append_left (record { bit = n; rank = rank }) front (item ∷ []) has

    unmarked : (slice_get marks item.bit ≡ Some true → ⊥) → AreMarkedRanks (front ++ item ∷ []) marks ranks
    unmarked none = record {
      all = old.all;
      only = λ n rank at. let was = old.only n rank at in (was.0, still n rank was.1);
      each = λ n rank has marked. elim (IsIn-append_cases (record { bit = n; rank = rank }) front (item ∷ []) has) [
        | inl early ↦ old.each n rank early marked
        | inr last ↦ elim last [ inl same ↦ absurd (none (ap (λ (r : Ranked). slice_get marks r.bit) (sym same) ∙ marked)) | inr later ↦ absurd later ]
      ];
    }

    put : slice_get marks item.bit ≡ Some true → AreMarkedRanks (front ++ item ∷ []) marks (set ranks item.bit (Some item.rank))
    put marked = record {
      all = length-set ranks item.bit (Some item.rank) ∙ old.all;
      only = λ n rank at. only n rank at (cases_eq n item.bit);
      each = λ n rank has is_marked. each n rank has is_marked (cases_eq n item.bit);
    }
      where
        here : mark_at (set ranks item.bit (Some item.rank)) item.bit ≡ Some item.rank
        here = ap (option_and_then (λ mark. mark)) (slice_get-set_same ranks item.bit (Some item.rank) (omega (arith, slice_get_within marks item.bit true marked, old.all)))

        other_is : (n : ℕ) → n ≢ item.bit → mark_at (set ranks item.bit (Some item.rank)) n ≡ mark_at ranks n
        other_is n other = ap (option_and_then (λ mark. mark)) (slice_get-set_other ranks item.bit n (Some item.rank) other)

        only : (n rank : ℕ) → mark_at (set ranks item.bit (Some item.rank)) n ≡ Some rank → (n ≡ item.bit) ⊎ (n ≢ item.bit) → (slice_get marks n ≡ Some true) × HasRank (front ++ item ∷ []) n rank
        only n rank at (inl same) =
            let is : rank ≡ item.rank = same_Some rank item.rank (sym at ∙ ap (mark_at (set ranks item.bit (Some item.rank))) same ∙ here) in
            (ap (slice_get marks) same ∙ marked, IsIn-append_right (record { bit = n; rank = rank }) front (item ∷ []) (inl (λ j. record { bit = same j; rank = is j })))
        only n rank at (inr other) = let was = old.only n rank (sym (other_is n other) ∙ at) in (was.0, still n rank was.1)

        each : (n rank : ℕ) → HasRank (front ++ item ∷ []) n rank → slice_get marks n ≡ Some true → (n ≡ item.bit) ⊎ (n ≢ item.bit)
            → (r : ℕ) × (mark_at (set ranks item.bit (Some item.rank)) n ≡ Some r)
        each n rank has is_marked (inl same) = (item.rank, ap (mark_at (set ranks item.bit (Some item.rank))) same ∙ here)
        each n rank has is_marked (inr other) = elim (IsIn-append_cases (record { bit = n; rank = rank }) front (item ∷ []) has) [
          | inl early ↦ (let was = old.each n rank early is_marked in (was.0, other_is n other ∙ was.1))
          | inr last ↦ elim last [ inl same ↦ absurd (other (ap (λ (r : Ranked). r.bit) same)) | inr later ↦ absurd later ]
        ]

    by : (o : Option Bool) → slice_get marks item.bit ≡ o → AreMarkedRanks (front ++ item ∷ []) marks (with_rank o item ranks)
    by None e = unmarked (λ is. none-some true (sym e ∙ is))
    by (Some true) e = put e
    by (Some false) e = unmarked (λ is. let never : false ≡ true = same_Some false true (sym e ∙ is) in cc)
