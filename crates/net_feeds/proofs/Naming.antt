-- The least name of some bits, one bit after the other.
use Rattle.std.proofs.Common.{◌≡◌, ◌≢◌, ℕ, ◌+◌, ◌<◌, ◌⊎◌, inl, inr, List, [], ◌∷◌, ◌++◌, get_or, length, take, refl, sym, ap, ◌∙◌, subst}
use Rattle.std.specs.Prelude.{Option, Some, None}
use Rattle.std.specs.List.{slice_get}
use Rattle.std.specs.declared.cmp.Ordering.TheVariants.{Less}
use Rattle.std.proofs.lemmas.Cmp.{nat_list_cmp_total}
use Rattle.std.proofs.lemmas.List.{take_more}
use Rattle.list_defs.specs.Members.{IsIn}
use Rattle.list_defs.specs.Orders.{name_cmp}
use Rattle.list_defs.proofs.Members.{IsIn-append_cases, IsIn-append_left, IsIn-append_right}
use Rattle.list_defs.proofs.Rising.{not_before_itself}
use Rattle.design_defs.specs.Bits.{HasSpotName, Spot}
use Rattle.design_defs.specs.Hierarchy.{Sources}
use Rattle.net_feeds.specs.LeastNames.{IsLeastName, IsLeastOrNone, IsLesser, IsNameOf}

module _ (s : Sources) (spots : List Spot) (bits : List ℕ) (bit : ℕ) (next : List ℕ) (named : IsNameOf s spots bit next) where
  here : (other : ℕ) → IsIn other (bits ++ bit ∷ []) → IsIn other bits ⊎ (other ≡ bit)
  here other there = by (IsIn-append_cases other bits (bit ∷ []) there)
    where
      by : IsIn other bits ⊎ IsIn other (bit ∷ []) → IsIn other bits ⊎ (other ≡ bit)
      by (inl early) = inl early
      by (inr (inl same)) = inr same
      by (inr (inr never)) = absurd never

  -- the name of the next bit is this one
  is_next : (b : ℕ) (x : Spot) (other : List ℕ) → b ≡ bit → slice_get spots b ≡ Some x → HasSpotName s x other → next ≡ other
  is_next b x other same at is = named x other (ap (slice_get spots) (sym same) ∙ at) is

  not_before_next : (b : ℕ) (x : Spot) (other : List ℕ) → b ≡ bit → slice_get spots b ≡ Some x → HasSpotName s x other → name_cmp other next ≢ Less
  not_before_next b x other same at is less =
      not_before_itself name_cmp nat_list_cmp_total next (subst (λ (n : List ℕ). name_cmp n next ≡ Less) (sym (is_next b x other same at is)) less)

  least_one : (least : (b : ℕ) (x : Spot) (other : List ℕ) → IsIn b bits → slice_get spots b ≡ Some x → HasSpotName s x other → name_cmp other next ≢ Less)
      → IsLeastName s spots (bits ++ bit ∷ []) next
  least_one least = record {
    bit = bit;
    one = IsIn-append_right bit bits (bit ∷ []) (inl refl);
    named = named;
    least = λ b x other there at is. by b x other at is (here b there);
  }
    where
      by : (b : ℕ) (x : Spot) (other : List ℕ) → slice_get spots b ≡ Some x → HasSpotName s x other → IsIn b bits ⊎ (b ≡ bit) → name_cmp other next ≢ Less
      by b x other at is (inl early) = least b x other early at is
      by b x other at is (inr same) = not_before_next b x other same at is

  pub least_more : (best : Option (List ℕ)) (result : List ℕ) → IsLesser best next result → IsLeastOrNone s spots bits best → IsLeastName s spots (bits ++ bit ∷ []) result
  least_more None result is none =
      subst (IsLeastName s spots (bits ++ bit ∷ [])) (sym is) (least_one (λ b x other there at named_so. absurd (none b there)))
  least_more (Some best) result (inl first) was =
      subst (IsLeastName s spots (bits ++ bit ∷ [])) (sym first.1)
      (least_one (λ b x other there at named_so less. was.least b x other there at named_so (nat_list_cmp_total.trans other next best less first.0)))
  least_more (Some best) result (inr later) was =
      subst (IsLeastName s spots (bits ++ bit ∷ [])) (sym later.1) (record {
        bit = was.bit;
        one = IsIn-append_left was.bit bits (bit ∷ []) was.one;
        named = was.named;
        least = λ b x other there at is. by b x other at is (here b there);
      })
    where
      by : (b : ℕ) (x : Spot) (other : List ℕ) → slice_get spots b ≡ Some x → HasSpotName s x other → IsIn b bits ⊎ (b ≡ bit) → name_cmp other best ≢ Less
      by b x other at is (inl early) less = was.least b x other early at is less
      by b x other at is (inr same) less = later.0 (subst (λ (n : List ℕ). name_cmp n best ≡ Less) (sym (is_next b x other same at is)) less)

-- one more of some bits
pub least_next : (s : Sources) (spots : List Spot) (bits : List ℕ) (i d : ℕ) → i < length bits → (next : List ℕ) → IsNameOf s spots (get_or bits i d) next → (best : Option (List ℕ))
    (result : List ℕ) → IsLesser best next result → IsLeastOrNone s spots (take i bits) best → IsLeastName s spots (take (i + 1) bits) result
least_next s spots bits i d within next named best result is was =
    subst (λ (bs : List ℕ). IsLeastName s spots bs result) (sym (take_more bits i d within)) (least_more s spots (take i bits) (get_or bits i d) next named best result is was)
