-- What is read of a kind and its places is that of the instance.
use Rattle.std.proofs.Common.{◌≡◌, ℕ, ◌+◌, ◌<◌, Option, Some, ap, ◌∙◌, subst}
use Rattle.std.specs.Prelude.{IfSome}
use Rattle.design_rows.specs.declared.tables.InstanceRow.{InstanceRow as Row}
use Rattle.design_rows.specs.declared.tables.KindRow.{KindRow}
use Rattle.design_rows.specs.declared.tables.PlaceRow.{PlaceRow}
use Rattle.design_rows.specs.declared.tables.Rows.{Rows}
use Rattle.design_rows.specs.View.{inst_at, kind_of, place_at}
use Rattle.net_frames.specs.Feeding.{HasThrough, IsOfPort, IsThroughPin, own_place}

-- what holds of what is there holds of that
pub some_at : {X : Type 0} (P : X → Type 0) (o : Option X) (x : X) → o ≡ Some x → IfSome o P → P x
some_at {X} P o x is holds = subst (λ (y : Option X). IfSome y P) is holds

module _ (r : Rows) (inst : ℕ) (row : Row) (kind : KindRow) (is_row : row ≡ inst_at r inst) (is_kind : kind ≡ kind_of r row) where
  kind_is : kind ≡ kind_of r (inst_at r inst)
  kind_is = is_kind ∙ ap (kind_of r) is_row

  pub place_is : (at : ℕ) (place : PlaceRow) → place ≡ place_at r (kind.first + at) → place ≡ own_place r inst at
  place_is at place is = is ∙ ap (λ (k : KindRow). place_at r (k.first + at)) kind_is

  pub through_is : (at bit pin : ℕ) (place : PlaceRow) → HasThrough r kind.body pin → at < kind.size → place ≡ place_at r (kind.first + at) → IsOfPort place pin
      → bit ≡ row.first_bit + at → (bit ≡ (inst_at r inst).first_bit + at) × IsThroughPin r inst at
  through_is at bit pin place has within is of_pin number = (
    number ∙ ap (λ (x : Row). x.first_bit + at) is_row,
    record {
      pin = pin;
      has = subst (λ (k : KindRow). HasThrough r k.body pin) kind_is has;
      within = subst (λ (k : KindRow). at < k.size) kind_is within;
      of_pin = subst (λ (x : PlaceRow). IsOfPort x pin) (place_is at place is) of_pin;
    },
  )
