-- The values of a supply: none is lost, they rise, and they are off and what is stated.
use Rattle.std.proofs.Common.{◌≡◌, ◌≤◌, List, [], ◌∷◌, length, ◌⊎◌, inl, inr, refl, sym, ap, ◌∙◌, arith}
use Rattle.std.proofs.lemmas.Cmp.{ranked}
use Rattle.std.specs.List.{AllByRecursion}
use Rattle.std.specs.Ordering.{match_ordering, ordering_reverse}
use Rattle.std.specs.declared.cmp.Ordering.{Ordering}
use Rattle.std.specs.declared.cmp.Ordering.TheVariants.{Less, Equal, Greater}
use Rattle.pw_defs.specs.Values.{value_cmp}
use Rattle.pw_defs.specs.declared.values.Value.{Value}
use Rattle.pw_defs.specs.declared.values.Value.TheVariants.{Off, On}
use Rattle.list_defs.specs.Members.{IsIn}
use Rattle.list_defs.specs.Orders.{IsRising, AreAllRising}
use Rattle.supply_defs.proofs.TotalOrders.{value_cmp_total}
use Rattle.form_intent.specs.Script.{put_value, put_values, values_of}

length-put_value-le : (v : Value) (ws : List Value) → length ws ≤ length (put_value v ws)
length-put_value-le v [] = omega arith
length-put_value-le v (w ∷ ws) = by (value_cmp v w) (length-put_value-le v ws)
  where
    by : (o : Ordering) → length ws ≤ length (put_value v ws) → length (w ∷ ws) ≤ length (match_ordering o (v ∷ w ∷ ws) (w ∷ ws) (w ∷ put_value v ws))
    by Less h = omega arith
    by Equal h = omega arith
    by Greater h = omega arith

-- no value is lost when more are put in
pub length-put_values-le : (vs into : List Value) → length into ≤ length (put_values vs into)
length-put_values-le [] into = omega arith
length-put_values-le (v ∷ vs) into = omega (arith, length-put_value-le v into, length-put_values-le vs (put_value v into))

greater_back : (v w : Value) → value_cmp v w ≡ Greater → value_cmp w v ≡ Less
greater_back v w h = by (value_cmp w v) (sym h ∙ value_cmp_total.antisymm v w)
  where
    by : (o : Ordering) → Greater ≡ ordering_reverse o → o ≡ Less
    by Less e = refl
    by Equal e = cc
    by Greater e = cc

same_from_equal : (v w : Value) → value_cmp v w ≡ Equal → v ≡ w
same_from_equal Off Off h = refl
same_from_equal Off (On w) h = cc
same_from_equal (On v) Off h = cc
same_from_equal (On v) (On w) h = ap On (ranked v w Equal (sym h))

each-put_value : (P : Value → Type 0) (v : Value) (ws : List Value) → P v → AllByRecursion P ws → AllByRecursion P (put_value v ws)
each-put_value P v [] here rest = (here, tt)
each-put_value P v (w ∷ ws) here rest = by (value_cmp v w) (each-put_value P v ws here rest.1)
  where
    by : (o : Ordering) → AllByRecursion P (put_value v ws) → AllByRecursion P (match_ordering o (v ∷ w ∷ ws) (w ∷ ws) (w ∷ put_value v ws))
    by Less put = (here, rest)
    by Equal put = rest
    by Greater put = (rest.0, put)

all_above : (v w : Value) (ws : List Value) → value_cmp v w ≡ Less → AllByRecursion (λ y. value_cmp w y ≡ Less) ws → AllByRecursion (λ y. value_cmp v y ≡ Less) ws
all_above v w [] less above = tt
all_above v w (x ∷ ws) less above = (value_cmp_total.trans v w x less above.0, all_above v w ws less above.1)

IsRising-put_value : (v : Value) (ws : List Value) → IsRising value_cmp ws → IsRising value_cmp (put_value v ws)
IsRising-put_value v [] rising = (tt, tt)
IsRising-put_value v (w ∷ ws) rising = by (value_cmp v w) refl (IsRising-put_value v ws rising.1)
  where
    by : (o : Ordering) → value_cmp v w ≡ o → IsRising value_cmp (put_value v ws) → IsRising value_cmp (match_ordering o (v ∷ w ∷ ws) (w ∷ ws) (w ∷ put_value v ws))
    by Less h put = ((h, all_above v w ws h rising.0), rising)
    by Equal h put = rising
    by Greater h put = (each-put_value (λ y. value_cmp w y ≡ Less) v ws (greater_back v w h) rising.0, put)

IsRising-put_values : (vs into : List Value) → IsRising value_cmp into → IsRising value_cmp (put_values vs into)
IsRising-put_values [] into rising = rising
IsRising-put_values (v ∷ vs) into rising = IsRising-put_values vs (put_value v into) (IsRising-put_value v into rising)

-- the values of a supply rise, whatever is stated
pub IsRising-values_of : (stated : List Value) → IsRising value_cmp (values_of stated)
IsRising-values_of [] = ((refl, tt), (tt, tt))
IsRising-values_of (v ∷ vs) = IsRising-put_values (v ∷ vs) (Off ∷ []) (tt, tt)

-- a value that was put in, or was there
IsIn-put_value : (x v : Value) (ws : List Value) → IsIn x (put_value v ws) → (x ≡ v) ⊎ IsIn x ws
IsIn-put_value x v [] there = there
IsIn-put_value x v (w ∷ ws) there = by (value_cmp v w) there (IsIn-put_value x v ws)
  where
    by : (o : Ordering) → IsIn x (match_ordering o (v ∷ w ∷ ws) (w ∷ ws) (w ∷ put_value v ws)) → (IsIn x (put_value v ws) → (x ≡ v) ⊎ IsIn x ws) → (x ≡ v) ⊎ IsIn x (w ∷ ws)
    by Less there rest = there
    by Equal there rest = inr there
    by Greater (inl same) rest = inr (inl same)
    by Greater (inr later) rest = elim (rest later) [ inl new ↦ inl new | inr old ↦ inr (inr old) ]

put_value-IsIn : (x v : Value) (ws : List Value) → (x ≡ v) ⊎ IsIn x ws → IsIn x (put_value v ws)
put_value-IsIn x v [] there = there
put_value-IsIn x v (w ∷ ws) there = by (value_cmp v w) refl there (put_value-IsIn x v ws)
  where
    by : (o : Ordering) → value_cmp v w ≡ o → (x ≡ v) ⊎ IsIn x (w ∷ ws) → ((x ≡ v) ⊎ IsIn x ws → IsIn x (put_value v ws)) → IsIn x (match_ordering o (v ∷ w ∷ ws) (w ∷ ws) (w ∷ put_value v ws))
    by Less h there rest = there
    by Equal h (inl new) rest = inl (new ∙ same_from_equal v w h)
    by Equal h (inr old) rest = old
    by Greater h (inl new) rest = inr (rest (inl new))
    by Greater h (inr (inl same)) rest = inl same
    by Greater h (inr (inr old)) rest = inr (rest (inr old))

IsIn-put_values : (x : Value) (vs into : List Value) → IsIn x (put_values vs into) → IsIn x into ⊎ IsIn x vs
IsIn-put_values x [] into there = inl there
IsIn-put_values x (v ∷ vs) into there =
    elim (IsIn-put_values x vs (put_value v into) there) [
      | inl put ↦ elim (IsIn-put_value x v into put) [ inl new ↦ inr (inl new) | inr old ↦ inl old ]
      | inr later ↦ inr (inr later)
    ]

put_values-IsIn : (x : Value) (vs into : List Value) → IsIn x into ⊎ IsIn x vs → IsIn x (put_values vs into)
put_values-IsIn x [] into (inl old) = old
put_values-IsIn x [] into (inr none) = absurd none
put_values-IsIn x (v ∷ vs) into (inl old) =
    put_values-IsIn x vs (put_value v into) (inl (put_value-IsIn x v into (inr old)))
put_values-IsIn x (v ∷ vs) into (inr (inl new)) =
    put_values-IsIn x vs (put_value v into) (inl (put_value-IsIn x v into (inl new)))
put_values-IsIn x (v ∷ vs) into (inr (inr later)) = put_values-IsIn x vs (put_value v into) (inr later)

-- where something is stated the values are off and that, in rising order
pub AreAllRising-values_of : (v : Value) (vs : List Value) → AreAllRising value_cmp (λ x. (x ≡ Off) ⊎ IsIn x (v ∷ vs)) (values_of (v ∷ vs))
AreAllRising-values_of v vs = record {
  rising = IsRising-values_of (v ∷ vs);
  each = λ x there. elim (IsIn-put_values x (v ∷ vs) (Off ∷ []) there) [ inl old ↦ elim old [ inl off ↦ inl off | inr none ↦ absurd none ] | inr said ↦ inr said ];
  all = λ x there. put_values-IsIn x (v ∷ vs) (Off ∷ []) (elim there [ inl off ↦ inl (inl off) | inr said ↦ inr said ]);
}
