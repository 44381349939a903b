-- All states of lists in rising order are in rising order.
use Rattle.std.proofs.Common.{◌≡◌, List, [], ◌∷◌, map, ap, ◌∙◌}
use Rattle.std.specs.List.{AllByRecursion, flat_map}
use Rattle.std.specs.Ordering.{ordering_then}
use Rattle.std.specs.declared.cmp.Ordering.TheVariants.{Less}
use Rattle.std.proofs.lemmas.Cmp.{tied_itself}
use Rattle.pw_defs.specs.Values.{value_cmp}
use Rattle.pw_defs.specs.declared.values.Value.{Value}
use Rattle.pw_defs.specs.declared.conditions.Cond.{Cond}
use Rattle.list_defs.specs.Orders.{IsRising}
use Rattle.pw_defs.specs.Values.{state_cmp}
use Rattle.list_defs.proofs.Rising.{IsRising-append, IsRising-filter, each_joined}
use Rattle.supply_defs.proofs.TotalOrders.{value_cmp_total}
use Rattle.supply_defs.specs.States.{all_states, legal_states, meets}

-- what begins with the same value compares by the rest
below_behind : (v : Value) (s t : List Value) → state_cmp s t ≡ Less → state_cmp (v ∷ s) (v ∷ t) ≡ Less
below_behind v s t h = ap (λ o. ordering_then o (state_cmp s t)) (tied_itself value_cmp_total v) ∙ h

each_behind : (v : Value) (s : List Value) (ts : List (List Value)) → AllByRecursion (λ t. state_cmp s t ≡ Less) ts
    → AllByRecursion (λ t. state_cmp (v ∷ s) t ≡ Less) (map (λ rest. v ∷ rest) ts)
each_behind v s [] h = tt
each_behind v s (t ∷ ts) h = (below_behind v s t h.0, each_behind v s ts h.1)

rising_behind : (v : Value) (ts : List (List Value)) → IsRising state_cmp ts → IsRising state_cmp (map (λ rest. v ∷ rest) ts)
rising_behind v [] h = tt
rising_behind v (t ∷ ts) h = (each_behind v t ts h.0, rising_behind v ts h.1)

-- what begins with a lesser value comes before
before_block : (v w : Value) (s : List Value) (ts : List (List Value)) → value_cmp v w ≡ Less
    → AllByRecursion (λ t. state_cmp (v ∷ s) t ≡ Less) (map (λ rest. w ∷ rest) ts)
before_block v w s [] h = tt
before_block v w s (t ∷ ts) h = (ap (λ o. ordering_then o (state_cmp s t)) h, before_block v w s ts h)

before_blocks : (v : Value) (values : List Value) (s : List Value) (ts : List (List Value)) → AllByRecursion (λ w. value_cmp v w ≡ Less) values
    → AllByRecursion (λ t. state_cmp (v ∷ s) t ≡ Less) (flat_map (λ w. map (λ rest. w ∷ rest) ts) values)
before_blocks v [] s ts h = tt
before_blocks v (w ∷ values) s ts h =
    each_joined (λ t. state_cmp (v ∷ s) t ≡ Less) (map (λ rest. w ∷ rest) ts) (flat_map (λ u. map (λ rest. u ∷ rest) ts) values) (before_block v w s ts h.0) (before_blocks v values s ts h.1)

block_before : (v : Value) (values : List Value) (ss ts : List (List Value)) → AllByRecursion (λ w. value_cmp v w ≡ Less) values
    → AllByRecursion (λ s. AllByRecursion (λ t. state_cmp s t ≡ Less) (flat_map (λ w. map (λ rest. w ∷ rest) ts) values)) (map (λ rest. v ∷ rest) ss)
block_before v values [] ts h = tt
block_before v values (s ∷ ss) ts h = (before_blocks v values s ts h, block_before v values ss ts h)

rising_blocks : (values : List Value) (ts : List (List Value)) → IsRising value_cmp values → IsRising state_cmp ts
    → IsRising state_cmp (flat_map (λ v. map (λ rest. v ∷ rest) ts) values)
rising_blocks [] ts h k = tt
rising_blocks (v ∷ values) ts h k =
    IsRising-append state_cmp (map (λ rest. v ∷ rest) ts) (flat_map (λ w. map (λ rest. w ∷ rest) ts) values) (rising_behind v ts k) (rising_blocks values ts h.1 k) (block_before v values ts ts h.0)

pub all_rising : (lists : List (List Value)) → AllByRecursion (IsRising value_cmp) lists → IsRising state_cmp (all_states lists)
all_rising [] h = (tt, tt)
all_rising (values ∷ lists) h = rising_blocks values (all_states lists) h.0 (all_rising lists h.1)

pub legal_rising : (lists : List (List Value)) (conds : List Cond) → AllByRecursion (IsRising value_cmp) lists → IsRising state_cmp (legal_states lists conds)
legal_rising lists conds h = IsRising-filter state_cmp (meets conds) (all_states lists) (all_rising lists h)
