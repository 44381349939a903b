-- The list of findings has for each chain what the least legal state that shows something makes.
use Rattle.std.proofs.Common.{◌≡◌, ◌≢◌, ℕ, Bool, true, false, cond, List, [], ◌∷◌, Option, Some, None, map, length, take, sym, ap, subst, ◌∙◌, refl, inl, inr}
use Rattle.std.specs.Prelude.{option_map, option_and_then}
use Rattle.std.specs.declared.cmp.Ordering.TheVariants.{Less}
use Rattle.std.proofs.lemmas.Option.{none-some, same_Some}
use Rattle.std.proofs.Math.Seq.{take-length}
use Rattle.std.specs.List.{AllByRecursion, find, cons_option}
use Rattle.pw_defs.specs.declared.conditions.Cond.{Cond}
use Rattle.pw_defs.specs.declared.design.Design.{Design}
use Rattle.pw_defs.specs.declared.intent.Intent.{Intent}
use Rattle.pw_defs.specs.declared.report.Finding.{Finding}
use Rattle.pw_defs.specs.declared.values.State.{State}
use Rattle.pw_defs.specs.declared.values.Value.{Value}
use Rattle.list_defs.specs.Members.{IsIn}
use Rattle.list_defs.specs.Orders.{IsRising}
use Rattle.pw_defs.specs.Values.{state_cmp}
use Rattle.list_defs.proofs.Rising.{first_least, each_in}
use Rattle.supply_defs.proofs.TotalOrders.{state_cmp_total}
use Rattle.checks.specs.LineChains.{Ends}
use Rattle.supply_defs.specs.Conditions.{holds}
use Rattle.supply_defs.specs.States.{value_in}
use Rattle.checks.specs.LineWatches.{watched}
use Rattle.checks.specs.LineFindings.{IsWitness, IsFindingOf, AreFindings, none, found, quiet}
use Rattle.checks.specs.Judging.{shown_by, missing_on, findings_of}

abbrev pub values : List State → List (List Value)
values states = map (λ s. s.values) states

-- what is found among the states is found among their values
pub found_value : (p : List Value → Bool) (states : List State) (s : State) → find (λ x. p x.values) states ≡ Some s → find p (values states) ≡ Some s.values
found_value p [] s e = cc
found_value p (x ∷ xs) s e = here (p x.values) refl e (found_value p xs s)
  where
    here : (b : Bool) → p x.values ≡ b → cond b (Some x) (find (λ y. p y.values) xs) ≡ Some s
        → (find (λ y. p y.values) xs ≡ Some s → find p (values xs) ≡ Some s.values) → cond b (Some x.values) (find p (values xs)) ≡ Some s.values
    here true passes e rest = let same : x ≡ s = cc in ap (λ (y : State). Some y.values) same
    here false fails e rest = rest e

-- where nothing is found, nothing passes
none_passes : (p : List Value → Bool) (states : List State) → find (λ x. p x.values) states ≡ None → (v : List Value) → IsIn v (values states) → p v ≡ false
none_passes p [] e v there = absurd there
none_passes p (x ∷ xs) e v there = here (p x.values) refl e there (none_passes p xs)
  where
    here : (b : Bool) → p x.values ≡ b → cond b (Some x) (find (λ y. p y.values) xs) ≡ None → IsIn v (values (x ∷ xs))
        → (find (λ y. p y.values) xs ≡ None → (w : List Value) → IsIn w (values xs) → p w ≡ false) → p v ≡ false
    here true passes e there rest = cc
    here false fails e (inl same) rest = ap p same ∙ fails
    here false fails e (inr later) rest = rest e v later

-- the whole of a state is what is seen of it
all_seen : (n : ℕ) (v : List Value) → length v ≡ n → take n v ≡ v
all_seen n v is = ap (λ (k : ℕ). take k v) (sym is) ∙ take-length v

-- the first state that shows a condition is the least one
witness_is : (n : ℕ) (states : List State) (cond : Cond) (s : State) → IsRising state_cmp (values states) → AllByRecursion (λ v. length v ≡ n) (values states)
    → find (λ x. holds (value_in x.values) cond) states ≡ Some s → IsWitness (values states) n cond s.values
witness_is n states cond s rising whole e =
    let first = first_least state_cmp state_cmp_total (λ v. holds (value_in v) cond) (values states) s.values rising (found_value (λ v. holds (value_in v) cond) states s e) in
    record {
      holds = record { state = s.values; is_legal = first.holds.0; shown = first.holds.1; seen = sym (all_seen n s.values (each_in (λ v. length v ≡ n) (values states) s.values whole first.holds.0)) };
      least = λ part shows. subst (λ (v : List Value). state_cmp v s.values ≢ Less)
          (sym (shows.seen ∙ all_seen n shows.state (each_in (λ v. length v ≡ n) (values states) shows.state whole shows.is_legal)))
          (first.least shows.state (shows.is_legal, shows.shown));
    }

finding_is : (d : Design) (i : Intent) (states : List State) (c : Ends) (watch : Cond) (s : State) → IsRising state_cmp (values states)
    → AllByRecursion (λ v. length v ≡ length i.supplies) (values states) → watched i c ≡ Some watch
    → find (λ x. holds (value_in x.values) watch) states ≡ Some s → IsFindingOf d i (values states) c (missing_on d c s)
finding_is d i states c watch s rising whole is e = record {
  cond = watch;
  watch = is;
  kind = refl;
  receiver = refl;
  driver = refl;
  forced = refl;
  state = s;
  witness = refl;
  least = witness_is (length i.supplies) states watch s rising whole e;
}

judged_next : (d : Design) (i : Intent) (states : List State) (c : Ends) (cs : List Ends) (fs : List Finding) → IsRising state_cmp (values states)
    → AllByRecursion (λ v. length v ≡ length i.supplies) (values states) → AreFindings d i (values states) cs fs
    → AreFindings d i (values states) (c ∷ cs) (cons_option (option_map (missing_on d c) (shown_by i states c)) fs)
judged_next d i states c cs fs rising whole rest = by (watched i c) refl
  where
    shown : (watch : Cond) (r : Option State) → watched i c ≡ Some watch → find (λ x. holds (value_in x.values) watch) states ≡ r
        → AreFindings d i (values states) (c ∷ cs) (cons_option (option_map (missing_on d c) r) fs)
    shown watch None is e = quiet c cs fs
        (λ other again v there. subst (λ (x : Cond). holds (value_in v) x ≡ false) (same_Some watch other (sym is ∙ again)) (none_passes (λ w. holds (value_in w) watch) states e v there)) rest
    shown watch (Some s) is e = found c (missing_on d c s) cs fs (finding_is d i states c watch s rising whole is e) rest

    by : (o : Option Cond) → watched i c ≡ o
        → AreFindings d i (values states) (c ∷ cs) (cons_option (option_map (missing_on d c) (option_and_then (λ watch. find (λ x. holds (value_in x.values) watch) states) o)) fs)
    by None is = quiet c cs fs (λ watch again. absurd (none-some watch (sym is ∙ again))) rest
    by (Some watch) is = shown watch (find (λ x. holds (value_in x.values) watch) states) is refl

pub judged : (d : Design) (i : Intent) (states : List State) (cs : List Ends) → IsRising state_cmp (values states)
    → AllByRecursion (λ v. length v ≡ length i.supplies) (values states) → AreFindings d i (values states) cs (findings_of d i states cs)
judged d i states [] rising whole = none
judged d i states (c ∷ cs) rising whole = judged_next d i states c cs (findings_of d i states cs) rising whole (judged d i states cs rising whole)
