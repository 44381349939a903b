-- The legal states and the report, from what the parts answer.
use Rattle.std.proofs.Common.{◌≡◌, ℕ, ◌<◌, ◌≤◌, Bool, true, false, ltb, List, [], ◌∷◌, Option, Some, None, Result, Ok, Err, IfOk, map, length, sym, ap, subst, ◌∙◌, refl, inl, inr}
use Rattle.std.specs.Prelude.{◌↔◌, All, min, sum_by, option_map, option_and_then}
use Rattle.std.specs.List.{AllByRecursion, find, cons_option}
use Rattle.std.specs.List.Sorted.{IsPermutation}
use Rattle.std.proofs.lemmas.Bool.{ltb-true, ltb-false}
use Rattle.std.proofs.lemmas.List.{length-map}
use Rattle.std.proofs.lemmas.List.Elements.{All-from_recursion, recursion_from_All}
use Rattle.std.proofs.lemmas.List.Sorted.{All-permutation}
use Rattle.std.proofs.lemmas.Slice.Zip.{AllZip-long}
use Rattle.pw_defs.specs.Values.{value_cmp}
use Rattle.pw_defs.specs.declared.chains.Walk.{Walk}
use Rattle.pw_defs.specs.declared.conditions.Cond.{Cond}
use Rattle.pw_defs.specs.declared.design.Design.{Design}
use Rattle.pw_defs.specs.declared.faults.ListFault.{ListFault}
use Rattle.pw_defs.specs.declared.faults.ListFault.TheVariants.{Bound}
use Rattle.pw_defs.specs.declared.intent.Intent.{Intent}
use Rattle.pw_defs.specs.declared.report.Finding.{Finding}
use Rattle.pw_defs.specs.declared.report.Report.{Report}
use Rattle.pw_defs.specs.declared.values.State.{State}
use Rattle.pw_defs.specs.declared.values.Value.{Value}
use Rattle.list_defs.specs.Members.{IsIn}
use Rattle.list_defs.specs.Orders.{IsRising, IsPutInOrder}
use Rattle.pw_defs.specs.Values.{state_cmp}
use Rattle.list_defs.proofs.Rising.{each_in, found_in}
use Rattle.checks.specs.LineChains.{Ends, chains}
use Rattle.design_defs.specs.Walks.{AreWalks}
use Rattle.supply_defs.specs.Conditions.{holds}
use Rattle.supply_defs.specs.States.{IsLegal, legal_states, state_count, value_in}
use Rattle.checks.specs.LineFindings.{AreFindings, IsReport, lists_of, conds_of, legal_of, visible_of, finding_cmp, top_name}
use Rattle.signoff_defs.specs.ReportText.{HasWholeWitness}
use Rattle.checks.specs.LineWatches.{watched}
use Rattle.checks.specs.declared.chain_ends.ChainEnds.{ChainEnds}
use Rattle.checks.specs.Checked.{AreLegal}
use Rattle.checks.specs.Ends.{ends_of}
use Rattle.checks.specs.Judging.{shown_by, missing_on, findings_of}
use Rattle.checks.proofs.Judged.{values, found_value, judged}

-- LEGAL STATES

not_above : (a b : ℕ) → (a < b → ⊥) → b ≤ a
not_above a b never = by (ltb a b) refl
  where
    by : (p : Bool) → ltb a b ≡ p → b ≤ a
    by true is = absurd (never (ltb-true a b is))
    by false is = ltb-false a b is

each_from : {X : Type 0} (P : X → Type 0) (xs : List X) → ((x : X) → IsIn x xs → P x) → AllByRecursion P xs
each_from P [] f = tt
each_from P (x ∷ xs) f = (f x (inl refl), each_from P xs (λ y there. f y (inr there)))

pub legal_is : (i : Intent) (lists : List (List Value)) (conds : List Cond) (r : Result (List State) ListFault) → lists ≡ lists_of i → conds ≡ conds_of i
    → length i.lists ≡ length i.supplies → All (IsRising value_cmp) (lists_of i)
    → IfOk r (λ states. values states ≡ legal_states lists conds)
    → ((r ≡ Err Bound) ↔ (65536 < state_count lists))
    → IfOk r (λ states. (state : List Value) → IsIn state (values states) ↔ IsLegal lists conds state)
    → IfOk r (λ states. All (IsRising value_cmp) lists → IsRising state_cmp (values states))
    → IfOk r (λ states. AreLegal i states)
legal_is i lists conds (Err e) same met long rises listed bound legal order = tt
legal_is i lists conds (Ok states) same met long rises listed bound legal order = record {
  listed = listed ∙ ap (λ (l : List (List Value)). legal_states l conds) same ∙ ap (legal_states (lists_of i)) met;
  rising = order (subst (All (IsRising value_cmp)) (sym same) rises);
  whole = each_from (λ v. length v ≡ length i.supplies) (values states) (λ v there. sym (AllZip-long IsIn v lists ((legal v).0 there).0) ∙ ap length same ∙ length-map i.lists (λ l. l.values) ∙ long);
  few = subst (λ (l : List (List Value)). state_count l ≤ 65536) same (not_above 65536 (state_count lists) (λ above. answered (bound.1 above)));
}
  where
    answered : Ok states ≡ Err Bound → ⊥
    answered e = cc

-- WITNESSES

found_there : (p : List Value → Bool) (states : List State) (s : State) → find (λ x. p x.values) states ≡ Some s → IsIn s.values (values states)
found_there p states s e = (found_in p (values states) s.values (found_value p states s e)).0

whole_next : (d : Design) (i : Intent) (states : List State) (c : Ends) (fs : List Finding) → AllByRecursion (λ v. length v ≡ length i.supplies) (values states)
    → AllByRecursion (HasWholeWitness (visible_of i)) fs → AllByRecursion (HasWholeWitness (visible_of i)) (cons_option (option_map (missing_on d c) (shown_by i states c)) fs)
whole_next d i states c fs whole rest = by (watched i c)
  where
    shown : (watch : Cond) (r : Option State) → find (λ x. holds (value_in x.values) watch) states ≡ r
        → AllByRecursion (HasWholeWitness (visible_of i)) (cons_option (option_map (missing_on d c) r) fs)
    shown watch None e = rest
    shown watch (Some s) e =
        (each_in (λ v. length v ≡ length i.supplies) (values states) s.values whole (found_there (λ v. holds (value_in v) watch) states s e) ∙ sym (length-map i.supplies (λ x. x.name)), rest)

    by : (o : Option Cond) → AllByRecursion (HasWholeWitness (visible_of i)) (cons_option (option_map (missing_on d c) (option_and_then (λ watch. find (λ x. holds (value_in x.values) watch) states) o)) fs)
    by None = rest
    by (Some watch) = shown watch (find (λ x. holds (value_in x.values) watch) states) refl

all_whole : (d : Design) (i : Intent) (states : List State) (cs : List Ends) → AllByRecursion (λ v. length v ≡ length i.supplies) (values states)
    → AllByRecursion (HasWholeWitness (visible_of i)) (findings_of d i states cs)
all_whole d i states [] whole = tt
all_whole d i states (c ∷ cs) whole = whole_next d i states c (findings_of d i states cs) whole (all_whole d i states cs whole)

pub sorted_whole : (d : Design) (i : Intent) (states : List State) (cs : List Ends) (found sorted : List Finding) (visible : List (List ℕ)) → AreLegal i states
    → found ≡ findings_of d i states cs → IsPermutation found sorted → visible ≡ visible_of i → AllByRecursion (HasWholeWitness visible) sorted
sorted_whole d i states cs found sorted visible legal is same seen =
    subst (λ (v : List (List ℕ)). AllByRecursion (HasWholeWitness v) sorted) (sym seen)
    (recursion_from_All (HasWholeWitness (visible_of i)) sorted (All-permutation (HasWholeWitness (visible_of i)) found sorted same
    (All-from_recursion (HasWholeWitness (visible_of i)) found (subst (AllByRecursion (HasWholeWitness (visible_of i))) (sym is) (all_whole d i states cs legal.whole)))))

-- THE REPORT

pub report_is : (d : Design) (i : Intent) (states : List State) (walks : List Walk) (ends : List ChainEnds) (found : List Finding) (r : Report)
    → AreLegal i states → AreWalks d walks → map ends_of ends ≡ chains d walks → found ≡ findings_of d i states (map ends_of ends)
    → r.top ≡ top_name d → r.chains ≡ length ends → r.passed ≡ min (sum_by (λ u. u.passed) i.units) 4294967295 → r.boundaries ≡ [] → r.visible ≡ visible_of i
    → IsPutInOrder finding_cmp found r.findings → IsReport d i r
report_is d i states walks ends found r legal walked chained is top count passed none seen ordered = record {
  walks = walks;
  are_walks = walked;
  found = found;
  are_found =
      subst (AreFindings d i (legal_of i) (chains d walks)) (sym (is ∙ ap (findings_of d i states) chained))
      (subst (λ (l : List (List Value)). AreFindings d i l (chains d walks) (findings_of d i states (chains d walks))) legal.listed (judged d i states (chains d walks) legal.rising legal.whole));
  top = top;
  chain_count = count ∙ sym (length-map ends ends_of) ∙ ap length chained;
  passed = passed;
  boundaries = none;
  visible = seen;
  findings = ordered;
}
