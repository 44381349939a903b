-- Meanings of terms in their order, one term more at a time.
use Rattle.std.proofs.Common.{◌≡◌, ℕ, ◌<◌, ◌^◌, List, [], ◌∷◌, ◌++◌, length, Some, None, slice_get, Result, Ok, Err, IfErr, refl, sym, ap, ◌∙◌, subst}
use Rattle.std.specs.Option.{option_map}
use Rattle.std.specs.Result.{IsErrAnd}
use Rattle.list_defs.specs.Members.{place_of, same_name}
use Rattle.pw_defs.specs.declared.conditions.Cond.{Cond}
use Rattle.pw_defs.specs.declared.faults.TermFault.{TermFault}
use Rattle.pw_defs.specs.declared.faults.TermFault.TheVariants.{U8, U9, Memory}
use Rattle.pw_defs.specs.declared.terms.NamedState.{NamedState}
use Rattle.pw_defs.specs.declared.terms.Term.{Term}
use Rattle.pw_defs.specs.declared.terms.Term.TheVariants.{Is, Not, All, Any}
use Rattle.pw_defs.specs.declared.terms.TermNames.{TermNames}
use Rattle.power_states.specs.TermMeaning.{EachMeans, Means, Meaning, made, none, part, faulty, state, no_state, opposite, all, any}
use Rattle.state_conditions.specs.declared.named.Found.{Found}
use Rattle.state_conditions.specs.Faults.{HasFault, HasFaultAmong, HasNoState}
use Rattle.state_conditions.specs.Keys.{AreFound, first_in, key_of, own_key}
use Rattle.state_conditions.proofs.KeyLemmas.{absent_state, found_state}

more_by : (names : TermNames) (terms : List Term) (term : Term) (cond : Cond) (meant : Meaning (List Cond)) (conds : List Cond) → EachMeans names terms meant
    → Means names term (Ok cond) → meant ≡ Ok conds → EachMeans names (terms ++ term ∷ []) (Ok (conds ++ cond ∷ []))
more_by names terms term cond meant conds none h e =
    let empty : [] ≡ conds = cc in
    let P : List Cond → Type 0 = λ cs. EachMeans names (term ∷ []) (Ok (cs ++ cond ∷ [])) in
    subst P empty (part term [] cond (Ok []) h none)
more_by names terms term cond meant conds (part t ts c m first rest) h e = by m e (λ cs is. more_by names ts term cond m cs rest h is)
  where
    by : (w : Meaning (List Cond)) → made (λ cs. c ∷ cs) w ≡ Ok conds → ((cs : List Cond) → w ≡ Ok cs → EachMeans names (ts ++ term ∷ []) (Ok (cs ++ cond ∷ [])))
        → EachMeans names (t ∷ (ts ++ term ∷ [])) (Ok (conds ++ cond ∷ []))
    by (Ok cs) is more =
        let all : c ∷ cs ≡ conds = cc in
        let P : List Cond → Type 0 = λ xs. EachMeans names (t ∷ (ts ++ term ∷ [])) (Ok (xs ++ cond ∷ [])) in
        subst P all (part t (ts ++ term ∷ []) c (Ok (cs ++ cond ∷ [])) first (more cs refl))
    by (Err name) is more = cc
more_by names terms term cond meant conds (faulty t ts name first) h e = cc

-- terms that mean these conditions, and one more
pub each_more : (names : TermNames) (terms : List Term) (term : Term) (conds : List Cond) (cond : Cond) → EachMeans names terms (Ok conds)
    → Means names term (Ok cond) → EachMeans names (terms ++ term ∷ []) (Ok (conds ++ cond ∷ []))
each_more names terms term conds cond h more = more_by names terms term cond (Ok conds) conds h more refl

fault_by : (names : TermNames) (terms more : List Term) (term : Term) (name : List ℕ) (meant : Meaning (List Cond)) (conds : List Cond) → EachMeans names terms meant
    → Means names term (Err name) → meant ≡ Ok conds → EachMeans names (terms ++ term ∷ more) (Err name)
fault_by names terms more term name meant conds none h e = faulty term more name h
fault_by names terms more term name meant conds (part t ts c m first rest) h e = by m e (λ cs is. fault_by names ts more term name m cs rest h is)
  where
    by : (w : Meaning (List Cond)) → made (λ cs. c ∷ cs) w ≡ Ok conds → ((cs : List Cond) → w ≡ Ok cs → EachMeans names (ts ++ term ∷ more) (Err name))
        → EachMeans names (t ∷ (ts ++ term ∷ more)) (Err name)
    by (Ok cs) is faulted = part t (ts ++ term ∷ more) c (Err name) first (faulted cs refl)
    by (Err other) is faulted = cc
fault_by names terms more term name meant conds (faulty t ts other first) h e = cc

-- terms that mean these conditions, and one that names a state that isn't there
pub each_fault : (names : TermNames) (terms more : List Term) (term : Term) (conds : List Cond) (name : List ℕ) → EachMeans names terms (Ok conds)
    → Means names term (Err name) → EachMeans names (terms ++ term ∷ more) (Err name)
each_fault names terms more term conds name h fault = fault_by names terms more term name (Ok conds) conds h fault refl

-- the meaning of a state that is found
pub means_found : (names : TermNames) (found : Found) (object name : List ℕ) (number : ℕ) (s : NamedState) → AreFound names.states found
    → Some number ≡ first_in found (key_of object name) → slice_get names.states number ≡ Some s → length object < 2 ^ 64 → length s.object < 2 ^ 64
    → Means names (Is object name) (Ok s.cond)
means_found names found object name number s are first at fits fits' =
    let place : place_of (λ (t : NamedState). same_name (key_of object name) (own_key t)) names.states ≡ Some number =
    sym (are.firsts (key_of object name)) ∙ sym first in
    state object name s.cond (ap (option_map (λ (t : NamedState). t.cond)) (found_state object name names.states number s fits fits' place at))

-- the fault of a state that isn't there
pub fault_absent : (names : TermNames) (found : Found) (object name : List ℕ) (fault : TermFault) → AreFound names.states found
    → None ≡ first_in found (key_of object name) → HasNoState name fault → HasFault names (Is object name) fault
fault_absent names found object name fault are first lacks = by fault lacks
  where
    place : place_of (λ (t : NamedState). same_name (key_of object name) (own_key t)) names.states ≡ None
    place = sym (are.firsts (key_of object name)) ∙ sym first

    absent : Means names (Is object name) (Err name)
    absent = no_state object name (ap (option_map (λ (t : NamedState). t.cond)) (absent_state object name names.states place))

    by : (f : TermFault) → HasNoState name f → HasFault names (Is object name) f
    by U8 h = h
    by (U9 shown) h =
        let P : List ℕ → Type 0 = λ x. Means names (Is object name) (Err x) in
        subst P (sym h) absent
    by Memory h = tt

-- what holds of an error holds where it is passed on
pub passed_on : {T E : Type 0} (r : Result T E) (fault : E) (P : E → Type 0) → IsErrAnd r (λ e. e ≡ fault) → P fault → IfErr r P
passed_on (Ok x) fault P is holds = tt
passed_on (Err e) fault P is holds = subst P (sym is) holds

-- the fault of a part is that of its opposite
pub fault_not : (names : TermNames) (term inner same : Term) (fault : TermFault) → term ≡ Not inner → same ≡ inner → HasFault names same fault
    → HasFault names term fault
fault_not names term inner same fault is like h = subst P (sym is) (by fault (subst P like h))
  where
    P : Term → Type 0
    P t = HasFault names t fault

    by : (f : TermFault) → HasFault names inner f → HasFault names (Not inner) f
    by U8 h = h
    by (U9 name) h = opposite inner (Err name) h
    by Memory h = tt

-- the first fault of parts is that of all of them, and that of any of them
pub fault_all : (names : TermNames) (term : Term) (parts same : List Term) (fault : TermFault) → term ≡ All parts → same ≡ parts → HasFaultAmong names same fault
    → HasFault names term fault
fault_all names term parts same fault is like h = subst P (sym is) (by fault (subst Q like h))
  where
    P : Term → Type 0
    P t = HasFault names t fault

    Q : List Term → Type 0
    Q ts = HasFaultAmong names ts fault

    by : (f : TermFault) → HasFaultAmong names parts f → HasFault names (All parts) f
    by U8 h = h
    by (U9 name) h = all parts (Err name) h
    by Memory h = tt

pub fault_any : (names : TermNames) (term : Term) (parts same : List Term) (fault : TermFault) → term ≡ Any parts → same ≡ parts → HasFaultAmong names same fault
    → HasFault names term fault
fault_any names term parts same fault is like h = subst P (sym is) (by fault (subst Q like h))
  where
    P : Term → Type 0
    P t = HasFault names t fault

    Q : List Term → Type 0
    Q ts = HasFaultAmong names ts fault

    by : (f : TermFault) → HasFaultAmong names parts f → HasFault names (Any parts) f
    by U8 h = h
    by (U9 name) h = any parts (Err name) h
    by Memory h = tt

-- the first fault of terms is that of the first that has one
pub fault_among : (names : TermNames) (terms before more : List Term) (term : Term) (conds : List Cond) (fault : TermFault) → before ++ term ∷ more ≡ terms
    → EachMeans names before (Ok conds) → HasFault names term fault → HasFaultAmong names terms fault
fault_among names terms before more term conds fault is means h = subst Q is (by fault h)
  where
    Q : List Term → Type 0
    Q ts = HasFaultAmong names ts fault

    by : (f : TermFault) → HasFault names term f → HasFaultAmong names (before ++ term ∷ more) f
    by U8 h = h
    by (U9 name) h = each_fault names before more term conds name means h
    by Memory h = tt

-- MEANINGS of terms, form by form
pub means_same : (names : TermNames) (term form : Term) (cond same : Cond) → term ≡ form → same ≡ cond → Means names form (Ok cond) → Means names term (Ok same)
means_same names term form cond same is like h =
    let P : Term → Type 0 = λ t. Means names t (Ok same) in
    let Q : Cond → Type 0 = λ c. Means names form (Ok c) in
    subst P (sym is) (subst Q (sym like) h)

pub each_same : (names : TermNames) (terms same : List Term) (conds : List Cond) → terms ≡ same → EachMeans names terms (Ok conds) → EachMeans names same (Ok conds)
each_same names terms same conds is h =
    let P : List Term → Type 0 = λ ts. EachMeans names ts (Ok conds) in
    subst P is h
