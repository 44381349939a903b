-- In a list that stands best first the first passing candidate is the effective one, so that there is a choice.
use Rattle.std.proofs.Common.{◌≡◌, ◌≢◌, ℕ, zero, suc, ◌+◌, ◌<◌, ◌≤◌, Bool, true, false, not, ◌&&◌, eqb, List, [], ◌∷◌, Some, None, slice_get, ◌-◌, ◌⊎◌, inl, inr, refl, sym, ap, ◌∙◌, subst, arith, get_or}
use Rattle.std.specs.Ordering.{is_eq, is_lt, ordering_reverse}
use Rattle.std.specs.declared.cmp.Ordering.{Ordering}
use Rattle.std.specs.declared.cmp.Ordering.TheVariants.{Less, Equal, Greater}
use Rattle.std.proofs.lemmas.Bool.{true≢false, eqb-false, ne_eqb}
use Rattle.std.proofs.lemmas.List.Sorted.{ranks_by, sorted_far}
use Rattle.std.proofs.lemmas.Option.{slice_get_within, get_or_from_slice_get}
use Rattle.pw_defs.specs.declared.design.Design.{Design}
use Rattle.pw_defs.specs.declared.intent.Face.{Face}
use Rattle.pw_defs.specs.declared.intent.Intent.{Intent}
use Rattle.pw_defs.specs.declared.intent.SupplySet.{SupplySet}
use Rattle.pw_defs.specs.declared.strategies.Candidate.{Candidate}
use Rattle.pw_defs.specs.declared.strategies.Choice.{Choice}
use Rattle.pw_defs.specs.declared.strategies.Tool.{Tool}
use Rattle.domain_defs.specs.Precedence.{AreCandidates, candidate_cmp, passes, Passes, IsEffective, IsTied, IsChoice}
use Rattle.domain_defs.proofs.OneChoice.{candidate_cmp_total}

before_or_not : (a b : ℕ) → (a < b) ⊎ (b ≤ a)
before_or_not a zero = inr (omega arith)
before_or_not zero (suc b) = inl (omega arith)
before_or_not (suc a) (suc b) = elim (before_or_not a b) [ inl less ↦ inl (omega arith) | inr more ↦ inr (omega arith) ]

-- each candidate is exceeded by none that stands behind it
abbrev pub IsBestFirst : List Candidate → Type 0
IsBestFirst list = (i j : ℕ) (c d : Candidate) → i < j → slice_get list i ≡ Some c → slice_get list j ≡ Some d → candidate_cmp d c ≢ Less

not_itself : (c : Candidate) → candidate_cmp c c ≢ Less
not_itself c less =
    let back : candidate_cmp c c ≡ ordering_reverse (candidate_cmp c c) = candidate_cmp_total.antisymm c c in
    let more : ordering_reverse (candidate_cmp c c) ≡ Greater = ap ordering_reverse less in
    cc

-- a passing candidate before which none passes is the effective one
pub first_passing_is_effective : (list : List Candidate) (from to : SupplySet) (place : ℕ) (c : Candidate) → IsBestFirst list → Passes list from to place c
    → ((other : ℕ) (o : Candidate) → other < place → ¬ Passes list from to other o) → IsEffective list from to place c
first_passing_is_effective list from to place c best passing first = record {
  passing = passing;
  unexceeded = λ other o p. elim (before_or_not other place) [ inl before ↦ absurd (first other o before p) | inr later ↦ behind other o p later ];
  made_first = λ other o before p. absurd (first other o before p);
}
  where
    at_place : (other : ℕ) (o : Candidate) → other ≡ place → Passes list from to other o → candidate_cmp o c ≢ Less
    at_place other o same p =
        let S : ℕ → Type 0 = λ n. slice_get list n ≡ Some o in
        let here : slice_get list place ≡ Some o = subst S same p.there in
        let there = passing.there in
        let one : o ≡ c = cc in
        let N : Candidate → Type 0 = λ x. candidate_cmp x c ≢ Less in
        subst N (sym one) (not_itself c)

    behind : (other : ℕ) (o : Candidate) → Passes list from to other o → place ≤ other → candidate_cmp o c ≢ Less
    behind other o p later =
        elim (before_or_not place other)
        [ inl after ↦ best place other c o after passing.there p.there | inr not_after ↦ at_place other o (omega arith) p ]

-- whether something in a list from a place on passes a test of places, and then the first that does
record IsFound {X : Type 0} (list : List X) (test : ℕ → X → Bool) (place : ℕ) (x : X) : Type 0 where
  there : slice_get list place ≡ Some x
  passing : test place x ≡ true
  first : (other : ℕ) (y : X) → other < place → slice_get list other ≡ Some y → test other y ≡ false

abbrev AllFail : {X : Type 0} → List X → (ℕ → X → Bool) → Type 0
AllFail {X} list test = (place : ℕ) (x : X) → slice_get list place ≡ Some x → test place x ≡ false

search_from : {X : Type 0} (list : List X) (test : ℕ → X → Bool) (rest : List X) (at : ℕ) → ((n : ℕ) → slice_get rest n ≡ slice_get list (at + n))
    → ((place : ℕ) (x : X) → place < at → slice_get list place ≡ Some x → test place x ≡ false)
    → ((place : ℕ) × (x : X) × IsFound list test place x) ⊎ AllFail list test
search_from {X} list test [] at same none =
    inr (λ place x there. elim (before_or_not place at) [ inl before ↦ none place x before there | inr later ↦ past place x there later ])
  where
    past : (place : ℕ) (x : X) → slice_get list place ≡ Some x → at ≤ place → test place x ≡ false
    past place x there later =
        let G : ℕ → Type 0 = λ n. slice_get list n ≡ Some x in
        let there' : slice_get list (at + (place - at)) ≡ Some x = subst G (omega arith) there in
        let nothing : None ≡ slice_get list (at + (place - at)) = same (place - at) in
        cc
search_from {X} list test (x ∷ rest) at same none = by (test at x) refl (λ fails. search_from list test rest (at + 1) next (none_yet fails))
  where
    here : slice_get list at ≡ Some x
    here = let G : ℕ → Type 0 = λ n. Some x ≡ slice_get list n in sym (subst G (omega arith) (same 0))

    next : (n : ℕ) → slice_get rest n ≡ slice_get list (at + 1 + n)
    next n = let G : ℕ → Type 0 = λ m. slice_get rest n ≡ slice_get list m in subst G (omega arith) (same (suc n))

    none_yet : test at x ≡ false → (place : ℕ) (y : X) → place < at + 1 → slice_get list place ≡ Some y → test place y ≡ false
    none_yet fails place y less there = elim (before_or_not place at) [
      | inl before ↦ none place y before there
      | inr not_before ↦ (let G : ℕ → Type 0 = λ n. slice_get list n ≡ Some y in
          let places : place ≡ at = omega arith in
          let there' : slice_get list at ≡ Some y = subst G places there in
          let here' : slice_get list at ≡ Some x = here in
          let one : y ≡ x = cc in
          let T : ℕ → Type 0 = λ n. test n y ≡ false in
          subst T (sym places) (ap (test at) one ∙ fails))
    ]

    by : (b : Bool) → test at x ≡ b → (test at x ≡ false → ((place : ℕ) × (x : X) × IsFound list test place x) ⊎ AllFail list test)
        → ((place : ℕ) × (x : X) × IsFound list test place x) ⊎ AllFail list test
    by true passing further = inl (at, x, record { there = here; passing = passing; first = none })
    by false fails further = further fails

search_list : {X : Type 0} (list : List X) (test : ℕ → X → Bool) → ((place : ℕ) × (x : X) × IsFound list test place x) ⊎ AllFail list test
search_list {X} list test =
    search_from list test list 0 (λ n. let G : ℕ → Type 0 = λ m. slice_get list n ≡ slice_get list m in subst G (omega arith) refl)
    (λ place x less there. absurd (omega arith))

-- whether another candidate at this place ties with the one at `place`
abbrev ties_with : SupplySet → SupplySet → ℕ → Candidate → ℕ → Candidate → Bool
ties_with from to place c other o = passes from to o && (not (eqb other place) && is_eq (candidate_cmp o c))

tie_test : (a b d : Bool) → (a && (not b && d)) ≡ true → (a ≡ true) × (b ≡ false) × (d ≡ true)
tie_test true false true e = (refl, refl, refl)
tie_test true false false e = cc
tie_test true true d e = cc
tie_test false b d e = cc

no_tie_test : (a b d : Bool) → (a && (not b && d)) ≡ false → a ≡ true → b ≡ false → d ≡ false
no_tie_test a b d e p q = by a b e p q
  where
    by : (x y : Bool) → (x && (not y && d)) ≡ false → x ≡ true → y ≡ false → d ≡ false
    by true true e p q = cc
    by true false e p q = e
    by false y e p q = cc

equal_from : (o : Ordering) → is_eq o ≡ true → o ≡ Equal
equal_from Less e = cc
equal_from Equal e = refl
equal_from Greater e = cc

-- a list that stands best first has a choice
pub some_choice : (list : List Candidate) (from to : SupplySet) → IsBestFirst list → (choice : Choice) × IsChoice list from to choice
some_choice list from to best = elim (search_list list (λ place c. passes from to c)) [
  | inl found ↦ chosen found.0 found.1 found.2
  | inr none ↦ (record { first = None; tie = false }, IsChoice.none (λ place c p. true≢false (sym p.passing ∙ none place c p.there)))
]
  where
    chosen : (place : ℕ) (c : Candidate) → IsFound list (λ place c. passes from to c) place c → (choice : Choice) × IsChoice list from to choice
    chosen place c found = elim (search_list list (ties_with from to place c)) [
      | inl tie ↦ (record { first = Some place; tie = true }, IsChoice.tied place c effective (tied tie.0 tie.1 tie.2.there tie.2.passing))
      | inr none ↦ (record { first = Some place; tie = false }, IsChoice.alone place c effective (λ t. untied none t))
    ]
      where
        effective : IsEffective list from to place c
        effective = first_passing_is_effective list from to place c best (record { there = found.there; passing = found.passing })
            (λ other o before p. true≢false (sym p.passing ∙ found.first other o before p.there))

        tied : (other : ℕ) (o : Candidate) → slice_get list other ≡ Some o → ties_with from to place c other o ≡ true → IsTied list from to place c
        tied other o there passes_test =
            let parts = tie_test (passes from to o) (eqb other place) (is_eq (candidate_cmp o c)) passes_test in
            record {
              other = other;
              candidate = o;
              elsewhere = eqb-false other place parts.1;
              passing = record { there = there; passing = parts.0 };
              equal = equal_from (candidate_cmp o c) parts.2;
            }

        untied : AllFail list (ties_with from to place c) → ¬ IsTied list from to place c
        untied none t =
            let fails = none t.other t.candidate t.passing.there in
            let unequal : is_eq (candidate_cmp t.candidate c) ≡ false =
            no_tie_test (passes from to t.candidate) (eqb t.other place) (is_eq (candidate_cmp t.candidate c)) fails t.passing.passing
            (ne_eqb t.other place t.elsewhere) in
            true≢false (sym (ap is_eq t.equal) ∙ unequal)

-- the candidates at a face stand best first
pub candidates_best_first : (design : Design) (intent : Intent) (face : Face) (tool : Tool) (list : List Candidate) → AreCandidates design intent face tool list
    → IsBestFirst list
candidates_best_first design intent face tool list are i j c d before here there less =
    let far : is_lt (candidate_cmp (get_or list j c) (get_or list i c)) ≡ false =
    sorted_far (λ x y. is_lt (candidate_cmp x y)) (ranks_by candidate_cmp_total (λ x. x)) list are.2.sorted i j c (omega arith)
    (slice_get_within list j d there) in
    let first : get_or list i c ≡ c = get_or_from_slice_get list i c c here in
    let second : get_or list j c ≡ d = get_or_from_slice_get list j d c there in
    let E : Candidate → Type 0 = λ x. is_lt (candidate_cmp x (get_or list i c)) ≡ false in
    let F : Candidate → Type 0 = λ x. is_lt (candidate_cmp d x) ≡ false in
    true≢false (sym (ap is_lt less) ∙ subst F first (subst E second far))

-- so there is a choice among the candidates at a face
pub choice_at_face : (design : Design) (intent : Intent) (face : Face) (tool : Tool) (list : List Candidate) (from to : SupplySet)
    → AreCandidates design intent face tool list → (choice : Choice) × IsChoice list from to choice
choice_at_face design intent face tool list from to are = some_choice list from to (candidates_best_first design intent face tool list are)
