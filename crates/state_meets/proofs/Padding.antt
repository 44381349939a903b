-- Lists with empty ones before and behind.
use Rattle.std.proofs.Common.{◌≡◌, ℕ, zero, suc, ◌+◌, ◌-◌, ◌≤◌, ◌<◌, List, [], ◌∷◌, ◌++◌, set, replicate, length, get_or, length-append, refl, sym, ap, ◌∙◌, subst, arith}
use Rattle.std.proofs.lemmas.List.{get_or_append_left, get_or-append_right, get_or-replicate, length-replicate, set-append_left, set-append_right, replicate-append-replicate}
use Rattle.state_meets.specs.Gathered.{padded}
use Rattle.state_meets.specs.Planned.{Begins}
use Rattle.state_meets.proofs.Spreading.{Begins_later}

empty_at : (count k : ℕ) → ◌≡◌ {A = List ℕ} (get_or (replicate count []) k []) []
empty_at zero k = refl
empty_at (suc count) zero = refl
empty_at (suc count) (suc k) = empty_at count k

pub length_padded : (before : ℕ) (lists : List (List ℕ)) (behind : ℕ) → length (padded before lists behind) ≡ before + length lists + behind
length_padded before lists behind =
    let front : length (replicate before []) ≡ before = length-replicate {A = List ℕ} before [] in
    let tail : length (replicate behind []) ≡ behind = length-replicate {A = List ℕ} behind [] in
    let all = length-append {A = List ℕ} (replicate before []) (lists ++ replicate behind []) in
    let rest = length-append {A = List ℕ} lists (replicate behind []) in
    omega arith

pub before_padded : (before : ℕ) (lists : List (List ℕ)) (behind level : ℕ) → level < before → ◌≡◌ {A = List ℕ} (get_or (padded before lists behind) level []) []
before_padded before lists behind level low =
    let front : length (replicate before []) ≡ before = length-replicate {A = List ℕ} before [] in
    get_or_append_left {A = List ℕ} (replicate before []) (lists ++ replicate behind []) [] level (omega arith) ∙ get_or-replicate {A = List ℕ} before level [] [] low

pub in_padded : (before : ℕ) (lists : List (List ℕ)) (behind level : ℕ) → before ≤ level → level - before < length lists → ◌≡◌ {A = List ℕ} (get_or (padded before lists behind) level []) (get_or lists (level - before) [])
in_padded before lists behind level low inside =
    get_or-append_right {X = List ℕ} (replicate before []) (lists ++ replicate behind []) before level [] (length-replicate {A = List ℕ} before []) low
    ∙ get_or_append_left {A = List ℕ} lists (replicate behind []) [] (level - before) inside

pub behind_padded : (before : ℕ) (lists : List (List ℕ)) (behind level : ℕ) → before ≤ level → length lists ≤ level - before → ◌≡◌ {A = List ℕ} (get_or (padded before lists behind) level []) []
behind_padded before lists behind level low past =
    get_or-append_right {X = List ℕ} (replicate before []) (lists ++ replicate behind []) before level [] (length-replicate {A = List ℕ} before []) low
    ∙ get_or-append_right {X = List ℕ} lists (replicate behind []) (length lists) (level - before) [] refl past ∙ empty_at behind (level - before - length lists)

-- one number more at a level of the row
pub padded_put : (before : ℕ) (lists : List (List ℕ)) (behind level n : ℕ) → before ≤ level → level - before < length lists
    → padded before (set lists (level - before) (get_or lists (level - before) [] ++ n ∷ [])) behind ≡ set (padded before lists behind) level (get_or (padded before lists behind) level [] ++ n ∷ [])
padded_put before lists behind level n low inside =
    let new : List ℕ = get_or lists (level - before) [] ++ n ∷ [] in
    let here = ap (λ (ns : List ℕ). set (padded before lists behind) level (ns ++ n ∷ [])) (in_padded before lists behind level low inside) in
    let front = set-append_right {X = List ℕ} (replicate before []) (lists ++ replicate behind []) before level new (length-replicate {A = List ℕ} before []) low in
    let back = ap (λ (ls : List (List ℕ)). replicate before [] ++ ls) (set-append_left {A = List ℕ} lists (replicate behind []) (level - before) new inside) in
    sym (here ∙ front ∙ back)

-- with no lists but empty ones
pub padded_none : (before count behind : ℕ) → padded before (replicate count []) behind ≡ replicate (before + (count + behind)) []
padded_none before count behind =
    ap (λ (ls : List (List ℕ)). replicate before [] ++ ls) (replicate-append-replicate {A = List ℕ} count behind []) ∙ replicate-append-replicate {A = List ℕ} before (count + behind) []

-- before the row nothing begins
pub begins_padded : (before : ℕ) (lists : List (List ℕ)) (behind : ℕ) → Begins (padded before lists behind) before
begins_padded before lists behind = up_to before (omega arith)
  where
    up_to : (k : ℕ) → k ≤ before → Begins (padded before lists behind) k
    up_to zero low = λ q nodes state. refl
    up_to (suc k) low =
        let size = length_padded before lists behind in
        let next : k + 1 ≡ suc k = omega arith in
        subst (Begins (padded before lists behind)) next (Begins_later (padded before lists behind) k (omega arith) (before_padded before lists behind k (omega arith)) (up_to k (omega arith)))
