-- The last dot in a name.
use Rattle.std.proofs.Common.{◌≡◌, ℕ, suc, ◌+◌, ◌-◌, ◌<◌, ◌≤◌, true, false, not, List, [], ◌∷◌, length, get_or, take, drop, refl, ap, arith}
use Rattle.std.specs.List.{list_any, suffix_len}
use Rattle.std.proofs.lemmas.List.Folds.{list_any_at}
use Rattle.std.proofs.lemmas.List.Sums.{suffix_len_is}
use Rattle.script_defs.specs.LookUps.{is_dot}
use Rattle.script_world.specs.Handles.{IsLastDot}

-- no dot from a place on
abbrev pub HasNoDotFrom : List ℕ → ℕ → Type 0
HasNoDotFrom name end = (k : ℕ) → end ≤ k → k < length name → is_dot (get_or name k 0) ≡ false

pub last_dot : (name : List ℕ) (end : ℕ) → 0 < end → end ≤ length name → is_dot (get_or name (end - 1) 0) ≡ true → HasNoDotFrom name end → IsLastDot name (end - 1)
last_dot name end some within dot none = record {
  within = omega arith;
  has = list_any_at is_dot name (end - 1) 0 (omega arith) dot;
  before = ap (λ n. take n name) front;
  after = ap (λ n. drop n name) back;
}
  where
    behind : suffix_len (λ b. not (is_dot b)) name ≡ length name - end
    behind = suffix_len_is (λ b. not (is_dot b)) name end 0 within (λ k from to. ap not (none k from to)) (λ _. ap not dot)

    front : length name - suffix_len (λ b. not (is_dot b)) name - 1 ≡ end - 1
    front = omega (arith, behind)

    back : length name - suffix_len (λ b. not (is_dot b)) name ≡ end - 1 + 1
    back = omega (arith, behind)

pub no_dot : (name : List ℕ) → HasNoDotFrom name 0 → list_any is_dot name ≡ false
no_dot [] none = refl
no_dot (b ∷ name) none =
    let first : is_dot b ≡ false = none 0 (omega arith) (omega arith) in
    let rest : list_any is_dot name ≡ false = no_dot name (λ k from to. none (suc k) (omega arith) (omega arith)) in
    rw (first, rest) refl
