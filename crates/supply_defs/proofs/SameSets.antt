-- A set has one set of roots, and having the same roots is an equivalence.
use Rattle.std.proofs.Common.{◌≡◌, ℕ, List, Option, Some, refl, ap, ◌∙◌, subst, ◌↔◌}
use Rattle.pw_defs.specs.declared.intent.SupplySet.{SupplySet}
use Rattle.pw_defs.specs.declared.supplies.Supply.{Supply}
use Rattle.supply_defs.specs.Network.{IsRoot}
use Rattle.supply_defs.specs.UnitViews.{IsGroundRoot, HasRoots, AreSameSet}
use Rattle.supply_defs.proofs.Roots.{one_root}

same_ground_root : (supplies : List Supply) (stop : List ℕ) (g h r s : Option ℕ) → g ≡ h → IsGroundRoot supplies stop g r
    → IsGroundRoot supplies stop h s → r ≡ s
same_ground_root supplies stop _ _ _ _ same IsGroundRoot.missing IsGroundRoot.missing = refl
same_ground_root supplies stop _ _ _ _ same IsGroundRoot.missing (IsGroundRoot.there g r root) = cc
same_ground_root supplies stop _ _ _ _ same (IsGroundRoot.there g r root) IsGroundRoot.missing = cc
same_ground_root supplies stop _ _ _ _ same (IsGroundRoot.there g r root) (IsGroundRoot.there h s root') =
    let one : g ≡ h = cc in
    let R : ℕ → Type 0 = λ n. IsRoot supplies stop n r in
    ap Some (one_root supplies stop h r s (subst R one root) root')

abbrev set_of : ℕ → Option ℕ → SupplySet
set_of power ground = record { power = power; ground = ground }

same_parts : (p q : ℕ) (g h : Option ℕ) → p ≡ q → g ≡ h → set_of p g ≡ set_of q h
same_parts p q g h e f = cc

-- a set has at most one set of roots
pub one_set_of_roots : (supplies : List Supply) (stop : List ℕ) (set r s : SupplySet) → HasRoots supplies stop set r → HasRoots supplies stop set s → r ≡ s
one_set_of_roots supplies stop set r s h k =
    same_parts r.power s.power r.ground s.ground (one_root supplies stop set.power r.power s.power h.power_root k.power_root)
    (same_ground_root supplies stop set.ground set.ground r.ground s.ground refl h.ground_root k.ground_root)

pub same_set_symmetric : (supplies : List Supply) (stop : List ℕ) (s t : SupplySet) → AreSameSet supplies stop s t → AreSameSet supplies stop t s
same_set_symmetric supplies stop s t same = (same.0, same.2, same.1)

pub same_set_transitive : (supplies : List Supply) (stop : List ℕ) (s t u : SupplySet)
    → AreSameSet supplies stop s t → AreSameSet supplies stop t u → AreSameSet supplies stop s u
same_set_transitive supplies stop s t u st tu =
    let one : st.0 ≡ tu.0 = one_set_of_roots supplies stop t st.0 tu.0 st.2 tu.1 in
    let R : SupplySet → Type 0 = λ r. HasRoots supplies stop s r in
    (tu.0, subst R one st.1, tu.2)

-- sets are the same exactly where their roots are
pub same_set_by_roots : (supplies : List Supply) (stop : List ℕ) (s t r q : SupplySet) → HasRoots supplies stop s r → HasRoots supplies stop t q
    → (r ≡ q) ↔ AreSameSet supplies stop s t
same_set_by_roots supplies stop s t r q has has' = (
  λ same. (q, (let R : SupplySet → Type 0 = λ x. HasRoots supplies stop s x in subst R same has), has'),
  λ both. one_set_of_roots supplies stop s r both.0 has both.1 ∙ one_set_of_roots supplies stop t both.0 q both.2 has',
)
