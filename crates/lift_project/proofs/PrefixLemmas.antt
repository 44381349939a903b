-- Prefixes of a set, level by level.
use Rattle.std.proofs.Common.{◌≡◌, ◌≢◌, ℕ, ◌+◌, ◌-◌, ◌<◌, Bool, true, false, cond, not, ◌&&◌, nat_eq, List, [], ◌∷◌, ◌++◌, Option, Some, length, get_or, drop, refl, sym, ap, ◌∙◌, subst, inl, inr, arith}
use Rattle.std.specs.declared.hash.FoldHasher.{FoldHasher}
use Rattle.std.specs.declared.hash.BuildHasherDefault.{BuildHasherDefault}
use Rattle.std.specs.HashMap.{HashMap, get, IsUnchanged}
use Rattle.std.specs.Map.{lookup}
use Rattle.std.proofs.Math.Bool.{and-false}
use Rattle.std.proofs.lemmas.Bool.{and_parts, and_from, cases_Bool, false≢true, eqb-true, eq-eqb, ne_eqb, not_from_false}
use Rattle.std.proofs.lemmas.Option.{same_Some}
use Rattle.std.proofs.lemmas.List.{drop_all, drop_at}
use Rattle.diagram_defs.specs.Rests.{is_rest, all_rests}
use Rattle.diagram_defs.specs.Diagrams.{Diagram, Shape, kid, member, IsPool, IsSet, IsNumberFor, AreRests, Grows}
use Rattle.diagram_defs.specs.Diagrams.IsKid.{whole}
use Rattle.diagram_defs.specs.Sets.{prefix_set}
use Rattle.diagram_defs.proofs.Meaning.{member-empty, one_level, IsKid-kid, level_within}
use Rattle.diagram_defs.proofs.Canonical.{inhabited}
use Rattle.diagram_defs.proofs.Listed.{same_truth, some_rest, passing, length-rest, is_rest-drop, is_rest_front}
use Rattle.diagram_defs.proofs.Growth.{IsNumberFor_grows}
use Rattle.diagram_defs.proofs.Steps.{rest_behind, member_rest}
use Rattle.lift_project.specs.Prefixes.{starts, starts_set, IsFound, AreFound, AreFirst}

pub starts-empty : (nodes : List Shape) (front : List ℕ) → starts nodes 0 front ≡ false
starts-empty nodes [] = refl
starts-empty nodes (v ∷ front) = starts-empty nodes front

pub starts_none : (arities : List ℕ) (nodes : List Shape) (level n : ℕ) (front : List ℕ) → n ≡ 0 → starts_set arities nodes level n front ≡ false
starts_none arities nodes level n front z =
    ap (λ (k : ℕ). is_rest (drop level arities) front && starts nodes k front) z ∙ ap (λ (m : Bool). is_rest (drop level arities) front && m) (starts-empty nodes front) ∙ and-false (is_rest (drop level arities) front)

pub AreRests_starts : (into : Diagram) (nodes : List Shape) (level n : ℕ) → AreRests into level (starts_set into.arities nodes level n)
AreRests_starts into nodes level n = record { each = λ rest e. (and_parts _ _ e).0 }

pub starts_behind : (arities : List ℕ) (nodes : List Shape) (level n v : ℕ) (front : List ℕ) → level < length arities → v < get_or arities level 0 → starts_set arities nodes (level + 1) (kid nodes n v) front ≡ starts_set arities nodes level n (v ∷ front)
starts_behind arities nodes level n v front inside low =
    ap (λ (m : Bool). m && starts nodes (kid nodes n v) front) (sym (rest_behind arities level inside v front low))

-- behind the last level of the first ones a set that isn't empty has the empty rest alone
pub starts_last : (into : Diagram) (nodes : List Shape) (level n : ℕ) → level ≡ length into.arities → n ≢ 0 → IsNumberFor into level (starts_set into.arities nodes level n) 1
starts_last into nodes level n at ne = record { in_level = whole refl at; same = same }
  where
    none : drop level into.arities ≡ []
    none = drop_all level into.arities (omega arith)

    same : (rest : List ℕ) → member into.nodes 1 rest ≡ starts_set into.arities nodes level n rest
    same [] =
        sym (ap (λ (ds : List ℕ). is_rest ds [] && not (nat_eq n 0)) none ∙ not_from_false (nat_eq n 0) (ne_eqb n 0 ne))
    same (v ∷ rest) =
        member-empty into.nodes rest ∙ sym (ap (λ (ds : List ℕ). is_rest ds (v ∷ rest) && starts nodes (kid nodes n v) rest) none)

-- what was found stays so while the table grows
IsFound_grows : (from old new : Diagram) (n k : ℕ) → Grows old new → IsFound from old n k → IsFound from new n k
IsFound_grows from old new n k g was = record {
  level = was.level;
  in_level = was.in_level;
  found = subst (λ (arities : List ℕ). IsNumberFor new was.level (starts_set arities from.nodes was.level n) k) (sym g.arities) (IsNumberFor_grows old new was.level (starts_set old.arities from.nodes was.level n) k g was.found);
}

pub AreFound_grows : (from old new : Diagram) (done : HashMap ℕ ℕ (BuildHasherDefault FoldHasher)) → Grows old new → AreFound from old done → AreFound from new done
AreFound_grows from old new done g was = record { each = λ n k is. IsFound_grows from old new n k g (was.each n k is) }

pub AreFound_more : (from into : Diagram) (old new : HashMap ℕ ℕ (BuildHasherDefault FoldHasher)) (level n k : ℕ) → ((q : ℕ) → get nat_eq new q ≡ cond (nat_eq n q) (Some k) (get nat_eq old q)) → IsSet from level n → IsNumberFor into level (starts_set into.arities from.nodes level n) k → AreFound from into old → AreFound from into new
AreFound_more from into old new level n k updates is found was = record {
  each = λ q m there. elim (cases_Bool (nat_eq n q)) [
    | inl hit ↦
        let same : ◌≡◌ {A = Option ℕ} (Some k) (Some m) = ap (λ (b : Bool). cond b (Some k) (get nat_eq old q)) (sym hit) ∙ sym (updates q) ∙ there in
        subst (λ (p : ℕ). IsFound from into p m) (eqb-true n q hit) (subst (IsFound from into n) (same_Some k m same) (record { level = level; in_level = is; found = found }))
    | inr other ↦ was.each q m (ap (λ (b : Bool). cond b (Some k) (get nat_eq old q)) (sym other) ∙ sym (updates q) ∙ there)
  ];
}

-- a number that isn't empty was found at its own level
pub found_at : (from into : Diagram) (level n k : ℕ) → IsSet from level n → n ≢ 0 → IsFound from into n k → IsNumberFor into level (starts_set into.arities from.nodes level n) k
found_at from into level n k is ne found =
    let same = one_level from.arities from.nodes (length from.nodes) found.level level n ne found.in_level is in
    subst (λ (l : ℕ). IsNumberFor into l (starts_set into.arities from.nodes l n) k) same found.found

pub AreFound_same : (from into : Diagram) (old new : HashMap ℕ ℕ (BuildHasherDefault FoldHasher)) → IsUnchanged old new → AreFound from into old → AreFound from into new
AreFound_same from into old new same was =
    record { each = λ n k is. was.each n k (ap (λ es. lookup (nat_eq n) es) (sym same) ∙ is) }

pub AreFirst_grows : (from old new : Diagram) → Grows old new → AreFirst from old → AreFirst from new
AreFirst_grows from old new g first = record { more = first.more; same = first.same ∙ ap (λ (arities : List ℕ). arities ++ first.more) (sym g.arities) }

-- a front that leads to a set that isn't empty begins a rest of the set
starts_leads : (d : Diagram) (pool : IsPool d) (level n : ℕ) (front : List ℕ) → IsSet d level n → starts d.nodes n front ≡ true → (rest : List ℕ) × (member d.nodes n (front ++ rest) ≡ true)
starts_leads d pool level n [] is e =
    let ne : n ≢ 0 = λ z. false≢true (sym (ap (λ (k : ℕ). not (nat_eq k 0)) z) ∙ e) in
    let fits = level_within d pool level n is ne in
    let all : level + (length d.arities - level) ≡ length d.arities = omega arith in
    inhabited d.arities d.nodes pool.nodes pool.sharp (length d.arities - level) (length d.nodes) level n all is ne
starts_leads d pool level n (v ∷ front) is e =
    starts_leads d pool (level + 1) (kid d.nodes n v) front (IsKid-kid d.arities d.nodes pool.nodes (length d.nodes) level n is v) e

starts_from : (nodes : List Shape) (n : ℕ) (front rest : List ℕ) → member nodes n (front ++ rest) ≡ true → starts nodes n front ≡ true
starts_from nodes n [] rest e =
    not_from_false (nat_eq n 0) (ne_eqb n 0 (λ z. false≢true (sym (member-empty nodes rest) ∙ ap (λ (k : ℕ). member nodes k rest) (sym z) ∙ e)))
starts_from nodes n (v ∷ front) rest e = starts_from nodes (kid nodes n v) front rest e

-- the two ways to say which states begin one of the set
pub starts_prefix : (from into : Diagram) (pool : IsPool from) (n : ℕ) → AreFirst from into → IsSet from 0 n → (front : List ℕ) → starts_set into.arities from.nodes 0 n front ≡ prefix_set from (length into.arities) n front
starts_prefix from into pool n first is front = same_truth _ _ there back
  where
    there : starts_set into.arities from.nodes 0 n front ≡ true → prefix_set from (length into.arities) n front ≡ true
    there e =
        let both = and_parts _ _ e in
        let size = length-rest into.arities front both.0 in
        let rest = starts_leads from pool 0 n front is both.1 in
        let whole = member_rest from.arities from.nodes pool.nodes (length from.nodes) 0 n (front ++ rest.0) is rest.1 in
        let end = is_rest-drop (length into.arities) from.arities (front ++ rest.0) whole in
        let at_end = subst (λ (q : List ℕ). is_rest (drop (length into.arities) from.arities) q ≡ true) (drop_at front rest.0 (length into.arities) size) end in
        and_from _ _ (eq-eqb _ _ size) (some_rest (drop (length into.arities) from.arities) (λ q. member from.nodes n (front ++ q)) rest.0 at_end rest.1)

    back : prefix_set from (length into.arities) n front ≡ true → starts_set into.arities from.nodes 0 n front ≡ true
    back e =
        let both = and_parts _ _ e in
        let size = eqb-true (length front) (length into.arities) both.0 in
        let rest = passing (λ q. member from.nodes n (front ++ q)) (all_rests (drop (length into.arities) from.arities)) both.1 in
        let whole = member_rest from.arities from.nodes pool.nodes (length from.nodes) 0 n (front ++ rest.0) is rest.1 in
        and_from _ _ (is_rest_front into.arities first.more front rest.0 size (subst (λ (arities : List ℕ). is_rest arities (front ++ rest.0) ≡ true) first.same whole)) (starts_from from.nodes n front rest.0 rest.1)
