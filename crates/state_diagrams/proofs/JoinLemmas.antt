-- Joins of sets, level by level.
use Rattle.std.proofs.Common.{◌≡◌, ◌≢◌, ℕ, ◌+◌, ◌≤◌, ◌<◌, Bool, true, false, not, ◌&&◌, ◌||◌, nat_eq, ◌⊎◌, List, [], ◌∷◌, max, Option, Some, None, MatchOption, length, get_or, refl, sym, ap, ◌∙◌, subst, inl, inr, arith, Result}
use Rattle.std.specs.Option.{IfSome, IfNone}
use Rattle.std.proofs.lemmas.List.{drop_all}
use Rattle.plain_lists.specs.declared.faults.DiagFault.{DiagFault}
use Rattle.diagram_defs.specs.Parts.{IsPartOf}
use Rattle.diagram_defs.specs.Answers.{MakesSet}
use Rattle.diagram_defs.proofs.Canonical.{empty_alone}
use Rattle.diagram_defs.proofs.PartLemmas.{GrowsBy_none}
use Rattle.diagram_defs.proofs.Yielding.{Yields_last}
use Rattle.std.proofs.lemmas.Bool.{cases_lt, cases_eq, and_parts, false_from_ne_true, false≢true, or_right, or_cases}
use Rattle.diagram_defs.specs.Rests.{is_rest}
use Rattle.diagram_defs.specs.Diagrams.{Diagram, kid, member, IsPool, IsSet, IsNumberFor, AreRests, Grows}
use Rattle.diagram_defs.specs.Diagrams.IsKid.{empty, whole, node}
use Rattle.diagram_defs.specs.Sets.{full_set, complement_set, and_set, or_set}
use Rattle.std.proofs.Math.Bool.{and-false, and-true, and_self, or-false, or_self}
use Rattle.diagram_defs.proofs.Guards.{guards}
use Rattle.diagram_defs.proofs.Meaning.{last_number, member-empty, IsKid-kid, one_level, level_of_one}
use Rattle.diagram_defs.proofs.Growth.{IsSet_grows}
use Rattle.diagram_defs.proofs.Steps.{member_rest, rest_behind}
use Rattle.state_diagrams.proofs.Memo.{joined_set_grows}
use Rattle.state_diagrams.specs.declared.joins.Join.{Join}
use Rattle.state_diagrams.specs.declared.joins.Join.TheVariants.{Both, Either, Neither}
use Rattle.state_diagrams.specs.Joins.{join_test, joined_set, AreApart, IsPlainAnd, IsPlainOr}

pub AreRests_join : (d : Diagram) (join : Join) (level a b : ℕ) → AreRests d level (joined_set d join level a b)
AreRests_join d join level a b = record { each = λ rest e. (and_parts _ _ e).0 }

module _ (d : Diagram) (pool : IsPool d) (level a b : ℕ) (first : IsSet d level a) (second : IsSet d level b) where
  of_first : (rest : List ℕ) → (full_set d level rest && member d.nodes a rest) ≡ member d.nodes a rest
  of_first rest = guards _ _ (member_rest d.arities d.nodes pool.nodes (length d.nodes) level a rest first)

  of_second : (rest : List ℕ) → (full_set d level rest && member d.nodes b rest) ≡ member d.nodes b rest
  of_second rest = guards _ _ (member_rest d.arities d.nodes pool.nodes (length d.nodes) level b rest second)

  nothing : (n : ℕ) → n ≡ 0 → (rest : List ℕ) → member d.nodes n rest ≡ false
  nothing n z rest = ap (λ (k : ℕ). member d.nodes k rest) z ∙ member-empty d.nodes rest

  pub plain_and_right : (n : ℕ) → IsPlainAnd a b n → IsNumberFor d level (joined_set d Both level a b) n
  plain_and_right n (inl zero_first) = record {
    in_level = empty zero_first.1;
    same = λ rest. nothing n zero_first.1 rest ∙ sym (and-false (full_set d level rest)) ∙ ap (λ (m : Bool). full_set d level rest && (m && member d.nodes b rest)) (sym (nothing a zero_first.0 rest));
  }
  plain_and_right n (inr (inl zero_second)) = record {
    in_level = empty zero_second.1;
    same = λ rest. nothing n zero_second.1 rest ∙ sym (and-false (full_set d level rest)) ∙ ap (λ (m : Bool). full_set d level rest && m) (sym (and-false (member d.nodes a rest))) ∙ ap (λ (m : Bool). full_set d level rest && (member d.nodes a rest && m)) (sym (nothing b zero_second.0 rest));
  }
  plain_and_right n (inr (inr itself)) = record {
    in_level = subst (IsSet d level) (sym itself.1) first;
    same = λ rest. ap (λ (k : ℕ). member d.nodes k rest) itself.1 ∙ sym (of_first rest) ∙ ap (λ (m : Bool). full_set d level rest && m) (sym (and_self (member d.nodes a rest)))
        ∙ ap (λ (k : ℕ). full_set d level rest && (member d.nodes a rest && member d.nodes k rest)) itself.0;
  }

  pub plain_or_right : (n : ℕ) → IsPlainOr a b n → IsNumberFor d level (joined_set d Either level a b) n
  plain_or_right n (inl zero_first) = record {
    in_level = subst (IsSet d level) (sym zero_first.1) second;
    same = λ rest. ap (λ (k : ℕ). member d.nodes k rest) zero_first.1 ∙ sym (of_second rest) ∙ ap (λ (m : Bool). full_set d level rest && (m || member d.nodes b rest)) (sym (nothing a zero_first.0 rest));
  }
  plain_or_right n (inr (inl zero_second)) = record {
    in_level = subst (IsSet d level) (sym zero_second.1) first;
    same = λ rest. ap (λ (k : ℕ). member d.nodes k rest) zero_second.1 ∙ sym (of_first rest) ∙ ap (λ (m : Bool). full_set d level rest && m) (sym (or-false (member d.nodes a rest))) ∙ ap (λ (m : Bool). full_set d level rest && (member d.nodes a rest || m)) (sym (nothing b zero_second.0 rest));
  }
  plain_or_right n (inr (inr itself)) = record {
    in_level = subst (IsSet d level) (sym itself.1) second;
    same = λ rest. ap (λ (k : ℕ). member d.nodes k rest) itself.1 ∙ sym (of_second rest) ∙ ap (λ (m : Bool). full_set d level rest && m) (sym (or_self (member d.nodes b rest)))
        ∙ ap (λ (k : ℕ). full_set d level rest && (member d.nodes k rest || member d.nodes b rest)) (sym itself.0);
  }

  -- different sets that aren't empty stand above the last level
  pub apart_inside : level ≤ length d.arities → AreApart a b → level < length d.arities
  apart_inside fits apart = elim first [
    | empty z ↦ absurd (apart.0 z)
    | whole w at ↦ elim second [
      | empty z ↦ absurd (apart.1 z)
      | whole w' at' ↦ absurd (apart.2 (w ∙ sym w'))
      | node at' shape' is' below' there' same' ↦ let good = (pool.nodes.each at' shape' there').level_in in omega arith
    ]
    | node at shape is below there same ↦ let good = (pool.nodes.each at shape there).level_in in omega arith
  ]

  full_last : level ≡ length d.arities → (rest : List ℕ) → full_set d level rest ≡ is_rest [] rest
  full_last at rest = ap (λ (ds : List ℕ). is_rest ds rest) (drop_all level d.arities (omega arith))

  -- behind the last level a join is known by its answer at the empty rest
  last_join : (join : Join) (n : ℕ) → level ≡ length d.arities → IsSet d level n → nat_eq n 1 ≡ join_test join (nat_eq a 1) (nat_eq b 1) → IsNumberFor d level (joined_set d join level a b) n
  last_join join n at is one = record { in_level = is; same = same }
    where
      same : (rest : List ℕ) → member d.nodes n rest ≡ joined_set d join level a b rest
      same [] = one ∙ sym (ap (λ (m : Bool). m && join_test join (nat_eq a 1) (nat_eq b 1)) (full_last at []))
      same (v ∷ rest) =
          past n is ∙ sym (ap (λ (m : Bool). m && join_test join (member d.nodes a (v ∷ rest)) (member d.nodes b (v ∷ rest))) (full_last at (v ∷ rest)))
        where
          past : (k : ℕ) → IsSet d level k → member d.nodes k (v ∷ rest) ≡ false
          past k k_is = false_from_ne_true _ (λ e. false≢true (sym (full_last at (v ∷ rest)) ∙ member_rest d.arities d.nodes pool.nodes (length d.nodes) level k (v ∷ rest) k_is e))

  pub neither_one : level ≡ length d.arities → a ≡ 0 → b ≡ 0 → IsNumberFor d level (joined_set d Neither level a b) 1
  neither_one at z y =
      last_join Neither 1 at (whole refl at) (sym (ap (λ (k : ℕ). not (nat_eq k 1 || nat_eq b 1)) z ∙ ap (λ (k : ℕ). not (nat_eq k 1)) y))

  pub neither_zero : level ≡ length d.arities → (a ≢ 0) ⊎ (b ≢ 0) → IsNumberFor d level (joined_set d Neither level a b) 0
  neither_zero at (inl some) =
      last_join Neither 0 at (empty refl) (sym (ap (λ (k : ℕ). not (nat_eq k 1 || nat_eq b 1)) (last_number d pool level a at first some)))
  neither_zero at (inr some) =
      last_join Neither 0 at (empty refl) (sym (ap (λ (k : ℕ). not (nat_eq a 1 || nat_eq k 1)) (last_number d pool level b at second some) ∙ ap not (or_right (nat_eq a 1) true refl)))

  -- the same, as the calls answer
  pub plain_and_some : (join : Join) → join ≡ Both → (o : Option ℕ) → MatchOption o (AreApart a b) (IsPlainAnd a b) → IfSome o (IsNumberFor d level (joined_set d join level a b))
  plain_and_some join is None plain = tt
  plain_and_some join is (Some n) plain =
      subst (λ (j : Join). IsNumberFor d level (joined_set d j level a b) n) (sym is) (plain_and_right n plain)

  pub plain_or_some : (join : Join) → join ≡ Either → (o : Option ℕ) → MatchOption o (AreApart a b) (IsPlainOr a b) → IfSome o (IsNumberFor d level (joined_set d join level a b))
  plain_or_some join is None plain = tt
  plain_or_some join is (Some n) plain =
      subst (λ (j : Join). IsNumberFor d level (joined_set d j level a b) n) (sym is) (plain_or_right n plain)

  pub plain_open : (Q : ℕ → Type 0) → level ≤ length d.arities → (o : Option ℕ) → MatchOption o (AreApart a b) Q → IfNone o (level < length d.arities)
  plain_open Q fits None apart = apart_inside fits apart
  plain_open Q fits (Some n) plain = tt

-- one level down, in a table that has grown
module _ (old mid : Diagram) (g : Grows old mid) (join : Join) (level a b : ℕ) (inside : level < length old.arities) (first : IsSet old level a) (second : IsSet old level b) where
  pub join_kid : (n : ℕ) → IsSet old level n → (v : ℕ) → IsSet mid (level + 1) (kid mid.nodes n v)
  join_kid n is v =
      IsKid-kid mid.arities mid.nodes g.is.nodes (length mid.nodes) level n (IsSet_grows old mid level n g is) v

  pub join_behind : (v : ℕ) → v < get_or old.arities level 0 → (rest : List ℕ) → joined_set mid join (level + 1) (kid mid.nodes a v) (kid mid.nodes b v) rest ≡ joined_set old join level a b (v ∷ rest)
  join_behind v low rest =
      let within : level < length mid.arities = subst (λ (arities : List ℕ). level < length arities) (sym g.arities) inside in
      let below : v < get_or mid.arities level 0 = subst (λ (arities : List ℕ). v < get_or arities level 0) (sym g.arities) low in
      ap (λ (full : Bool). full && join_test join (member mid.nodes (kid mid.nodes a v) rest) (member mid.nodes (kid mid.nodes b v) rest)) (sym (rest_behind mid.arities level within v rest below)) ∙ joined_set_grows old mid join level a b (v ∷ rest) g first second

-- the joins as their calls name them
pub joined_full : (d : Diagram) (level : ℕ) (rest : List ℕ) → joined_set d Neither level 0 0 rest ≡ full_set d level rest
joined_full d level rest =
    ap (λ (m : Bool). full_set d level rest && not (m || m)) (member-empty d.nodes rest) ∙ and-true (full_set d level rest)

pub joined_complement : (d : Diagram) (level a : ℕ) (rest : List ℕ) → joined_set d Neither level a 0 rest ≡ complement_set d level a rest
joined_complement d level a rest =
    ap (λ (m : Bool). full_set d level rest && not (member d.nodes a rest || m)) (member-empty d.nodes rest) ∙ ap (λ (m : Bool). full_set d level rest && not m) (or-false (member d.nodes a rest))

module _ (d : Diagram) (pool : IsPool d) (level a b : ℕ) (first : IsSet d level a) (second : IsSet d level b) where
  pub joined_and : (rest : List ℕ) → joined_set d Both level a b rest ≡ and_set d.nodes a b rest
  joined_and rest =
      guards _ _ (λ e. member_rest d.arities d.nodes pool.nodes (length d.nodes) level a rest first (and_parts _ _ e).0)

  pub joined_or : (rest : List ℕ) → joined_set d Either level a b rest ≡ or_set d.nodes a b rest
  joined_or rest = guards _ _ (λ e. elim (or_cases _ _ e) [
    | inl in_first ↦ member_rest d.arities d.nodes pool.nodes (length d.nodes) level a rest first in_first
    | inr in_second ↦ member_rest d.arities d.nodes pool.nodes (length d.nodes) level b rest second in_second
  ])

-- the level of the greater of two numbers of a level is that level, unless both are empty
module _ (d : Diagram) (pool : IsPool d) (a b found : ℕ) (is : IsSet d found (max (max a b) 1)) where
  same_level : (level : ℕ) → IsSet d level a → IsSet d level b → (a ≢ 0) ⊎ (b ≢ 0) → level ≡ found
  same_level level first second some =
      let ne : max (max a b) 1 ≢ 0 = λ z. omega arith in
      one_level d.arities d.nodes (length d.nodes) level found (max (max a b) 1) ne (elim (cases_lt a b) [
        | inl less ↦ let e : b ≡ max (max a b) 1 = omega arith in subst (IsSet d level) e second
        | inr more ↦
            let positive : a ≢ 0 = elim some [ inl ne_a ↦ ne_a | inr ne_b ↦ λ z. ne_b (omega arith) ] in
            let e : a ≡ max (max a b) 1 = omega (arith, positive) in
            subst (IsSet d level) e first
      ]) is

  pub level_is : (level : ℕ) → IsSet d level a → IsSet d level b → (level ≡ found) ⊎ ((a ≡ 0) × (b ≡ 0) × (found ≡ length d.arities))
  level_is level first second = elim (cases_eq a 0) [
    | inl none ↦ elim (cases_eq b 0) [
      | inl nothing ↦ let e : max (max a b) 1 ≡ 1 = omega arith in inr (none, nothing, level_of_one d found (subst (IsSet d found) e is))
      | inr some ↦ inl (same_level level first second (inr some))
    ]
    | inr some ↦ inl (same_level level first second (inl some))
  ]

  pub first_found : (level : ℕ) → IsSet d level a → IsSet d level b → IsSet d found a
  first_found level first second = elim (level_is level first second) [
    | inl e ↦ subst (λ (l : ℕ). IsSet d l a) e first
    | inr none ↦ empty none.0
  ]

  pub second_found : (level : ℕ) → IsSet d level a → IsSet d level b → IsSet d found b
  second_found level first second = elim (level_is level first second) [
    | inl e ↦ subst (λ (l : ℕ). IsSet d l b) e second
    | inr none ↦ empty none.1
  ]

-- an empty set is of all levels
nothing_made : (old new : Diagram) (level last : ℕ) (set : List ℕ → Bool) → last ≡ length old.arities → ((rest : List ℕ) → set rest ≡ false) → (r : Result ℕ DiagFault) → MakesSet last set old new r → MakesSet level set old new r
nothing_made old new level last set at none r made =
    Yields_last (IsNumberFor new last set) (IsNumberFor new level set) r (GrowsBy_none _ old made.0.grows.was) no_parts empty_too made
  where
    no_parts : (l : ℕ) (part : List ℕ → Bool) → IsPartOf (length old.arities) last set l part → IsPartOf (length old.arities) level set l part
    no_parts l part p = let inside = p.level_in in let place = p.at in absurd (omega arith)

    empty_too : (n : ℕ) → IsNumberFor new last set n → IsNumberFor new level set n
    empty_too n is =
        let g = made.0.grows in
        let fits : last + 0 ≡ length new.arities = let e = ap length g.arities in omega arith in
        let zero_is = empty_alone new.arities new.nodes g.is.nodes g.is.sharp 0 (length new.nodes) last n fits is.in_level (λ rest. is.same rest ∙ none rest) in
        record { in_level = empty zero_is; same = is.same }

-- the answer for a set at each level that its numbers have
pub any_level : (old new : Diagram) (a b level found : ℕ) (set : List ℕ → Bool) → (level ≡ found) ⊎ ((a ≡ 0) × (b ≡ 0) × (found ≡ length old.arities)) → (a ≡ 0 → b ≡ 0 → (rest : List ℕ) → set rest ≡ false) → (r : Result ℕ DiagFault) → MakesSet found set old new r → MakesSet level set old new r
any_level old new a b level found set one none r made = elim one [
  | inl e ↦ subst (λ (l : ℕ). MakesSet l set old new r) (sym e) made
  | inr zero_both ↦ nothing_made old new level found set zero_both.2 (none zero_both.0 zero_both.1) r made
]

-- the joins of two empty sets are empty
pub and_nothing : (d : Diagram) (a b : ℕ) → a ≡ 0 → b ≡ 0 → (rest : List ℕ) → and_set d.nodes a b rest ≡ false
and_nothing d a b z y rest = ap (λ (k : ℕ). member d.nodes k rest && member d.nodes b rest) z ∙ ap (λ (m : Bool). m && member d.nodes b rest) (member-empty d.nodes rest)

pub or_nothing : (d : Diagram) (a b : ℕ) → a ≡ 0 → b ≡ 0 → (rest : List ℕ) → or_set d.nodes a b rest ≡ false
or_nothing d a b z y rest =
    ap (λ (k : ℕ). member d.nodes k rest || member d.nodes b rest) z ∙ ap (λ (m : Bool). m || member d.nodes b rest) (member-empty d.nodes rest) ∙ ap (λ (k : ℕ). member d.nodes k rest) y ∙ member-empty d.nodes rest
