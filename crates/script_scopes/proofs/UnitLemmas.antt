-- Soft macros and units along the instances above one.
use Rattle.std.proofs.Common.{◌≡◌, ◌≢◌, ℕ, zero, suc, ◌+◌, ◌<◌, ◌≤◌, Bool, true, false, not, ◌&&◌, ◌||◌, cond, nat_eq, List, [], ◌∷◌, length, filter, Option, None, Some, MatchOption, is_some, unwrap_or, inl, inr, refl, sym, ap, ◌∙◌, arith}
use Rattle.std.specs.List.{find, list_any, take_while}
use Rattle.std.proofs.lemmas.Bool.{cases_eq, false≢true}
use Rattle.std.proofs.lemmas.List.Sums.{take_while-cons}
use Rattle.list_defs.specs.Members.{same_name}
use Rattle.list_defs.proofs.NameLemmas.{same_name-equal, same_name-itself}
use Rattle.pw_defs.specs.declared.design.Design.{Design}
use Rattle.design_defs.specs.Joined.{parent_of, path_of}
use Rattle.script_defs.specs.Closing.{has_some}
use Rattle.script_defs.specs.Scopes.{is_modelled, is_one_of, is_soft_macro, nesting, unit_of}
use Rattle.script_scopes.specs.Marked.{marked}
use Rattle.script_scopes.specs.Standing.{IsHierarchy, own_path}
use Rattle.script_scopes.specs.Units.{IsInnermost, is_nesting_mark, is_unit, macros_from}
use Rattle.script_scopes.proofs.ChainLemmas.{at_chain, chain, chain_top, chain_up}
use Rattle.script_scopes.proofs.MarkLemmas.{any_later, told_there}
use Rattle.script_scopes.proofs.PathLemmas.{own_path_is, parent_there, path_some, path_there}

pub or_left : (a b : Bool) → (a || b) ≡ false → a ≡ false
or_left false b e = refl
or_left true b e = e

pub or_right : (a b : Bool) → (a || b) ≡ false → b ≡ false
or_right false b e = e
or_right true b e = absurd (false≢true (sym e))

and_not_true : (b : Bool) → (b && not true) ≡ false
and_not_true true = refl
and_not_true false = refl

and_not_false : (b : Bool) → (b && not false) ≡ b
and_not_false true = refl
and_not_false false = refl

-- a path that isn't empty isn't the same as the empty one
not_empty : (path : List ℕ) → path ≢ [] → same_name path [] ≡ false
not_empty [] some = absurd (some refl)
not_empty (c ∷ cs) some = refl

macro_some : (d : Design) (marks : List (List ℕ)) (path : List ℕ) → path ≢ [] → is_soft_macro d marks path ≡ (is_one_of path marks || is_modelled d path)
macro_some d marks [] some = absurd (some refl)
macro_some d marks (c ∷ cs) some = refl

one_more : (test : List ℕ → Bool) (x : List ℕ) (xs : List (List ℕ)) → length (filter test (x ∷ xs)) ≡ length (filter test (x ∷ [])) + length (filter test xs)
one_more test x xs = by (test x)
  where
    by : (b : Bool) → length (cond b (x ∷ filter test xs) (filter test xs)) ≡ length (cond b (x ∷ []) []) + length (filter test xs)
    by true = omega arith
    by false = omega arith

module _ (d : Design) (h : IsHierarchy d) where
  top_path : own_path d 0 ≡ []
  top_path = own_path_is d 0 [] h.top

  pub later_some : (n : ℕ) → 0 < n → n < length d.insts → own_path d n ≢ []
  later_some n later within = path_some d h n (own_path d n) later (path_there d n within)

  -- where an instance isn't a unit it isn't the top
  pub not_top : (marks : List (List ℕ)) (n : ℕ) → is_unit d marks (own_path d n) ≡ false → 0 < n
  not_top marks zero e =
      absurd (false≢true (sym (or_left (same_name (own_path d 0) []) (is_soft_macro d marks (own_path d 0)) e) ∙ ap (λ p. same_name p []) top_path))
  not_top marks (suc n) e = omega arith

  module _ (numbers : List ℕ) where
    pub macro_top : (n : ℕ) → n ≡ 0 → false ≡ is_soft_macro d (marked d numbers) (own_path d n)
    macro_top n first = sym (ap (is_soft_macro d (marked d numbers)) (ap (own_path d) first ∙ top_path))

    pub macro_marked : (n : ℕ) → 0 < n → n < length d.insts → list_any (nat_eq n) numbers ≡ true → true ≡ is_soft_macro d (marked d numbers) (own_path d n)
    macro_marked n later within e =
        sym
        (macro_some d (marked d numbers) (own_path d n) (later_some n later within)
        ∙ ap (λ b. b || is_modelled d (own_path d n)) (sym (any_later d h n numbers within later) ∙ e))

    pub macro_unmarked : (n : ℕ) → 0 < n → n < length d.insts → list_any (nat_eq n) numbers ≡ false → is_modelled d (own_path d n) ≡ is_soft_macro d (marked d numbers) (own_path d n)
    macro_unmarked n later within e =
        sym
        (macro_some d (marked d numbers) (own_path d n) (later_some n later within)
        ∙ ap (λ b. b || is_modelled d (own_path d n)) (sym (any_later d h n numbers within later) ∙ e))

    pub unit_later : (n : ℕ) → 0 < n → n < length d.insts → is_soft_macro d (marked d numbers) (own_path d n) ≡ is_unit d (marked d numbers) (own_path d n)
    unit_later n later within =
        sym (ap (λ b. b || is_soft_macro d (marked d numbers) (own_path d n)) (not_empty (own_path d n) (later_some n later within)))

    pub unit_top : (n : ℕ) → n ≡ 0 → true ≡ is_unit d (marked d numbers) (own_path d n)
    unit_top n first = sym (ap (λ p. is_unit d (marked d numbers) p) (ap (own_path d) first ∙ top_path))

    -- UNITS
    pub unit_step : (n p : ℕ) → n < length d.insts → parent_of d n ≡ Some (Some p) → is_unit d (marked d numbers) (own_path d n) ≡ false
        → find (is_soft_macro d (marked d numbers)) (chain d p) ≡ find (is_soft_macro d (marked d numbers)) (chain d n)
    unit_step n p within parent e =
        let none : is_soft_macro d (marked d numbers) (own_path d n) ≡ false =
        or_right (same_name (own_path d n) []) (is_soft_macro d (marked d numbers) (own_path d n)) e in
        sym
        (ap (find (is_soft_macro d (marked d numbers))) (chain_up d h n p within parent)
        ∙ ap (λ b. cond b (Some (own_path d n)) (find (is_soft_macro d (marked d numbers)) (chain d p))) none)

    -- the chain begins with the instance itself
    begins : (n : ℕ) → n < length d.insts → (rest : List (List ℕ)) × (chain d n ≡ own_path d n ∷ rest)
    begins zero within = ([], chain_top d h ∙ ap (λ p. p ∷ []) (sym top_path))
    begins (suc n) within = let parent = parent_there d h (suc n) (omega arith) within in (chain d parent.0, chain_up d h (suc n) parent.0 within parent.1)

    unit_found : (n : ℕ) → n < length d.insts → is_unit d (marked d numbers) (own_path d n) ≡ true
        → unwrap_or (find (is_soft_macro d (marked d numbers)) (chain d n)) [] ≡ own_path d n
    unit_found zero within e = ap (λ ps. unwrap_or (find (is_soft_macro d (marked d numbers)) ps) []) (chain_top d h) ∙ sym top_path
    unit_found (suc n) within e =
        let first = begins (suc n) within in
        let own : is_soft_macro d (marked d numbers) (own_path d (suc n)) ≡ true = unit_later (suc n) (omega arith) within ∙ e in
        ap (λ ps. unwrap_or (find (is_soft_macro d (marked d numbers)) ps) []) first.1
        ∙ ap (λ b. unwrap_or (cond b (Some (own_path d (suc n))) (find (is_soft_macro d (marked d numbers)) first.0)) []) own

    pub unit_here : (inst n : ℕ) → inst < length d.insts → n < length d.insts → is_unit d (marked d numbers) (own_path d n) ≡ true
        → find (is_soft_macro d (marked d numbers)) (chain d n) ≡ find (is_soft_macro d (marked d numbers)) (chain d inst)
        → path_of d n ≡ Some (unit_of d (marked d numbers) (own_path d inst))
    unit_here inst n in_inst within e same =
        path_there d n within
        ∙ ap Some
        (sym (unit_found n within e) ∙ ap (λ o. unwrap_or o []) (same ∙ ap (find (is_soft_macro d (marked d numbers))) (sym (at_chain d h inst in_inst))))

    -- NESTING
    pub mark_once : (n : ℕ) → 0 < n → n < length d.insts
        → length (filter (is_nesting_mark (marked d numbers)) (own_path d n ∷ [])) ≡ length (cond (list_any (nat_eq n) numbers) (own_path d n ∷ []) [])
    mark_once n later within =
        ap (λ b. length (cond b (own_path d n ∷ []) []))
        (ap (λ b. is_one_of (own_path d n) (marked d numbers) && not b) (not_empty (own_path d n) (later_some n later within))
        ∙ and_not_false (is_one_of (own_path d n) (marked d numbers)) ∙ sym (any_later d h n numbers within later))

    pub nest_step : (n p : ℕ) → n < length d.insts → parent_of d n ≡ Some (Some p)
        → length (filter (is_nesting_mark (marked d numbers)) (chain d n))
        ≡ length (filter (is_nesting_mark (marked d numbers)) (own_path d n ∷ [])) + length (filter (is_nesting_mark (marked d numbers)) (chain d p))
    nest_step n p within parent =
        ap (λ ps. length (filter (is_nesting_mark (marked d numbers)) ps)) (chain_up d h n p within parent)
        ∙ one_more (is_nesting_mark (marked d numbers)) (own_path d n) (chain d p)

    pub nest_top : length (filter (is_nesting_mark (marked d numbers)) (chain d 0)) ≡ 0
    nest_top =
        ap (λ ps. length (filter (is_nesting_mark (marked d numbers)) ps)) (chain_top d h)
        ∙ ap (λ b. length {A = List ℕ} (cond b ([] ∷ []) [])) (and_not_true (is_one_of [] (marked d numbers)))

    pub nest_all : (inst : ℕ) → inst < length d.insts → nesting d (marked d numbers) (own_path d inst) ≡ length (filter (is_nesting_mark (marked d numbers)) (chain d inst))
    nest_all inst within = ap (λ ps. length (filter (is_nesting_mark (marked d numbers)) ps)) (at_chain d h inst within)

    -- MACROS INSIDE
    module _ (unit : ℕ) (in_unit : unit < length d.insts) where
      along : List (List ℕ) → List (List ℕ)
      along ps = filter (is_soft_macro d (marked d numbers)) (take_while (λ p. not (same_name p (own_path d unit))) ps)

      along_chain : (n : ℕ) → n < length d.insts → macros_from d (marked d numbers) unit n ≡ along (chain d n)
      unfolding along
      along_chain n within = ap along (at_chain d h n within)

      along_unit : (rest : List (List ℕ)) → along (own_path d unit ∷ rest) ≡ []
      unfolding along
      along_unit rest =
          ap (filter (is_soft_macro d (marked d numbers)))
          (take_while-cons (λ p. not (same_name p (own_path d unit))) (own_path d unit) rest
          ∙ ap (λ b. cond (not b) (own_path d unit ∷ take_while (λ p. not (same_name p (own_path d unit))) rest) []) (same_name-itself (own_path d unit)))

      along_top : along ([] ∷ []) ≡ []
      unfolding along
      along_top =
          ap (filter (is_soft_macro d (marked d numbers))) (take_while-cons (λ p. not (same_name p (own_path d unit))) [] [])
          ∙ by (not (same_name [] (own_path d unit)))
        where
          by : (b : Bool) → filter (is_soft_macro d (marked d numbers)) (cond b ([] ∷ take_while (λ p. not (same_name p (own_path d unit))) []) []) ≡ []
          by true = refl
          by false = refl

      along_other : (path : List ℕ) (rest : List (List ℕ)) → path ≢ own_path d unit
          → along (path ∷ rest) ≡ cond (is_soft_macro d (marked d numbers) path) (path ∷ along rest) (along rest)
      unfolding along
      along_other path rest other = by (same_name path (own_path d unit)) refl
        where
          by : (b : Bool) → same_name path (own_path d unit) ≡ b → along (path ∷ rest) ≡ cond (is_soft_macro d (marked d numbers) path) (path ∷ along rest) (along rest)
          by true e = absurd (other (same_name-equal path (own_path d unit) e))
          by false e =
              ap (filter (is_soft_macro d (marked d numbers)))
              (take_while-cons (λ p. not (same_name p (own_path d unit))) path rest
              ∙ ap (λ b. cond (not b) (path ∷ take_while (λ p. not (same_name p (own_path d unit))) rest) []) e)

      -- nothing is further in than the unit itself
      pub from_unit : (n : ℕ) → n ≡ unit → macros_from d (marked d numbers) unit n ≡ []
      from_unit n same =
          let first = begins unit in_unit in
          ap (macros_from d (marked d numbers) unit) same ∙ along_chain unit in_unit ∙ ap along first.1 ∙ along_unit first.0

      pub from_top : (n : ℕ) → n ≡ 0 → n < length d.insts → macros_from d (marked d numbers) unit n ≡ []
      from_top n first within = along_chain n within ∙ ap along (ap (chain d) first ∙ chain_top d h) ∙ along_top

      pub from_other : (n p : ℕ) → n < length d.insts → n ≢ unit → parent_of d n ≡ Some (Some p)
          → macros_from d (marked d numbers) unit n
          ≡ cond (is_soft_macro d (marked d numbers) (own_path d n)) (own_path d n ∷ macros_from d (marked d numbers) unit p) (macros_from d (marked d numbers) unit p)
      from_other n p within other parent =
          let before = (h.sound.parents_first n p parent).0 in
          let rest = sym (along_chain p (omega (arith, before))) in
          along_chain n within ∙ ap along (chain_up d h n p within parent)
          ∙ along_other (own_path d n) (chain d p) (λ same. other (told_there d h n unit within in_unit same))
          ∙ ap (λ ps. cond (is_soft_macro d (marked d numbers) (own_path d n)) (own_path d n ∷ ps) ps) rest

      -- some are there exactly where an innermost one is
      pub some_from : (inst : ℕ) → inst < length d.insts → (r : Option ℕ)
          → MatchOption r (macros_from d (marked d numbers) unit inst ≡ []) (λ n. IsInnermost d (marked d numbers) unit inst n)
          → is_some r ≡ has_some (macros_from d (marked d numbers) unit inst)
      some_from inst within None none = sym (ap has_some none)
      some_from inst within (Some n) is =
          let low = is.up in
          let parent = parent_there d h n is.later (omega (arith, low, within)) in
          sym (ap has_some (is.others parent.0 parent.1))

      module _ (n : ℕ) (in_n : n < length d.insts) where
        others : List (List ℕ) → List (List ℕ)
        others ps = filter (λ macro. not (same_name macro (own_path d n))) ps

        others_top : others (macros_from d (marked d numbers) unit 0) ≡ macros_from d (marked d numbers) unit 0
        unfolding others
        others_top =
            let none = from_top 0 refl (omega (arith, in_n)) in
            ap others none ∙ sym none

        others_with : (path : List ℕ) (ps : List (List ℕ)) → path ≢ own_path d n → others ps ≡ ps → (b : Bool) → others (cond b (path ∷ ps) ps) ≡ cond b (path ∷ ps) ps
        unfolding others
        others_with path ps differ same false = same
        others_with path ps differ same true = by (same_name path (own_path d n)) refl
          where
            by : (b : Bool) → same_name path (own_path d n) ≡ b → cond (not (same_name path (own_path d n))) (path ∷ others ps) (others ps) ≡ path ∷ ps
            by true e = absurd (differ (same_name-equal path (own_path d n) e))
            by false e = ap (λ b. cond (not b) (path ∷ others ps) (others ps)) e ∙ ap (λ qs. path ∷ qs) same

        -- those above an instance aren't the instance
        others_above : (more m : ℕ) → m ≤ more → m < n → others (macros_from d (marked d numbers) unit m) ≡ macros_from d (marked d numbers) unit m
        unfolding others
        others_above more zero few before = others_top
        others_above zero (suc m) few before = absurd (omega arith)
        others_above (suc more) (suc m) few before = elim (cases_eq (suc m) unit) [
          | inl same ↦ (let none = from_unit (suc m) same in ap others none ∙ sym none)
          | inr other ↦
              let within : suc m < length d.insts = omega (arith, in_n) in
              let parent = parent_there d h (suc m) (omega arith) within in
              let lower = parent.2 in
              let all = from_other (suc m) parent.0 within other parent.1 in
              let rest = others_above more parent.0 (omega (arith, lower)) (omega (arith, lower)) in
              let differ : own_path d (suc m) ≢ own_path d n = λ same. absurd (omega (arith, told_there d h (suc m) n within in_n same)) in
              ap others all
              ∙ others_with (own_path d (suc m)) (macros_from d (marked d numbers) unit parent.0) differ rest (is_soft_macro d (marked d numbers) (own_path d (suc m)))
              ∙ sym all
        ]

        without : (ps : List (List ℕ)) (b : Bool) → others (cond b (own_path d n ∷ ps) ps) ≡ others ps
        unfolding others
        without ps false = refl
        without ps true = ap (λ b. cond (not b) (own_path d n ∷ others ps) (others ps)) (same_name-itself (own_path d n))

        pub far_from : (p : ℕ) → n ≢ unit → parent_of d n ≡ Some (Some p)
            → filter (λ macro. not (same_name macro (own_path d n))) (macros_from d (marked d numbers) unit n) ≡ macros_from d (marked d numbers) unit p
        unfolding others
        far_from p other parent =
            let before = (h.sound.parents_first n p parent).0 in
            ap others (from_other n p in_n other parent) ∙ without (macros_from d (marked d numbers) unit p) (is_soft_macro d (marked d numbers) (own_path d n))
            ∙ others_above p p (omega arith) before

        pub far_none : macros_from d (marked d numbers) unit n ≡ [] → false ≡ has_some (filter (λ macro. not (same_name macro (own_path d n))) (macros_from d (marked d numbers) unit n))
        unfolding others
        far_none none = sym (ap (λ ps. has_some (others ps)) none)
