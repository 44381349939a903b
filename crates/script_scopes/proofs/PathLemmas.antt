-- The paths of a hierarchy tell its instances apart, and what is found by a name from the top is what stands at the path.
use Rattle.std.proofs.Common.{◌≡◌, ◌≢◌, ℕ, zero, suc, ◌<◌, ◌≤◌, ◌==◌, Bool, true, false, List, [], ◌∷◌, length, Option, None, Some, MatchOption, IfSome, slice_get, unwrap_or, inl, inr, refl, sym, ap, ◌∙◌, subst, arith}
use Rattle.std.specs.Option.{option_map}
use Rattle.std.proofs.lemmas.Bool.{eqb-true}
use Rattle.std.proofs.lemmas.List.{nil_from_length}
use Rattle.std.proofs.lemmas.Option.{slice_get_cases, slice_get_within}
use Rattle.list_defs.specs.Members.{same_name}
use Rattle.list_defs.proofs.NameLemmas.{place_of-map, same_name-equal, same_name-itself}
use Rattle.pw_defs.specs.declared.design.Design.{Design}
use Rattle.pw_defs.specs.declared.design.Instance.{Instance}
use Rattle.pw_defs.specs.declared.design.Named.{Named}
use Rattle.pw_defs.specs.declared.design.Named.TheVariants.{Instance as InstanceNamed, Port, PortBit}
use Rattle.design_defs.specs.Alike.{IsAtOrBelow}
use Rattle.design_defs.specs.Joined.{HasJoinedName, parent_of, path_of}
use Rattle.design_defs.specs.Names.{joined}
use Rattle.design_defs.specs.Ports.{body_of}
use Rattle.design_defs.specs.Resolves.{HasNameBelow, Resolves, ResolvesToNothing}
use Rattle.design_defs.proofs.Resolving.{one_named_below}
use Rattle.script_defs.specs.Numbers.{inst_number}
use Rattle.script_defs.specs.Scopes.{body_at, instance_at}
use Rattle.script_scopes.specs.Standing.{HasOwnPaths, IsHierarchy, IsNumberAt, named_inst, own_path}
use Rattle.script_scopes.proofs.FirstLemmas.{find_none, find_one, place_none, place_one}

pub once : {X : Type 0} {x y : X} → Some x ≡ Some y → x ≡ y
once same = cc

-- the instance that has a path
pub inst_of_path : (d : Design) (n : ℕ) (path : List ℕ) → path_of d n ≡ Some path → (i : Instance) × (slice_get d.insts n ≡ Some i) × (i.path ≡ path)
inst_of_path d n path is = by (slice_get d.insts n) refl is
  where
    by : (o : Option Instance) → slice_get d.insts n ≡ o → option_map (λ (i : Instance). i.path) o ≡ Some path
        → (i : Instance) × (slice_get d.insts n ≡ Some i) × (i.path ≡ path)
    by None e h = cc
    by (Some i) e h = (i, e, once h)

pub path_within : (d : Design) (n : ℕ) (path : List ℕ) → path_of d n ≡ Some path → n < length d.insts
path_within d n path is = let found = inst_of_path d n path is in slice_get_within d.insts n found.0 found.1

pub inst_there : (d : Design) (n : ℕ) → n < length d.insts → (i : Instance) × (slice_get d.insts n ≡ Some i)
inst_there d n within = elim (slice_get_cases d.insts n).1 [ inl found ↦ (found.0, found.2) | inr past ↦ absurd (omega (arith, past.0, within)) ]

pub path_there : (d : Design) (n : ℕ) → n < length d.insts → path_of d n ≡ Some (own_path d n)
path_there d n within =
    let here = inst_there d n within in
    let is : path_of d n ≡ Some here.0.path = ap (option_map (λ (i : Instance). i.path)) here.1 in
    is ∙ ap (λ o. Some (unwrap_or o [])) (sym is)

pub own_path_is : (d : Design) (n : ℕ) (path : List ℕ) → path_of d n ≡ Some path → own_path d n ≡ path
own_path_is d n path is = ap (λ o. unwrap_or o []) is

-- a text of no bytes is empty
pub no_text : (xs : List ℕ) (b : Bool) → b ≡ (length xs == 0) → b ≡ true → xs ≡ []
no_text xs b e t = nil_from_length xs (eqb-true (length xs) 0 (sym e ∙ t))

pub some_text : (xs : List ℕ) (b : Bool) → b ≡ (length xs == 0) → b ≡ false → xs ≢ []
some_text [] b e f = λ none. cc
some_text (x ∷ xs) b e f = λ none. cc

-- a name that isn't empty joined to a path isn't empty
joined_some : (path name : List ℕ) → name ≢ [] → joined path name ≢ []
joined_some [] name some = some
joined_some (c ∷ cs) name some = λ none. cc

module _ (d : Design) (h : IsHierarchy d) where
  pub top_within : 0 < length d.insts
  top_within = path_within d 0 [] h.top

  -- each instance but the top is inside one that comes before it
  pub parent_there : (n : ℕ) → 0 < n → n < length d.insts → (p : ℕ) × (parent_of d n ≡ Some (Some p)) × (p < n)
  parent_there n later within = by here.0.parent refl
    where
      here : (i : Instance) × (slice_get d.insts n ≡ Some i)
      here = inst_there d n within

      by : (o : Option ℕ) → here.0.parent ≡ o → (p : ℕ) × (parent_of d n ≡ Some (Some p)) × (p < n)
      by None e = absurd (omega (arith, (h.sound.top.alone n here.0 here.1).0 e))
      by (Some p) e =
          let parent : parent_of d n ≡ Some (Some p) = ap (option_map (λ (i : Instance). i.parent)) here.1 ∙ ap Some e in
          (p, parent, (h.sound.parents_first n p parent).0)

  pub top_parent : parent_of d 0 ≡ Some None
  top_parent =
      let here = inst_there d 0 top_within in
      ap (option_map (λ (i : Instance). i.parent)) here.1 ∙ ap Some ((h.sound.top.alone 0 here.0 here.1).1 refl)

  -- no other path is empty
  pub path_some : (n : ℕ) (path : List ℕ) → 0 < n → path_of d n ≡ Some path → path ≢ []
  path_some n path later is =
      let parent = parent_there n later (path_within d n path is) in
      let own = h.names n parent.0 parent.1 in
      let whole : path ≡ joined own.2.path own.0 = once (sym is ∙ own.2.path_there) in
      subst (λ p. p ≢ []) (sym whole) (joined_some own.2.path own.0 own.1)

  -- two instances of one path are one
  pub one_path : (n m : ℕ) (path : List ℕ) → path_of d n ≡ Some path → path_of d m ≡ Some path → n ≡ m
  one_path zero zero path e f = refl
  one_path zero (suc m) path e f = absurd (path_some (suc m) path (omega arith) f (once (sym e ∙ h.top)))
  one_path (suc n) zero path e f = absurd (path_some (suc n) path (omega arith) e (once (sym f ∙ h.top)))
  one_path (suc n) (suc m) path e f =
      same_number
      (h.sound.own_names (InstanceNamed (suc n)) (InstanceNamed (suc m)) path (HasJoinedName.instance (suc n) path (omega arith) e) (HasJoinedName.instance (suc m) path (omega arith) f))
    where
      same_number : InstanceNamed (suc n) ≡ InstanceNamed (suc m) → suc n ≡ suc m
      same_number same = cc

  -- the instance that is found at a path is the one that has it
  at_test : (path : List ℕ) (m : ℕ) (y : Instance) → slice_get d.insts m ≡ Some y → same_name path y.path ≡ true → path_of d m ≡ Some path
  at_test path m y there pass = ap (option_map (λ (i : Instance). i.path)) there ∙ ap Some (sym (same_name-equal path y.path pass))

  pub own_paths : HasOwnPaths d
  own_paths n path is =
      let here = inst_of_path d n path is in
      let pass : same_name path here.0.path ≡ true = subst (λ p. same_name path p ≡ true) (sym here.2) (same_name-itself path) in
      record {
        inst = here.0;
        there = here.1;
        found = find_one (λ (i : Instance). same_name path i.path) d.insts n here.0 here.1 pass (λ m y there passes. one_path m n path (at_test path m y there passes) is);
      }

  pub inst_at_own : (n : ℕ) → n < length d.insts → instance_at d (own_path d n) ≡ slice_get d.insts n
  inst_at_own n within = let is = own_paths n (own_path d n) (path_there d n within) in is.found ∙ sym is.there

  pub body_at_own : (n : ℕ) → n < length d.insts → body_at d (own_path d n) ≡ body_of d n
  body_at_own n within = ap (option_map (λ (i : Instance). i.body)) (inst_at_own n within)

  pub number_is : (n : ℕ) (path : List ℕ) → path_of d n ≡ Some path → inst_number d path ≡ n
  number_is n path is =
      let here = inst_of_path d n path is in
      let pass : same_name path here.0.path ≡ true = subst (λ p. same_name path p ≡ true) (sym here.2) (same_name-itself path) in
      ap (λ o. unwrap_or o 0)
      (place_of-map (λ (i : Instance). i.path) (same_name path) d.insts ∙ place_one (λ (i : Instance). same_name path i.path) d.insts n here.0 here.1 pass (λ m y there passes. one_path m n path (at_test path m y there passes) is))

  module _ (path : List ℕ) (nowhere : (n : ℕ) → path_of d n ≡ Some path → ⊥) where
    none_at : instance_at d path ≡ None
    none_at = find_none (λ (i : Instance). same_name path i.path) d.insts (λ m y there passes. nowhere m (at_test path m y there passes))

    no_number : inst_number d path ≡ 0
    no_number =
        ap (λ o. unwrap_or o 0)
        (place_of-map (λ (i : Instance). i.path) (same_name path) d.insts ∙ place_none (λ (i : Instance). same_name path i.path) d.insts (λ m y there passes. nowhere m (at_test path m y there passes)))

  -- each instance stands at or below the top
  below_by : (more n : ℕ) → n ≤ more → n < length d.insts → IsAtOrBelow d 0 n
  below_by more zero few within = IsAtOrBelow.at zero refl
  below_by zero (suc n) few within = absurd (omega arith)
  below_by (suc more) (suc n) few within =
      let parent = parent_there (suc n) (omega arith) within in
      let before = parent.2 in
      let rest = below_by more parent.0 (omega (arith, before)) (omega (arith, before)) in
      IsAtOrBelow.inside (suc n) parent.0 parent.1 rest

  pub below_top : (n : ℕ) → n < length d.insts → IsAtOrBelow d 0 n
  below_top n within = below_by n n (omega arith) within

  pub named_from_top : (n : ℕ) (path : List ℕ) → 0 < n → path_of d n ≡ Some path → HasNameBelow d 0 path (InstanceNamed n)
  named_from_top n path later is =
      let within = path_within d n path is in
      let parent = parent_there n later within in
      let before = parent.2 in
      record {
        below = (parent.0, parent.1, below_top parent.0 (omega (arith, before, within)));
        path = [];
        path_of_scope = h.top;
        named = HasJoinedName.instance n path later is;
      }

  -- the instance that has a name below the top has it as its path
  pub path_from_top : (n : ℕ) (path : List ℕ) → HasNameBelow d 0 path (InstanceNamed n) → path_of d n ≡ Some path
  path_from_top n path has = by (InstanceNamed n) (joined has.path path) refl refl has.named
    where
      by : (x : Named) (whole : List ℕ) → InstanceNamed n ≡ x → joined has.path path ≡ whole → HasJoinedName d x whole → path_of d n ≡ Some path
      by _ _ this same (HasJoinedName.instance m p inner is_path) =
          let number : n ≡ m = cc in
          let top : has.path ≡ [] = once (sym has.path_of_scope ∙ h.top) in
          let whole : path ≡ p = sym (ap (λ q. joined q path) top) ∙ same in
          ap (path_of d) number ∙ is_path ∙ ap Some (sym whole)
      by _ _ this same (HasJoinedName.port i m p q is_path at) = cc
      by _ _ this same (HasJoinedName.vector_bit c p range q is_path at vector within) = cc

  -- what the walk from the top finds is what stands at the path
  pub record IsFound (path : List ℕ) (r : Option ℕ) : Type 0 where
    pub found : MatchOption r (instance_at d path ≡ None) (λ n. IsNumberAt d path n)
    pub within : IfSome r (λ n. n < length d.insts)
    pub path_is : IfSome r (λ n. path_of d n ≡ Some path)
    pub number : inst_number d path ≡ unwrap_or r 0

  pub found_at : (n : ℕ) (path : List ℕ) → path_of d n ≡ Some path → IsFound path (Some n)
  found_at n path is = record { found = own_paths n path is; within = path_within d n path is; path_is = is; number = number_is n path is }

  pub top_at : (path : List ℕ) → path ≡ [] → IsFound path (Some 0)
  top_at path none = found_at 0 path (h.top ∙ ap Some (sym none))

  found_none : (path : List ℕ) → ((n : ℕ) → path_of d n ≡ Some path → ⊥) → IsFound path None
  found_none path nowhere = record { found = none_at path nowhere; within = tt; path_is = tt; number = no_number path nowhere }

  later_of : (n : ℕ) (path : List ℕ) → path ≢ [] → path_of d n ≡ Some path → 0 < n
  later_of zero path some is = absurd (some (once (sym is ∙ h.top)))
  later_of (suc n) path some is = omega arith

  -- where a name stands for something else, no instance has it
  nowhere_else : (path : List ℕ) → path ≢ [] → (x : Named) → Resolves d 0 path x → ((n : ℕ) → InstanceNamed n ≡ x → ⊥) → (n : ℕ) → path_of d n ≡ Some path → ⊥
  nowhere_else path some x is other n at =
      other n (one_named_below d h.sound.own_names 0 path (InstanceNamed n) x (named_from_top n path (later_of n path some at) at) is.has_name)

  pub walked : (path : List ℕ) → path ≢ [] → (r : Option Named) → MatchOption r (ResolvesToNothing d 0 path) (λ x. Resolves d 0 path x) → IsFound path (named_inst r)
  walked path some None none = found_none path (λ n at. none (InstanceNamed n) (named_from_top n path (later_of n path some at) at))
  walked path some (Some (InstanceNamed n)) is = found_at n path (path_from_top n path is.has_name)
  walked path some (Some (Port inst port)) is = found_none path (nowhere_else path some (Port inst port) is (λ n same. cc))
  walked path some (Some (PortBit b)) is = found_none path (nowhere_else path some (PortBit b) is (λ n same. cc))
