-- A name below an instance is that of something directly there, or begins with the name of an instance inside it.
use Rattle.std.proofs.Common.{◌≡◌, ◌≢◌, ℕ, zero, suc, ◌+◌, ◌≤◌, List, [], ◌∷◌, ◌++◌, length, take, drop, Option, Some, None, MatchOption, slice_index_or, ◌<◌, ◌⊎◌, inl, inr, refl, sym, ap, ◌∙◌, subst, arith}
use Rattle.std.proofs.lemmas.List.{append_assoc}
use Rattle.std.proofs.lemmas.Option.{slice_get_cases}
use Rattle.std.specs.Option.{option_map}
use Rattle.pw_defs.specs.declared.design.Design.{Design}
use Rattle.pw_defs.specs.declared.design.Named.{Named}
use Rattle.pw_defs.specs.declared.design.Named.TheVariants.{Instance, Port, PortBit}
use Rattle.design_defs.specs.Alike.{IsAtOrBelow}
use Rattle.design_defs.proofs.Resolving.{one_named_below}
use Rattle.design_defs.specs.Joined.{HasJoinedName, HaveOwnNames, parent_of, path_of}
use Rattle.design_defs.specs.Names.{joined}
use Rattle.design_defs.specs.Ranges.{bit_name}
use Rattle.design_defs.specs.Resolves.{HasNameBelow, Resolves, ResolvesToNothing, StandsBelow, kind_of}
use Rattle.design_defs.specs.Sound.{HasParentsFirst}
use Rattle.pw_defs.specs.declared.design.Instance.{Instance as InstanceRecord}
use Rattle.design_rows.specs.Children.{HasNamesInside, IsNamedInside}
use Rattle.design_rows.proofs.ChildLemmas.{joined_once}
use Rattle.design_paths.specs.Ways.{HasNoneBehind, HasNoneDeeper, HasNoneHere, HasNoneInsideOf, IsParted, StandsHere}

-- names are joined one behind another
joined_joined : (path name rest : List ℕ) → name ≢ [] → joined (joined path name) rest ≡ joined path (name ++ 47 ∷ rest)
joined_joined [] [] rest some = absurd (some refl)
joined_joined [] (b ∷ bs) rest some = refl
joined_joined (c ∷ cs) name rest some = append_assoc (c ∷ cs) (47 ∷ name) (47 ∷ rest)

pub once : {X : Type 0} {x y : X} → Some x ≡ Some y → x ≡ y
once same = cc

module _ (d : Design) (names : HasNamesInside d) where
  -- the name of an instance inside another one isn't empty
  own_name : (outer : ℕ) (name : List ℕ) (n : ℕ) → IsNamedInside d outer name n → name ≢ []
  own_name outer name n is =
      let own = names n outer is.inside in
      let path : own.2.path ≡ is.path = once (sym own.2.path_of_outer ∙ is.path_of_outer) in
      let whole : joined is.path own.0 ≡ joined is.path name = ap (λ p. joined p own.0) (sym path) ∙ once (sym own.2.path_there ∙ is.path_there) in
      subst (λ x. x ≢ []) (joined_once is.path own.0 name whole) own.1

  -- what is at or below an instance inside another one is below that
  higher : (outer n i : ℕ) → parent_of d n ≡ Some (Some outer) → IsAtOrBelow d n i → IsAtOrBelow d outer i
  higher outer n _ parent (IsAtOrBelow.at i same) =
      IsAtOrBelow.inside i outer (ap (parent_of d) same ∙ parent) (IsAtOrBelow.at outer refl)
  higher outer n _ parent (IsAtOrBelow.inside i p inner below) = IsAtOrBelow.inside i p inner (higher outer n p parent below)

  stands_higher : (outer n : ℕ) (x : Named) → parent_of d n ≡ Some (Some outer) → StandsBelow d n x → StandsBelow d outer x
  stands_higher outer n (Instance i) parent below = (below.0, below.1, higher outer n below.0 parent below.2)
  stands_higher outer n (Port i port) parent below = higher outer n i parent below
  stands_higher outer n (PortBit b) parent below = higher outer n b.inst parent below

  -- what has a name below an instance inside another one has the longer name below that
  pub from_child : (outer n : ℕ) (front rest : List ℕ) (x : Named) → IsNamedInside d outer front n → HasNameBelow d n rest x
      → HasNameBelow d outer (front ++ 47 ∷ rest) x
  from_child outer n front rest x child has =
      let path : has.path ≡ joined child.path front = once (sym has.path_of_scope ∙ child.path_there) in
      let whole : joined has.path rest ≡ joined child.path (front ++ 47 ∷ rest) =
      ap (λ p. joined p rest) path ∙ joined_joined child.path front rest (own_name outer front n child) in
      record {
        below = stands_higher outer n x child.inside has.below;
        path = child.path;
        path_of_scope = child.path_of_outer;
        named = subst (HasJoinedName d x) whole has.named;
      }

  -- what is at or below an instance is it, or at or below one that is directly inside it
  first_step : (top i : ℕ) → IsAtOrBelow d top i → (i ≡ top) ⊎ ((n : ℕ) × (parent_of d n ≡ Some (Some top)) × IsAtOrBelow d n i)
  first_step top _ (IsAtOrBelow.at i same) = inl same
  first_step top _ (IsAtOrBelow.inside i p parent below) = elim (first_step top p below) [
    | inl same ↦ inr (i, parent ∙ ap (λ q. Some (Some q)) same, IsAtOrBelow.at i refl)
    | inr step ↦ inr (step.0, step.1, IsAtOrBelow.inside i p parent step.2)
  ]

  stands_deeper : (top : ℕ) (x : Named) → StandsBelow d top x → StandsHere d top x ⊎ ((n : ℕ) × (parent_of d n ≡ Some (Some top)) × StandsBelow d n x)
  stands_deeper top (Instance i) below = elim (first_step top below.0 below.2) [
    | inl same ↦ inl (below.1 ∙ ap (λ q. Some (Some q)) same)
    | inr step ↦ inr (step.0, step.1, (below.0, below.1, step.2))
  ]
  stands_deeper top (Port i port) below = elim (first_step top i below) [
    | inl same ↦ inl same
    | inr step ↦ inr (step.0, step.1, step.2)
  ]
  stands_deeper top (PortBit b) below = elim (first_step top b.inst below) [
    | inl same ↦ inl same
    | inr step ↦ inr (step.0, step.1, step.2)
  ]

  -- a name joined to the path of what is at or below an instance is one joined to the path of that instance
  joined_below : (n i : ℕ) → IsAtOrBelow d n i → (p q name : List ℕ) → path_of d n ≡ Some p → path_of d i ≡ Some q → (rest : List ℕ) × (joined q name ≡ joined p rest)
  joined_below n _ (IsAtOrBelow.at i same) p q name of_n of_i =
      let path : q ≡ p = once (sym of_i ∙ ap (path_of d) same ∙ of_n) in
      (name, ap (λ x. joined x name) path)
  joined_below n _ (IsAtOrBelow.inside i k parent below) p q name of_n of_i =
      let own = names i k parent in
      let path : q ≡ joined own.2.path own.0 = once (sym of_i ∙ own.2.path_there) in
      let rest = joined_below n k below p own.2.path (own.0 ++ 47 ∷ name) of_n own.2.path_of_outer in
      (rest.0, ap (λ x. joined x name) path ∙ joined_joined own.2.path own.0 name own.1 ∙ rest.1)

  rest_below : (n : ℕ) (p : List ℕ) → path_of d n ≡ Some p → (x : Named) (whole : List ℕ) → HasJoinedName d x whole → StandsBelow d n x
      → (rest : List ℕ) × (whole ≡ joined p rest)
  rest_below n p of_n _ _ (HasJoinedName.instance i path inner is_path) below =
      let own = names i below.0 below.1 in
      let path_is : path ≡ joined own.2.path own.0 = once (sym is_path ∙ own.2.path_there) in
      let rest = joined_below n below.0 below.2 p own.2.path own.0 of_n own.2.path_of_outer in
      (rest.0, path_is ∙ rest.1)
  rest_below n p of_n _ _ (HasJoinedName.port i number port path is_path is_port) below = joined_below n i below p path port.name of_n is_path
  rest_below n p of_n _ _ (HasJoinedName.vector_bit b port range path is_path is_port vector within) below =
      joined_below n b.inst below p path (bit_name port.name port.range b.place) of_n is_path

  -- the name begins with that of an instance inside, below which the rest is the name
  record IsDeeper (outer : ℕ) (name : List ℕ) (x : Named) : Type 0 where
    n : ℕ
    front : List ℕ
    rest : List ℕ
    split : name ≡ front ++ 47 ∷ rest
    child : IsNamedInside d outer front n
    below : HasNameBelow d n rest x

  here_or_deeper : (outer : ℕ) (name : List ℕ) (x : Named) → HasNameBelow d outer name x → StandsHere d outer x ⊎ IsDeeper outer name x
  here_or_deeper outer name x has = elim (stands_deeper outer x has.below) [
    | inl here ↦ inl here
    | inr step ↦ inr (deeper step.0 step.1 step.2)
  ]
    where
      deeper : (n : ℕ) → parent_of d n ≡ Some (Some outer) → StandsBelow d n x → IsDeeper outer name x
      deeper n parent below =
          let own = names n outer parent in
          let path : own.2.path ≡ has.path = once (sym own.2.path_of_outer ∙ has.path_of_scope) in
          let rest = rest_below n (joined own.2.path own.0) own.2.path_there x (joined has.path name) has.named below in
          let whole : joined has.path name ≡ joined has.path (own.0 ++ 47 ∷ rest.0) =
          rest.1 ∙ joined_joined own.2.path own.0 rest.0 own.1 ∙ ap (λ p. joined p (own.0 ++ 47 ∷ rest.0)) path in
          record {
            n = n;
            front = own.0;
            rest = rest.0;
            split = joined_once has.path name (own.0 ++ 47 ∷ rest.0) whole;
            child = own.2;
            below = record { below = below; path = joined own.2.path own.0; path_of_scope = own.2.path_there; named = subst (HasJoinedName d x) rest.1 has.named };
          }

  -- what isn't there and not deeper is nowhere below
  pub nowhere : (outer : ℕ) (name : List ℕ) → HasNoneHere d outer name → HasNoneDeeper d outer name → ResolvesToNothing d outer name
  nowhere outer name here deeper x has = elim (here_or_deeper outer name x has) [
    | inl is ↦ here x is has
    | inr is ↦ deeper (length is.front) is.n is.front is.rest refl is.split is.child x is.below
  ]

  pub below_from : (outer : ℕ) (name : List ℕ) → HasNoneHere d outer name → (found : Option Named) → MatchOption found (HasNoneDeeper d outer name) (λ x. HasNameBelow d outer name x)
      → MatchOption found (ResolvesToNothing d outer name) (λ x. HasNameBelow d outer name x)
  below_from outer name here None deeper = nowhere outer name here deeper
  below_from outer name here (Some x) has = has

  -- two instances inside one that have one name are one instance
  one_inside : HasParentsFirst d → HaveOwnNames d → (outer n m : ℕ) (name : List ℕ) → IsNamedInside d outer name n → IsNamedInside d outer name m → n ≡ m
  one_inside first own outer n m name is other =
      let path : is.path ≡ other.path = once (sym is.path_of_outer ∙ other.path_of_outer) in
      let there : path_of d m ≡ Some (joined is.path name) = other.path_there ∙ ap (λ p. Some (joined p name)) (sym path) in
      let before = (first n outer is.inside).0 in
      let later = (first m outer other.inside).0 in
      same_number
      (own (Instance n) (Instance m) (joined is.path name) (HasJoinedName.instance n (joined is.path name) (omega (arith, before)) is.path_there) (HasJoinedName.instance m (joined is.path name) (omega (arith, later)) there))
    where
      same_number : {n m : ℕ} → Instance n ≡ Instance m → n ≡ m
      same_number same = cc

  -- what is found below an instance inside is found below the outer one
  pub inside_from : HasParentsFirst d → HaveOwnNames d → (outer child : ℕ) (front rest : List ℕ) → IsNamedInside d outer front child → (found : Option Named)
      → MatchOption found (ResolvesToNothing d child rest) (λ x. HasNameBelow d child rest x)
      → MatchOption found (HasNoneInsideOf d outer front rest) (λ x. HasNameBelow d outer (front ++ 47 ∷ rest) x)
  inside_from first own outer child front rest is None none = λ n other.
      subst (λ m. ResolvesToNothing d m rest) (one_inside first own outer child n front is other) none
  inside_from first own outer child front rest is (Some x) has = from_child outer child front rest x is has

-- an instance that has a name inside another one is there
pub inside_within : (d : Design) (outer n : ℕ) (name : List ℕ) → IsNamedInside d outer name n → n < length d.insts
inside_within d outer n name is = elim (slice_get_cases d.insts n).1 [
  | inl found ↦ found.1
  | inr past ↦
      let lost : option_map (λ (i : InstanceRecord). i.path) None ≡ Some (joined is.path name) = ap (option_map (λ (i : InstanceRecord). i.path)) (sym past.1) ∙ is.path_there in
      cc
]

-- what a name stands for is what has it
pub resolved_from : (d : Design) → HaveOwnNames d → (scope : ℕ) (name : List ℕ) (found : Option Named)
    → MatchOption found (ResolvesToNothing d scope name) (λ x. HasNameBelow d scope name x) → MatchOption found (ResolvesToNothing d scope name) (λ x. Resolves d scope name x)
resolved_from d own scope name None none = none
resolved_from d own scope name (Some x) has =
    record { has_name = has; first = λ y other. subst (λ z. kind_of x ≤ kind_of z) (one_named_below d own scope name x y has other) (omega arith) }

-- a text that is parted at a place
pub take_front : (front rest : List ℕ) (at : ℕ) (b : ℕ) → length front ≡ at → take at (front ++ b ∷ rest) ≡ front
take_front [] rest at b same = rw (sym same) refl
take_front (c ∷ front) rest zero b same = absurd (omega arith)
take_front (c ∷ front) rest (suc at) b same = ap (λ xs. c ∷ xs) (take_front front rest at b (omega arith))

pub drop_front : (front rest : List ℕ) (at : ℕ) (b : ℕ) → length front ≡ at → drop (at + 1) (front ++ b ∷ rest) ≡ rest
drop_front front rest at b same = subst (λ n. drop n (front ++ b ∷ rest) ≡ rest) {x = suc at} (omega arith) (by front at same)
  where
    by : (xs : List ℕ) (n : ℕ) → length xs ≡ n → drop (suc n) (xs ++ b ∷ rest) ≡ rest
    by [] zero same = refl
    by [] (suc n) same = absurd (omega arith)
    by (x ∷ xs) zero same = absurd (omega arith)
    by (x ∷ xs) (suc n) same = by xs n (omega arith)

-- both parts are shorter than the whole
pub front_shorter : (front rest : List ℕ) (b : ℕ) → length front < length (front ++ b ∷ rest)
front_shorter [] rest b = omega arith
front_shorter (c ∷ front) rest b = let more = front_shorter front rest b in omega (arith, more)

pub rest_shorter : (front rest : List ℕ) (b : ℕ) → length rest < length (front ++ b ∷ rest)
rest_shorter [] rest b = omega arith
rest_shorter (c ∷ front) rest b = let more = rest_shorter front rest b in omega (arith, more)

split_at : (name : List ℕ) (at b : ℕ) → at < length name → slice_index_or name at 0 ≡ b → name ≡ take at name ++ b ∷ drop (suc at) name
split_at [] at b within is = absurd (omega arith)
split_at (c ∷ cs) zero b within is = ap (λ x. x ∷ cs) is
split_at (c ∷ cs) (suc at) b within is = ap (λ xs. c ∷ xs) (split_at cs at b (omega arith) is)

taken : (name : List ℕ) (at : ℕ) → at < length name → length (take at name) ≡ at
taken [] at within = absurd (omega arith)
taken (c ∷ cs) zero within = refl
taken (c ∷ cs) (suc at) within = let rest = taken cs at (omega arith) in omega (arith, rest)

-- a text is parted where a slash is
pub parted_at : (name : List ℕ) (at : ℕ) → at < length name → slice_index_or name at 0 ≡ 47 → IsParted name at (take at name) (drop (at + 1) name)
parted_at name at within is =
    let split : name ≡ take at name ++ 47 ∷ drop (at + 1) name =
    subst (λ n. name ≡ take at name ++ 47 ∷ drop n name) {x = suc at} (omega arith) (split_at name at 47 within is) in
    record { split = split; place = taken name at within; shorter = subst (λ xs. length (drop (at + 1) name) < length xs) (sym split) (rest_shorter (take at name) (drop (at + 1) name) 47) }

-- what is found by the parts is found by the whole
pub behind_from : (d : Design) (inst at : ℕ) (name front rest : List ℕ) → IsParted name at front rest → (found : Option Named)
    → MatchOption found (HasNoneInsideOf d inst front rest) (λ x. HasNameBelow d inst (front ++ 47 ∷ rest) x)
    → MatchOption found (HasNoneBehind d inst name at) (λ x. HasNameBelow d inst name x)
behind_from d inst at name front rest parts None none = λ n f r long split child.
    let same_front : f ≡ front =
    sym (take_front f r at 47 long) ∙ ap (take at) (sym split) ∙ ap (take at) parts.split ∙ take_front front rest at 47 parts.place in
    let same_rest : rest ≡ r =
    sym (drop_front front rest at 47 parts.place) ∙ ap (drop (at + 1)) (sym parts.split) ∙ ap (drop (at + 1)) split ∙ drop_front f r at 47 long in
    subst (ResolvesToNothing d n) same_rest (none n (subst (λ xs. IsNamedInside d inst xs n) same_front child))
behind_from d inst at name front rest parts (Some x) has = subst (λ xs. HasNameBelow d inst xs x) (sym parts.split) has
