-- What is found along the list of all parts of a hierarchy is what a name stands for.
use Rattle.std.proofs.Common.{◌≡◌, ℕ, zero, suc, ◌<◌, ◌≤◌, ◌↔◌, Bool, true, false, ◌&&◌, List, [], length, codes, cond, Option, None, Some, IfSome, MatchOption, slice_get, refl, sym, ap, ◌∙◌, subst, arith}
use Rattle.std.specs.List.{find}
use Rattle.std.specs.Option.{option_map}
use Rattle.std.proofs.lemmas.Bool.{and_parts, false≢true}
use Rattle.list_defs.specs.Members.{IsIn, same_name}
use Rattle.list_defs.proofs.NameLemmas.{same_name-equal, same_name-itself}
use Rattle.list_defs.proofs.Rising.{found_in}
use Rattle.pw_defs.specs.declared.design.Design.{Design}
use Rattle.pw_defs.specs.declared.design.Instance.{Instance}
use Rattle.pw_defs.specs.declared.design.Named.{Named}
use Rattle.pw_defs.specs.declared.design.Named.TheVariants.{Instance as InstanceNamed, Port as PortNamed, PortBit as BitNamed}
use Rattle.design_defs.specs.Alike.{IsAtOrBelow}
use Rattle.design_defs.specs.Joined.{HasJoinedName, parent_of, path_of}
use Rattle.design_defs.specs.Names.{joined}
use Rattle.design_defs.specs.Resolves.{HasNameBelow, Resolves, kind_of, ResolvesToNothing, StandsBelow}
use Rattle.design_defs.proofs.Resolving.{one_named_below}
use Rattle.script_defs.specs.DesignParts.{DesignPart, design_parts, is_below, numbered, own_part, part_at, part_from}
use Rattle.script_defs.specs.Scopes.{above, is_one_of, path_from}
use Rattle.script_scopes.specs.Parts.{owner_of, part_of}
use Rattle.script_scopes.specs.Standing.{IsHierarchy, named_inst, own_path}
use Rattle.script_scopes.proofs.AboveLemmas.{above_inner, above_top, one_above}
use Rattle.script_scopes.proofs.ListedLemmas.{find_in, find_nothing, number_at, number_in}
use Rattle.script_scopes.proofs.PartLists.{IsListed, as_part, listed, listed_at}
use Rattle.script_scopes.proofs.PathLemmas.{below_top, inst_there, once, one_path, own_path_is, parent_there, path_there, path_within}

module _ (d : Design) (h : IsHierarchy d) where
  -- of the parts of one name there is one
  one_part : (name : List ℕ) (x : Named) → HasJoinedName d x name → (y : DesignPart) → IsListed d y → name ≡ y.name → y ≡ part_of d name x
  one_part name x is y is_y same =
      let named : y.named ≡ x = h.sound.own_names y.named x name (subst (HasJoinedName d y.named) (sym same) is_y.is_named) is in
      as_part d y is_y ∙ ap (λ n. part_of d n y.named) (sym same) ∙ ap (part_of d name) named

  -- What is found is there, and an instance that is found has the name as its path.
  pub record IsMeant (name : List ℕ) (r : Option Named) : Type 0 where
    pub within : IfSome r (λ x. owner_of x < length d.insts)
    pub path_is : IfSome (named_inst r) (λ n. path_of d n ≡ Some name)

  inst_named : (n : ℕ) (name : List ℕ) → HasJoinedName d (InstanceNamed n) name → path_of d n ≡ Some name
  inst_named n name is = by (InstanceNamed n) name refl refl is
    where
      by : (x : Named) (whole : List ℕ) → InstanceNamed n ≡ x → name ≡ whole → HasJoinedName d x whole → path_of d n ≡ Some name
      by _ _ this same (HasJoinedName.instance m path later there) = let number : n ≡ m = cc in ap (path_of d) number ∙ there ∙ ap Some (sym same)
      by _ _ this same (HasJoinedName.port i m p q is_path at) = cc
      by _ _ this same (HasJoinedName.vector_bit b p range q is_path at vector within) = cc

  meant_so : (name : List ℕ) (x : Named) → HasJoinedName d x name → IsMeant name (Some x)
  meant_so name x is = record { within = (listed d (part_of d name x) (listed_at d x name is)).within; path_is = path x is }
    where
      path : (x : Named) → HasJoinedName d x name → IfSome (named_inst (Some x)) (λ n. path_of d n ≡ Some name)
      path (InstanceNamed n) is = inst_named n name is
      path (PortNamed n port) is = tt
      path (BitNamed b) is = tt

  -- BELOW A SCOPE, as the list says it, and by instances.
  module _ (s : ℕ) (in_s : s < length d.insts) where
    inst_stands : (n : ℕ) → n < length d.insts → is_one_of (own_path d s) (above d (own_path d n)) ≡ true → (p : ℕ) × (parent_of d n ≡ Some (Some p)) × IsAtOrBelow d s p
    inst_stands zero within e =
        let none : is_one_of (own_path d s) (above d (own_path d 0)) ≡ false = ap (is_one_of (own_path d s)) (above_top d h 0 within refl) in
        absurd (false≢true (sym none ∙ e))
    inst_stands (suc n) within e =
        let parent = parent_there d h (suc n) (omega arith) within in
        let before = parent.2 in
        let all = above_inner d h (suc n) within parent.0 parent.1 in
        (parent.0, parent.1, (one_above d h s in_s parent.0 (omega (arith, before, within))).0 (ap (is_one_of (own_path d s)) (sym all) ∙ e))

    inst_below : (n p : ℕ) → n < length d.insts → parent_of d n ≡ Some (Some p) → IsAtOrBelow d s p → is_one_of (own_path d s) (above d (own_path d n)) ≡ true
    inst_below n p within parent below =
        let before = (h.sound.parents_first n p parent).0 in
        ap (is_one_of (own_path d s)) (above_inner d h n within p parent) ∙ (one_above d h s in_s p (omega (arith, before, within))).1 below

    stands : (name : List ℕ) (x : Named) → owner_of x < length d.insts → is_below d (own_path d s) (part_of d name x) ≡ true → StandsBelow d s x
    stands name (InstanceNamed n) within e = inst_stands n within e
    stands name (PortNamed n port) within e = (one_above d h s in_s n within).0 e
    stands name (BitNamed b) within e = (one_above d h s in_s b.inst within).0 e

    below_so : (name : List ℕ) (x : Named) → owner_of x < length d.insts → StandsBelow d s x → is_below d (own_path d s) (part_of d name x) ≡ true
    below_so name (InstanceNamed n) within below = inst_below n below.0 within below.1 below.2
    below_so name (PortNamed n port) within below = (one_above d h s in_s n within).1 below
    below_so name (BitNamed b) within below = (one_above d h s in_s b.inst within).1 below

    module _ (word name : List ℕ) (whole : joined (own_path d s) word ≡ name) where
      -- a listed part that passes has the word below the scope
      has_word : (y : DesignPart) → IsListed d y → same_name name y.name && is_below d (own_path d s) y ≡ true → HasNameBelow d s word y.named
      has_word y is pass =
          let both = and_parts (same_name name y.name) (is_below d (own_path d s) y) pass in
          let same : y.name ≡ joined (own_path d s) word = sym (whole ∙ same_name-equal name y.name both.0) in
          record {
            below = stands y.name y.named is.within (ap (is_below d (own_path d s)) (sym (as_part d y is)) ∙ both.1);
            path = own_path d s;
            path_of_scope = path_there d s in_s;
            named = subst (HasJoinedName d y.named) same is.is_named;
          }

      joined_from : (x : Named) → HasNameBelow d s word x → HasJoinedName d x name
      joined_from x has = subst (HasJoinedName d x) (ap (λ p. joined p word) (sym (own_path_is d s has.path has.path_of_scope)) ∙ whole) has.named

      pub found_one : (x : Named) → HasNameBelow d s word x → find (λ x. same_name name x.name && is_below d (own_path d s) x) (design_parts d) ≡ Some (part_of d name x)
      found_one x has =
          let joined_is = joined_from x has in
          let there = listed_at d x name joined_is in
          let passes : same_name name name && is_below d (own_path d s) (part_of d name x) ≡ true =
          ap (λ b. b && is_below d (own_path d s) (part_of d name x)) (same_name-itself name) ∙ below_so name x (listed d (part_of d name x) there).within has.below in
          find_in (λ y. same_name name y.name && is_below d (own_path d s) y) (design_parts d) (part_of d name x) there passes
          (λ y is_in pass. one_part name x joined_is y (listed d y is_in) (same_name-equal name y.name (and_parts (same_name name y.name) (is_below d (own_path d s) y) pass).0))

      pub found_by : (r : Option Named) → MatchOption r (ResolvesToNothing d s word) (λ x. Resolves d s word x)
          → find (λ x. same_name name x.name && is_below d (own_path d s) x) (design_parts d) ≡ option_map (part_of d name) r
      found_by None none =
          find_nothing (λ x. same_name name x.name && is_below d (own_path d s) x) (design_parts d) (λ y there pass. none y.named (has_word y (listed d y there) pass))
      found_by (Some x) is = found_one x is.has_name

      -- the part that is found has the word below the scope
      pub found_has : (y : DesignPart) → find (λ x. same_name name x.name && is_below d (own_path d s) x) (design_parts d) ≡ Some y → HasNameBelow d s word y.named
      found_has y found =
          let there = found_in (λ x. same_name name x.name && is_below d (own_path d s) x) (design_parts d) y found in
          has_word y (listed d y there.0) there.1

      pub meant : (r : Option Named) → MatchOption r (ResolvesToNothing d s word) (λ x. Resolves d s word x) → IsMeant name r
      meant None none = record { within = tt; path_is = tt }
      meant (Some x) is = meant_so name x (joined_from x is.has_name)

    -- the scope's own instance
    pub own_found : own_part d (own_path d s) ≡ Some (part_of d (own_path d s) (InstanceNamed s))
    own_found =
        let here = inst_there d s in_s in
        let e : ℕ × Instance = (s, here.0) in
        let path : own_path d s ≡ here.0.path = own_path_is d s here.0.path (ap (option_map (λ (i : Instance). i.path)) here.1) in
        let pass : same_name (own_path d s) here.0.path ≡ true = subst (λ p. same_name (own_path d s) p ≡ true) path (same_name-itself (own_path d s)) in
        ap (option_map (λ (f : ℕ × Instance). let part : DesignPart = record { name = own_path d s; owner = own_path d s; named = InstanceNamed f.0 } in part))
        (find_in (λ (f : ℕ × Instance). same_name (own_path d s) f.1.path) (numbered d) e (number_at d.insts s here.0 here.1) pass alone)
      where
        alone : (f : ℕ × Instance) → IsIn f (numbered d) → same_name (own_path d s) f.1.path ≡ true → f ≡ (s, (inst_there d s in_s).0)
        alone f there pass =
            let at = number_in d.insts f there in
            let path : path_of d f.0 ≡ Some (own_path d s) =
            ap (option_map (λ (i : Instance). i.path)) at ∙ ap Some (sym (same_name-equal (own_path d s) f.1.path pass)) in
            let number : f.0 ≡ s = one_path d h f.0 s (own_path d s) path (path_there d s in_s) in
            let inst : f.1 ≡ (inst_there d s in_s).0 = once (sym at ∙ ap (slice_get d.insts) number ∙ (inst_there d s in_s).1) in
            ap (λ n. (n, f.1)) number ∙ ap (λ i. (s, i)) inst

    -- A WORD FROM THE SCOPE: `.`, or another one.
    module _ (word : List ℕ) where
      named_from : Bool → Option DesignPart
      named_from b = cond b (own_part d (own_path d s)) (find (λ x. same_name (joined (own_path d s) word) x.name && is_below d (own_path d s) x) (design_parts d))

      pub dot_part : same_name word (codes ".") ≡ true → part_from d (own_path d s) word ≡ Some (part_of d (path_from (own_path d s) word) (InstanceNamed s))
      unfolding named_from
      dot_part e = ap named_from e ∙ own_found ∙ ap (λ b. Some (part_of d (cond b (own_path d s) (joined (own_path d s) word)) (InstanceNamed s))) (sym e)

      pub dot_path : same_name word (codes ".") ≡ true → path_of d s ≡ Some (path_from (own_path d s) word)
      dot_path e = path_there d s in_s ∙ ap (λ b. Some (cond b (own_path d s) (joined (own_path d s) word))) (sym e)

      module _ (e : same_name word (codes ".") ≡ false) where
        word_find : part_from d (own_path d s) word ≡ find (λ x. same_name (joined (own_path d s) word) x.name && is_below d (own_path d s) x) (design_parts d)
        unfolding named_from
        word_find = ap named_from e

        word_path : joined (own_path d s) word ≡ path_from (own_path d s) word
        word_path = ap (λ b. cond b (own_path d s) (joined (own_path d s) word)) (sym e)

        pub word_part : (r : Option Named) → MatchOption r (ResolvesToNothing d s word) (λ x. Resolves d s word x)
            → part_from d (own_path d s) word ≡ option_map (part_of d (path_from (own_path d s) word)) r
        word_part r is = word_find ∙ found_by word (joined (own_path d s) word) refl r is ∙ ap (λ name. option_map (part_of d name) r) word_path

        pub word_meant : (r : Option Named) → MatchOption r (ResolvesToNothing d s word) (λ x. Resolves d s word x) → IsMeant (path_from (own_path d s) word) r
        word_meant r is = meant word (path_from (own_path d s) word) word_path r is

        -- what has the name is alone, so that it is what the word stands for
        resolves_as : (x : Named) → HasNameBelow d s word x → Resolves d s word x
        resolves_as x has = record { has_name = has; first = λ y other. subst (λ z. kind_of x ≤ kind_of z) (one_named_below d h.sound.own_names s word x y has other) (omega arith) }

        resolves_from : (x : Named) (o : Option DesignPart) → part_from d (own_path d s) word ≡ o → option_map (λ (p : DesignPart). p.named) o ≡ Some x → Resolves d s word x
        resolves_from x None found named = cc
        resolves_from x (Some y) found named = subst (Resolves d s word) (once named) (resolves_as y.named (found_has word (joined (own_path d s) word) refl y (sym word_find ∙ found)))

        pub word_resolves : (x : Named) → Resolves d s word x ↔ (option_map (λ p. p.named) (part_from d (own_path d s) word) ≡ Some x)
        word_resolves x = ((λ is. ap (option_map (λ (p : DesignPart). p.named)) (word_part (Some x) is)), (λ named. resolves_from x (part_from d (own_path d s) word) refl named))

        none_from : part_from d (own_path d s) word ≡ None → ResolvesToNothing d s word
        none_from none x has =
            let found : part_from d (own_path d s) word ≡ Some (part_of d (joined (own_path d s) word) x) =
            word_find ∙ found_one word (joined (own_path d s) word) refl x has in
            cc

        pub word_nothing : ResolvesToNothing d s word ↔ (part_from d (own_path d s) word ≡ None)
        word_nothing = ((λ none. word_part None none), none_from)

  -- FROM THE TOP. Whatever has a joined name stands below the top.
  stands_below_top : (x : Named) (name : List ℕ) → HasJoinedName d x name → StandsBelow d 0 x
  stands_below_top _ _ (HasJoinedName.instance n path later is) =
      let parent = parent_there d h n later (path_within d n path is) in
      let before = parent.2 in
      let within = path_within d n path is in
      (parent.0, parent.1, below_top d h parent.0 (omega (arith, before, within)))
  stands_below_top _ _ (HasJoinedName.port n number p path is at) = below_top d h n (path_within d n path is)
  stands_below_top _ _ (HasJoinedName.vector_bit b p range path is at vector within) = below_top d h b.inst (path_within d b.inst path is)

  pub found_at_all : (name : List ℕ) (r : Option Named) → MatchOption r (ResolvesToNothing d 0 name) (λ x. Resolves d 0 name x) → part_at d name ≡ option_map (part_of d name) r
  found_at_all name None none =
      find_nothing (λ (x : DesignPart). same_name name x.name) (design_parts d) (λ y there pass.
      let is = listed d y there in
      none y.named (record {
        below = stands_below_top y.named y.name is.is_named;
        path = [];
        path_of_scope = h.top;
        named = subst (HasJoinedName d y.named) (sym (same_name-equal name y.name pass)) is.is_named;
      }))
  found_at_all name (Some x) is =
      let top : is.has_name.path ≡ [] = once (sym is.has_name.path_of_scope ∙ h.top) in
      let joined_is : HasJoinedName d x name = subst (λ p. HasJoinedName d x (joined p name)) top is.has_name.named in
      find_in (λ (y : DesignPart). same_name name y.name) (design_parts d) (part_of d name x) (listed_at d x name joined_is) (same_name-itself name)
      (λ y there pass. one_part name x joined_is y (listed d y there) (same_name-equal name y.name pass))

  pub meant_at_all : (name : List ℕ) (r : Option Named) → MatchOption r (ResolvesToNothing d 0 name) (λ x. Resolves d 0 name x) → IsMeant name r
  meant_at_all name r is =
      let top : own_path d 0 ≡ [] = own_path_is d 0 [] h.top in
      meant 0 (path_within d 0 [] h.top) name name (ap (λ p. joined p name) top) r is
