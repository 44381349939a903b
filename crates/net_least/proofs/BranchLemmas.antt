-- The branch with the least key, as instances are added.
use Rattle.std.proofs.Common.{◌≡◌, ◌≢◌, ℕ, Bool, ◌⊎◌, List, [], ◌∷◌, ◌++◌, Option, None, Some, map, slice_get, inl, inr, refl, sym, ap, ◌∙◌, subst}
use Rattle.std.specs.declared.cmp.Ordering.TheVariants.{Less}
use Rattle.std.proofs.lemmas.Cmp.{nat_list_cmp_total}
use Rattle.std.proofs.lemmas.Option.{same_Some}
use Rattle.list_defs.specs.Orders.{name_cmp}
use Rattle.list_defs.proofs.Few.{place_of_member}
use Rattle.list_defs.proofs.Members.{IsIn-append_cases, IsIn-append_left, IsIn-append_right}
use Rattle.list_defs.proofs.Rising.{not_before_itself}
use Rattle.pw_defs.specs.declared.design.Body.{Body}
use Rattle.pw_defs.specs.declared.design.Body.TheVariants.{Module as ModuleBody}
use Rattle.pw_defs.specs.declared.netlist.Inst.{Inst}
use Rattle.design_defs.specs.Hierarchy.{Sources, type_of}
use Rattle.net_hierarchy.specs.Graph.{types_of}
use Rattle.net_least.specs.Recursion.{Ends, GoesOn, IsBranch, IsBranchAt, IsBranchOf, IsFirstBranch, IsLeastBranch, IsMarked, IsNext, key, module_in}
use Rattle.net_least.specs.declared.branches.Branch.{Branch}
use Rattle.net_least.proofs.Marking.{module_in_type, type_of_module_in}
use Rattle.net_least.proofs.Nearer.{same_name_at}
use Rattle.net_least.proofs.RowItems.{item_of_row}

module _ (s : Sources) (free marks : List Bool) (insts : List Inst) (i : Inst) where
  -- a branch is one of those before, or the last
  branch_cases : (j : Inst) (l : ℕ) → IsBranch s free (insts ++ i ∷ []) j l
      → IsBranch s free insts j l ⊎ ((j ≡ i) × (type_of s i.kind ≡ Some (ModuleBody l)) × (IsMarked free l → ⊥))
  branch_cases j l is =
      elim (IsIn-append_cases j insts (i ∷ []) is.one) [
        | inl old ↦ inl (record { one = old; is_type = is.is_type; not_free = is.not_free })
        | inr new ↦
            elim new [
              | inl same ↦ inr (same, ap (λ (x : Inst). type_of s x.kind) (sym same) ∙ is.is_type, is.not_free)
              | inr never ↦ absurd never
            ]
      ]

  pub branch_skip : (best : Option Branch) → IsLeastBranch s free marks insts best → IsBranchAt s free marks i None → IsLeastBranch s free marks (insts ++ i ∷ []) best
  branch_skip None known none = λ j l is. elim (branch_cases j l is) [ inl old ↦ known j l old | inr last ↦ last.2 (none l last.1) ]
  branch_skip (Some b) known none =
      record {
        i = known.i;
        ends = known.ends;
        is = record { one = IsIn-append_left known.i insts (i ∷ []) known.is.one; is_type = known.is.is_type; not_free = known.is.not_free };
        has = known.has;
        name = known.name;
        is_key = known.is_key;
        least = λ j l is. elim (branch_cases j l is) [ inl old ↦ known.least j l old | inr last ↦ absurd (last.2 (none l last.1)) ];
      }

  module _ (b : Branch) (of : IsBranchOf s free marks i b) where
    at_last : (j : Inst) (l : ℕ) → j ≡ i → type_of s i.kind ≡ Some (ModuleBody l) → (c : Bool) × Ends (types_of s) marks l c × (name_cmp (key j.name c) (key i.name of.ends) ≢ Less)
    at_last j l same type = (
      of.ends,
      subst (λ n. Ends (types_of s) marks n of.ends) (same_name_at s i b.number l of.is_type type) of.has,
      subst (λ (x : Inst). name_cmp (key x.name of.ends) (key i.name of.ends) ≢ Less) (sym same) (not_before_itself name_cmp nat_list_cmp_total (key i.name of.ends)),
    )

    new_branch : ((j : Inst) (l : ℕ) → IsBranch s free insts j l → (c : Bool) × Ends (types_of s) marks l c × (name_cmp (key j.name c) (key i.name of.ends) ≢ Less))
        → IsFirstBranch s free marks (insts ++ i ∷ []) b
    new_branch least_old =
        record {
          i = i;
          ends = of.ends;
          is = record { one = IsIn-append_right i insts (i ∷ []) (inl refl); is_type = of.is_type; not_free = of.not_free };
          has = of.has;
          name = of.name;
          is_key = of.is_key;
          least = λ j l is. elim (branch_cases j l is) [ inl old ↦ least_old j l old | inr last ↦ at_last j l last.0 last.1 ];
        }

    pub branch_first : IsLeastBranch s free marks insts None → IsFirstBranch s free marks (insts ++ i ∷ []) b
    branch_first none = new_branch (λ j l is. absurd (none j l is))

    pub branch_less : (before : Branch) → IsFirstBranch s free marks insts before → name_cmp b.key.items before.key.items ≡ Less → IsFirstBranch s free marks (insts ++ i ∷ []) b
    branch_less before known less = new_branch least_old
      where
        keys : name_cmp (key i.name of.ends) (key known.i.name known.ends) ≡ Less
        keys = (λ q. name_cmp (sym of.is_key q) (sym known.is_key q)) ∙ less

        least_old : (j : Inst) (l : ℕ) → IsBranch s free insts j l → (c : Bool) × Ends (types_of s) marks l c × (name_cmp (key j.name c) (key i.name of.ends) ≢ Less)
        least_old j l is =
            let old = known.least j l is in
            (old.0, old.1, λ earlier. old.2 (nat_list_cmp_total.trans (key j.name old.0) (key i.name of.ends) (key known.i.name known.ends) earlier keys))

    pub branch_still : (before : Branch) → IsFirstBranch s free marks insts before → name_cmp b.key.items before.key.items ≢ Less
        → IsFirstBranch s free marks (insts ++ i ∷ []) before
    branch_still before known not_less =
        record {
          i = known.i;
          ends = known.ends;
          is = record { one = IsIn-append_left known.i insts (i ∷ []) known.is.one; is_type = known.is.is_type; not_free = known.is.not_free };
          has = known.has;
          name = known.name;
          is_key = known.is_key;
          least = λ j l is. elim (branch_cases j l is) [ inl old ↦ known.least j l old | inr last ↦ at_known j l last.0 last.1 ];
        }
      where
        at_known : (j : Inst) (l : ℕ) → j ≡ i → type_of s i.kind ≡ Some (ModuleBody l) → (c : Bool) × Ends (types_of s) marks l c × (name_cmp (key j.name c) (key known.i.name known.ends) ≢ Less)
        at_known j l same type = (
          of.ends,
          subst (λ n. Ends (types_of s) marks n of.ends) (same_name_at s i b.number l of.is_type type) of.has,
          subst (λ (x : Inst). name_cmp (key x.name of.ends) (key known.i.name known.ends) ≢ Less) (sym same)
              (λ less. not_less ((λ q. name_cmp (of.is_key q) (known.is_key q)) ∙ less)),
        )

-- WHAT AN INSTANCE IS, by its place in the row.
module _ (s : Sources) (free marks : List Bool) (insts : List Inst) (row : List (Option Body)) (is : row ≡ map (λ (i : Inst). type_of s i.kind) insts) (n : ℕ) (i : Inst)
    (there : slice_get insts n ≡ Some i) where
  at_place : slice_get row n ≡ Some (type_of s i.kind)
  at_place = item_of_row s insts row is n i there

  pub free_branch : (k : ℕ) → module_in row n ≡ Some k → IsMarked free k → IsBranchAt s free marks i None
  free_branch k in_row mark l type = subst (IsMarked free) (same_Some k l (sym in_row ∙ module_in_type row n l (type_of s i.kind) at_place type)) mark

  pub no_branch : module_in row n ≡ None → IsBranchAt s free marks i None
  no_branch none l type = let never : None ≡ Some l = sym none ∙ module_in_type row n l (type_of s i.kind) at_place type in cc

  pub branch_here : (b : Branch) (k : ℕ) (ends : Bool) → b.number ≡ k → module_in row n ≡ Some k → (IsMarked free k → ⊥) → Ends (types_of s) marks k ends → b.name.items ≡ i.name
      → b.key.items ≡ key i.name ends → IsBranchAt s free marks i (Some b)
  branch_here b k ends same in_row not_free has name is_key =
      record {
        ends = ends;
        is_type = type_of_module_in row n k (type_of s i.kind) at_place in_row ∙ ap (λ x. Some (ModuleBody x)) (sym same);
        not_free = λ mark. not_free (subst (IsMarked free) same mark);
        has = subst (λ x. Ends (types_of s) marks x ends) (sym same) has;
        name = name;
        is_key = is_key;
      }

-- the walk goes on through the branch with the least key, where its name is apart from those of all branches
pub next_of_branch : (s : Sources) (free marks : List Bool) (insts : List Inst) (row : List (Option Body)) → row ≡ map (λ (i : Inst). type_of s i.kind) insts → (b : Branch)
    → IsFirstBranch s free marks insts b
    → ((n k : ℕ) (j : Inst) → slice_get insts n ≡ Some j → module_in row n ≡ Some k → (IsMarked free k → ⊥) → (GoesOn b.name.items j.name → ⊥) × (GoesOn j.name b.name.items → ⊥))
    → IsNext s free marks insts b.number
next_of_branch s free marks insts row is b first apart =
    record { i = first.i; ends = first.ends; is = first.is; has = first.has; least = first.least; apart = apart_all }
  where
    apart_all : (j : Inst) (l : ℕ) → IsBranch s free insts j l → (GoesOn first.i.name j.name → ⊥) × (GoesOn j.name first.i.name → ⊥)
    apart_all j l branch =
        let place = place_of_member j insts branch.one in
        let in_row = module_in_type row place.0 l (type_of s j.kind) (item_of_row s insts row is place.0 j place.1) branch.is_type in
        subst (λ x. (GoesOn x j.name → ⊥) × (GoesOn j.name x → ⊥)) first.name (apart place.0 l j place.1 in_row branch.not_free)
