-- Marks of modules as they are set, and what they say of rows.
use Rattle.std.proofs.Common.{◌≡◌, ℕ, ◌<◌, Bool, true, false, ◌⊎◌, List, Option, None, Some, slice_get, set, length, replicate, inl, inr, refl, sym, ap, ◌∙◌, subst, arith, get_or-set_same}
use Rattle.std.specs.Bool.{IsTrue}
use Rattle.std.proofs.lemmas.Bool.{false≢true}
use Rattle.std.proofs.lemmas.List.{length-set}
use Rattle.std.proofs.lemmas.Option.{same_Some, slice_get-get_or, slice_get_within}
use Rattle.pw_defs.specs.declared.design.Body.{Body}
use Rattle.pw_defs.specs.declared.design.Body.TheVariants.{Module as ModuleBody, Cell as CellBody, Model as ModelBody}
use Rattle.list_defs.specs.Members.{IsIn}
use Rattle.net_hierarchy.specs.Graph.{Types}
use Rattle.list_defs.proofs.Longer.{slice_get-set_other}
use Rattle.net_hierarchy.proofs.Places.{get_replicate, same_or_not}
use Rattle.net_least.specs.Recursion.{AreFree, Closes, ClosesAt, Ends, IsFree, IsMarked, RowCloses, module_in, module_of}

pub marked_set : (marks : List Bool) (k j : ℕ) → IsMarked (set marks k true) j → (j ≡ k) ⊎ IsMarked marks j
marked_set marks k j mark = elim (same_or_not j k) [ inl same ↦ inl same | inr other ↦ inr (sym (slice_get-set_other marks k j true other) ∙ mark) ]

pub marked_new : (marks : List Bool) (k : ℕ) → k < length marks → IsMarked (set marks k true) k
marked_new marks k within =
    let count : length (set marks k true) ≡ length marks = length-set marks k true in
    slice_get-get_or (set marks k true) k false (omega arith) ∙ ap Some (get_or-set_same marks k true false within)

pub marked_old : (marks : List Bool) (k j : ℕ) → IsMarked marks j → IsMarked (set marks k true) j
marked_old marks k j mark =
    elim (same_or_not j k) [
      | inl same ↦ subst (IsMarked (set marks k true)) (sym same) (marked_new marks k (subst (λ n. n < length marks) same (slice_get_within marks j true mark)))
      | inr other ↦ slice_get-set_other marks k j true other ∙ mark
    ]

pub none_marked : (n j : ℕ) → IsMarked (replicate n false) j → ⊥
none_marked n j mark = let same = get_replicate n false true j mark in cc

pub free_row : (types : Types) (marks : List Bool) (n : ℕ) (row : List (Option Body)) → slice_get types n ≡ Some row → AreFree types marks
    → ((k : ℕ) → IsIn (Some (ModuleBody k)) row → IsMarked marks k) → AreFree types (set marks n true)
free_row types marks n row is free all j mark = elim (marked_set marks n j mark) [ inl same ↦ subst (IsFree types) (sym same) here | inr old ↦ free j old ]
  where
    here : IsFree types n
    here = IsFree.free n (λ k holds. free k (all k (subst (IsIn (Some (ModuleBody k))) (same_Some holds.row row (sym holds.is_row ∙ is)) holds.one)))

pub none_free : (types : Types) (n : ℕ) → AreFree types (replicate n false)
none_free types n j mark = absurd (none_marked n j mark)

pub closes_of_row : (types : Types) (marks : List Bool) (n : ℕ) (row : List (Option Body)) → slice_get types n ≡ Some row → RowCloses row marks n → Closes types marks n
closes_of_row types marks n row is has = by has.0 has.1 has.2
  where
    by : (item : Option Body) → IsIn item row → ClosesAt marks n item → Closes types marks n
    by None one at = absurd at
    by (Some (ModuleBody k)) one (inl same) =
        Closes.itself (record { row = row; is_row = is; one = subst (λ j. IsIn (Some (ModuleBody j)) row) same one })
    by (Some (ModuleBody k)) one (inr mark) = Closes.marked k (record { row = row; is_row = is; one = one }) mark
    by (Some (CellBody k)) one at = absurd at
    by (Some (ModelBody k)) one at = absurd at

pub row_of_closes : (types : Types) (marks : List Bool) (n : ℕ) (row : List (Option Body)) → slice_get types n ≡ Some row → Closes types marks n → RowCloses row marks n
row_of_closes types marks n row is (Closes.marked k holds mark) =
    (Some (ModuleBody k), subst (IsIn (Some (ModuleBody k))) (same_Some holds.row row (sym holds.is_row ∙ is)) holds.one, inr mark)
row_of_closes types marks n row is (Closes.itself holds) =
    (Some (ModuleBody n), subst (IsIn (Some (ModuleBody n))) (same_Some holds.row row (sym holds.is_row ∙ is)) holds.one, inl refl)

pub no_row : (types : Types) (marks : List Bool) (n : ℕ) → slice_get types n ≡ None → Closes types marks n → ⊥
no_row types marks n none (Closes.marked k holds mark) = let never : None ≡ Some holds.row = sym none ∙ holds.is_row in cc
no_row types marks n none (Closes.itself holds) = let never : None ≡ Some holds.row = sym none ∙ holds.is_row in cc

-- the module that an instance is of, by its row
pub type_of_module_in : (row : List (Option Body)) (n k : ℕ) (o : Option Body) → slice_get row n ≡ Some o → module_in row n ≡ Some k → o ≡ Some (ModuleBody k)
type_of_module_in row n k o at is = by o (sym (ap module_of at) ∙ is)
  where
    by : (o : Option Body) → module_of (Some o) ≡ Some k → o ≡ Some (ModuleBody k)
    by None e = cc
    by (Some (ModuleBody j)) e = ap (λ x. Some (ModuleBody x)) (same_Some j k e)
    by (Some (CellBody j)) e = cc
    by (Some (ModelBody j)) e = cc

pub module_in_type : (row : List (Option Body)) (n k : ℕ) (o : Option Body) → slice_get row n ≡ Some o → o ≡ Some (ModuleBody k) → module_in row n ≡ Some k
module_in_type row n k o at is = ap module_of (at ∙ ap Some is)

pub ends_of : (types : Types) (marks : List Bool) (k : ℕ) (b : Bool) → (IsTrue b → Closes types marks k) × (Closes types marks k → IsTrue b) → Ends types marks k b
ends_of types marks k true says = says.0 refl
ends_of types marks k false says = λ closes. false≢true (says.1 closes)
