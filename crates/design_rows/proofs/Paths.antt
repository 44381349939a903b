-- The path of an instance is its name, joined to the path of what it is inside.
use Rattle.std.proofs.Common.{◌≡◌, ℕ, zero, suc, ◌<◌, ◌≤◌, [], length, inl, inr, refl, sym, ap, ◌∙◌, arith}
use Rattle.std.proofs.lemmas.Bool.{cases_eq, cases_lt}
use Rattle.std.proofs.lemmas.List.{get_or_past}
use Rattle.design_defs.specs.Names.{joined}
use Rattle.design_rows.specs.declared.tables.InstanceRow.{InstanceRow}
use Rattle.design_rows.specs.declared.tables.Rows.{Rows}
use Rattle.design_rows.specs.Sound.{AreRows}
use Rattle.design_rows.specs.View.{inst_at, name_at, no_instance, path_at, path_in}

module _ (r : Rows) (rows : AreRows r) where
  parent_before : (n : ℕ) → (inst_at r (suc n)).parent ≤ n
  parent_before n =
      elim (cases_lt (suc n) (length r.insts)) [
        | inl within ↦ omega (arith, rows.parents (suc n) (omega arith) within)
        | inr past ↦ omega (arith, ap (λ (i : InstanceRow). i.parent) (get_or_past r.insts (suc n) no_instance past))
      ]

  -- a path has no more names than that
  path_step : (more n : ℕ) → n ≤ more → path_in r (suc more) n ≡ path_in r more n
  unfolding path_in
  path_step zero zero few = refl
  path_step zero (suc n) few = absurd (omega arith)
  path_step (suc more) zero few = refl
  path_step (suc more) (suc n) few =
      ap (λ path. joined path (name_at r (inst_at r (suc n)).name)) (path_step more (inst_at r (suc n)).parent (omega (arith, parent_before n)))

  path_enough : (more n : ℕ) → n ≤ more → path_in r more n ≡ path_at r n
  path_enough zero zero few = refl
  path_enough zero (suc n) few = absurd (omega arith)
  path_enough (suc more) n few =
      elim (cases_eq n (suc more)) [
        | inl same ↦ ap (λ k. path_in r k n) (sym same)
        | inr other ↦ path_step more n (omega arith) ∙ path_enough more n (omega arith)
      ]

  pub path_under : (n : ℕ) → 0 < n → path_at r n ≡ joined (path_at r (inst_at r n).parent) (name_at r (inst_at r n).name)
  unfolding path_in
  path_under zero some = absurd (omega arith)
  path_under (suc n) some = ap (λ path. joined path (name_at r (inst_at r (suc n)).name)) (path_enough n (inst_at r (suc n)).parent (parent_before n))

  pub path_top : (n : ℕ) → n ≡ 0 → path_at r n ≡ []
  unfolding path_in
  path_top zero first = refl
  path_top (suc n) first = absurd (omega arith)
