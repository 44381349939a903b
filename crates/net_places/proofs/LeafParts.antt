-- What is known of an expression part by part is known by its names and constants.
use Rattle.std.proofs.Common.{◌≡◌, List, [], ◌∷◌, ◌++◌, map, append-nil, refl, sym, ap, ◌∙◌, subst}
use Rattle.std.specs.List.{flat_map}
use Rattle.std.proofs.lemmas.Grind.{flat_map-append}
use Rattle.pw_defs.specs.declared.netlist.Expr.{Expr, roll-Expr, map-Expr}
use Rattle.pw_defs.specs.declared.netlist.Expr.TheOpen.{Expr-F}
use Rattle.pw_defs.specs.declared.netlist.Expr.TheFolds.{ind-Expr}
use Rattle.pw_defs.specs.declared.netlist.Expr.TheVariants.{Whole, Bit, Part, Const, Join, rolls-Whole, rolls-Bit, rolls-Part, rolls-Const, rolls-Join}
use Rattle.pw_defs.specs.declared.netlist.Module.{Module}
use Rattle.design_defs.specs.Places.{misselected, names_alone, names_in, signals}
use Rattle.design_defs.proofs.Expressions.{misselected_join, names_alone_join, names_in_join, signals_join}
use Rattle.module_rows.specs.Leaves.{leaves}
use Rattle.module_rows.proofs.TermLemmas.{leaves_bit, leaves_const, leaves_join, leaves_part, leaves_whole}

-- what is known part by part
module _ {X : Type 0} (f : Expr → List X) (joins : (parts : List Expr) → f (Join parts) ≡ flat_map f parts) where
  abbrev IsByLeaves : Expr → Type 0
  IsByLeaves e = f e ≡ flat_map f (leaves e)

  abbrev Known : Type 0
  Known = (e : Expr) × IsByLeaves e

  one_leaf : (e : Expr) → leaves e ≡ e ∷ [] → IsByLeaves e
  one_leaf e own = sym (ap (flat_map f) own ∙ append-nil (f e))

  all_parts : (parts : List Known) → flat_map f (map (λ e. e.0) parts) ≡ flat_map f (flat_map leaves (map (λ e. e.0) parts))
  all_parts [] = refl
  all_parts (part ∷ parts) =
      let e : Expr = part.0 in
      let rest : List Expr = map (λ e. e.0) parts in
      ap (λ xs. xs ++ flat_map f rest) part.1 ∙ ap (λ xs. flat_map f (leaves e) ++ xs) (all_parts parts)
      ∙ sym (flat_map-append f (leaves e) (flat_map leaves rest))

  abbrev part_of : Expr-F Known → Expr-F Expr
  part_of = map-Expr Known Expr (λ e. e.0)

  one_form : (y : Expr-F Known) → IsByLeaves (roll-Expr (part_of y))
  one_form (Expr-F.Whole name) = subst IsByLeaves (sym (rolls-Whole name)) (one_leaf (Whole name) (leaves_whole name))
  one_form (Expr-F.Bit name index) = subst IsByLeaves (sym (rolls-Bit name index)) (one_leaf (Bit name index) (leaves_bit name index))
  one_form (Expr-F.Part name left right) = subst IsByLeaves (sym (rolls-Part name left right)) (one_leaf (Part name left right) (leaves_part name left right))
  one_form (Expr-F.Const count) = subst IsByLeaves (sym (rolls-Const count)) (one_leaf (Const count) (leaves_const count))
  one_form (Expr-F.Join parts) =
      let plain : List Expr = map (λ e. e.0) parts in
      subst IsByLeaves (sym (rolls-Join plain)) (joins plain ∙ all_parts parts ∙ ap (flat_map f) (sym (leaves_join plain)))

  pub by_leaves : (e : Expr) → f e ≡ flat_map f (leaves e)
  by_leaves = ind-Expr IsByLeaves (λ x y same. let P : Expr-F Expr → Type 0 = λ z. IsByLeaves (roll-Expr z) in subst P same (one_form y))

pub signals_by_leaves : (m : Module) (e : Expr) → signals m e ≡ flat_map (signals m) (leaves e)
signals_by_leaves m e = by_leaves (signals m) (signals_join m) e

pub misselected_by_leaves : (m : Module) (e : Expr) → misselected m e ≡ flat_map (misselected m) (leaves e)
misselected_by_leaves m e = by_leaves (misselected m) (misselected_join m) e

pub alone_by_leaves : (e : Expr) → names_alone e ≡ flat_map names_alone (leaves e)
alone_by_leaves e = by_leaves names_alone names_alone_join e

pub names_by_leaves : (e : Expr) → names_in e ≡ flat_map names_in (leaves e)
names_by_leaves e = by_leaves names_in names_in_join e
