-- The name that an expression is, with its select.
use Rattle.std.proofs.Common.{◌≡◌, ℕ, ◌<◌, List, [], ◌∷◌, length, append-nil, Some, None, sym, ap, ◌∙◌, subst}
use Rattle.std.specs.List.{flat_map}
use Rattle.std.proofs.lemmas.Option.{slice_get-get_or}
use Rattle.pw_defs.specs.declared.netlist.Expr.{Expr}
use Rattle.pw_defs.specs.declared.netlist.Expr.TheVariants.{Whole as WholeExpr, Bit as BitExpr, Part as PartExpr, Const as ConstExpr, Join as JoinExpr}
use Rattle.design_defs.specs.Places.{names_in}
use Rattle.design_defs.proofs.Expressions.{names_in_bit, names_in_const, names_in_part, names_in_whole}
use Rattle.module_rows.specs.declared.heads.ExprHead.TheVariants.{Whole, Bit, Part, Const, Join}
use Rattle.module_rows.specs.declared.plain.Netlist.{Netlist}
use Rattle.module_rows.specs.Leaves.{own_leaf}
use Rattle.module_rows.specs.Reads.{IsExprHead}
use Rattle.module_rows.specs.View.{name_at}
use Rattle.module_rows.proofs.LeafLemmas.{own_bit, own_const, own_join, own_part, own_whole}
use Rattle.net_widths.specs.Refusals.{IsFirstName}

named_leaf : (symbols : List (List ℕ)) (e x : Expr) (symbol : ℕ) → symbol < length symbols → e ≡ x → own_leaf x ≡ x ∷ [] → names_in x ≡ name_at symbols symbol ∷ []
    → IsFirstName symbols (flat_map names_in (own_leaf e)) (Some symbol)
named_leaf symbols e x symbol within is own named =
    let one = ap (λ y. flat_map names_in (own_leaf y)) is ∙ ap (flat_map names_in) own ∙ append-nil (names_in x) ∙ named in
    subst (λ names. IsFirstName symbols names (Some symbol)) (sym one) (slice_get-get_or symbols symbol [] within)

nameless_leaf : (symbols : List (List ℕ)) (e x : Expr) → e ≡ x → flat_map names_in (own_leaf x) ≡ [] → IsFirstName symbols (flat_map names_in (own_leaf e)) None
nameless_leaf symbols e x is none = subst (λ names. IsFirstName symbols names None) (sym (ap (λ y. flat_map names_in (own_leaf y)) is ∙ none)) tt

module _ (n : Netlist) (e : Expr) where
  pub whole_name : (symbol : ℕ) → IsExprHead n e (Whole symbol) → IsFirstName n.symbols (flat_map names_in (own_leaf e)) (Some symbol)
  whole_name symbol is =
      let name = name_at n.symbols symbol in
      named_leaf n.symbols e (WholeExpr name) symbol is.0 is.1 (own_whole name) (names_in_whole name)

  pub bit_name : (symbol index : ℕ) → IsExprHead n e (Bit symbol index) → IsFirstName n.symbols (flat_map names_in (own_leaf e)) (Some symbol)
  bit_name symbol index is =
      let name = name_at n.symbols symbol in
      named_leaf n.symbols e (BitExpr name index) symbol is.0 is.1 (own_bit name index) (names_in_bit name index)

  pub part_name : (symbol left right : ℕ) → IsExprHead n e (Part symbol left right) → IsFirstName n.symbols (flat_map names_in (own_leaf e)) (Some symbol)
  part_name symbol left right is =
      let name = name_at n.symbols symbol in
      named_leaf n.symbols e (PartExpr name left right) symbol is.0 is.1 (own_part name left right) (names_in_part name left right)

  pub const_name : (count : ℕ) → IsExprHead n e (Const count) → IsFirstName n.symbols (flat_map names_in (own_leaf e)) None
  const_name count is =
      nameless_leaf n.symbols e (ConstExpr count) is (ap (flat_map names_in) (own_const count) ∙ append-nil (names_in (ConstExpr count)) ∙ names_in_const count)

  pub join_name : IsExprHead n e Join → IsFirstName n.symbols (flat_map names_in (own_leaf e)) None
  join_name is = nameless_leaf n.symbols e (JoinExpr is.0) is.1 (ap (flat_map names_in) (own_join is.0))
