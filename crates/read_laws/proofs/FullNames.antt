-- No name that stands alone in an expression is empty, where the names that it is made of aren't.
use Rattle.std.proofs.Common.{◌≢◌, ℕ, List, [], Option, None, Some, inl, inr, sym, subst}
use Rattle.std.specs.List.{AllByRecursion}
use Rattle.pw_defs.specs.declared.netlist.Expr.{Expr}
use Rattle.pw_defs.specs.declared.netlist.Expr.TheVariants.{Const, Join}
use Rattle.list_defs.specs.Members.{IsIn}
use Rattle.list_defs.proofs.Members.{IsIn-flat_map_from}
use Rattle.list_defs.proofs.Rising.{each_in}
use Rattle.net_text.specs.NetlistGrammar.{selected}
use Rattle.design_defs.specs.Places.{names_alone}
use Rattle.design_defs.proofs.Expressions.{names_alone_bit, names_alone_const, names_alone_join, names_alone_part, names_alone_whole}

-- no name that stands alone in it is empty
abbrev pub HasFullNames : Expr → Type 0
HasFullNames e = (name : List ℕ) → IsIn name (names_alone e) → name ≢ []

pub selected_is_full : (name : List ℕ) (s : Option (ℕ × Option ℕ)) → name ≢ [] → HasFullNames (selected name s)
selected_is_full name None full other i =
    elim (subst (IsIn other) (names_alone_whole name) i) [ inl same ↦ subst (λ n. n ≢ []) (sym same) full | inr none ↦ absurd none ]
selected_is_full name (Some (n, None)) full other i = absurd (subst (IsIn other) (names_alone_bit name n) i)
selected_is_full name (Some (n, Some l)) full other i = absurd (subst (IsIn other) (names_alone_part name n l) i)

pub constant_is_full : (count : ℕ) → HasFullNames (Const count)
constant_is_full count other i = absurd (subst (IsIn other) (names_alone_const count) i)

pub joined_is_full : (parts : List Expr) → AllByRecursion HasFullNames parts → HasFullNames (Join parts)
joined_is_full parts each other i =
    let from = IsIn-flat_map_from names_alone parts other (subst (IsIn other) (names_alone_join parts) i) in
    each_in HasFullNames parts from.0 each from.1 other from.2
