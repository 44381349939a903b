-- The first name in an expression.
use Rattle.std.proofs.Common.{◌≡◌, ◌≢◌, ℕ, ◌+◌, ◌<◌, ◌≤◌, List, [], ◌∷◌, ◌++◌, length, Option, None, Some, is_some, true, false, refl, sym, ap, ◌∙◌, subst}
use Rattle.std.specs.Option.{option_or}
use Rattle.std.specs.List.{flat_map, slice_range}
use Rattle.std.proofs.lemmas.Grind.{flat_map-append}
use Rattle.design_defs.specs.Places.{names_in}
use Rattle.module_rows.specs.declared.plain.Netlist.{Netlist}
use Rattle.module_rows.specs.Leaves.{own_leaf}
use Rattle.module_rows.specs.Reads.{HasLeavesFrom, numbered_expr}
use Rattle.net_places.proofs.LeafParts.{names_by_leaves}
use Rattle.net_widths.specs.Refusals.{IsFirstName}
use Rattle.net_widths.proofs.SideLemmas.{leaf_more, no_leaves}

-- the first name of some names and of more
first_of_both : (symbols names more : List (List ℕ)) (a b : Option ℕ) → IsFirstName symbols names a → IsFirstName symbols more b → IsFirstName symbols (names ++ more) (option_or a b)
first_of_both symbols [] more None b none is = is
first_of_both symbols [] more (Some a) b never is = absurd never
first_of_both symbols (name ∷ names) more None b never is = absurd never
first_of_both symbols (name ∷ names) more (Some a) b known is = known

-- the names of the first of the names and constants of an expression
abbrev pub names_to : Netlist → ℕ → ℕ → List (List ℕ)
names_to n first i = flat_map names_in (flat_map own_leaf (slice_range n.exprs first i))

pub no_names : (n : Netlist) (first : ℕ) → IsFirstName n.symbols (names_to n first first) None
no_names n first = subst (λ names. IsFirstName n.symbols names None) (sym (ap (flat_map names_in) (no_leaves n first))) tt

pub more_names : (n : Netlist) (first i : ℕ) (a b : Option ℕ) → first ≤ i → i < length n.exprs → IsFirstName n.symbols (names_to n first i) a
    → IsFirstName n.symbols (flat_map names_in (own_leaf (numbered_expr n i))) b → IsFirstName n.symbols (names_to n first (i + 1)) (option_or a b)
more_names n first i a b rises within known is =
    let split =
    ap (flat_map names_in) (leaf_more n first i rises within) ∙ flat_map-append names_in (flat_map own_leaf (slice_range n.exprs first i)) (own_leaf (numbered_expr n i)) in
    subst (λ names. IsFirstName n.symbols names (option_or a b)) (sym split)
    (first_of_both n.symbols (names_to n first i) (flat_map names_in (own_leaf (numbered_expr n i))) a b known is)

pub all_names : (n : Netlist) (k first : ℕ) (a : Option ℕ) → HasLeavesFrom n k first → IsFirstName n.symbols (names_to n first (k + 1)) a
    → IsFirstName n.symbols (names_in (numbered_expr n k)) a
all_names n k first a has is =
    subst (λ names. IsFirstName n.symbols names a) (sym (names_by_leaves (numbered_expr n k) ∙ ap (flat_map names_in) has.same)) is

-- whether there is a first one
pub none_first : (symbols names : List (List ℕ)) (symbol : Option ℕ) → IsFirstName symbols names symbol → is_some symbol ≡ false → names ≡ []
none_first symbols [] None is none = refl
none_first symbols [] (Some symbol) is none = absurd is
none_first symbols (name ∷ names) None is none = absurd is
none_first symbols (name ∷ names) (Some symbol) is none = cc

pub some_first : (symbols names : List (List ℕ)) (symbol : Option ℕ) → IsFirstName symbols names symbol → is_some symbol ≡ true → names ≢ []
some_first symbols [] None is some none = cc
some_first symbols [] (Some symbol) is some none = absurd is
some_first symbols (name ∷ names) None is some none = absurd is
some_first symbols (name ∷ names) (Some symbol) is some none = cc
