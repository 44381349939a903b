-- The nets of a module, and the bits that an expression names, from the left.
use Rattle.std.specs.Prelude.{ℕ, ◌+◌, ◌-◌, Bool, true, false, not, ◌&&◌, nat_le, List, [], ◌∷◌, ◌++◌, Option, Some, None, map, option_map, is_some, if◌then◌else◌}
use Rattle.std.specs.Option.{option_or, option_to_list}
use Rattle.std.specs.List.{find, flat_map, list_any, range_with_len}
use Rattle.pw_defs.specs.declared.netlist.Assign.{Assign}
use Rattle.pw_defs.specs.declared.netlist.Conn.{Conn}
use Rattle.pw_defs.specs.declared.netlist.Expr.{Expr}
use Rattle.pw_defs.specs.declared.netlist.Expr.TheOpen.{Expr-F}
use Rattle.pw_defs.specs.declared.netlist.Expr.TheFolds.{fold-Expr}
use Rattle.pw_defs.specs.declared.netlist.Inst.{Inst}
use Rattle.pw_defs.specs.declared.netlist.Module.{Module}
use Rattle.pw_defs.specs.declared.netlist.Net.{Net}
use Rattle.pw_defs.specs.declared.netlist.Port.{Port}
use Rattle.list_defs.specs.Members.{same_name}
use Rattle.design_defs.specs.Hierarchy.{inst_named}
use Rattle.design_defs.specs.Ranges.{place_at, width}

-- the range of a port or a wire that a module declares
abbrev pub declared_range : Module → List ℕ → Option (Option (ℕ × ℕ))
declared_range m name =
    option_or (option_map (λ (p : Port). p.range) (find (λ (p : Port). same_name name p.name) m.ports))
    (option_map (λ (n : Net). n.range) (find (λ (n : Net). same_name name n.name) m.nets))

-- whether a name is that of an instance
abbrev pub is_instance_name : Module → List ℕ → Bool
is_instance_name m name = is_some (inst_named m name)

-- a bit of a net, by the name of the net and the place in it, or a constant bit
pub data Signal : Type 0 where
  net_bit : (net : List ℕ) (place : ℕ) → Signal
  constant : Signal

-- a number of places of a net from one on
abbrev pub places_from : List ℕ → ℕ → ℕ → List Signal
places_from net first count = map (net_bit net) (range_with_len first count)

-- all bits of a net; a name that isn't declared is that of a wire of one bit
abbrev pub whole : List ℕ → Option (Option (ℕ × ℕ)) → List Signal
whole net None = places_from net 0 1
whole net (Some range) = places_from net 0 (width range)

-- the bits from one place to another, the first not behind the last
abbrev pub between : List ℕ → Option ℕ → Option ℕ → Option (List Signal)
between net None last = None
between net (Some first) None = None
between net (Some first) (Some last) = if nat_le first last then Some (places_from net first (last - first + 1)) else None

-- the bits from one index to another of a declared vector, in the direction of its range
abbrev pub selected : List ℕ → Option (Option (ℕ × ℕ)) → ℕ → ℕ → Option (List Signal)
selected net None left right = None
selected net (Some None) left right = None
selected net (Some (Some range)) left right = between net (place_at range left) (place_at range right)

-- the bits that are there
abbrev pub or_none : Option (List Signal) → List Signal
or_none None = []
or_none (Some signals) = signals

-- one level of: the bits of an expression
abbrev pub signals_at : Module → Expr-F (List Signal) → List Signal
signals_at m (Expr-F.Whole name) = whole name (declared_range m name)
signals_at m (Expr-F.Bit name index) = or_none (selected name (declared_range m name) index index)
signals_at m (Expr-F.Part name left right) = or_none (selected name (declared_range m name) left right)
signals_at m (Expr-F.Const count) = map (λ n. constant) (range_with_len 0 count)
signals_at m (Expr-F.Join parts) = flat_map (λ signals. signals) parts

-- the bits that an expression names, from the left
unfoldable pub signals : Module → Expr → List Signal
signals m = fold-Expr (List Signal) (signals_at m)

-- the name itself, where there is something wrong with it
abbrev pub named_if : List ℕ → Bool → List (List ℕ)
named_if name true = name ∷ []
named_if name false = []

-- one level of: what is selected wrongly
abbrev pub misselected_at : Module → Expr-F (List (List ℕ)) → List (List ℕ)
misselected_at m (Expr-F.Whole name) = named_if name (not (is_some (declared_range m name)) && is_instance_name m name)
misselected_at m (Expr-F.Bit name index) = named_if name (not (is_some (selected name (declared_range m name) index index)))
misselected_at m (Expr-F.Part name left right) = named_if name (not (is_some (selected name (declared_range m name) left right)))
misselected_at m (Expr-F.Const count) = []
misselected_at m (Expr-F.Join parts) = flat_map (λ names. names) parts

-- The names that an expression selects wrongly: outside the range, against its direction, of a scalar, of a name that
-- isn't declared, or the name of an instance.
unfoldable pub misselected : Module → Expr → List (List ℕ)
misselected m = fold-Expr (List (List ℕ)) (misselected_at m)

-- one level of: names from the left
abbrev pub names_at : Expr-F (List (List ℕ)) → List (List ℕ)
names_at (Expr-F.Whole name) = name ∷ []
names_at (Expr-F.Bit name index) = name ∷ []
names_at (Expr-F.Part name left right) = name ∷ []
names_at (Expr-F.Const count) = []
names_at (Expr-F.Join parts) = flat_map (λ names. names) parts

-- the names in an expression, from the left
unfoldable pub names_in : Expr → List (List ℕ)
names_in = fold-Expr (List (List ℕ)) names_at

-- one level of: names that stand alone
abbrev pub alone_at : Expr-F (List (List ℕ)) → List (List ℕ)
alone_at (Expr-F.Whole name) = name ∷ []
alone_at (Expr-F.Bit name index) = []
alone_at (Expr-F.Part name left right) = []
alone_at (Expr-F.Const count) = []
alone_at (Expr-F.Join parts) = flat_map (λ names. names) parts

-- the names in an expression that stand alone, without a select
unfoldable pub names_alone : Expr → List (List ℕ)
names_alone = fold-Expr (List (List ℕ)) alone_at

-- all expressions in the lines of a module
abbrev pub exprs_in : Module → List Expr
exprs_in m =
    flat_map (λ (i : Inst). flat_map (λ (c : Conn). option_to_list c.expr) i.conns) m.insts ++ flat_map (λ (a : Assign). a.left ∷ a.right ∷ []) m.assigns

-- whether a name is that of a wire which no line declares: it stands alone in an expression and is no instance
abbrev pub is_implicit : Module → List ℕ → Bool
is_implicit m name = not (is_instance_name m name) && list_any (same_name name) (flat_map names_alone (exprs_in m))

-- the range of a net of a module, declared or implicit
abbrev pub net_range : Module → List ℕ → Option (Option (ℕ × ℕ))
net_range m name = option_or (declared_range m name) (if is_implicit m name then Some None else None)
