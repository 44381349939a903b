-- No constant stands among the bits of a selected name, nor of a concatenation of such.
use Rattle.std.proofs.Common.{ℕ, ◌+◌, ◌-◌, nat_le, Bool, true, false, cond, List, Option, None, Some, subst}
use Rattle.std.specs.List.{AllByRecursion, range_with_len}
use Rattle.pw_defs.specs.declared.netlist.Expr.{Expr}
use Rattle.pw_defs.specs.declared.netlist.Expr.TheVariants.{Join}
use Rattle.pw_defs.specs.declared.netlist.Module.{Module}
use Rattle.list_defs.specs.Members.{IsIn}
use Rattle.list_defs.proofs.Members.{IsIn-flat_map_from, IsIn-map_from}
use Rattle.list_defs.proofs.Rising.{each_in}
use Rattle.net_text.specs.NetlistGrammar.{selected}
use Rattle.design_defs.specs.Places.{Signal, between, declared_range, or_none, places_from, selected as selected_bits, signals, whole}
use Rattle.design_defs.specs.Ranges.{place_at, width}
use Rattle.design_defs.proofs.Expressions.{signals_bit, signals_join, signals_part, signals_whole}

-- an expression of which no bit is a constant
abbrev pub IsTarget : Expr → Type 0
IsTarget e = (m : Module) → ¬ IsIn Signal.constant (signals m e)

none_from : (net : List ℕ) (first count : ℕ) → ¬ IsIn Signal.constant (places_from net first count)
none_from net first count i = let from = IsIn-map_from (Signal.net_bit net) Signal.constant (range_with_len first count) i in let same = from.2 in cc

none_whole : (net : List ℕ) (range : Option (Option (ℕ × ℕ))) → ¬ IsIn Signal.constant (whole net range)
none_whole net None i = none_from net 0 1 i
none_whole net (Some range) i = none_from net 0 (width range) i

none_between : (net : List ℕ) (first last : Option ℕ) → ¬ IsIn Signal.constant (or_none (between net first last))
none_between net None last i = i
none_between net (Some first) None i = i
none_between net (Some first) (Some last) i = by (nat_le first last) i
  where
    by : (b : Bool) → ¬ IsIn Signal.constant (or_none (cond b (Some (places_from net first (last - first + 1))) None))
    by true i = none_from net first (last - first + 1) i
    by false i = i

none_selected : (net : List ℕ) (range : Option (Option (ℕ × ℕ))) (left right : ℕ) → ¬ IsIn Signal.constant (or_none (selected_bits net range left right))
none_selected net None left right i = i
none_selected net (Some None) left right i = i
none_selected net (Some (Some range)) left right i = none_between net (place_at range left) (place_at range right) i

pub selected_is_target : (name : List ℕ) (s : Option (ℕ × Option ℕ)) → IsTarget (selected name s)
selected_is_target name None m i = none_whole name (declared_range m name) (subst (IsIn Signal.constant) (signals_whole m name) i)
selected_is_target name (Some (n, None)) m i = none_selected name (declared_range m name) n n (subst (IsIn Signal.constant) (signals_bit m name n) i)
selected_is_target name (Some (n, Some l)) m i = none_selected name (declared_range m name) n l (subst (IsIn Signal.constant) (signals_part m name n l) i)

pub joined_is_target : (parts : List Expr) → AllByRecursion IsTarget parts → IsTarget (Join parts)
joined_is_target parts each m i =
    let from = IsIn-flat_map_from (signals m) parts Signal.constant (subst (IsIn Signal.constant) (signals_join m parts) i) in
    each_in IsTarget parts from.0 each from.1 m from.2
