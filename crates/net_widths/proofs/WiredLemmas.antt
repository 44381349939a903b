-- Lines of modules without faults are wired.
use Rattle.std.proofs.Common.{◌≡◌, ◌≢◌, ℕ, ◌==◌, ◌≤◌, Bool, true, false, List, [], ◌∷◌, ◌++◌, length, Option, None, Some, inl, refl, arith}
use Rattle.std.proofs.lemmas.Bool.{eqb-false, eqb-true}
use Rattle.pw_defs.specs.declared.design.Body.{Body}
use Rattle.pw_defs.specs.declared.netlist.Assign.{Assign}
use Rattle.pw_defs.specs.declared.netlist.Conn.{Conn}
use Rattle.pw_defs.specs.declared.netlist.Expr.{Expr}
use Rattle.pw_defs.specs.declared.netlist.Inst.{Inst}
use Rattle.pw_defs.specs.declared.netlist.Module.{Module}
use Rattle.pw_defs.specs.declared.netlist.Port.{Port}
use Rattle.list_defs.specs.Members.{IsIn}
use Rattle.list_defs.proofs.Members.{IsIn-append_left, IsIn-append_right}
use Rattle.design_defs.specs.DesignFaults.{FaultKind, IsFault, at_line, HasNoneBefore}
use Rattle.design_defs.specs.Hierarchy.{IsOfModule, Sources, Way, type_of}
use Rattle.design_defs.specs.Links.{port_of_conn}
use Rattle.design_defs.specs.Places.{misselected, names_in, signals}
use Rattle.design_defs.specs.Ranges.{width}
use Rattle.net_runs.specs.Wired.{IsAssignWired, IsConnWired, IsWired}
use Rattle.net_widths.specs.WiredLines.{HasTargets, HasWiredLines}

-- what has no first is empty
none_in : (xs : List (List ℕ)) → ((x : List ℕ) → IsIn x xs → ⊥) → xs ≡ []
none_in [] none = refl
none_in (x ∷ xs) none = absurd (none x (inl refl))

-- numbers that don't differ are the same
not_other : (a b : ℕ) → (a ≢ b → ⊥) → a ≡ b
not_other a b never = by (a == b) refl
  where
    by : (t : Bool) → (a == b) ≡ t → a ≡ b
    by true e = eqb-true a b e
    by false e = absurd (never (eqb-false a b e))

module _ (s : Sources) (way : Way) (n : ℕ) (m : Module) (of_module : IsOfModule s way n m) (targets : HasTargets m) (none : HasNoneBefore FaultKind.path_twice s) where
  no_unknown : (line : ℕ) (name : List ℕ) → IsFault s (at_line FaultKind.unknown_type way n line name) → ⊥
  no_unknown line name fault = let late : 7 ≤ 3 = none (at_line FaultKind.unknown_type way n line name) fault in omega arith

  no_port : (line : ℕ) (name : List ℕ) → IsFault s (at_line FaultKind.unknown_port way n line name) → ⊥
  no_port line name fault = let late : 7 ≤ 5 = none (at_line FaultKind.unknown_port way n line name) fault in omega arith

  no_width : (line : ℕ) (name : List ℕ) → IsFault s (at_line FaultKind.wrong_width way n line name) → ⊥
  no_width line name fault = let late : 7 ≤ 6 = none (at_line FaultKind.wrong_width way n line name) fault in omega arith

  conn_wired : (i : Inst) (c : Conn) → IsIn i m.insts → IsIn c i.conns → IsConnWired s m i c
  conn_wired i c one in_conns = by_type (type_of s i.kind) refl
    where
      fits : (p : Port) → port_of_conn s i c ≡ Some p → (e : Expr) → c.expr ≡ Some e → (misselected m e ≡ []) × (length (signals m e) ≡ width p.range)
      fits p is_port e is_expr =
          let right = none_in (misselected m e) (λ name there. no_width i.line name (IsFault.selected_in_conn way n m i c e name of_module one in_conns is_expr there)) in
          (right, not_other (length (signals m e)) (width p.range) (λ other. no_width i.line c.port (IsFault.width_of_conn way n m i c e p of_module one in_conns is_expr is_port right other)))

      by_port : (body : Body) → type_of s i.kind ≡ Some body → (p : Option Port) → port_of_conn s i c ≡ p → IsConnWired s m i c
      by_port body type None absent = absurd (no_port i.line c.port (IsFault.unknown_port way n m i c body of_module one in_conns type absent))
      by_port body type (Some p) is_port = record { port = p; is_port = is_port; fits = fits p is_port }

      by_type : (t : Option Body) → type_of s i.kind ≡ t → IsConnWired s m i c
      by_type None absent = absurd (no_unknown i.line i.kind (IsFault.unknown_type way n m i of_module one absent))
      by_type (Some body) type = by_port body type (port_of_conn s i c) refl

  assign_wired : (a : Assign) → IsIn a m.assigns → IsAssignWired m a
  assign_wired a one = record { left = left; right = right; same = not_other (length (signals m a.left)) (length (signals m a.right)) (never (names_in a.left) refl) }
    where
      refused : (name : List ℕ) → IsIn name (misselected m a.left ++ misselected m a.right) → ⊥
      refused name there = no_width a.line name (IsFault.selected_in_assign way n m a name of_module one there)

      left : misselected m a.left ≡ []
      left = none_in (misselected m a.left) (λ name there. refused name (IsIn-append_left name (misselected m a.left) (misselected m a.right) there))

      right : misselected m a.right ≡ []
      right = none_in (misselected m a.right) (λ name there. refused name (IsIn-append_right name (misselected m a.left) (misselected m a.right) there))

      never : (names : List (List ℕ)) → names_in a.left ≡ names → length (signals m a.left) ≢ length (signals m a.right) → ⊥
      never [] none_there other = targets a one none_there
      never (name ∷ names) are other = no_width a.line name (IsFault.width_of_assign way n m a name names of_module one left right other are)

  lines_wired : IsWired s m
  lines_wired = record { conns = conn_wired; assigns = assign_wired }

pub wired_lines : HasWiredLines
wired_lines s way n m of_module targets none = lines_wired s way n m of_module targets none
