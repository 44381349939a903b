-- What the bits and the names of an expression are at each form of it.
use Rattle.std.proofs.Common.{◌≡◌, ℕ, not, ◌&&◌, List, [], ◌∷◌, ◌++◌, map, sym, ap, ◌∙◌, refl}
use Rattle.std.specs.Prelude.{is_some}
use Rattle.std.specs.List.{flat_map, range_with_len}
use Rattle.pw_defs.specs.declared.netlist.Expr.{Expr}
use Rattle.pw_defs.specs.declared.netlist.Expr.TheOpen.{Expr-F}
use Rattle.pw_defs.specs.declared.netlist.Expr.TheFolds.{fold-roll-Expr}
use Rattle.pw_defs.specs.declared.netlist.Expr.TheVariants.{Whole, Bit, Part, Const, Join, rolls-Whole, rolls-Bit, rolls-Part, rolls-Const, rolls-Join}
use Rattle.pw_defs.specs.declared.netlist.Module.{Module}
use Rattle.design_defs.specs.Places.{Signal, alone_at, declared_range, is_instance_name, misselected, misselected_at, named_if, names_alone, names_at, names_in, or_none, selected, signals, signals_at, whole}

joined_parts : {X Y : Type 0} (f : X → List Y) (xs : List X) → flat_map (λ ys. ys) (map f xs) ≡ flat_map f xs
joined_parts f [] = refl
joined_parts f (x ∷ xs) = ap (λ rest. f x ++ rest) (joined_parts f xs)

pub signals_whole : (m : Module) (name : List ℕ) → signals m (Whole name) ≡ whole name (declared_range m name)
unfolding signals
signals_whole m name = ap (signals m) (sym (rolls-Whole name)) ∙ fold-roll-Expr (List Signal) (signals_at m) (Expr-F.Whole name)

pub signals_bit : (m : Module) (name : List ℕ) (index : ℕ) → signals m (Bit name index) ≡ or_none (selected name (declared_range m name) index index)
unfolding signals
signals_bit m name index = ap (signals m) (sym (rolls-Bit name index)) ∙ fold-roll-Expr (List Signal) (signals_at m) (Expr-F.Bit name index)

pub signals_part : (m : Module) (name : List ℕ) (left right : ℕ)
    → signals m (Part name left right) ≡ or_none (selected name (declared_range m name) left right)
unfolding signals
signals_part m name left right = ap (signals m) (sym (rolls-Part name left right)) ∙ fold-roll-Expr (List Signal) (signals_at m) (Expr-F.Part name left right)

pub signals_const : (m : Module) (count : ℕ) → signals m (Const count) ≡ map (λ n. Signal.constant) (range_with_len 0 count)
unfolding signals
signals_const m count = ap (signals m) (sym (rolls-Const count)) ∙ fold-roll-Expr (List Signal) (signals_at m) (Expr-F.Const count)

pub signals_join : (m : Module) (parts : List Expr) → signals m (Join parts) ≡ flat_map (signals m) parts
unfolding signals
signals_join m parts =
    ap (signals m) (sym (rolls-Join parts)) ∙ fold-roll-Expr (List Signal) (signals_at m) (Expr-F.Join parts) ∙ joined_parts (signals m) parts

pub misselected_whole : (m : Module) (name : List ℕ) → misselected m (Whole name) ≡ named_if name
    (not (is_some (declared_range m name)) && is_instance_name m name)
unfolding misselected
misselected_whole m name = ap (misselected m) (sym (rolls-Whole name)) ∙ fold-roll-Expr (List (List ℕ)) (misselected_at m) (Expr-F.Whole name)

pub misselected_bit : (m : Module) (name : List ℕ) (index : ℕ)
    → misselected m (Bit name index) ≡ named_if name (not (is_some (selected name (declared_range m name) index index)))
unfolding misselected
misselected_bit m name index = ap (misselected m) (sym (rolls-Bit name index)) ∙ fold-roll-Expr (List (List ℕ)) (misselected_at m) (Expr-F.Bit name index)

pub misselected_part : (m : Module) (name : List ℕ) (left right : ℕ)
    → misselected m (Part name left right) ≡ named_if name (not (is_some (selected name (declared_range m name) left right)))
unfolding misselected
misselected_part m name left right =
    ap (misselected m) (sym (rolls-Part name left right)) ∙ fold-roll-Expr (List (List ℕ)) (misselected_at m) (Expr-F.Part name left right)

pub misselected_const : (m : Module) (count : ℕ) → misselected m (Const count) ≡ []
unfolding misselected
misselected_const m count = ap (misselected m) (sym (rolls-Const count)) ∙ fold-roll-Expr (List (List ℕ)) (misselected_at m) (Expr-F.Const count)

pub misselected_join : (m : Module) (parts : List Expr) → misselected m (Join parts) ≡ flat_map (misselected m) parts
unfolding misselected
misselected_join m parts =
    ap (misselected m) (sym (rolls-Join parts)) ∙ fold-roll-Expr (List (List ℕ)) (misselected_at m) (Expr-F.Join parts) ∙ joined_parts (misselected m) parts

pub names_in_whole : (name : List ℕ) → names_in (Whole name) ≡ name ∷ []
unfolding names_in
names_in_whole name = ap names_in (sym (rolls-Whole name)) ∙ fold-roll-Expr (List (List ℕ)) names_at (Expr-F.Whole name)

pub names_in_bit : (name : List ℕ) (index : ℕ) → names_in (Bit name index) ≡ name ∷ []
unfolding names_in
names_in_bit name index = ap names_in (sym (rolls-Bit name index)) ∙ fold-roll-Expr (List (List ℕ)) names_at (Expr-F.Bit name index)

pub names_in_part : (name : List ℕ) (left right : ℕ) → names_in (Part name left right) ≡ name ∷ []
unfolding names_in
names_in_part name left right = ap names_in (sym (rolls-Part name left right)) ∙ fold-roll-Expr (List (List ℕ)) names_at (Expr-F.Part name left right)

pub names_in_const : (count : ℕ) → names_in (Const count) ≡ []
unfolding names_in
names_in_const count = ap names_in (sym (rolls-Const count)) ∙ fold-roll-Expr (List (List ℕ)) names_at (Expr-F.Const count)

pub names_in_join : (parts : List Expr) → names_in (Join parts) ≡ flat_map names_in parts
unfolding names_in
names_in_join parts = ap names_in (sym (rolls-Join parts)) ∙ fold-roll-Expr (List (List ℕ)) names_at (Expr-F.Join parts) ∙ joined_parts names_in parts

pub names_alone_whole : (name : List ℕ) → names_alone (Whole name) ≡ name ∷ []
unfolding names_alone
names_alone_whole name = ap names_alone (sym (rolls-Whole name)) ∙ fold-roll-Expr (List (List ℕ)) alone_at (Expr-F.Whole name)

pub names_alone_bit : (name : List ℕ) (index : ℕ) → names_alone (Bit name index) ≡ []
unfolding names_alone
names_alone_bit name index = ap names_alone (sym (rolls-Bit name index)) ∙ fold-roll-Expr (List (List ℕ)) alone_at (Expr-F.Bit name index)

pub names_alone_part : (name : List ℕ) (left right : ℕ) → names_alone (Part name left right) ≡ []
unfolding names_alone
names_alone_part name left right = ap names_alone (sym (rolls-Part name left right)) ∙ fold-roll-Expr (List (List ℕ)) alone_at (Expr-F.Part name left right)

pub names_alone_const : (count : ℕ) → names_alone (Const count) ≡ []
unfolding names_alone
names_alone_const count = ap names_alone (sym (rolls-Const count)) ∙ fold-roll-Expr (List (List ℕ)) alone_at (Expr-F.Const count)

pub names_alone_join : (parts : List Expr) → names_alone (Join parts) ≡ flat_map names_alone parts
unfolding names_alone
names_alone_join parts = ap names_alone (sym (rolls-Join parts)) ∙ fold-roll-Expr (List (List ℕ)) alone_at (Expr-F.Join parts) ∙ joined_parts names_alone parts

-- what computes the bits and the names of an expression
pub ruleset of_expressions = (
  signals_whole,
  signals_bit,
  signals_part,
  signals_const,
  signals_join,
  misselected_whole,
  misselected_bit,
  misselected_part,
  misselected_const,
  misselected_join,
  names_in_whole,
  names_in_bit,
  names_in_part,
  names_in_const,
  names_in_join,
  names_alone_whole,
  names_alone_bit,
  names_alone_part,
  names_alone_const,
  names_alone_join,
)
