-- Runs are what the names and constants of expressions stand for.
use Rattle.std.proofs.Common.{◌≡◌, ℕ, zero, suc, ◌+◌, ◌-◌, ◌<◌, ◌≤◌, ◌^◌, inl, Bool, true, false, not, ◌&&◌, cond}
use Rattle.std.proofs.Common.{List, [], ◌∷◌, ◌++◌, length, get_or, map, drop, append-nil, refl, sym, ap, ◌∙◌, subst, arith}
use Rattle.std.specs.Prelude.{Option, Some, None, min, nat_le, is_some, option_map, option_and_then}
use Rattle.std.specs.Option.{option_or}
use Rattle.std.specs.List.{AllZip, flat_map, list_any, range_with_len, slice_range}
use Rattle.std.proofs.Math.Nat.{min-eq_left}
use Rattle.std.proofs.lemmas.Grind.{flat_map-append}
use Rattle.std.proofs.lemmas.Bool.{false≢true, leb-true}
use Rattle.std.proofs.lemmas.List.{get_or-drop, get_or-take, length-drop, length-take}
use Rattle.std.proofs.lemmas.List.FromFn.{length-map-range_with_len}
use Rattle.std.proofs.lemmas.Option.{same_Some, slice_get-get_or}
use Rattle.pw_defs.specs.declared.design.Body.{Body}
use Rattle.pw_defs.specs.declared.design.Body.TheVariants.{Module as ModuleBody}
use Rattle.pw_defs.specs.declared.netlist.Expr.{Expr}
use Rattle.pw_defs.specs.declared.netlist.Expr.TheVariants.{Whole as WholeExpr, Bit as BitExpr, Part as PartExpr, Const as ConstExpr, Join as JoinExpr}
use Rattle.pw_defs.specs.declared.netlist.Module.{Module}
use Rattle.pw_defs.specs.declared.netlist.Port.{Port}
use Rattle.list_defs.specs.Members.{IsIn, same_name}
use Rattle.list_defs.proofs.Members.{IsIn-flat_map, IsIn-flat_map_from, IsIn-slice_get}
use Rattle.list_defs.proofs.NameLemmas.{list_any-IsIn}
use Rattle.design_defs.specs.Bits.{range_in}
use Rattle.design_defs.specs.Hierarchy.{Sources, module_at, number_named, ports_in}
use Rattle.design_defs.specs.Places.{Signal, between, declared_range, exprs_in, is_instance_name, misselected, named_if, names_alone}
use Rattle.design_defs.specs.Places.{names_in, net_range, or_none, places_from, selected, signals, whole}
use Rattle.design_defs.specs.Ranges.{place_at, width}
use Rattle.design_defs.proofs.Expressions.{misselected_bit, misselected_const, misselected_part, misselected_whole, names_alone_whole, names_in_bit}
use Rattle.design_defs.proofs.Expressions.{names_in_part, names_in_whole, signals_bit, signals_const, signals_part, signals_whole}
use Rattle.module_rows.specs.declared.plain.Netlist.{Netlist}
use Rattle.module_rows.specs.Leaves.{leaves, own_leaf}
use Rattle.module_rows.specs.Reads.{HasLeavesFrom, numbered_expr}
use Rattle.module_rows.proofs.LeafLemmas.{own_bit, own_const, own_join, own_part, own_whole}
use Rattle.net_places.specs.declared.rows.NetRow.{NetRow}
use Rattle.net_places.specs.Nets.{OwnNet, own_net}
use Rattle.net_places.proofs.LeafParts.{alone_by_leaves, misselected_by_leaves, signals_by_leaves}
use Rattle.net_places.proofs.Steps.{empty_part, part_more}
use Rattle.net_runs.specs.declared.runs.Run.{Run}
use Rattle.net_runs.specs.declared.runs.Run.TheVariants.{Bits, Constants}
use Rattle.net_runs.specs.Known.{IsNetRow}
use Rattle.net_runs.specs.Leaves.{AddsRun, AreRunOf, AreRuns, AreRunsOf, IsLeafRun, IsRun, IsSelection, StandsIn, part_run, run_between, runs_bits}
use Rattle.net_runs.specs.LocalNumbers.{IsBitNumber, IsSignalBit, run_bits, count_of}

-- a run has as many bits as it counts
pub run_length : (run : Run) → length (run_bits run) ≡ count_of run
run_length (Bits first count) = length-map-range_with_len (λ k. Some (first + k)) 0 count
run_length (Constants count) = length-map-range_with_len (λ k. None) 0 count

-- places of a net whose bits have numbers one behind another
places_numbered : (s : Sources) (body : Body) (name : List ℕ) (first end place base : ℕ) → ((p : ℕ) → p < end → IsBitNumber s body (name, p) (first + p)) → (n k : ℕ)
    → place + n ≤ end → base + k ≡ first + place
    → AllZip (IsSignalBit s body) (map (Signal.net_bit name) (range_with_len place n)) (map (λ (j : ℕ). Some (base + j)) (range_with_len k n))
places_numbered s body name first end place base bits zero k within same = tt
places_numbered s body name first end place base bits (suc n) k within same = (
  subst (IsBitNumber s body (name, place)) (sym same) (bits place (omega (arith, within))),
  places_numbered s body name first end (place + 1) base bits n (k + 1) (omega (arith, within)) (omega (arith, same)),
)

pub constants : (s : Sources) (body : Body) (n a b : ℕ)
    → AllZip (IsSignalBit s body) (map (λ (j : ℕ). Signal.constant) (range_with_len a n)) (map (λ (j : ℕ). None) (range_with_len b n))
constants s body zero a b = tt
constants s body (suc n) a b = (tt, constants s body n (a + 1) (b + 1))

place_within : (range : ℕ × ℕ) (index place : ℕ) → place_at range index ≡ Some place → place < width (Some range)
place_within range index place e = grind (arith, e)

-- the range of what is owned under a name
abbrev range_if : Option OwnNet → Option (Option (ℕ × ℕ))
range_if = option_map (λ (n : OwnNet). n.range)

own_range : (s : Sources) (body : Body) (name : List ℕ) → range_if (own_net s body name) ≡ range_in s body name
own_range s body name = by (range_in s body name)
  where
    by : (o : Option (Option (ℕ × ℕ)))
        → range_if (option_map (λ (range : Option (ℕ × ℕ)). record { name = name; range = range; port = option_and_then (number_named (λ (p : Port). p.name) name) (ports_in s body) }) o) ≡ o
    by None = refl
    by (Some range) = refl

-- a net by what declares it, or by its use where nothing does
abbrev net_or : Option (Option (ℕ × ℕ)) → Bool → Bool → Option (Option (ℕ × ℕ))
net_or declared inst used = option_or declared (cond (not inst && used) (Some None) None)

whole_there : (name : List ℕ) (declared : Option (Option (ℕ × ℕ))) (inst used : Bool) (range : Option (ℕ × ℕ)) → net_or declared inst used ≡ Some range
    → (named_if name (not (is_some declared) && inst) ≡ []) × (whole name declared ≡ places_from name 0 (width range))
whole_there name (Some r) inst used range e = (refl, ap (λ (x : Option (ℕ × ℕ)). places_from name 0 (width x)) (same_Some r range e))
whole_there name None true used range e = cc
whole_there name None false false range e = cc
whole_there name None false true range e = (refl, ap (λ (x : Option (ℕ × ℕ)). places_from name 0 (width x)) (same_Some None range e))

whole_missing : (name : List ℕ) (declared : Option (Option (ℕ × ℕ))) (inst used : Bool) → net_or declared inst used ≡ None → used ≡ true
    → named_if name (not (is_some declared) && inst) ≡ name ∷ []
whole_missing name (Some r) inst used e is_used = cc
whole_missing name None true used e is_used = refl
whole_missing name None false false e is_used = absurd (false≢true is_used)
whole_missing name None false true e is_used = cc

select_missing : (name : List ℕ) (declared : Option (Option (ℕ × ℕ))) (inst used : Bool) (left right : ℕ) → net_or declared inst used ≡ None → selected name declared left right ≡ None
select_missing name (Some r) inst used left right e = cc
select_missing name None inst used left right e = refl

module _ (s : Sources) (number : ℕ) (name : List ℕ) (first end : ℕ) (bits : (p : ℕ) → p < end → IsBitNumber s (ModuleBody number) (name, p) (first + p))
    (ends : first + end ≤ 18446744073709551615) where
  pub all_places : AreRunOf s number (places_from name 0 end) (Bits first end)
  all_places = places_numbered s (ModuleBody number) name first end 0 first bits end 0 (omega arith) (omega arith)

  some_places : (left right : ℕ) → right < end → (b : Bool) → nat_le left right ≡ b
      → IsSelection s number (cond b (Some (places_from name left (right - left + 1))) None) (cond b (Some (Bits (min (first + left) (2 ^ 64 - 1)) (right - left + 1))) None)
  some_places left right within false e = refl
  some_places left right within true e =
      let rises : left ≤ right = leb-true left right e in
      let same : min (first + left) (2 ^ 64 - 1) ≡ first + left = min-eq_left (omega (arith, ends, within, rises)) in (
        places_from name left (right - left + 1),
        refl,
        places_numbered s (ModuleBody number) name first end left (min (first + left) (2 ^ 64 - 1)) bits (right - left + 1) 0 (omega (arith, rises, within)) (omega (arith, same)),
      )

  between_run : (left right : Option ℕ) → ((p : ℕ) → right ≡ Some p → p < end) → IsSelection s number (between name left right) (run_between first left right)
  between_run None right within = refl
  between_run (Some left) None within = refl
  between_run (Some left) (Some right) within = some_places left right (within right refl) (nat_le left right) refl

module _ (s : Sources) (number : ℕ) (name : List ℕ) (row : NetRow) (is : IsNetRow s (ModuleBody number) name row) where
  range_run : (range : Option (ℕ × ℕ)) → range ≡ row.range → (left right : ℕ) → IsSelection s number (selected name (Some range) left right) (part_run row.first range left right)
  range_run None e left right = refl
  range_run (Some r) e left right =
      let same : width (Some r) ≡ width row.range = ap width e in
      between_run s number name row.first (width (Some r)) (λ p under. is.bits p (omega (arith, under, same))) (omega (arith, is.ends, same)) (place_at r left) (place_at r right)
      (λ p at. place_within r right p at)

  select_there : (declared : Option (Option (ℕ × ℕ))) (inst used : Bool) (left right : ℕ) → net_or declared inst used ≡ Some row.range
      → IsSelection s number (selected name declared left right) (part_run row.first row.range left right)
  select_there (Some r) inst used left right e =
      let same : r ≡ row.range = same_Some r row.range e in
      subst (λ (x : Option (ℕ × ℕ)). IsSelection s number (selected name (Some r) left right) (part_run row.first x left right)) same (range_run r same left right)
  select_there None true used left right e = cc
  select_there None false false left right e = cc
  select_there None false true left right e =
      let same : None ≡ row.range = same_Some None row.range e in
      subst (λ (x : Option (ℕ × ℕ)). IsSelection s number None (part_run row.first x left right)) same refl

-- NAMES of the module that is open
module _ (s : Sources) (number : ℕ) (m : Module) (there : module_at s number ≡ Some m) (name : List ℕ) where
  abbrev used : Bool
  used = list_any (same_name name) (flat_map names_alone (exprs_in m))

  net_is : net_or (declared_range m name) (is_instance_name m name) used ≡ range_if (own_net s (ModuleBody number) name)
  net_is = sym (own_range s (ModuleBody number) name ∙ ap (option_and_then (λ (x : Module). net_range x name)) there)

  pub whole_known : (row : NetRow) → IsNetRow s (ModuleBody number) name row → IsRun s number m (WholeExpr name) (Some (Bits row.first (width row.range)))
  whole_known row is =
      let all = whole_there name (declared_range m name) (is_instance_name m name) used row.range (net_is ∙ ap range_if is.owned) in (
        misselected_whole m name ∙ all.0,
        subst (λ (named : List Signal). AreRunOf s number named (Bits row.first (width row.range))) (sym (signals_whole m name ∙ all.1))
            (all_places s number name row.first (width row.range) is.bits is.ends),
      )

  pub whole_unknown : own_net s (ModuleBody number) name ≡ None → IsIn name (flat_map names_alone (exprs_in m)) → IsRun s number m (WholeExpr name) None
  whole_unknown none in_use = (
    name,
    misselected_whole m name ∙ whole_missing name (declared_range m name) (is_instance_name m name) used (net_is ∙ ap range_if none) (list_any-IsIn name (flat_map names_alone (exprs_in m)) in_use),
    names_in_whole name,
  )

  pub select_known : (row : NetRow) (left right : ℕ) → IsNetRow s (ModuleBody number) name row
      → IsSelection s number (selected name (declared_range m name) left right) (part_run row.first row.range left right)
  select_known row left right is = select_there s number name row is (declared_range m name) (is_instance_name m name) used left right (net_is ∙ ap range_if is.owned)

  pub select_unknown : (left right : ℕ) → own_net s (ModuleBody number) name ≡ None → IsSelection s number (selected name (declared_range m name) left right) None
  select_unknown left right none = select_missing name (declared_range m name) (is_instance_name m name) used left right (net_is ∙ ap range_if none)

-- LEAVES
module _ (s : Sources) (number : ℕ) (m : Module) where
  pub bit_run : (name : List ℕ) (index : ℕ) (run : Option Run) → IsSelection s number (selected name (declared_range m name) index index) run → IsRun s number m (BitExpr name index) run
  bit_run name index None none =
      (name, misselected_bit m name index ∙ ap (λ (o : Option (List Signal)). named_if name (not (is_some o))) none, names_in_bit name index)
  bit_run name index (Some run) (named, is, all) = (
    misselected_bit m name index ∙ ap (λ (o : Option (List Signal)). named_if name (not (is_some o))) is,
    subst (λ (xs : List Signal). AreRunOf s number xs run) (sym (signals_bit m name index ∙ ap or_none is)) all,
  )

  pub select_run : (name : List ℕ) (left right : ℕ) (run : Option Run) → IsSelection s number (selected name (declared_range m name) left right) run → IsRun s number m (PartExpr name left right) run
  select_run name left right None none =
      (name, misselected_part m name left right ∙ ap (λ (o : Option (List Signal)). named_if name (not (is_some o))) none, names_in_part name left right)
  select_run name left right (Some run) (named, is, all) = (
    misselected_part m name left right ∙ ap (λ (o : Option (List Signal)). named_if name (not (is_some o))) is,
    subst (λ (xs : List Signal). AreRunOf s number xs run) (sym (signals_part m name left right ∙ ap or_none is)) all,
  )

  const_run : (count : ℕ) → IsRun s number m (ConstExpr count) (Some (Constants count))
  const_run count = (
    misselected_const m count,
    subst (λ (xs : List Signal). AreRunOf s number xs (Constants count)) (sym (signals_const m count)) (constants s (ModuleBody number) count 0 0),
  )

  one : {X : Type 0} (f : Expr → List X) (e : Expr) → own_leaf e ≡ e ∷ [] → flat_map f (own_leaf e) ≡ f e
  one f e own = ap (flat_map f) own ∙ append-nil (f e)

  own_run : (e : Expr) (run : Option Run) → own_leaf e ≡ e ∷ [] → IsRun s number m e run → IsLeafRun s number m e run
  own_run e None own (name, wrong, named) = (name, one (misselected m) e own ∙ wrong, one names_in e own ∙ named)
  own_run e (Some run) own (right, all) =
      (one (misselected m) e own ∙ right, subst (λ (xs : List Signal). AreRunOf s number xs run) (sym (one (signals m) e own)) all)

  pub whole_leaf : (e : Expr) (name : List ℕ) (run : Option Run) → e ≡ WholeExpr name → IsRun s number m (WholeExpr name) run → IsLeafRun s number m e run
  whole_leaf e name run is has = subst (λ (x : Expr). IsLeafRun s number m x run) (sym is) (own_run (WholeExpr name) run (own_whole name) has)

  pub bit_leaf : (e : Expr) (name : List ℕ) (index : ℕ) (run : Option Run) → e ≡ BitExpr name index → IsSelection s number (selected name (declared_range m name) index index) run
      → IsLeafRun s number m e run
  bit_leaf e name index run is has = subst (λ (x : Expr). IsLeafRun s number m x run) (sym is) (own_run (BitExpr name index) run (own_bit name index) (bit_run name index run has))

  pub part_leaf : (e : Expr) (name : List ℕ) (left right : ℕ) (run : Option Run) → e ≡ PartExpr name left right → IsSelection s number (selected name (declared_range m name) left right) run
      → IsLeafRun s number m e run
  part_leaf e name left right run is has =
      subst (λ (x : Expr). IsLeafRun s number m x run) (sym is) (own_run (PartExpr name left right) run (own_part name left right) (select_run name left right run has))

  pub const_leaf : (e : Expr) (count : ℕ) → e ≡ ConstExpr count → IsLeafRun s number m e (Some (Constants count))
  const_leaf e count is = subst (λ (x : Expr). IsLeafRun s number m x (Some (Constants count))) (sym is) (own_run (ConstExpr count) (Some (Constants count)) (own_const count) (const_run count))

  pub join_leaf : (e : Expr) (parts : List Expr) → e ≡ JoinExpr parts → IsLeafRun s number m e (Some (Constants 0))
  join_leaf e parts is =
      let none : own_leaf e ≡ [] = ap own_leaf is ∙ own_join parts in
      (ap (flat_map (misselected m)) none, subst (λ (xs : List Expr). AreRunOf s number (flat_map (signals m) xs) (Constants 0)) (sym none) tt)

-- an expression is one of those from a number up to one behind it
in_range : {X : Type 0} (xs : List X) (d : X) (first k end : ℕ) → first ≤ k → k < end → k < length xs → IsIn (get_or xs k d) (slice_range xs first end)
in_range xs d first k end behind before within =
    let part = slice_range xs first end in
    let size : k - first < length part = omega (arith, length-take (end - first) (drop first xs), length-drop first xs) in
    let place : first + (k - first) ≡ k = omega arith in
    IsIn-slice_get part (k - first) (get_or xs k d) (slice_get-get_or part (k - first) d size
    ∙ ap Some (get_or-take (end - first) (drop first xs) (k - first) d (omega arith) ∙ get_or-drop first xs (k - first) d ∙ ap (λ (n : ℕ). get_or xs n d) place))

-- a name that stands alone in a part of a line is one of those that stand alone in the module
pub in_use : (n : Netlist) (m : Module) (k : ℕ) (name : List ℕ) → StandsIn n m k → k < length n.exprs → numbered_expr n k ≡ WholeExpr name → IsIn name (flat_map names_alone (exprs_in m))
in_use n m k name stands within is =
    let e = numbered_expr n k in
    let all = numbered_expr n stands.all in
    let row = in_range n.exprs (ConstExpr 0) stands.first k (stands.all + 1) stands.behind (omega (arith, stands.before)) within in
    let own : IsIn (WholeExpr name) (own_leaf e) = subst (IsIn (WholeExpr name)) (sym (ap own_leaf is ∙ own_whole name)) (inl refl) in
    let leaf : IsIn (WholeExpr name) (leaves all) =
    subst (IsIn (WholeExpr name)) (sym stands.leaves.same) (IsIn-flat_map own_leaf e (slice_range n.exprs stands.first (stands.all + 1)) (WholeExpr name) row own) in
    let alone : IsIn name (names_alone (WholeExpr name)) = subst (IsIn name) (sym (names_alone_whole name)) (inl refl) in
    let used : IsIn name (names_alone all) = subst (IsIn name) (sym (alone_by_leaves all)) (IsIn-flat_map names_alone (WholeExpr name) (leaves all) name leaf alone) in
    IsIn-flat_map names_alone all (exprs_in m) name stands.in_lines used

-- RUNS of several
module _ (s : Sources) (number : ℕ) (m : Module) where
  joined : (xs zs : List Signal) (ys ws : List (Option ℕ)) → AllZip (IsSignalBit s (ModuleBody number)) xs ys → AllZip (IsSignalBit s (ModuleBody number)) zs ws
      → AllZip (IsSignalBit s (ModuleBody number)) (xs ++ zs) (ys ++ ws)
  joined [] zs [] ws front back = back
  joined [] zs (y ∷ ys) ws front back = absurd front
  joined (x ∷ xs) zs [] ws front back = absurd front
  joined (x ∷ xs) zs (y ∷ ys) ws front back = (front.0, joined xs zs ys ws front.1 back)

  pub runs_none : AreRunsOf s number m [] []
  runs_none = record { right = refl; bits = tt }

  pub runs_more : (es more : List Expr) (runs : List Run) (run : Run) → AreRunsOf s number m es runs → flat_map (misselected m) more ≡ []
      → AreRunOf s number (flat_map (signals m) more) run → AreRunsOf s number m (es ++ more) (runs ++ run ∷ [])
  runs_more es more runs run are right bits = record {
    right = flat_map-append (misselected m) es more ∙ ap (λ (xs : List (List ℕ)). xs ++ flat_map (misselected m) more) are.right ∙ right;
    bits = subst (λ (xs : List Signal). AllZip (IsSignalBit s (ModuleBody number)) xs (runs_bits (runs ++ run ∷ []))) (sym (flat_map-append (signals m) es more))
        (subst (AllZip (IsSignalBit s (ModuleBody number)) (flat_map (signals m) es ++ flat_map (signals m) more))
        (sym (flat_map-append run_bits runs (run ∷ []) ∙ ap (λ (ys : List (Option ℕ)). runs_bits runs ++ ys) (append-nil (run_bits run))))
        (joined (flat_map (signals m) es) (flat_map (signals m) more) (runs_bits runs) (run_bits run) are.bits bits));
  }

-- what stands open in front of an expression, and what is one more
module _ (s : Sources) (number : ℕ) (m : Module) (n : Netlist) (all first : ℕ) (in_lines : IsIn (numbered_expr n all) (exprs_in m)) (from : HasLeavesFrom n all first)
    (inside : all < length n.exprs) where
  abbrev front : ℕ → List Expr
  front k = flat_map own_leaf (slice_range n.exprs first k)

  pub stands : (k : ℕ) → first ≤ k → k ≤ all → StandsIn n m k
  stands k behind before = record { all = all; first = first; in_lines = in_lines; leaves = from; behind = behind; before = before }

  pub front_none : AreRunsOf s number m (flat_map own_leaf (slice_range n.exprs first first)) []
  front_none = subst (λ (es : List Expr). AreRunsOf s number m (flat_map own_leaf es) []) (sym (empty_part n.exprs first)) (runs_none s number m)

  front_next : (k : ℕ) → first ≤ k → k ≤ all → front (k + 1) ≡ front k ++ own_leaf (numbered_expr n k)
  front_next k behind before =
      ap (flat_map own_leaf) (part_more n.exprs first k (ConstExpr 0) behind (omega (arith, before, inside)))
      ∙ flat_map-append own_leaf (slice_range n.exprs first k) (numbered_expr n k ∷ [])
      ∙ ap (λ (last : List Expr). front k ++ last) (append-nil (own_leaf (numbered_expr n k)))

  pub front_more : (k : ℕ) (old new : List Run) → first ≤ k → k ≤ all → AreRunsOf s number m (flat_map own_leaf (slice_range n.exprs first k)) old
      → AddsRun s number m (numbered_expr n k) old new true → AreRunsOf s number m (flat_map own_leaf (slice_range n.exprs first (k + 1))) new
  front_more k old new behind before are (run, same, (right, bits)) =
      subst (AreRunsOf s number m (front (k + 1))) (sym same)
      (subst (λ (es : List Expr). AreRunsOf s number m es (old ++ run ∷ [])) (sym (front_next k behind before)) (runs_more s number m (front k) (own_leaf (numbered_expr n k)) old run are right bits))

  pub all_runs : (runs : List Run) → AreRunsOf s number m (flat_map own_leaf (slice_range n.exprs first (all + 1))) runs → AreRuns s number m (numbered_expr n all) runs true
  all_runs runs are =
      let e = numbered_expr n all in
      let back : flat_map own_leaf (slice_range n.exprs first (all + 1)) ≡ leaves e = sym from.same in (
        misselected_by_leaves m e ∙ ap (flat_map (misselected m)) (sym back) ∙ are.right,
        subst (λ (xs : List Signal). AllZip (IsSignalBit s (ModuleBody number)) xs (runs_bits runs)) (sym (signals_by_leaves m e ∙ ap (flat_map (signals m)) (sym back))) are.bits,
      )

  pub some_wrong : (k : ℕ) (runs : List Run) → first ≤ k → k ≤ all → IsLeafRun s number m (numbered_expr n k) None → AreRuns s number m (numbered_expr n all) runs false
  some_wrong k runs behind before (name, wrong, named) none =
      let e = numbered_expr n k in
      let one = in_range n.exprs (ConstExpr 0) first k (all + 1) behind (omega (arith, before)) (omega (arith, before, inside)) in
      let there : IsIn name (flat_map (misselected m) (own_leaf e)) = subst (IsIn name) (sym wrong) (inl refl) in
      let leaf = IsIn-flat_map_from (misselected m) (own_leaf e) name there in
      let among : IsIn leaf.0 (leaves (numbered_expr n all)) = subst (IsIn leaf.0) (sym from.same) (IsIn-flat_map own_leaf e (slice_range n.exprs first (all + 1)) leaf.0 one leaf.1) in
      let in_all = IsIn-flat_map (misselected m) leaf.0 (leaves (numbered_expr n all)) name among leaf.2 in
      subst (IsIn name) (sym (misselected_by_leaves m (numbered_expr n all)) ∙ none) in_all

  pub last_run : (old new : List Run) → first ≤ all → AreRunsOf s number m (flat_map own_leaf (slice_range n.exprs first all)) old → (there : Bool)
      → AddsRun s number m (numbered_expr n all) old new there → AreRuns s number m (numbered_expr n all) new there
  last_run old new rises are true added = all_runs new (front_more all old new rises (omega arith) are added)
  last_run old new rises are false wrong = some_wrong all new rises (omega arith) wrong
