-- The lines of a module one after the other, and the modules.
use Rattle.std.proofs.Common.{◌≡◌, ◌≢◌, ℕ, ◌<◌, ◌≤◌, ◌+◌, ◌⊎◌, List, [], ◌∷◌, ◌++◌, get_or, length, map, take, Option, None, Some, slice_get, inl, inr, refl, sym, ap, ◌∙◌, subst, arith}
use Rattle.std.specs.Option.{option_to_list}
use Rattle.std.specs.List.{flat_map}
use Rattle.std.proofs.lemmas.List.{take_all}
use Rattle.std.proofs.lemmas.Option.{get_or_from_slice_get, same_Some}
use Rattle.pw_defs.specs.declared.design.Body.{Body}
use Rattle.pw_defs.specs.declared.netlist.Assign.{Assign}
use Rattle.pw_defs.specs.declared.netlist.Conn.{Conn}
use Rattle.pw_defs.specs.declared.netlist.Expr.{Expr}
use Rattle.pw_defs.specs.declared.netlist.Expr.TheVariants.{Const as ConstExpr}
use Rattle.pw_defs.specs.declared.netlist.Inst.{Inst}
use Rattle.pw_defs.specs.declared.netlist.Module.{Module}
use Rattle.list_defs.specs.Members.{IsIn}
use Rattle.list_defs.proofs.Longer.{slice_get-append, slice_get_last}
use Rattle.list_defs.proofs.Members.{IsIn-append_left, IsIn-append_right, IsIn-flat_map}
use Rattle.design_defs.specs.Hierarchy.{Sources, module_at, type_of}
use Rattle.design_defs.specs.Links.{port_of_conn}
use Rattle.design_defs.specs.Places.{exprs_in, misselected, names_in}
use Rattle.module_rows.specs.declared.plain.Netlist.{Netlist}
use Rattle.module_rows.specs.Reads.{IsNumbered, module_at as module_in, numbered_expr}
use Rattle.net_hierarchy.specs.Graph.{Types, types_of}
use Rattle.net_hierarchy.proofs.Places.{same_or_not}
use Rattle.net_least.specs.declared.own.OwnFault.{OwnFault}
use Rattle.net_least.proofs.RowItems.{module_there, row_there}
use Rattle.net_places.specs.declared.plans.Plans.{Plans}
use Rattle.net_places.specs.Plans.{ArePlans}
use Rattle.net_places.proofs.Steps.{flat_more}
use Rattle.net_runs.specs.declared.plain.Opened.{Opened}
use Rattle.net_runs.specs.Known.{IsOpen}
use Rattle.net_widths.specs.declared.sides.Side.{Side}
use Rattle.net_widths.specs.Ports.{width_of_port}
use Rattle.net_widths.specs.Refusals.{Finds, IsFirstName, IsFirstOf, Refusal, at_one_line, names_of_connected, unequal, width_of, widths_of_assign, widths_of_conn}
use Rattle.net_widths.specs.Sides.{IsSide}
use Rattle.net_widths.proofs.Finding.{finds_also, finds_none}
use Rattle.net_widths.proofs.SideLemmas.{line_more}

-- the refusals of one thing more
pub step_finds : {X : Type 0} (symbols : List (List ℕ)) (refusals : X → List Refusal) (xs : List X) (n : ℕ) (d : X) (best old new : Option OwnFault) → n < length xs
    → Finds symbols best old (flat_map refusals (take n xs)) → Finds symbols old new (refusals (get_or xs n d)) → Finds symbols best new (flat_map refusals (take (n + 1) xs))
step_finds symbols refusals xs n d best old new within known more =
    finds_also symbols best old new (flat_map refusals (take n xs)) (refusals (get_or xs n d)) (flat_map refusals (take (n + 1) xs)) known more (flat_more refusals xs n d within)

-- those of all things
pub all_finds : {X : Type 0} (symbols : List (List ℕ)) (refusals : X → List Refusal) (xs : List X) (n : ℕ) (best found : Option OwnFault) → length xs ≤ n
    → Finds symbols best found (flat_map refusals (take n xs)) → Finds symbols best found (flat_map refusals xs)
all_finds symbols refusals xs n best found past known = subst (λ all. Finds symbols best found (flat_map refusals all)) (take_all n xs past) known

-- expressions of lines
pub connected_in : (m : Module) (i : Inst) (c : Conn) (e : Expr) → IsIn i m.insts → IsIn c i.conns → c.expr ≡ Some e → IsIn e (exprs_in m)
connected_in m i c e one in_conns is =
    let of_conns = λ (x : Conn). option_to_list x.expr in
    let of_insts = λ (x : Inst). flat_map of_conns x.conns in
    let here : IsIn e (option_to_list c.expr) = subst (λ o. IsIn e (option_to_list o)) (sym is) (inl refl) in
    IsIn-append_left e (flat_map of_insts m.insts) (flat_map (λ (a : Assign). a.left ∷ a.right ∷ []) m.assigns)
    (IsIn-flat_map of_insts i m.insts e one (IsIn-flat_map of_conns c i.conns e in_conns here))

pub side_in : (m : Module) (a : Assign) (e : Expr) → IsIn a m.assigns → IsIn e (a.left ∷ a.right ∷ []) → IsIn e (exprs_in m)
side_in m a e one here =
    let of_assigns = λ (x : Assign). x.left ∷ x.right ∷ [] in
    IsIn-append_right e (flat_map (λ (i : Inst). flat_map (λ (c : Conn). option_to_list c.expr) i.conns) m.insts) (flat_map of_assigns m.assigns)
    (IsIn-flat_map of_assigns a m.assigns e one here)

-- what is connected is wrong in itself, or has another width than the port
pub conn_finds : (s : Sources) (m : Module) (i : Inst) (c : Conn) (n : Netlist) (k symbol line : ℕ) (best found : Option OwnFault) (width : Option ℕ) (side : Side)
    → IsIn i m.insts → IsIn c i.conns → line ≡ i.line → IsNumbered n.exprs c.expr (Some k) → slice_get n.symbols symbol ≡ Some c.port
    → (IsIn (numbered_expr n k) (exprs_in m) → IsSide n.symbols m line best side (numbered_expr n k)) → width ≡ width_of_port s (type_of s i.kind) c.port
    → ((names : List (List ℕ)) → IsFirstName n.symbols names (Some symbol) → Finds n.symbols side.best found (at_one_line line (unequal side.width width names)))
    → Finds n.symbols best found (widths_of_conn s m i c)
conn_finds s m i c n k symbol line best found width side one in_conns on_line numbered port known width_is more = by c.expr refl numbered
  where
    by : (o : Option Expr) → c.expr ≡ o → IsNumbered n.exprs o (Some k) → Finds n.symbols best found (at_one_line i.line (names_of_connected m c.port (port_of_conn s i c) o))
    by None is at = absurd at
    by (Some e) is at =
        let same : numbered_expr n k ≡ e = get_or_from_slice_get n.exprs k e (ConstExpr 0) at in
        let of_side = subst (IsSide n.symbols m line best side) same (known (subst (λ x. IsIn x (exprs_in m)) (sym same) (connected_in m i c e one in_conns is))) in
        let wrong = misselected m e in
        let other = unequal (width_of m e) (width_of_port s (type_of s i.kind) c.port) (c.port ∷ []) in
        let differ : at_one_line line (unequal side.width width (c.port ∷ [])) ≡ at_one_line line other =
        λ q. at_one_line line (unequal (of_side.width q) (width_is q) (c.port ∷ [])) in
        subst (λ (l : ℕ). Finds n.symbols best found (at_one_line l (wrong ++ other))) on_line
        (finds_also n.symbols best side.best found (at_one_line line wrong) (at_one_line line other) (at_one_line line (wrong ++ other)) of_side.finds
        (subst (Finds n.symbols side.best found) differ (more (c.port ∷ []) port)) (line_more line wrong other))

pub nothing_connected : (s : Sources) (m : Module) (i : Inst) (c : Conn) (n : Netlist) (best : Option OwnFault) → IsNumbered n.exprs c.expr None
    → Finds n.symbols best best (widths_of_conn s m i c)
nothing_connected s m i c n best numbered = by c.expr numbered
  where
    by : (o : Option Expr) → IsNumbered n.exprs o None → Finds n.symbols best best (at_one_line i.line (names_of_connected m c.port (port_of_conn s i c) o))
    by None at = finds_none n.symbols best [] refl
    by (Some e) at = absurd at

-- a side is wrong in itself, or both have different widths
pub assign_finds : (symbols : List (List ℕ)) (m : Module) (a : Assign) (line : ℕ) (best found : Option OwnFault) (left right : Side) → line ≡ a.line
    → IsSide symbols m line best left a.left → IsSide symbols m line left.best right a.right
    → Finds symbols right.best found (at_one_line line (unequal left.width right.width (names_in a.left))) → Finds symbols best found (widths_of_assign m a)
assign_finds symbols m a line best found left right on_line of_left of_right more =
    let wrong = misselected m a.left in
    let also = misselected m a.right in
    let other = unequal (width_of m a.left) (width_of m a.right) (names_in a.left) in
    let differ : at_one_line line (unequal left.width right.width (names_in a.left)) ≡ at_one_line line other =
    λ q. at_one_line line (unequal (of_left.width q) (of_right.width q) (names_in a.left)) in
    let last = subst (Finds symbols right.best found) differ more in
    let sides =
    finds_also symbols best left.best right.best (at_one_line line wrong) (at_one_line line also) (at_one_line line (wrong ++ also)) of_left.finds of_right.finds (line_more line wrong also) in
    subst (λ (l : ℕ). Finds symbols best found (at_one_line l (wrong ++ also ++ other))) on_line
    (finds_also symbols best right.best found (at_one_line line (wrong ++ also)) (at_one_line line other) (at_one_line line (wrong ++ also ++ other)) sides last
    (line_more line (wrong ++ also) other))

-- MODULES one after the other.
pub first_of_found : (symbols : List (List ℕ)) (more : List Refusal) (found : Option OwnFault) → Finds symbols None found more → IsFirstOf symbols more found
first_of_found symbols more found finds = finds [] (λ x never. never)

-- the first of each of the first modules
abbrev pub AreFirstTo : Sources → (Module → List Refusal) → List (List ℕ) → ℕ → List (Option OwnFault) → Type 0
AreFirstTo s refusals symbols count own =
    (n : ℕ) (m : Module) → module_at s n ≡ Some m → n < count → (o : Option OwnFault) × (slice_get own n ≡ Some o) × IsFirstOf symbols (refusals m) o

pub firsts_more : (s : Sources) (refusals : Module → List Refusal) (symbols : List (List ℕ)) (holder : ℕ) (own : List (Option OwnFault)) (new : Option OwnFault) (x : Module)
    → length own ≡ holder → module_at s holder ≡ Some x → IsFirstOf symbols (refusals x) new → AreFirstTo s refusals symbols holder own
    → AreFirstTo s refusals symbols (holder + 1) (own ++ new ∷ [])
firsts_more s refusals symbols holder own new x count is_x first known n m is_module below = by (same_or_not n holder)
  where
    by : (n ≡ holder) ⊎ (n ≢ holder) → (o : Option OwnFault) × (slice_get (own ++ new ∷ []) n ≡ Some o) × IsFirstOf symbols (refusals m) o
    by (inl same) =
        let one : x ≡ m = same_Some x m (sym is_x ∙ ap (module_at s) (sym same) ∙ is_module) in
        (new, slice_get_last own new n (same ∙ sym count), subst (λ (y : Module). IsFirstOf symbols (refusals y) new) one first)
    by (inr other) =
        let before : n < holder = omega (arith, below, other) in
        let old = known n m is_module before in
        (old.0, slice_get-append own (new ∷ []) n old.0 old.1, old.2)

-- one module more, whose row has the types of its instances
pub own_more : (s : Sources) (refusals : Module → List Refusal) (n : Netlist) (types : Types) (holder : ℕ) (row : List (Option Body)) (own pushed : List (Option OwnFault))
    (new : Option OwnFault) → s.modules ≡ n.modules → types ≡ types_of s → holder < length n.modules → Some row ≡ slice_get types holder → length own ≡ holder → pushed ≡ own ++ new ∷ []
    → (row ≡ map (λ (i : Inst). type_of s i.kind) (module_in n holder).insts → module_at s holder ≡ Some (module_in n holder) → Finds n.symbols None new (refusals (module_in n holder)))
    → AreFirstTo s refusals n.symbols holder own → AreFirstTo s refusals n.symbols (holder + 1) pushed
own_more s refusals n types holder row own pushed new modules types_are within at count is_pushed finds known =
    let x = module_in n holder in
    let there = module_there s n.modules holder modules within in
    let of_row = same_Some row (map (λ (i : Inst). type_of s i.kind) x.insts) (at ∙ row_there s types n.modules holder types_are modules within) in
    subst (AreFirstTo s refusals n.symbols (holder + 1)) (sym is_pushed)
    (firsts_more s refusals n.symbols holder own new x count there (first_of_found n.symbols (refusals x) new (finds of_row there)) known)

-- the module that was opened
pub opened_module : (s : Sources) (o old : Opened) (n : Netlist) (plans : Plans) (holder : ℕ) (m : Module) → o ≡ record old { holder = holder } → old.netlist ≡ n → old.plans ≡ plans
    → ArePlans s n.symbols plans → module_at s holder ≡ Some m → IsOpen s o m
opened_module s o old n plans holder m same same_netlist same_plans are is_module =
    let of_netlist = subst (λ (x : Netlist). ArePlans s x.symbols plans) (sym same_netlist) are in
    let is : IsOpen s (record old { holder = holder }) m = record { plans = subst (ArePlans s old.netlist.symbols) (sym same_plans) of_netlist; is_module = is_module } in
    subst (λ x. IsOpen s x m) (sym same) is
