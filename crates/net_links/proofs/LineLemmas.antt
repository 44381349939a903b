-- The rows of lines.
use Rattle.std.proofs.Common.{◌≡◌, ℕ, ◌+◌, ◌<◌, ◌≤◌, inl, inr, List, [], ◌∷◌, ◌++◌, length, refl, sym, ap, ◌∙◌, subst, arith}
use Rattle.std.specs.Prelude.{Bool, true, false, Option, Some, None, option_and_then, slice_get, slice_index_or}
use Rattle.std.specs.List.{AllZip, flat_map}
use Rattle.std.specs.Option.{option_to_list}
use Rattle.std.proofs.lemmas.Slice.Zip.{AllZip-long}
use Rattle.std.proofs.lemmas.Option.{get_or_from_slice_get, same_Some, slice_get-get_or}
use Rattle.pw_defs.specs.declared.cells.Dir.{Dir}
use Rattle.pw_defs.specs.declared.design.Body.{Body}
use Rattle.pw_defs.specs.declared.design.Body.TheVariants.{Module as ModuleBody}
use Rattle.pw_defs.specs.declared.netlist.Assign.{Assign}
use Rattle.pw_defs.specs.declared.netlist.Conn.{Conn}
use Rattle.pw_defs.specs.declared.netlist.Expr.{Expr}
use Rattle.pw_defs.specs.declared.netlist.Inst.{Inst}
use Rattle.pw_defs.specs.declared.netlist.Module.{Module}
use Rattle.pw_defs.specs.declared.netlist.Port.{Port}
use Rattle.list_defs.specs.Members.{IsIn}
use Rattle.list_defs.proofs.Members.{IsIn-append_left, IsIn-append_right, IsIn-flat_map, IsIn-slice_get}
use Rattle.design_defs.specs.Bits.{port_named}
use Rattle.design_defs.specs.Hierarchy.{Sources, module_at, ports_in, type_of}
use Rattle.design_defs.specs.Links.{links_between, links_of_assign, links_of_conn}
use Rattle.design_defs.specs.Places.{Signal, exprs_in, misselected, signals}
use Rattle.design_defs.specs.Ranges.{width}
use Rattle.module_rows.specs.declared.plain.Netlist.{Netlist}
use Rattle.pw_defs.specs.declared.netlist.Expr.TheVariants.{Const as ConstExpr}
use Rattle.module_rows.specs.declared.tables.AssignRow.{AssignRow}
use Rattle.module_rows.specs.Growth.{no_module}
use Rattle.module_rows.specs.Reads.{IsAssign, IsNumbered, assign_at, conn_at, inst_at, module_at as rows_module_at, no_assign, no_conn, no_inst, numbered_expr}
use Rattle.module_rows.specs.View.{name_at}
use Rattle.net_runs.specs.declared.plain.Opened.{Opened}
use Rattle.net_runs.specs.declared.runs.Run.{Run}
use Rattle.net_runs.specs.Known.{IsOpen}
use Rattle.net_runs.specs.Leaves.{AreRuns, runs_bits}
use Rattle.net_runs.specs.LocalNumbers.{HasFewBits, IsSignalBit}
use Rattle.net_runs.specs.Wired.{IsConnWired}
use Rattle.net_links.specs.declared.ports.Linker.{Linker}
use Rattle.net_links.specs.declared.ports.PortPlace.{PortPlace}
use Rattle.net_links.specs.declared.rows.LinkRow.{LinkRow}
use Rattle.net_links.specs.Adding.{AddsLinks, AreSourcesOf, HasOpen, HasPortBits, IsLinkable, IsPlaced}
use Rattle.net_links.specs.LocalLinks.{locals}
use Rattle.net_links.specs.RunLinks.{AreFew, AreFewOwn, locals_of_port, locals_of_sides}
use Rattle.net_links.proofs.PortLemmas.{type_is}
use Rattle.net_links.proofs.LinkLemmas.{assign_links, few_own_signals, few_port, few_signals, port_links}

-- the module that is open is that of its number
is_open : (l : Linker) (s : Sources) (number : ℕ) (m : Module) → HasOpen l number → AreSourcesOf l s → module_at s number ≡ Some m → IsOpen s l.lookup m
is_open l s number m opened are there =
    subst (λ o. IsOpen s o m) (sym opened) (record { plans = are.plans_are; is_module = there })

pub same_module : (l : Linker) (s : Sources) (number : ℕ) (m : Module) → AreSourcesOf l s → module_at s number ≡ Some m
    → slice_index_or l.spellings.modules.now.modules number no_module ≡ m
same_module l s number m are there =
    get_or_from_slice_get l.spellings.modules.now.modules number m no_module (ap (λ (ms : List Module). slice_get ms number) (sym are.is_of.0) ∙ there)

-- what is connected to a port
pub connected : (s : Sources) (number : ℕ) (m : Module) (inst line : ℕ) (i : Inst) (p : Port) (first : ℕ) (has : HasPortBits s m inst i p first) (dir : Dir) (e : Expr)
    (os : List (Option ℕ)) (old new : List LinkRow) → HasFewBits s (ModuleBody number) → HasFewBits s has.body → i.line ≡ line → dir ≡ p.dir
    → AllZip (IsSignalBit s (ModuleBody number)) (signals m e) os → length (signals m e) ≡ width p.range
    → (AreFew os → first + length os ≤ 4294967295 → locals new ≡ locals old ++ locals_of_port dir inst line first os)
    → AddsLinks s number m (links_between m i (Some p) (Some e)) old new
connected s number m inst line i p first has dir e os old new few_own few_body on_line is_dir zip same put =
    let long : length os ≡ length (signals m e) = AllZip-long (IsSignalBit s (ModuleBody number)) (signals m e) os zip in
    let fits : first + length os ≤ 4294967295 = few_port s m inst i p first (length os) has few_body (long ∙ same) in
    let grown : locals new ≡ locals old ++ locals_of_port dir inst line first os = put (few_signals s number (signals m e) os few_own zip) fits in (
      locals_of_port p.dir inst i.line first os,
      grown ∙ ap (λ (d : Dir). locals old ++ locals_of_port d inst line first os) is_dir ∙ ap (λ (n : ℕ). locals old ++ locals_of_port p.dir inst n first os) (sym on_line),
      port_links s number m inst i p first has p.dir (signals m e) os (omega (arith, same)) zip,
    )

-- the sides of an assignment
assigned : (s : Sources) (number : ℕ) (m : Module) (a : Assign) (line : ℕ) (os ps : List (Option ℕ)) (old new : List LinkRow) → HasFewBits s (ModuleBody number)
    → (IsIn Signal.constant (signals m a.left) → ⊥) → line ≡ a.line → AllZip (IsSignalBit s (ModuleBody number)) (signals m a.left) os
    → AllZip (IsSignalBit s (ModuleBody number)) (signals m a.right) ps
    → (AreFewOwn os → AreFew ps → locals new ≡ locals old ++ locals_of_sides line os ps) → AddsLinks s number m (links_of_assign m a) old new
assigned s number m a line os ps old new few none on_line left right put = (
  locals_of_sides a.line os ps,
  put (few_own_signals s number (signals m a.left) os few none left) (few_signals s number (signals m a.right) ps few right)
      ∙ ap (λ (n : ℕ). locals old ++ locals_of_sides n os ps) on_line,
  assign_links s number m a os ps left right,
)

-- expressions of lines are among those of the module
conn_expr : (m : Module) (i : Inst) (c : Conn) (e : Expr) → IsIn i m.insts → IsIn c i.conns → c.expr ≡ Some e → IsIn e (exprs_in m)
conn_expr m i c e in_m in_i is =
    IsIn-append_left e (flat_map (λ (x : Inst). flat_map (λ (y : Conn). option_to_list y.expr) x.conns) m.insts) (flat_map (λ (a : Assign). a.left ∷ a.right ∷ []) m.assigns)
    (IsIn-flat_map (λ (x : Inst). flat_map (λ (y : Conn). option_to_list y.expr) x.conns) i m.insts e in_m
    (IsIn-flat_map (λ (y : Conn). option_to_list y.expr) c i.conns e in_i (subst (λ o. IsIn e (option_to_list o)) (sym is) (inl refl))))

left_expr : (m : Module) (a : Assign) → IsIn a m.assigns → IsIn a.left (exprs_in m)
left_expr m a in_m =
    IsIn-append_right a.left (flat_map (λ (x : Inst). flat_map (λ (y : Conn). option_to_list y.expr) x.conns) m.insts) (flat_map (λ (a : Assign). a.left ∷ a.right ∷ []) m.assigns)
    (IsIn-flat_map (λ (x : Assign). x.left ∷ x.right ∷ []) a m.assigns a.left in_m (inl refl))

right_expr : (m : Module) (a : Assign) → IsIn a m.assigns → IsIn a.right (exprs_in m)
right_expr m a in_m =
    IsIn-append_right a.right (flat_map (λ (x : Inst). flat_map (λ (y : Conn). option_to_list y.expr) x.conns) m.insts) (flat_map (λ (a : Assign). a.left ∷ a.right ∷ []) m.assigns)
    (IsIn-flat_map (λ (x : Assign). x.left ∷ x.right ∷ []) a m.assigns a.right in_m (inr (inl refl)))

-- the type of an instance with a wired connection
wired_type : (s : Sources) (m : Module) (i : Inst) (c : Conn) (wired : IsConnWired s m i c)
    → (body : Body) × (type_of s i.kind ≡ Some body) × (option_and_then (port_named c.port) (ports_in s body) ≡ Some wired.port)
wired_type s m i c wired = by (type_of s i.kind) refl wired.is_port
  where
    by : (o : Option Body) → type_of s i.kind ≡ o → option_and_then (port_named c.port) (option_and_then (ports_in s) o) ≡ Some wired.port
        → (body : Body) × (type_of s i.kind ≡ Some body) × (option_and_then (port_named c.port) (ports_in s body) ≡ Some wired.port)
    by None none h = cc
    by (Some body) is h = (body, is, h)

-- what an expression of a line stands for in the module that is open
pub open_expr : (l : Linker) (number k : ℕ) (e : Expr) → HasOpen l number → slice_get l.spellings.modules.now.exprs k ≡ Some e → numbered_expr l.lookup.netlist k ≡ e
open_expr l number k e opened at =
    ap (λ (o : Opened). numbered_expr o.netlist k) opened ∙ get_or_from_slice_get l.spellings.modules.now.exprs k e (ConstExpr 0) at

abbrev pub SaysRuns : Linker → ℕ → List Run → Bool → Type 0
SaysRuns l k runs there =
    (s : Sources) (m : Module) → IsOpen s l.lookup m → IsIn (numbered_expr l.lookup.netlist k) (exprs_in m) → AreRuns s l.lookup.holder m (numbered_expr l.lookup.netlist k) runs there

pub runs_are : (l : Linker) (s : Sources) (number : ℕ) (m : Module) (k : ℕ) (e : Expr) (runs : List Run) (there : Bool) → HasOpen l number → AreSourcesOf l s
    → module_at s number ≡ Some m → numbered_expr l.lookup.netlist k ≡ e → IsIn e (exprs_in m) → SaysRuns l k runs there → AreRuns s number m e runs there
runs_are l s number m k e runs there opened are is same in_lines says =
    let here = says s m (is_open l s number m opened are is) (subst (λ x. IsIn x (exprs_in m)) (sym same) in_lines) in
    let numbers : l.lookup.holder ≡ number = ap (λ (o : Opened). o.holder) opened in
    subst (λ x. AreRuns s number m x runs there) same (subst (λ (h : ℕ). AreRuns s h m (numbered_expr l.lookup.netlist k) runs there) numbers here)

pub expr_within : (l : Linker) (number k : ℕ) → HasOpen l number → k < length l.spellings.modules.now.exprs → k < length l.lookup.netlist.exprs
expr_within l number k opened within = subst (λ (o : Opened). k < length o.netlist.exprs) (sym opened) within

pub reopened : (l : Linker) (number : ℕ) → HasOpen l number → HasOpen l l.lookup.holder
reopened l number opened =
    opened ∙ ap (λ (k : ℕ). record { netlist = l.spellings.modules.now; plans = l.plans.now; holder = k }) (sym (ap (λ (o : Opened). o.holder) opened))

-- the expression of a connection, where it has a number
pub some_expr : (exprs : List Expr) (e : Option Expr) (k : Option ℕ) (j : ℕ) → IsNumbered exprs e k → k ≡ Some j → (x : Expr) × (e ≡ Some x) × (slice_get exprs j ≡ Some x)
some_expr exprs None None j is some = cc
some_expr exprs None (Some k) j is some = absurd is
some_expr exprs (Some e) None j is some = absurd is
some_expr exprs (Some e) (Some k) j is some = (e, refl, ap (slice_get exprs) (sym (same_Some k j some)) ∙ is)

-- A CONNECTION of an instance of the module that is open
module _ (l : Linker) (s : Sources) (number : ℕ) (m : Module) (opened : HasOpen l number) (are : AreSourcesOf l s) (is : IsLinkable s number m) (inst conn : ℕ)
    (has_inst : inst < length (rows_module_at l.spellings.modules.now number).insts) (has_conn : conn < length (inst_at l.spellings.modules.now number inst).conns) where
  abbrev pub n : Netlist
  n = l.spellings.modules.now

  abbrev pub i : Inst
  i = inst_at n number inst

  abbrev pub c : Conn
  c = conn_at n number inst conn

  at_line : slice_get m.insts inst ≡ Some i
  at_line =
      let same : rows_module_at n number ≡ m = same_module l s number m are is.there in
      subst (λ (x : Module). slice_get x.insts inst ≡ Some i) same (slice_get-get_or (rows_module_at n number).insts inst no_inst has_inst)

  in_module : IsIn i m.insts
  in_module = IsIn-slice_get m.insts inst i at_line

  in_inst : IsIn c i.conns
  in_inst = IsIn-slice_get i.conns conn c (slice_get-get_or i.conns conn no_conn has_conn)

  pub wired : IsConnWired s m i c
  wired = is.wired.conns i c in_module in_inst

  pub of_type : (body : Body) × (type_of s i.kind ≡ Some body) × (option_and_then (port_named c.port) (ports_in s body) ≡ Some wired.port)
  of_type = wired_type s m i c wired

  -- the port that is found
  pub placed : (symbol : ℕ) (found : Option PortPlace) → slice_get n.symbols symbol ≡ Some c.port
      → ((s : Sources) → AreSourcesOf l s → (body : Body) (p : Port) → slice_index_or (slice_index_or l.types.now number []) inst None ≡ Some body
      → option_and_then (port_named (name_at n.symbols symbol)) (ports_in s body) ≡ Some p → IsPlaced s body p found)
      → IsPlaced s of_type.0 wired.port found
  placed symbol found named says =
      let spelled : name_at n.symbols symbol ≡ c.port = get_or_from_slice_get n.symbols symbol c.port [] named in
      let kind = type_is s l.types.now number inst m i are.types_are is.there at_line ∙ of_type.1 in
      says s are of_type.0 wired.port kind (ap (λ (name : List ℕ). option_and_then (port_named name) (ports_in s of_type.0)) spelled ∙ of_type.2)

  pub linked : (k : Option ℕ) (j line : ℕ) (place : PortPlace) (old new : List LinkRow) → IsNumbered n.exprs c.expr k → k ≡ Some j → line ≡ i.line
      → IsPlaced s of_type.0 wired.port (Some place)
      → ((s : Sources) → AreSourcesOf l s → (number : ℕ) → HasOpen l number → (m : Module) → IsLinkable s number m → (i : Inst) → i.line ≡ line → (p : Port) → place.dir ≡ p.dir
      → (has : HasPortBits s m inst i p place.first) → HasFewBits s has.body → (e : Expr) → numbered_expr l.lookup.netlist j ≡ e → IsIn e (exprs_in m)
      → misselected m e ≡ [] → length (signals m e) ≡ width p.range → AddsLinks s number m (links_between m i (Some p) (Some e)) old new)
      → AddsLinks s number m (links_of_conn s m i c) old new
  linked k j line place old new numbered some on_line found says =
      let x = some_expr n.exprs c.expr k j numbered some in
      let fits = wired.fits x.0 x.1 in
      let has : HasPortBits s m inst i wired.port place.first = record { body = of_type.0; line = at_line; is_type = of_type.1; bits = found.1 } in
      let numbered_here : numbered_expr l.lookup.netlist j ≡ x.0 =
      ap (λ (o : Opened). numbered_expr o.netlist j) opened ∙ get_or_from_slice_get n.exprs j x.0 (ConstExpr 0) x.2 in
      let links : links_of_conn s m i c ≡ links_between m i (Some wired.port) (Some x.0) =
      ap (λ o. links_between m i o c.expr) wired.is_port ∙ ap (links_between m i (Some wired.port)) x.1 in
      subst (λ all. AddsLinks s number m all old new) (sym links)
      (says s are number opened m is i (sym on_line) wired.port found.0 has (is.few.children i of_type.0 in_module of_type.1) x.0 numbered_here
      (conn_expr m i c x.0 in_module in_inst x.1) fits.0 fits.1)

-- AN ASSIGNMENT of the module that is open
module _ (l : Linker) (s : Sources) (number : ℕ) (m : Module) (opened : HasOpen l number) (are : AreSourcesOf l s) (is : IsLinkable s number m) (assign : ℕ)
    (has_assign : assign < length (rows_module_at l.spellings.modules.now number).assigns) (row : AssignRow)
    (read : IsAssign l.spellings.modules.now (assign_at l.spellings.modules.now number assign) row) where
  abbrev pub a : Assign
  a = assign_at l.spellings.modules.now number assign

  in_assigns : IsIn a m.assigns
  in_assigns =
      let assigns = (rows_module_at l.spellings.modules.now number).assigns in
      subst (λ (x : Module). IsIn a x.assigns) (same_module l s number m are is.there) (IsIn-slice_get assigns assign a (slice_get-get_or assigns assign no_assign has_assign))

  left_runs : (runs : List Run) (there : Bool) → SaysRuns l row.left runs there → AreRuns s number m a.left runs there
  left_runs runs there says = runs_are l s number m row.left a.left runs there opened are is.there (open_expr l number row.left a.left opened read.left) (left_expr m a in_assigns) says

  right_runs : (runs : List Run) (there : Bool) → SaysRuns l row.right runs there → AreRuns s number m a.right runs there
  right_runs runs there says = runs_are l s number m row.right a.right runs there opened are is.there (open_expr l number row.right a.right opened read.right) (right_expr m a in_assigns) says

  pub left_there : (runs : List Run) → SaysRuns l row.left runs false → ⊥
  left_there runs says = left_runs runs false says (is.wired.assigns a in_assigns).left

  pub right_there : (runs : List Run) → SaysRuns l row.right runs false → ⊥
  right_there runs says = right_runs runs false says (is.wired.assigns a in_assigns).right

  pub sides_linked : (left right : List Run) (old new : List LinkRow) → SaysRuns l row.left left true → SaysRuns l row.right right true
      → (AreFewOwn (runs_bits left) → AreFew (runs_bits right) → locals new ≡ locals old ++ locals_of_sides row.line (runs_bits left) (runs_bits right))
      → AddsLinks s number m (links_of_assign m a) old new
  sides_linked left right old new says_left says_right put =
      assigned s number m a row.line (runs_bits left) (runs_bits right) old new is.few.own (is.read.no_constant a in_assigns) read.line (left_runs left true says_left).1
      (right_runs right true says_right).1 put
