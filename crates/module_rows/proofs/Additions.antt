-- What is added to the module that is open.
use Rattle.std.proofs.Common.{◌≡◌, ℕ, ◌-◌, ◌<◌, List, [], ◌∷◌, ◌++◌, length, map, take, drop, refl, sym, ap, ◌∙◌, arith}
use Rattle.std.specs.Prelude.{Err, Ok, OnErr, Result}
use Rattle.std.specs.List.{All, slice_range}
use Rattle.std.proofs.lemmas.List.{drop-append-le, drop_at, map-append, take_rest}
use Rattle.std.proofs.lemmas.List.Elements.{All-drop, All-push}
use Rattle.pw_defs.specs.declared.netlist.Assign.{Assign}
use Rattle.pw_defs.specs.declared.netlist.Conn.{Conn}
use Rattle.pw_defs.specs.declared.netlist.Inst.{Inst}
use Rattle.pw_defs.specs.declared.netlist.Module.{Module}
use Rattle.pw_defs.specs.declared.netlist.Net.{Net}
use Rattle.pw_defs.specs.declared.netlist.Port.{Port}
use Rattle.module_rows.specs.declared.plain.Draft.{Draft}
use Rattle.module_rows.specs.declared.tables.AssignRow.{AssignRow}
use Rattle.module_rows.specs.declared.tables.ConnRow.{ConnRow}
use Rattle.module_rows.specs.declared.tables.InstRow.{InstRow}
use Rattle.module_rows.specs.declared.tables.ModuleRow.{ModuleRow}
use Rattle.module_rows.specs.declared.tables.NetRow.{NetRow}
use Rattle.module_rows.specs.declared.tables.PortRow.{PortRow}
use Rattle.module_rows.specs.declared.tables.Rows.{Rows}
use Rattle.module_rows.specs.declared.tables.Terms.{Terms}
use Rattle.module_rows.specs.Growth.{Extends, Grows, HasConns, no_module, with_assign, with_inst, with_module, with_net, with_port}
use Rattle.module_rows.specs.Sound.{AreMarks, AreRows, AreTerms, IsAssignRow, IsConnRow, IsInstRow, IsModuleRow, IsNetRow, IsPortRow}
use Rattle.module_rows.specs.View.{assign_of, conn_of, draft_of, inst_of, marks_of, module_between, module_of, name_at, net_of, port_of}
use Rattle.module_rows.proofs.ExprLemmas.{grows_same, grows_trans}
use Rattle.module_rows.proofs.RowLemmas.{conn_kept, deeper_draft, deeper_rows, map_kept, part_push, wider_modules, wider_rows}
use Rattle.module_rows.proofs.TermLemmas.{extends_length, extends_same, extends_trans}

-- the rows are sound, and stand for the draft
pub record Are (r : Rows) (d : Draft) : Type 0 where
  pub rows : AreRows r
  pub draft : draft_of r ≡ d

abbrev draft : List Module → Module → Draft
draft modules current = record { modules = modules; current = current }

pub conns_kept : (r : Rows) (t : Terms) → AreRows r → Grows r.terms t → All (IsConnRow t) r.conns
conns_kept r t rows grown = λ k d within.
    let fits = rows.conns k d within in
    record {
      port = omega (arith, extends_length r.terms.symbols t.symbols grown.symbols, fits.port);
      expr = omega (arith, extends_length r.terms.exprs t.exprs grown.exprs, fits.expr);
    }

-- more terms
pub terms_added : (r : Rows) (t : Terms) → AreRows r → Grows r.terms t → Are (record r { terms = t }) (draft_of r)
terms_added r t rows grown = record {
  rows = deeper_rows r rows t grown r.conns (extends_same r.conns) (conns_kept r t rows grown);
  draft = deeper_draft r rows t grown r.conns (extends_same r.conns) (conns_kept r t rows grown);
}

-- one port more
pub port_pushed : (r : Rows) (d : Draft) (row : PortRow) → Are r d → IsPortRow r.terms row
    → Are (record r { ports = r.ports ++ row ∷ [] }) (with_port d (port_of r.terms row))
port_pushed r d row are fits =
    let s : Rows = record r { ports = r.ports ++ row ∷ [] } in
    let rows = are.rows in
    let more : Extends r.ports (r.ports ++ row ∷ []) = (row ∷ [], refl) in
    let modules = wider_modules r rows (r.ports ++ row ∷ []) r.nets r.assigns r.insts more (extends_same r.nets) (extends_same r.assigns) (extends_same r.insts) in
    let now = module_between r r.current (marks_of r) in
    let F : List Port → Module = λ ports. record now { ports = ports } in
    record {
      rows = wider_rows r rows (r.ports ++ row ∷ []) r.nets r.assigns r.insts more (extends_same r.nets) (extends_same r.assigns) (extends_same r.insts)
          (All-push (IsPortRow r.terms) r.ports row rows.ports fits) rows.nets rows.assigns rows.insts;
      draft = ap (λ ms. draft ms (module_between s s.current (marks_of s))) modules
          ∙ ap (λ ports. draft (map (module_of r) r.modules) (F ports)) (part_push (port_of r.terms) r.ports row r.current.ports rows.current.ports)
          ∙ ap (λ old. with_port old (port_of r.terms row)) are.draft;
    }

-- one wire more
pub net_pushed : (r : Rows) (d : Draft) (row : NetRow) → Are r d → IsNetRow r.terms row
    → Are (record r { nets = r.nets ++ row ∷ [] }) (with_net d (net_of r.terms row))
net_pushed r d row are fits =
    let s : Rows = record r { nets = r.nets ++ row ∷ [] } in
    let rows = are.rows in
    let more : Extends r.nets (r.nets ++ row ∷ []) = (row ∷ [], refl) in
    let modules = wider_modules r rows r.ports (r.nets ++ row ∷ []) r.assigns r.insts (extends_same r.ports) more (extends_same r.assigns) (extends_same r.insts) in
    let now = module_between r r.current (marks_of r) in
    let F : List Net → Module = λ nets. record now { nets = nets } in
    record {
      rows = wider_rows r rows r.ports (r.nets ++ row ∷ []) r.assigns r.insts (extends_same r.ports) more (extends_same r.assigns) (extends_same r.insts)
          rows.ports (All-push (IsNetRow r.terms) r.nets row rows.nets fits) rows.assigns rows.insts;
      draft = ap (λ ms. draft ms (module_between s s.current (marks_of s))) modules
          ∙ ap (λ nets. draft (map (module_of r) r.modules) (F nets)) (part_push (net_of r.terms) r.nets row r.current.nets rows.current.nets)
          ∙ ap (λ old. with_net old (net_of r.terms row)) are.draft;
    }

-- one assignment more
pub assign_pushed : (r : Rows) (d : Draft) (row : AssignRow) → Are r d → IsAssignRow r.terms row
    → Are (record r { assigns = r.assigns ++ row ∷ [] }) (with_assign d (assign_of r.terms row))
assign_pushed r d row are fits =
    let s : Rows = record r { assigns = r.assigns ++ row ∷ [] } in
    let rows = are.rows in
    let more : Extends r.assigns (r.assigns ++ row ∷ []) = (row ∷ [], refl) in
    let modules = wider_modules r rows r.ports r.nets (r.assigns ++ row ∷ []) r.insts (extends_same r.ports) (extends_same r.nets) more (extends_same r.insts) in
    let now = module_between r r.current (marks_of r) in
    let F : List Assign → Module = λ assigns. record now { assigns = assigns } in
    record {
      rows = wider_rows r rows r.ports r.nets (r.assigns ++ row ∷ []) r.insts (extends_same r.ports) (extends_same r.nets) more (extends_same r.insts)
          rows.ports rows.nets (All-push (IsAssignRow r.terms) r.assigns row rows.assigns fits) rows.insts;
      draft = ap (λ ms. draft ms (module_between s s.current (marks_of s))) modules
          ∙ ap (λ assigns. draft (map (module_of r) r.modules) (F assigns)) (part_push (assign_of r.terms) r.assigns row r.current.assigns rows.current.assigns)
          ∙ ap (λ old. with_assign old (assign_of r.terms row)) are.draft;
    }

-- one instance more
pub inst_pushed : (r : Rows) (d : Draft) (row : InstRow) → Are r d → IsInstRow r.terms r.conns row
    → Are (record r { insts = r.insts ++ row ∷ [] }) (with_inst d (inst_of r.terms r.conns row))
inst_pushed r d row are fits =
    let s : Rows = record r { insts = r.insts ++ row ∷ [] } in
    let rows = are.rows in
    let more : Extends r.insts (r.insts ++ row ∷ []) = (row ∷ [], refl) in
    let modules = wider_modules r rows r.ports r.nets r.assigns (r.insts ++ row ∷ []) (extends_same r.ports) (extends_same r.nets) (extends_same r.assigns) more in
    let now = module_between r r.current (marks_of r) in
    let F : List Inst → Module = λ insts. record now { insts = insts } in
    record {
      rows = wider_rows r rows r.ports r.nets r.assigns (r.insts ++ row ∷ []) (extends_same r.ports) (extends_same r.nets) (extends_same r.assigns) more
          rows.ports rows.nets rows.assigns (All-push (IsInstRow r.terms r.conns) r.insts row rows.insts fits);
      draft = ap (λ ms. draft ms (module_between s s.current (marks_of s))) modules
          ∙ ap (λ insts. draft (map (module_of r) r.modules) (F insts)) (part_push (inst_of r.terms r.conns) r.insts row r.current.insts rows.current.insts)
          ∙ ap (λ old. with_inst old (inst_of r.terms r.conns row)) are.draft;
    }

-- what holds, holds of an error
pub on_err : {X E : Type 0} (r : Result X E) (A : Type 0) → A → OnErr r A
on_err (Ok x) A a = tt
on_err (Err e) A a = a

-- connections that were there can still be read
pub conn_rows_kept : (old new : Terms) (conns : List ConnRow) → Grows old new → All (IsConnRow old) conns → All (IsConnRow new) conns
conn_rows_kept old new conns grown all = λ k d within.
    let fits = all k d within in
    record {
      port = omega (arith, extends_length old.symbols new.symbols grown.symbols, fits.port);
      expr = omega (arith, extends_length old.exprs new.exprs grown.exprs, fits.expr);
    }

pub conns_same : (t : Terms) (conns : List ConnRow) → AreTerms t → All (IsConnRow t) conns → HasConns t conns t conns
conns_same t conns sound all = record { grown = grows_same t sound; more = extends_same conns; rows = all }

pub conns_trans : (a : Terms) (xs : List ConnRow) (b : Terms) (ys : List ConnRow) (c : Terms) (zs : List ConnRow)
    → HasConns a xs b ys → HasConns b ys c zs → HasConns a xs c zs
conns_trans a xs b ys c zs first second = record {
  grown = grows_trans a b c first.grown second.grown;
  more = extends_trans xs ys zs first.more second.more;
  rows = second.rows;
}

-- what was added in two steps
pub conns_step : (a : Terms) (xs : List ConnRow) (b : Terms) (ys : List ConnRow) (c : Terms) (zs : List ConnRow) (front back : List Conn)
    → HasConns a xs b ys → HasConns b ys c zs → map (conn_of b) (drop (length xs) ys) ≡ front → map (conn_of c) (drop (length ys) zs) ≡ back
    → map (conn_of c) (drop (length xs) zs) ≡ front ++ back
conns_step a xs b ys c zs front back first second early late =
    let more = second.more.0 in
    let last : drop (length ys) zs ≡ more = ap (drop (length ys)) second.more.1 ∙ drop_at ys more (length ys) refl in
    let kept = map_kept (IsConnRow b) (conn_of b) (conn_of c) (conn_kept b c first.grown.sound second.grown) (drop (length xs) ys)
    (All-drop (IsConnRow b) (length xs) ys first.rows) in
    ap (λ all. map (conn_of c) (drop (length xs) all)) second.more.1
    ∙ ap (map (conn_of c)) (drop-append-le (length xs) ys more (extends_length xs ys first.more))
    ∙ map-append (conn_of c) (drop (length xs) ys) more
    ∙ ap (λ conns. conns ++ map (conn_of c) more) (kept ∙ early)
    ∙ ap (λ conns. front ++ conns) (ap (map (conn_of c)) (sym last) ∙ late)

-- more terms and connections
pub conns_added : (r : Rows) (t : Terms) (conns : List ConnRow) → AreRows r → HasConns r.terms r.conns t conns
    → Are (record r { terms = t; conns = conns }) (draft_of r)
conns_added r t conns rows has = record {
  rows = deeper_rows r rows t has.grown conns has.more has.rows;
  draft = deeper_draft r rows t has.grown conns has.more has.rows;
}

-- the instance that a row stands for
pub inst_is : (t : Terms) (conns : List ConnRow) (row : InstRow) (kind name : List ℕ) (cs : List Conn)
    → name_at t.symbols row.kind ≡ kind → name_at t.symbols row.name ≡ name → row.conns_end ≡ length conns
    → map (conn_of t) (drop row.conns_first conns) ≡ cs → inst_of t conns row ≡ record { kind = kind; name = name; conns = cs; line = row.line }
inst_is t conns row kind name cs kinds names ends all =
    let F : List ℕ → List ℕ → List Conn → Inst = λ k n xs. record { kind = k; name = n; conns = xs; line = row.line } in
    let part = map (conn_of t) (slice_range conns row.conns_first row.conns_end) in
    let whole : part ≡ cs =
    ap (λ end. map (conn_of t) (slice_range conns row.conns_first end)) ends ∙ ap (map (conn_of t)) (take_rest conns row.conns_first) ∙ all in
    ap (λ k. F k (name_at t.symbols row.name) part) kinds ∙ ap (λ n. F kind n part) names ∙ ap (F kind name) whole

empty_part : {X Y : Type 0} (f : X → Y) (xs : List X) (n : ℕ) → map f (slice_range xs n n) ≡ []
empty_part f xs n = let none : n - n ≡ 0 = omega arith in ap (λ k. map f (take k (drop n xs))) none

nothing_open : (r : Rows) → module_between r (marks_of r) (marks_of r) ≡ no_module
nothing_open r =
    let F : List Port → List Net → List Assign → List Inst → Module = λ ps ns xs is. record { name = []; ports = ps; nets = ns; assigns = xs; insts = is; line = 0 } in
    let m = module_between r (marks_of r) (marks_of r) in
    ap (λ ps. F ps m.nets m.assigns m.insts) (empty_part (port_of r.terms) r.ports (length r.ports))
    ∙ ap (λ ns. F [] ns m.assigns m.insts) (empty_part (net_of r.terms) r.nets (length r.nets))
    ∙ ap (λ xs. F [] [] xs m.insts) (empty_part (assign_of r.terms) r.assigns (length r.assigns))
    ∙ ap (F [] [] []) (empty_part (inst_of r.terms r.conns) r.insts (length r.insts))

-- one module more, and a new one that is open
module _ (r : Rows) (d : Draft) (are : Are r d) (name line : ℕ) (there : name < length r.terms.symbols) where
  abbrev pub ended_row : ModuleRow
  ended_row = record { name = name; line = line; first = r.current; end = marks_of r }

  abbrev pub ended : Rows
  ended = record r { modules = r.modules ++ ended_row ∷ []; current = marks_of r }

  same_marks : AreMarks (marks_of r) (marks_of r)
  same_marks = record { ports = omega arith; nets = omega arith; assigns = omega arith; insts = omega arith }

  ended_rows : AreRows ended
  ended_rows = record {
    terms = are.rows.terms;
    conns = are.rows.conns;
    ports = are.rows.ports;
    nets = are.rows.nets;
    assigns = are.rows.assigns;
    insts = are.rows.insts;
    modules = All-push (IsModuleRow ended) r.modules ended_row
        (λ k d within. let fits = are.rows.modules k d within in record { name = fits.name; first = fits.first; end = fits.end })
        (record { name = there; first = are.rows.current; end = same_marks });
    current = same_marks;
  }

  pub module_ended : Are ended (with_module d (name_at r.terms.symbols name) line)
  module_ended = record {
    rows = ended_rows;
    draft = ap (λ ms. draft ms (module_between r (marks_of r) (marks_of r))) (map-append (module_of r) r.modules (ended_row ∷ []))
        ∙ ap (draft (map (module_of r) r.modules ++ module_of r ended_row ∷ [])) (nothing_open r)
        ∙ ap (λ old. with_module old (name_at r.terms.symbols name) line) are.draft;
  }

-- names before connections
pub names_then_conns : (r : Rows) (a b t : Terms) (conns : List ConnRow) → Grows r.terms a → Grows a b → HasConns b r.conns t conns → HasConns r.terms r.conns t conns
names_then_conns r a b t conns first second third = record {
  grown = grows_trans r.terms b t (grows_trans r.terms a b first second) third.grown;
  more = third.more;
  rows = third.rows;
}
