-- Rows that grow stand for what they stood for.
use Rattle.std.proofs.Common.{◌≡◌, ℕ, suc, ◌-◌, ◌≤◌, List, [], ◌∷◌, ◌++◌, length, get_or, map, take, drop, refl, sym, ap, ◌∙◌, arith}
use Rattle.std.specs.Prelude.{Option}
use Rattle.std.specs.List.{All, slice_range}
use Rattle.std.proofs.lemmas.List.{drop-append-le, length-drop, length_push, map-append, take_all}
use Rattle.std.proofs.lemmas.List.Elements.{All-drop, All-take}
use Rattle.pw_defs.specs.declared.netlist.Assign.{Assign}
use Rattle.pw_defs.specs.declared.netlist.Conn.{Conn}
use Rattle.pw_defs.specs.declared.netlist.Expr.{Expr}
use Rattle.pw_defs.specs.declared.netlist.Inst.{Inst}
use Rattle.pw_defs.specs.declared.netlist.Module.{Module}
use Rattle.pw_defs.specs.declared.netlist.Net.{Net}
use Rattle.pw_defs.specs.declared.netlist.Port.{Port}
use Rattle.module_rows.specs.declared.plain.Draft.{Draft}
use Rattle.module_rows.specs.declared.tables.AssignRow.{AssignRow}
use Rattle.module_rows.specs.declared.tables.ConnRow.{ConnRow}
use Rattle.module_rows.specs.declared.tables.InstRow.{InstRow}
use Rattle.module_rows.specs.declared.tables.Marks.{Marks}
use Rattle.module_rows.specs.declared.tables.ModuleRow.{ModuleRow}
use Rattle.module_rows.specs.declared.tables.NetRow.{NetRow}
use Rattle.module_rows.specs.declared.tables.PortRow.{PortRow}
use Rattle.module_rows.specs.declared.tables.Rows.{Rows}
use Rattle.module_rows.specs.declared.tables.Terms.{Terms}
use Rattle.module_rows.specs.Growth.{Extends, Grows}
use Rattle.module_rows.specs.Sound.{AreMarks, AreRows, AreTerms, IsAssignRow, IsConnRow, IsInstRow, IsModuleRow, IsNetRow, IsPortRow}
use Rattle.module_rows.specs.View.{assign_of, conn_of, connected, draft_of, expr_at, inst_of, marks_of, module_between, module_of, name_at, net_of, port_of, titled}
use Rattle.module_rows.proofs.ExprLemmas.{grows_same}
use Rattle.module_rows.proofs.TermLemmas.{connected_kept, expr_kept, extends_length, extends_part, extends_same, name_kept}

-- lists of which each is seen as before
pub map_kept : {X Y : Type 0} (P : X → Type 0) (f g : X → Y) → ((x : X) → P x → g x ≡ f x) → (xs : List X) → All P xs → map g xs ≡ map f xs
map_kept P f g same [] all = refl
map_kept P f g same (x ∷ xs) all =
    ap (λ y. y ∷ map g xs) (same x (all 0 x (omega arith))) ∙ ap (λ ys. f x ∷ ys) (map_kept P f g same xs (λ k d within. all (suc k) d (omega arith)))

pub part_kept : {X Y : Type 0} (P : X → Type 0) (f g : X → Y) → ((x : X) → P x → g x ≡ f x) → (xs ys : List X) → Extends xs ys → All P xs
    → (first end : ℕ) → first ≤ end → end ≤ length xs → map g (slice_range ys first end) ≡ map f (slice_range xs first end)
part_kept P f g same xs ys longer all first end rises within =
    ap (map g) (extends_part xs ys first end longer rises within)
    ∙ map_kept P f g same (slice_range xs first end) (All-take P (end - first) (drop first xs) (All-drop P first xs all))

-- the part up to the end with one more
pub part_push : {X Y : Type 0} (f : X → Y) (xs : List X) (x : X) (first : ℕ) → first ≤ length xs
    → map f (slice_range (xs ++ x ∷ []) first (length (xs ++ x ∷ []))) ≡ map f (slice_range xs first (length xs)) ++ f x ∷ []
part_push f xs x first within =
    let longer = length_push xs x in
    let rest = drop first xs in
    let size = length-drop first xs in
    ap (map f) (
    ap (take (length (xs ++ x ∷ []) - first)) (drop-append-le first xs (x ∷ []) within)
    ∙ take_all (length (xs ++ x ∷ []) - first) (rest ++ x ∷ []) (omega (arith, longer, size, length_push rest x))
    ∙ ap (λ front. front ++ x ∷ []) (sym (take_all (length xs - first) rest (omega (arith, size))))
    )
    ∙ map-append f (slice_range xs first (length xs)) (x ∷ [])

-- what each row stands for, by terms that have grown
module _ (old new : Terms) (sound : AreTerms old) (grown : Grows old new) where
  pub port_kept : (row : PortRow) → IsPortRow old row → port_of new row ≡ port_of old row
  port_kept row fits =
      let F : List ℕ → Port = λ name. record { name = name; dir = row.dir; range = row.range } in
      ap F (name_kept old.symbols new.symbols grown.symbols row.name fits)

  pub net_kept : (row : NetRow) → IsNetRow old row → net_of new row ≡ net_of old row
  net_kept row fits =
      let F : List ℕ → Net = λ name. record { name = name; range = row.range } in
      ap F (name_kept old.symbols new.symbols grown.symbols row.name fits)

  pub assign_kept : (row : AssignRow) → IsAssignRow old row → assign_of new row ≡ assign_of old row
  assign_kept row fits =
      let F : Expr → Expr → Assign = λ left right. record { left = left; right = right; line = row.line } in
      ap (λ left. F left (expr_at new row.right)) (expr_kept old new grown.symbols grown.exprs sound.rows row.left fits.left)
      ∙ ap (F (expr_at old row.left)) (expr_kept old new grown.symbols grown.exprs sound.rows row.right fits.right)

  pub conn_kept : (row : ConnRow) → IsConnRow old row → conn_of new row ≡ conn_of old row
  conn_kept row fits =
      let F : List ℕ → Option Expr → Conn = λ port expr. record { port = port; expr = expr } in
      ap (λ port. F port (connected new row.expr)) (name_kept old.symbols new.symbols grown.symbols row.port fits.port)
      ∙ ap (F (name_at old.symbols row.port)) (connected_kept old new grown.symbols grown.exprs sound.rows row.expr fits.expr)

  pub inst_kept : (conns more : List ConnRow) → Extends conns more → All (IsConnRow old) conns → (row : InstRow) → IsInstRow old conns row
      → inst_of new more row ≡ inst_of old conns row
  inst_kept conns more longer all row fits =
      let F : List ℕ → List ℕ → List Conn → Inst = λ kind name cs. record { kind = kind; name = name; conns = cs; line = row.line } in
      let cs = part_kept (IsConnRow old) (conn_of old) (conn_of new) conn_kept conns more longer all row.conns_first row.conns_end fits.first fits.end in
      ap (λ kind. F kind (name_at new.symbols row.name) (map (conn_of new) (slice_range more row.conns_first row.conns_end)))
      (name_kept old.symbols new.symbols grown.symbols row.kind fits.kind)
      ∙ ap (λ name. F (name_at old.symbols row.kind) name (map (conn_of new) (slice_range more row.conns_first row.conns_end)))
      (name_kept old.symbols new.symbols grown.symbols row.name fits.name)
      ∙ ap (F (name_at old.symbols row.kind) (name_at old.symbols row.name)) cs

-- all tables may have grown
pub record Grown (r s : Rows) : Type 0 where
  pub terms : Grows r.terms s.terms
  pub conns : Extends r.conns s.conns
  pub ports : Extends r.ports s.ports
  pub nets : Extends r.nets s.nets
  pub assigns : Extends r.assigns s.assigns
  pub insts : Extends r.insts s.insts

module _ (r s : Rows) (rows : AreRows r) (grown : Grown r s) where
  pub between_kept : (first end : Marks) → AreMarks first end → AreMarks end (marks_of r) → module_between s first end ≡ module_between r first end
  between_kept first end rise within =
      let F : List Port → List Net → List Assign → List Inst → Module = λ ps ns xs is. record { name = []; ports = ps; nets = ns; assigns = xs; insts = is; line = 0 } in
      let ports = part_kept (IsPortRow r.terms) (port_of r.terms) (port_of s.terms) (port_kept r.terms s.terms rows.terms grown.terms)
      r.ports s.ports grown.ports rows.ports first.ports end.ports rise.ports within.ports in
      let nets = part_kept (IsNetRow r.terms) (net_of r.terms) (net_of s.terms) (net_kept r.terms s.terms rows.terms grown.terms)
      r.nets s.nets grown.nets rows.nets first.nets end.nets rise.nets within.nets in
      let assigns = part_kept (IsAssignRow r.terms) (assign_of r.terms) (assign_of s.terms) (assign_kept r.terms s.terms rows.terms grown.terms)
      r.assigns s.assigns grown.assigns rows.assigns first.assigns end.assigns rise.assigns within.assigns in
      let insts = part_kept (IsInstRow r.terms r.conns) (inst_of r.terms r.conns) (inst_of s.terms s.conns)
      (inst_kept r.terms s.terms rows.terms grown.terms r.conns s.conns grown.conns rows.conns)
      r.insts s.insts grown.insts rows.insts first.insts end.insts rise.insts within.insts in
      let new = module_between s first end in
      let old = module_between r first end in
      ap (λ ps. F ps new.nets new.assigns new.insts) ports ∙ ap (λ ns. F old.ports ns new.assigns new.insts) nets
      ∙ ap (λ xs. F old.ports old.nets xs new.insts) assigns ∙ ap (F old.ports old.nets old.assigns) insts

  pub module_kept : (row : ModuleRow) → IsModuleRow r row → module_of s row ≡ module_of r row
  module_kept row fits =
      ap (λ m. titled m (name_at s.terms.symbols row.name) row.line) (between_kept row.first row.end fits.first fits.end)
      ∙ ap (λ name. titled (module_between r row.first row.end) name row.line) (name_kept r.terms.symbols s.terms.symbols grown.terms.symbols row.name fits.name)

  pub modules_kept : map (module_of s) r.modules ≡ map (module_of r) r.modules
  modules_kept = map_kept (IsModuleRow r) (module_of r) (module_of s) module_kept r.modules rows.modules

marks_grow : (r : Rows) (a b : Marks) → AreMarks a b → (c : Marks) → AreMarks b c → AreMarks a c
marks_grow r a b low c high = record {
  ports = omega (arith, low.ports, high.ports);
  nets = omega (arith, low.nets, high.nets);
  assigns = omega (arith, low.assigns, high.assigns);
  insts = omega (arith, low.insts, high.insts);
}

-- more terms and connections change nothing
module _ (r : Rows) (rows : AreRows r) (terms : Terms) (grown : Grows r.terms terms) (conns : List ConnRow) (longer : Extends r.conns conns) (all : All (IsConnRow terms) conns) where
  pub deeper_rows : AreRows (record r { terms = terms; conns = conns })
  deeper_rows =
      let names = extends_length r.terms.symbols terms.symbols grown.symbols in
      let exprs = extends_length r.terms.exprs terms.exprs grown.exprs in
      let size = extends_length r.conns conns longer in
      record {
        terms = grown.sound;
        conns = all;
        ports = λ k d within. omega (arith, names, rows.ports k d within);
        nets = λ k d within. omega (arith, names, rows.nets k d within);
        assigns = λ k d within. let fits = rows.assigns k d within in record { left = omega (arith, exprs, fits.left); right = omega (arith, exprs, fits.right) };
        insts = λ k d within. let fits = rows.insts k d within in
            record { kind = omega (arith, names, fits.kind); name = omega (arith, names, fits.name); first = fits.first; end = omega (arith, size, fits.end) };
        modules = λ k d within. let fits = rows.modules k d within in record { name = omega (arith, names, fits.name); first = fits.first; end = fits.end };
        current = rows.current;
      }

  deeper : Grown r (record r { terms = terms; conns = conns })
  deeper = record { terms = grown; conns = longer; ports = extends_same r.ports; nets = extends_same r.nets; assigns = extends_same r.assigns; insts = extends_same r.insts }

  pub deeper_draft : draft_of (record r { terms = terms; conns = conns }) ≡ draft_of r
  deeper_draft =
      let s : Rows = record r { terms = terms; conns = conns } in
      let F : List Module → Module → Draft = λ modules current. record { modules = modules; current = current } in
      ap (λ ms. F ms (module_between s r.current (marks_of r))) (modules_kept r s rows deeper)
      ∙ ap (F (map (module_of r) r.modules)) (between_kept r s rows deeper r.current (marks_of r) rows.current (marks_same r))
    where
      marks_same : (r : Rows) → AreMarks (marks_of r) (marks_of r)
      marks_same r = record { ports = omega arith; nets = omega arith; assigns = omega arith; insts = omega arith }

-- more ports, wires, assignments and instances
module _ (r : Rows) (rows : AreRows r) (ports : List PortRow) (nets : List NetRow) (assigns : List AssignRow) (insts : List InstRow)
    (more_ports : Extends r.ports ports) (more_nets : Extends r.nets nets) (more_assigns : Extends r.assigns assigns) (more_insts : Extends r.insts insts) where
  abbrev pub wider : Rows
  wider = record r { ports = ports; nets = nets; assigns = assigns; insts = insts }

  widened : Grown r wider
  widened = record { terms = grows_same r.terms rows.terms; conns = extends_same r.conns; ports = more_ports; nets = more_nets; assigns = more_assigns; insts = more_insts }

  further : AreMarks (marks_of r) (marks_of wider)
  further = record {
    ports = extends_length r.ports ports more_ports;
    nets = extends_length r.nets nets more_nets;
    assigns = extends_length r.assigns assigns more_assigns;
    insts = extends_length r.insts insts more_insts;
  }

  pub wider_modules : map (module_of wider) r.modules ≡ map (module_of r) r.modules
  wider_modules = modules_kept r wider rows widened

  pub wider_rows : All (IsPortRow r.terms) ports → All (IsNetRow r.terms) nets → All (IsAssignRow r.terms) assigns → All (IsInstRow r.terms r.conns) insts → AreRows wider
  wider_rows all_ports all_nets all_assigns all_insts = record {
    terms = rows.terms;
    conns = rows.conns;
    ports = all_ports;
    nets = all_nets;
    assigns = all_assigns;
    insts = all_insts;
    modules = λ k d within. let fits = rows.modules k d within in
        record { name = fits.name; first = fits.first; end = marks_grow r (get_or r.modules k d).end (marks_of r) fits.end (marks_of wider) further };
    current = marks_grow r r.current (marks_of r) rows.current (marks_of wider) further;
  }
