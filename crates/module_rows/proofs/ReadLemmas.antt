-- Rows that are read by number.
use Rattle.std.proofs.Common.{◌≡◌, ℕ, suc, ◌+◌, ◌-◌, ◌<◌, ◌≤◌, List, [], length, get_or, map, drop, refl, sym, ap, ◌∙◌, subst, arith}
use Rattle.std.specs.Prelude.{MatchOption, Option, Some, None, slice_get}
use Rattle.std.specs.List.{All, range_with_len, slice_range}
use Rattle.std.proofs.lemmas.List.{get_or-drop, get_or-map, get_or-take, length-drop, length-map, length-take}
use Rattle.std.proofs.lemmas.List.FromFn.{get_or-map-range_with_len, length-map-range_with_len}
use Rattle.std.proofs.lemmas.Option.{get_or_from_slice_get, slice_get-get_or, slice_get_within}
use Rattle.pw_defs.specs.declared.netlist.Expr.TheVariants.{Const as ConstExpr}
use Rattle.pw_defs.specs.declared.netlist.Assign.{Assign}
use Rattle.pw_defs.specs.declared.netlist.Conn.{Conn}
use Rattle.pw_defs.specs.declared.netlist.Inst.{Inst}
use Rattle.pw_defs.specs.declared.netlist.Module.{Module}
use Rattle.pw_defs.specs.declared.netlist.Port.{Port}
use Rattle.module_rows.specs.declared.heads.ConnHead.{ConnHead}
use Rattle.module_rows.specs.declared.tables.AssignRow.{AssignRow}
use Rattle.module_rows.specs.declared.tables.ConnRow.{ConnRow}
use Rattle.module_rows.specs.declared.tables.InstRow.{InstRow}
use Rattle.module_rows.specs.declared.tables.ModuleRow.{ModuleRow}
use Rattle.module_rows.specs.declared.tables.PortRow.{PortRow}
use Rattle.module_rows.specs.declared.tables.Rows.{Rows}
use Rattle.module_rows.specs.declared.tables.Terms.{Terms}
use Rattle.module_rows.specs.Reads.{no_assign, no_conn, no_port, IsAssign, IsConn, IsNumbered, IsPort}
use Rattle.module_rows.specs.Sound.{AreRows, IsAssignRow, IsConnRow, IsInstRow, IsModuleRow, IsPortRow}
use Rattle.module_rows.specs.View.{assign_of, conn_of, connected, expr_at, inst_of, module_of, netlist_of, port_of}

-- a part of a list
pub part_length : {X Y : Type 0} (f : X → Y) (xs : List X) (a b : ℕ) → b ≤ length xs → length (map f (slice_range xs a b)) ≡ b - a
part_length f xs a b within =
    length-map (slice_range xs a b) f ∙ omega (arith, length-take (b - a) (drop a xs), length-drop a xs)

pub part_within : {X Y : Type 0} (f : X → Y) (xs : List X) (a b i : ℕ) → b ≤ length xs → i < length (map f (slice_range xs a b)) → a + i < b
part_within f xs a b i within there = omega (arith, there, part_length f xs a b within)

pub part_at : {X Y : Type 0} (f : X → Y) (xs : List X) (a b i : ℕ) (x : X) (e : Y) → b ≤ length xs
    → i < length (map f (slice_range xs a b)) → slice_get xs (a + i) ≡ Some x → get_or (map f (slice_range xs a b)) i e ≡ f x
part_at f xs a b i x e within there is =
    let part = slice_range xs a b in
    get_or-map f part i x e (omega (arith, there, length-map part f))
    ∙ ap f (get_or-take (b - a) (drop a xs) i x (omega (arith, there, part_length f xs a b within)) ∙ get_or-drop a xs i x ∙ get_or_from_slice_get xs (a + i) x x is)

-- what holds of each holds of what is read
pub read_fits : {X : Type 0} (P : X → Type 0) (xs : List X) (i : ℕ) (x : X) → All P xs → slice_get xs i ≡ Some x → P x
read_fits P xs i x all is = subst P (get_or_from_slice_get xs i x x is) (all i x (slice_get_within xs i x is))

-- the expressions by their numbers
pub expr_numbered : (t : Terms) (n : ℕ) → n < length t.exprs → slice_get (map (expr_at t) (range_with_len 0 (length t.exprs))) n ≡ Some (expr_at t n)
expr_numbered t n there =
    let exprs = map (expr_at t) (range_with_len 0 (length t.exprs)) in
    slice_get-get_or exprs n (ConstExpr 0) (omega (arith, there, length-map-range_with_len (expr_at t) 0 (length t.exprs)))
    ∙ ap Some (get_or-map-range_with_len (expr_at t) 0 (length t.exprs) n n (ConstExpr 0) there (omega arith))

-- what is read by rows is what they stand for
pub port_read : (r : Rows) → AreRows r → (row : ModuleRow) → IsModuleRow r row → (m : Module) → m ≡ module_of r row → (i : ℕ) (port : PortRow)
    → i < length m.ports → slice_get r.ports (row.first.ports + i) ≡ Some port → IsPort (netlist_of r) (get_or m.ports i no_port) port
port_read r rows row fits m is i port within there =
    let P : Port → Type 0 = λ p. IsPort (netlist_of r) p port in
    let Q : Module → Type 0 = λ m. i < length m.ports in
    let named = slice_get-get_or r.terms.symbols port.name [] (read_fits (IsPortRow r.terms) r.ports (row.first.ports + i) port rows.ports there) in
    let same = ap (λ m. get_or m.ports i no_port) is
    ∙ part_at (port_of r.terms) r.ports row.first.ports row.end.ports i port no_port fits.end.ports (subst Q is within) there in
    subst P (sym same) (record { name = named; dir = refl; range = refl })

pub assign_read : (r : Rows) → AreRows r → (row : ModuleRow) → IsModuleRow r row → (m : Module) → m ≡ module_of r row → (i : ℕ) (assign : AssignRow)
    → i < length m.assigns → slice_get r.assigns (row.first.assigns + i) ≡ Some assign
    → IsAssign (netlist_of r) (get_or m.assigns i no_assign) assign
assign_read r rows row fits m is i assign within there =
    let P : Assign → Type 0 = λ a. IsAssign (netlist_of r) a assign in
    let Q : Module → Type 0 = λ m. i < length m.assigns in
    let numbers = read_fits (IsAssignRow r.terms) r.assigns (row.first.assigns + i) assign rows.assigns there in
    let same = ap (λ m. get_or m.assigns i no_assign) is
    ∙ part_at (assign_of r.terms) r.assigns row.first.assigns row.end.assigns i assign no_assign fits.end.assigns (subst Q is within) there in
    subst P (sym same) (
    record { left = expr_numbered r.terms assign.left numbers.left; right = expr_numbered r.terms assign.right numbers.right; line = refl }
    )

-- the number of the expression of a connection
number_read : (t : Terms) (n : ℕ) (o : Option ℕ) → n ≤ length t.exprs → MatchOption o (n ≡ 0) (λ k. k + 1 ≡ n)
    → IsNumbered (map (expr_at t) (range_with_len 0 (length t.exprs))) (connected t n) o
number_read t n None within is =
    let P : ℕ → Type 0 = λ n. IsNumbered (map (expr_at t) (range_with_len 0 (length t.exprs))) (connected t n) None in
    subst P (sym is) tt
number_read t n (Some k) within is =
    let P : ℕ → Type 0 = λ n. IsNumbered (map (expr_at t) (range_with_len 0 (length t.exprs))) (connected t n) (Some k) in
    let more : suc k ≡ n = omega (arith, is) in
    subst P more (expr_numbered t k (omega (arith, is, within)))

pub conn_read : (r : Rows) → AreRows r → (row : InstRow) → IsInstRow r.terms r.conns row → (m : Inst) → m ≡ inst_of r.terms r.conns row
    → (i : ℕ) (conn : ConnRow) → i < length m.conns → slice_get r.conns (row.conns_first + i) ≡ Some conn
    → (o : Option ℕ) → MatchOption o (conn.expr ≡ 0) (λ k. k + 1 ≡ conn.expr)
    → IsConn (netlist_of r) (get_or m.conns i no_conn) (record { port = conn.port; expr = o })
conn_read r rows row fits m is i conn within there o number =
    let head : ConnHead = record { port = conn.port; expr = o } in
    let P : Conn → Type 0 = λ c. IsConn (netlist_of r) c head in
    let Q : Inst → Type 0 = λ m. i < length m.conns in
    let numbers = read_fits (IsConnRow r.terms) r.conns (row.conns_first + i) conn rows.conns there in
    let same = ap (λ m. get_or m.conns i no_conn) is
    ∙ part_at (conn_of r.terms) r.conns row.conns_first row.conns_end i conn no_conn fits.end (subst Q is within) there in
    subst P (sym same) (record { port = slice_get-get_or r.terms.symbols conn.port [] numbers.port; expr = number_read r.terms conn.expr o numbers.expr number })
