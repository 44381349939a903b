-- The lines of a module one after the other.
use Rattle.std.proofs.Common.{◌≡◌, ℕ, ◌+◌, ◌-◌, ◌<◌, ◌≤◌, List, [], ◌∷◌, ◌++◌, length, get_or, map, take, drop, sym, ap, ◌∙◌, arith, append-nil}
use Rattle.std.specs.Prelude.{IfSome, Option, Some, None}
use Rattle.std.specs.Option.{option_to_list}
use Rattle.std.specs.List.{flat_map, slice_range}
use Rattle.std.proofs.lemmas.Grind.{flat_map-append}
use Rattle.std.proofs.lemmas.List.{get_or-drop, length-drop, length-take, map_push, take_more}
use Rattle.std.proofs.lemmas.Option.{get_or_from_slice_get, slice_get_within}
use Rattle.pw_defs.specs.declared.netlist.Expr.{Expr}
use Rattle.pw_defs.specs.declared.netlist.Expr.TheVariants.{Whole as WholeExpr, Bit as BitExpr, Part as PartExpr, Const as ConstExpr, Join as JoinExpr}
use Rattle.pw_defs.specs.declared.netlist.Inst.{Inst}
use Rattle.pw_defs.specs.declared.netlist.Net.{Net}
use Rattle.pw_defs.specs.declared.netlist.Port.{Port}
use Rattle.design_defs.specs.Places.{names_alone}
use Rattle.design_defs.proofs.Expressions.{names_alone_bit, names_alone_const, names_alone_join, names_alone_part, names_alone_whole}
use Rattle.module_rows.specs.declared.heads.InstHead.{InstHead}
use Rattle.module_rows.specs.declared.plain.Netlist.{Netlist}
use Rattle.module_rows.specs.declared.tables.NetRow.{NetRow as WireRow}
use Rattle.module_rows.specs.declared.tables.PortRow.{PortRow}
use Rattle.module_rows.specs.Leaves.{own_leaf}
use Rattle.module_rows.specs.Reads.{IsInst, IsNet, IsNumbered, IsPort, HasLeavesFrom, no_inst, no_net, no_port, numbered_expr}
use Rattle.module_rows.specs.View.{name_at}
use Rattle.module_rows.proofs.LeafLemmas.{own_bit, own_const, own_join, own_part, own_whole}
use Rattle.net_places.specs.Mentions.{of_expr, of_inst, of_leaf, of_port, of_ports, of_use, of_wire}
use Rattle.net_places.specs.Gathered.{mention_by, no_net as no_net_of}
use Rattle.net_places.proofs.LeafParts.{by_leaves}
use Rattle.net_places.proofs.Owning.{flat_flat, map_flat}

-- one item more
pub flat_more : {X Y : Type 0} (f : X → List Y) (xs : List X) (i : ℕ) (d : X) → i < length xs → flat_map f (take (i + 1) xs) ≡ flat_map f (take i xs) ++ f (get_or xs i d)
flat_more f xs i d within =
    let x = get_or xs i d in
    ap (flat_map f) (take_more xs i d within) ∙ flat_map-append f (take i xs) (x ∷ []) ∙ ap (λ last. flat_map f (take i xs) ++ last) (append-nil (f x))

pub part_more : {X : Type 0} (xs : List X) (a i : ℕ) (d : X) → a ≤ i → i < length xs → slice_range xs a (i + 1) ≡ slice_range xs a i ++ get_or xs i d ∷ []
part_more xs a i d rises within =
    let further : i + 1 - a ≡ i - a + 1 = omega arith in
    let at : a + (i - a) ≡ i = omega arith in
    ap (λ (n : ℕ). take n (drop a xs)) further
    ∙ take_more (drop a xs) (i - a) d (omega (arith, length-drop a xs))
    ∙ ap (λ x. take (i - a) (drop a xs) ++ x ∷ []) (get_or-drop a xs (i - a) d ∙ ap (λ (k : ℕ). get_or xs k d) at)

ports_push : (k : ℕ) (ps : List Port) (p : Port) → of_ports k (ps ++ p ∷ []) ≡ of_ports k ps ++ of_port (k + length ps) p ∷ []
ports_push k [] p = let same : k ≡ k + 0 = omega arith in ap (λ (n : ℕ). of_port n p ∷ []) same
ports_push k (q ∷ qs) p =
    let sums : k + 1 + length qs ≡ k + length (q ∷ qs) = omega arith in
    ap (λ rest. of_port k q ∷ rest) (ports_push (k + 1) qs p ∙ ap (λ (n : ℕ). of_ports (k + 1) qs ++ of_port n p ∷ []) sums)

pub ports_next : (k : ℕ) (ps : List Port) (i : ℕ) (d : Port) → i < length ps → of_ports k (take (i + 1) ps) ≡ of_ports k (take i ps) ++ of_port (k + i) (get_or ps i d) ∷ []
ports_next k ps i d within =
    let count : k + length (take i ps) ≡ k + i = omega (arith, length-take i ps) in
    ap (of_ports k) (take_more ps i d within) ∙ ports_push k (take i ps) (get_or ps i d)
    ∙ ap (λ (n : ℕ). of_ports k (take i ps) ++ of_port n (get_or ps i d) ∷ []) count

-- what is read is what stands there
pub port_more : (n : Netlist) (ps : List Port) (i : ℕ) (row : PortRow) → i < length ps → IsPort n (get_or ps i no_port) row
    → of_ports 0 (take (i + 1) ps) ≡ of_ports 0 (take i ps) ++ mention_by n.symbols (record { name = row.name; range = row.range; port = Some i; first = 0 }) ∷ []
port_more n ps i row within is =
    let p = get_or ps i no_port in
    let spelled : p.name ≡ name_at n.symbols row.name = sym (get_or_from_slice_get n.symbols row.name p.name [] is.name) in
    let zero_on : 0 + i ≡ i = omega arith in
    ports_next 0 ps i no_port within
    ∙ ap (λ (k : ℕ). of_ports 0 (take i ps) ++ of_port k p ∷ []) zero_on
    ∙ ap (λ (name : List ℕ). of_ports 0 (take i ps) ++ record { name = name; net = Some (record { name = name; range = p.range; port = Some i }) } ∷ []) spelled
    ∙ ap (λ (range : Option (ℕ × ℕ)). of_ports 0 (take i ps) ++ record { name = name_at n.symbols row.name; net = Some (record { name = name_at n.symbols row.name; range = range; port = Some i }) } ∷ []) (sym is.range)

pub wire_more : (n : Netlist) (ws : List Net) (i : ℕ) (row : WireRow) → i < length ws → IsNet n (get_or ws i no_net) row
    → map of_wire (take (i + 1) ws) ≡ map of_wire (take i ws) ++ mention_by n.symbols (record { name = row.name; range = row.range; port = None; first = 0 }) ∷ []
wire_more n ws i row within is =
    let w = get_or ws i no_net in
    let spelled : w.name ≡ name_at n.symbols row.name = sym (get_or_from_slice_get n.symbols row.name w.name [] is.name) in
    ap (map of_wire) (take_more ws i no_net within) ∙ map_push of_wire (take i ws) w
    ∙ ap (λ (name : List ℕ). map of_wire (take i ws) ++ record { name = name; net = Some (record { name = name; range = w.range; port = None }) } ∷ []) spelled
    ∙ ap (λ (range : Option (ℕ × ℕ)). map of_wire (take i ws) ++ record { name = name_at n.symbols row.name; net = Some (record { name = name_at n.symbols row.name; range = range; port = None }) } ∷ []) (sym is.range)

pub inst_next : (n : Netlist) (insts : List Inst) (i : ℕ) (head : InstHead) → i < length insts → IsInst n (get_or insts i no_inst) head
    → map of_inst (take (i + 1) insts) ≡ map of_inst (take i insts) ++ no_net_of n.symbols head.name ∷ []
inst_next n insts i head within is =
    let x = get_or insts i no_inst in
    let spelled : x.name ≡ name_at n.symbols head.name = sym (get_or_from_slice_get n.symbols head.name x.name [] is.name) in
    ap (map of_inst) (take_more insts i no_inst within) ∙ map_push of_inst (take i insts) x
    ∙ ap (λ (name : List ℕ). map of_inst (take i insts) ++ record { name = name; net = None } ∷ []) spelled

-- names and constants
leaf_is : (e : Expr) → own_leaf e ≡ e ∷ [] → of_leaf e ≡ of_expr e
leaf_is e own = ap (flat_map of_expr) own ∙ append-nil (of_expr e)

pub leaf_whole : (name : List ℕ) → of_leaf (WholeExpr name) ≡ of_use name ∷ []
leaf_whole name = leaf_is (WholeExpr name) (own_whole name) ∙ ap (map of_use) (names_alone_whole name)

pub leaf_bit : (name : List ℕ) (index : ℕ) → of_leaf (BitExpr name index) ≡ []
leaf_bit name index = leaf_is (BitExpr name index) (own_bit name index) ∙ ap (map of_use) (names_alone_bit name index)

pub leaf_part : (name : List ℕ) (left right : ℕ) → of_leaf (PartExpr name left right) ≡ []
leaf_part name left right = leaf_is (PartExpr name left right) (own_part name left right) ∙ ap (map of_use) (names_alone_part name left right)

pub leaf_const : (count : ℕ) → of_leaf (ConstExpr count) ≡ []
leaf_const count = leaf_is (ConstExpr count) (own_const count) ∙ ap (map of_use) (names_alone_const count)

pub leaf_join : (parts : List Expr) → of_leaf (JoinExpr parts) ≡ []
leaf_join parts = ap (flat_map of_expr) (own_join parts)

-- the names and constants of an expression are all that stands alone in it
expr_joins : (parts : List Expr) → of_expr (JoinExpr parts) ≡ flat_map of_expr parts
expr_joins parts = ap (map of_use) (names_alone_join parts) ∙ sym (map_flat of_use names_alone parts)

pub all_leaves : (n : Netlist) (k first : ℕ) → HasLeavesFrom n k first → flat_map of_leaf (slice_range n.exprs first (k + 1)) ≡ of_expr (numbered_expr n k)
all_leaves n k first has =
    flat_flat of_expr own_leaf (slice_range n.exprs first (k + 1)) ∙ ap (flat_map of_expr) (sym has.same)
    ∙ sym (by_leaves of_expr expr_joins (numbered_expr n k))

pub leaves_more : (n : Netlist) (first i : ℕ) → first ≤ i → i < length n.exprs
    → flat_map of_leaf (slice_range n.exprs first (i + 1)) ≡ flat_map of_leaf (slice_range n.exprs first i) ++ of_leaf (numbered_expr n i)
leaves_more n first i rises within =
    let front = slice_range n.exprs first i in
    let e = numbered_expr n i in
    ap (flat_map of_leaf) (part_more n.exprs first i (ConstExpr 0) rises within) ∙ flat_map-append of_leaf front (e ∷ [])
    ∙ ap (λ last. flat_map of_leaf front ++ last) (append-nil (of_leaf e))

pub empty_part : {X : Type 0} (xs : List X) (a : ℕ) → slice_range xs a a ≡ []
empty_part xs a = let none : a - a ≡ 0 = omega arith in ap (λ (n : ℕ). take n (drop a xs)) none

-- the number of an expression that is there is one of those that there are
pub numbered_within : (exprs : List Expr) (e : Option Expr) (n : Option ℕ) → IsNumbered exprs e n → IfSome n (λ k. k < length exprs)
numbered_within exprs None None is = tt
numbered_within exprs (Some e) (Some n) is = slice_get_within exprs n e is
numbered_within exprs None (Some n) is = absurd is
numbered_within exprs (Some e) None is = absurd is

pub expr_connected : (exprs : List Expr) (e : Option Expr) (k : ℕ) → IsNumbered exprs e (Some k) → of_expr (get_or exprs k (ConstExpr 0)) ≡ flat_map of_expr (option_to_list e)
expr_connected exprs None k is = absurd is
expr_connected exprs (Some e) k is = ap of_expr (get_or_from_slice_get exprs k e (ConstExpr 0) is) ∙ sym (append-nil (of_expr e))
