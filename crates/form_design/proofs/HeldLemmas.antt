-- The instances at and below a top have parents among them, and join bits that there are.
use Rattle.std.proofs.Common.{◌≡◌, ℕ, zero, suc, ◌+◌, ◌<◌, ◌≤◌, List, [], ◌∷◌, Option, Some, None, map, length, slice_get, refl, sym, subst, arith, length-append}
use Rattle.std.specs.Prelude.{IfSome}
use Rattle.std.specs.List.{AllByRecursion, filter_map, flat_map, enumerate_from}
use Rattle.std.proofs.lemmas.Option.{slice_get_within, IfSome_then}
use Rattle.pw_defs.specs.declared.design.Body.{Body}
use Rattle.pw_defs.specs.declared.design.Body.TheVariants.{Module, Cell, Model}
use Rattle.line_forms.specs.declared.library_lines.CellLines.{CellLines}
use Rattle.line_forms.specs.declared.netlist_lines.ConnWords.{ConnWords}
use Rattle.line_forms.specs.declared.netlist_lines.InstLine.{InstLine}
use Rattle.line_forms.specs.declared.netlist_lines.ModuleLines.{ModuleLines}
use Rattle.design_defs.specs.Names.{joined}
use Rattle.list_defs.specs.Members.{same_name, place_of}
use Rattle.form_design.specs.declared.hierarchy.Held.{Held}
use Rattle.form_design.specs.Names.{Table, table_of, wire_of, port_names, nets, body_named, list_at, ports_of, bits_of}
use Rattle.form_design.specs.Hierarchy.{join_of, held_under, lines_at, held_by, top_held, children, held_below, helds}
use Rattle.form_design.specs.Sound.{IsJoin, IsHeldUnder, AreHeld}
use Rattle.form_design.proofs.ListLemmas.{if_some_map, if_some_then, if_some_both, place_in, all_weaker, all_append, all_filter_map, all_flat_map, get_left}

-- ALL INSTANCES

-- what holds of the top, of each instance in it and of each in one of these holds of all instances
pub helds_by : (t : Table) (modules : List ModuleLines) (top : ℕ) (P : Held → Type 0) → P (top_held top)
    → ((i : InstLine) → IfSome (held_under t top [] 0 i) P)
    → ((k m : ℕ) (child : Held) (i : InstLine) → slice_get (children t modules top) k ≡ Some child → child.body ≡ Module m → IfSome (held_under t m child.path (suc k) i) P)
    → AllByRecursion P (helds t modules top)
helds_by t modules top P first within below =
    let in_top : AllByRecursion P (children t modules top) = all_filter_map P (held_under t top [] 0) within (lines_at modules top) in
    let under : AllByRecursion P (flat_map (held_below t modules) (enumerate_from 1 (children t modules top))) =
    all_flat_map P (held_below t modules) 1 (children t modules top) (λ i k child is at. in_child child.body i child.path (λ m same line. subst (λ (n : ℕ). IfSome (held_under t m child.path n line) P) (sym (up i k is)) (below k m child line at same))) in
    (first, all_append P (children t modules top) (flat_map (held_below t modules) (enumerate_from 1 (children t modules top))) in_top under)
  where
    up : (i k : ℕ) → i ≡ 1 + k → i ≡ suc k
    up i k is = omega arith

    in_child : (body : Body) (i : ℕ) (path : List ℕ) → ((m : ℕ) → body ≡ Module m → (line : InstLine) → IfSome (held_under t m path i line) P) → AllByRecursion P (held_by t modules path i body)
    in_child (Module m) i path each = all_filter_map P (held_under t m path i) (each m refl) (lines_at modules m)
    in_child (Cell c) i path each = tt
    in_child (Model m) i path each = tt

-- an instance in the top stands one place behind it
pub child_at : (t : Table) (modules : List ModuleLines) (top k : ℕ) (child : Held) → slice_get (children t modules top) k ≡ Some child → slice_get (helds t modules top) (suc k) ≡ Some child
child_at t modules top k child at = get_left (children t modules top) (flat_map (held_below t modules) (enumerate_from 1 (children t modules top))) k child at

-- the ports of a module or the pins of a cell are the first of its bits
pub ports_in : (cells : List CellLines) (modules : List ModuleLines) (body : Body) → length (ports_of (table_of cells modules) body) ≤ length (bits_of (table_of cells modules) body)
ports_in cells modules (Cell c) = omega arith
ports_in cells modules (Model m) = omega arith
ports_in cells modules (Module m) = by modules m
  where
    by : (ms : List ModuleLines) (k : ℕ) → length (list_at (map port_names ms) k) ≤ length (list_at (map nets ms) k)
    by [] k = omega arith
    by (x ∷ xs) zero = omega (arith, length-append (port_names x) (filter_map wire_of x.items))
    by (x ∷ xs) (suc k) = by xs k

-- what a connection joins is there
pub join_in : (t : Table) (m : ℕ) (body : Body) (c : ConnWords) → IfSome (join_of t m body c) (λ join. (join.0 < length (ports_of t body)) × (join.1 < length (list_at t.nets m)))
join_in t m body c =
    if_some_both (λ a. a < length (ports_of t body)) (λ b. b < length (list_at t.nets m)) (λ join. (join.0 < length (ports_of t body)) × (join.1 < length (list_at t.nets m)))
    (λ a b p q. (p, q))
    (place_of (same_name c.port) (ports_of t body))
    _
    (place_in (same_name c.port) (ports_of t body))
    (if_some_then (λ b. b < length (list_at t.nets m)) (λ net. place_of (same_name net) (list_at t.nets m)) (λ net. place_in (same_name net) (list_at t.nets m)) c.net)

-- what a connection of an instance joins is a bit of it and one of its parent
join_is : (cells : List CellLines) (modules : List ModuleLines) (m : ℕ) (h parent : Held) → parent.body ≡ Module m
    → (c : ConnWords) → IfSome (join_of (table_of cells modules) m h.body c) (IsJoin (table_of cells modules) h parent)
join_is cells modules m h parent is c =
    let t : Table = table_of cells modules in
    IfSome_then (join_of t m h.body c) {P = λ (join : ℕ × ℕ). (join.0 < length (ports_of t h.body)) × (join.1 < length (list_at t.nets m))} {Q = IsJoin t h parent}
    (join_in t m h.body c)
    (λ join p. record {
      inner = omega (arith, ports_in cells modules h.body, p.0);
      outer = subst (λ (b : Body). join.1 < length (bits_of t b)) (sym is) p.1;
    })

-- each instance of a module joins bits that there are
under_held : (cells : List CellLines) (modules : List ModuleLines) (hs : List Held) (m p : ℕ) (path : List ℕ) (parent : Held) → slice_get hs p ≡ Some parent → parent.body ≡ Module m
    → (i : InstLine) → IfSome (held_under (table_of cells modules) m path p i) (λ h. IsHeldUnder (table_of cells modules) hs h h.parent)
under_held cells modules hs m p path parent at is i =
    let t : Table = table_of cells modules in
    if_some_map (λ h. IsHeldUnder t hs h h.parent)
    (λ body. record { path = joined path i.name; parent = Some p; body = body; joins = filter_map (join_of t m body) i.conns })
    (λ body.
    let h : Held = record { path = joined path i.name; parent = Some p; body = body; joins = filter_map (join_of t m body) i.conns } in
    (parent, at, all_filter_map (IsJoin t h parent) (join_of t m body) (join_is cells modules m h parent is) i.conns))
    (body_named t i.kind)

pub helds_held : (cells : List CellLines) (modules : List ModuleLines) (top : ℕ) → AreHeld (table_of cells modules) (helds (table_of cells modules) modules top)
helds_held cells modules top =
    helds_by (table_of cells modules) modules top (λ h. IsHeldUnder (table_of cells modules) (helds (table_of cells modules) modules top) h h.parent)
    refl
    (under_held cells modules (helds (table_of cells modules) modules top) top 0 [] (top_held top) refl refl)
    (λ k m child i at is. under_held cells modules (helds (table_of cells modules) modules top) m (suc k) child.path child (child_at (table_of cells modules) modules top k child at) is i)

-- PARENTS

pub parents_in : (t : Table) (hs : List Held) → AreHeld t hs → AllByRecursion (λ h. IfSome h.parent (λ p. p < length hs)) hs
parents_in t hs held = all_weaker (λ h. IsHeldUnder t hs h h.parent) (λ h. IfSome h.parent (λ p. p < length hs)) (λ h. by h h.parent) hs held
  where
    by : (h : Held) (o : Option ℕ) → IsHeldUnder t hs h o → IfSome o (λ p. p < length hs)
    by h None is = tt
    by h (Some p) is = slice_get_within hs p is.0 is.1
