-- Each bit has a walk: the feeders lead to bits that there are, and none comes back to its bit.
use Rattle.std.proofs.Common.{◌≡◌, ℕ, zero, suc, ◌+◌, ◌-◌, ◌<◌, ◌≤◌, ◌==◌, Bool, true, false, cond, List, [], ◌∷◌, Option, Some, None, map, length, slice_get, refl, sym, ap, subst, ◌∙◌, arith}
use Rattle.std.specs.Prelude.{IfSome, option_map, slice_index, sum_by, if◌then◌else◌}
use Rattle.std.specs.List.{AllByRecursion, filter_map, flat_map, enumerate_from, range_with_len, find}
use Rattle.std.proofs.lemmas.Bool.{eqb-true}
use Rattle.std.proofs.lemmas.List.{length-map, get_or_append_left, get_or-append_right}
use Rattle.std.proofs.lemmas.List.FromFn.{length-enumerate_from, length-map-range_with_len, get_or-map-range_with_len}
use Rattle.std.proofs.lemmas.Option.{none-some, same_Some, slice_get-map}
use Rattle.pw_defs.specs.declared.design.Bit.{Bit}
use Rattle.pw_defs.specs.declared.design.Feeder.{Feeder}
use Rattle.pw_defs.specs.declared.design.Feeder.TheVariants.{Bit as BitFeeder, Driver, Nothing}
use Rattle.line_forms.specs.declared.library_lines.CellLines.{CellLines}
use Rattle.line_forms.specs.declared.netlist_lines.InstLine.{InstLine}
use Rattle.line_forms.specs.declared.netlist_lines.ModuleLines.{ModuleLines}
use Rattle.design_defs.specs.Ports.{is_input}
use Rattle.design_defs.specs.Walks.{IsWalk, ends, goes, WalksEnd, feeder_at, next_of}
use Rattle.design_defs.specs.Names.{joined}
use Rattle.form_design.specs.declared.hierarchy.Held.{Held}
use Rattle.form_design.specs.Names.{Table, table_of, body_named, dirs_of, bits_of}
use Rattle.form_design.specs.Hierarchy.{join_of, held_under, top_held, children, helds, lines_at, size, starts_from, number, links, drives, bit_at, bits_at, own_bits, linked, fed, linked_bits, bits}
use Rattle.form_design.specs.Sound.{AreHeld}
use Rattle.form_design.proofs.ListLemmas.{if_some_map, all_weaker, all_both, all_filter_map, all_flat_map, all_made, all_at, get_numbered, get_there}
use Rattle.form_design.proofs.HeldLemmas.{helds_by, child_at, helds_held}
use Rattle.form_design.proofs.LinkLemmas.{start_ge, links_by, links_in, length-own_bits}

-- DEPTH

-- how deep an instance stands, by its parent: the top, what is in it, and what is in these
abbrev pub depth : Option ℕ → ℕ
depth None = 0
depth (Some zero) = 1
depth (Some (suc p)) = 2

depth_le : (parent : Option ℕ) → depth parent ≤ 2
depth_le None = omega arith
depth_le (Some zero) = omega arith
depth_le (Some (suc p)) = omega arith

-- an instance stands deeper than its parent
abbrev pub IsBelow : List Held → Option ℕ → Type 0
IsBelow hs None = Unit {0}
IsBelow hs (Some p) = (parent : Held) → slice_get hs p ≡ Some parent → depth parent.parent < depth (Some p)

-- each instance of a module has the parent that it was made under
held_parent : (t : Table) (m p : ℕ) (path : List ℕ) (i : InstLine) (P : Option ℕ → Type 0) → P (Some p) → IfSome (held_under t m path p i) (λ h. P h.parent)
held_parent t m p path i P is =
    if_some_map (λ (h : Held). P h.parent) (λ body. record { path = joined path i.name; parent = Some p; body = body; joins = filter_map (join_of t m body) i.conns }) (λ body. is) (body_named t i.kind)

-- an instance in the top has it for its parent
child_parent : (t : Table) (modules : List ModuleLines) (top k : ℕ) (child : Held) → slice_get (children t modules top) k ≡ Some child → child.parent ≡ Some 0
child_parent t modules top k child at =
    all_at (λ (h : Held). h.parent ≡ Some 0) (children t modules top) k child
    (all_filter_map (λ (h : Held). h.parent ≡ Some 0) (held_under t top [] 0) (λ i. held_parent t top 0 [] i (λ o. o ≡ Some 0) refl) (lines_at modules top))
    at

pub helds_below : (t : Table) (modules : List ModuleLines) (top : ℕ) → AllByRecursion (λ h. IsBelow (helds t modules top) h.parent) (helds t modules top)
helds_below t modules top =
    helds_by t modules top (λ h. IsBelow (helds t modules top) h.parent) tt
    (λ i. held_parent t top 0 [] i (IsBelow (helds t modules top)) (λ parent at. first parent (same_Some (top_held top) parent at)))
    (λ k m child i at is. held_parent t m (suc k) child.path i (IsBelow (helds t modules top)) (λ parent there. later k child parent at (same_Some child parent (sym (child_at t modules top k child at) ∙ there))))
  where
    first : (parent : Held) → top_held top ≡ parent → depth parent.parent < 1
    first parent same = subst (λ (h : Held). depth h.parent < 1) same (omega arith)

    later : (k : ℕ) (child parent : Held) → slice_get (children t modules top) k ≡ Some child → child ≡ parent → depth parent.parent < 2
    later k child parent at same =
        subst (λ (h : Held). depth h.parent < 2) same (subst (λ (o : Option ℕ). depth o < 2) (sym (child_parent t modules top k child at)) (omega arith))

-- RANKS

-- A bit is fed by one of a lower rank: the inputs of an instance by what is less deep, and what is less deep by the
-- others.
abbrev pub rank_if : Bool → ℕ → ℕ
rank_if true deep = 2 + deep
rank_if false deep = 2 - deep

abbrev pub rank : Table → Held → ℕ → ℕ
rank t h place = rank_if (is_input (slice_get (dirs_of t h.body) place)) (depth h.parent)

rank_up : (input : Bool) (n m : ℕ) → n < m → rank_if input n < 2 + m
rank_up true n m lt = omega arith
rank_up false n m lt = omega arith

rank_down : (input : Bool) (n m : ℕ) → n < m → m ≤ 2 → 2 - m < rank_if input n
rank_down true n m lt le = omega arith
rank_down false n m lt le = omega arith

-- the ranks of the bits of an instance, and of all bits
abbrev pub ranks_of : Table → Held → List ℕ
ranks_of t h = map (rank t h) (range_with_len 0 (size t h))

abbrev pub ranks : Table → List Held → List ℕ
ranks t hs = flat_map (ranks_of t) hs

length-ranks_of : (t : Table) (h : Held) → length (ranks_of t h) ≡ size t h
length-ranks_of t h = length-map-range_with_len (rank t h) 0 (size t h)

ranks_of_at : (t : Table) (h : Held) (place : ℕ) → place < size t h → slice_index (ranks_of t h) place ≡ rank t h place
ranks_of_at t h place inside = get_or-map-range_with_len (rank t h) 0 (size t h) place place 0 inside (omega arith)

ranks_from : (t : Table) (n : ℕ) (hs : List Held) (k place : ℕ) (h : Held) → slice_get hs k ≡ Some h → place < size t h
    → (m : ℕ) → n + m ≡ number (starts_from t n hs) k place → slice_index (ranks t hs) m ≡ rank t h place
ranks_from t n [] k place h at inside m is = absurd (none-some h at)
ranks_from t n (g ∷ hs) zero place h at inside m is =
    let same : g ≡ h = same_Some g h at in
    let here : m ≡ place = omega arith in
    let own : place < size t g = subst (λ (x : Held). place < size t x) (sym same) inside in
    let within : place < length (ranks_of t g) = omega (arith, length-ranks_of t g) in
    ap (slice_index (ranks t (g ∷ hs))) here
    ∙ get_or_append_left (ranks_of t g) (flat_map (ranks_of t) hs) 0 place within
    ∙ ranks_of_at t g place own
    ∙ ap (λ x. rank t x place) same
ranks_from t n (g ∷ hs) (suc k) place h at inside m is =
    let after : n + size t g ≤ slice_index (starts_from t (n + size t g) hs) k = start_ge t (n + size t g) hs k h at in
    let past : size t g ≤ m = omega arith in
    let rest : (n + size t g) + (m - size t g) ≡ number (starts_from t (n + size t g) hs) k place = omega arith in
    get_or-append_right (ranks_of t g) (flat_map (ranks_of t) hs) (size t g) m 0 (length-ranks_of t g) past
    ∙ ranks_from t (n + size t g) hs k place h at inside (m - size t g) rest

ranks_at : (t : Table) (hs : List Held) (k place : ℕ) (h : Held) → slice_get hs k ≡ Some h → place < size t h
    → slice_index (ranks t hs) (number (starts_from t 0 hs) k place) ≡ rank t h place
ranks_at t hs k place h at inside = ranks_from t 0 hs k place h at inside (number (starts_from t 0 hs) k place) (omega arith)

-- a link leads from a bit to one of a lower rank
abbrev pub Falls : List ℕ → ℕ × ℕ → Type 0
Falls rs l = slice_index rs l.1 < slice_index rs l.0

link_falls : (input other : Bool) (rs : List ℕ) (inner outer above deep : ℕ) → slice_index rs inner ≡ rank_if input deep → slice_index rs outer ≡ rank_if other above
    → above < deep → deep ≤ 2 → Falls rs (if input then (inner, outer) else (outer, inner))
link_falls true other rs inner outer above deep p q lt le = omega (arith, rank_up other above deep lt)
link_falls false other rs inner outer above deep p q lt le = omega (arith, rank_down other above deep lt le)

pub links_fall : (t : Table) (hs : List Held) → AreHeld t hs → AllByRecursion (λ h. IsBelow hs h.parent) hs → AllByRecursion (Falls (ranks t hs)) (links t hs)
links_fall t hs held below =
    links_by t hs (Falls (ranks t hs)) held
    (λ k p h parent join at up over is.
    let under : IsBelow hs (Some p) = subst (IsBelow hs) up (all_at (λ g. IsBelow hs g.parent) hs k h below at) in
    let lt : depth parent.parent < depth h.parent = subst (λ (o : Option ℕ). depth parent.parent < depth o) (sym up) (under parent over) in
    link_falls (is_input (slice_get (dirs_of t h.body) join.0)) (is_input (slice_get (dirs_of t parent.body) join.1)) (ranks t hs)
    (number (starts_from t 0 hs) k join.0) (number (starts_from t 0 hs) p join.1) (depth parent.parent) (depth h.parent)
    (ranks_at t hs k join.0 h at is.inner) (ranks_at t hs p join.1 parent over is.outer) lt (depth_le h.parent))

-- WALKS

-- the first link of a bit is one of the links
found_in : (P : ℕ × ℕ → Type 0) (n : ℕ) (ls : List (ℕ × ℕ)) (l : ℕ × ℕ) → AllByRecursion P ls → find (λ (x : ℕ × ℕ). n == x.0) ls ≡ Some l → P l × (n ≡ l.0)
found_in P n [] l all is = absurd (none-some l is)
found_in P n (x ∷ ls) l all is = by (n == x.0) refl is (found_in P n ls l all.1)
  where
    by : (b : Bool) → (n == x.0) ≡ b → cond b (Some x) (find (λ (y : ℕ × ℕ). n == y.0) ls) ≡ Some l → (find (λ (y : ℕ × ℕ). n == y.0) ls ≡ Some l → P l × (n ≡ l.0)) → P l × (n ≡ l.0)
    by true same first later =
        let e : x ≡ l = same_Some x l first in
        (subst P e all.0, eqb-true n x.0 same ∙ ap (λ (y : ℕ × ℕ). y.0) e)
    by false other first later = later first

-- what feeds a bit once it is linked
feeder_linked : (ls : List (ℕ × ℕ)) (own : List Bit) (n : ℕ) (b : Bit) → slice_get own n ≡ Some b
    → feeder_at (linked_bits ls own) n ≡ Some (linked b.feeder (find (λ (x : ℕ × ℕ). n == x.0) ls))
feeder_linked ls own n b at =
    let zeroth : 0 + n ≡ n = omega arith in
    let numbered : slice_get (enumerate_from 0 own) n ≡ Some (n, b) = get_numbered 0 own n b at ∙ ap (λ (k : ℕ). Some (k, b)) zeroth in
    ap (option_map (λ (x : Bit). x.feeder)) (slice_get-map (fed ls) (enumerate_from 0 own) n ∙ ap (option_map (fed ls)) numbered)

-- bits have walks where none of them is fed before it is linked, and each link leads to a bit of a lower rank
walk_below : (ls : List (ℕ × ℕ)) (own : List Bit) (rs : List ℕ) → AllByRecursion (λ b. next_of b.feeder ≡ None) own → AllByRecursion (λ (l : ℕ × ℕ). (l.1 < length own) × Falls rs l) ls
    → (bound n : ℕ) → slice_index rs n < bound → n < length own → (passed : List ℕ) × (end : Feeder) × IsWalk (linked_bits ls own) n passed end
walk_below ls own rs ends_own falls zero n low inside = absurd (omega arith)
walk_below ls own rs ends_own falls (suc bound) n low inside =
    by (get_there own n inside).0 (get_there own n inside).1 (find (λ (x : ℕ × ℕ). n == x.0) ls) refl (walk_below ls own rs ends_own falls bound)
  where
    by : (b : Bit) → slice_get own n ≡ Some b → (o : Option (ℕ × ℕ)) → find (λ (x : ℕ × ℕ). n == x.0) ls ≡ o
        → ((m : ℕ) → slice_index rs m < bound → m < length own → (passed : List ℕ) × (end : Feeder) × IsWalk (linked_bits ls own) m passed end)
        → (passed : List ℕ) × (end : Feeder) × IsWalk (linked_bits ls own) n passed end
    by b at None none rest =
        (n ∷ [], b.feeder, ends n b.feeder (feeder_linked ls own n b at ∙ ap (λ o. Some (linked b.feeder o)) none) (all_at (λ x. next_of x.feeder ≡ None) own n b ends_own at))
    by b at (Some l) one rest =
        let link : ((l.1 < length own) × Falls rs l) × (n ≡ l.0) = found_in (λ (x : ℕ × ℕ). (x.1 < length own) × Falls rs x) n ls l falls one in
        let from : slice_index rs n ≡ slice_index rs l.0 = ap (slice_index rs) link.1 in
        let fall : slice_index rs l.1 < slice_index rs l.0 = link.0.1 in
        let walk : (passed : List ℕ) × (end : Feeder) × IsWalk (linked_bits ls own) l.1 passed end = rest l.1 (omega arith) link.0.0 in
        (n ∷ walk.0, walk.1, goes n l.1 (BitFeeder l.1) walk.1 walk.0 (feeder_linked ls own n b at ∙ ap (λ o. Some (linked b.feeder o)) one) refl walk.2)

-- before it is linked a bit has no bit that feeds it
own_ends : (t : Table) (hs : List Held) → AllByRecursion (λ b. next_of b.feeder ≡ None) (own_bits t hs)
own_ends t hs =
    all_flat_map (λ (b : Bit). next_of b.feeder ≡ None) (bits_at t) 0 hs
    (λ i k h is at. all_made (λ (b : Bit). next_of b.feeder ≡ None) (bit_at t (i, h)) (λ x. by i x.0 (drives t i h.body x.0)) (enumerate_from 0 (bits_of t h.body)))
  where
    by : (inst place : ℕ) (d : Bool) → next_of (if d then Driver (record { inst = inst; port = place; place = 0 }) else Nothing) ≡ None
    by inst place true = refl
    by inst place false = refl

-- walks end among instances that stand below their parents
pub walks_under : (t : Table) (hs : List Held) → AreHeld t hs → AllByRecursion (λ h. IsBelow hs h.parent) hs → WalksEnd (bits t hs)
walks_under t hs held below n inside =
    let total : length (own_bits t hs) ≡ sum_by (size t) hs = length-own_bits t hs in
    let within : n < length (own_bits t hs) = omega (arith, length-map (enumerate_from 0 (own_bits t hs)) (fed (links t hs)), length-enumerate_from 0 (own_bits t hs)) in
    let there : AllByRecursion (λ (l : ℕ × ℕ). l.1 < length (own_bits t hs)) (links t hs) =
    all_weaker (λ (l : ℕ × ℕ). (l.0 < sum_by (size t) hs) × (l.1 < sum_by (size t) hs)) (λ (l : ℕ × ℕ). l.1 < length (own_bits t hs))
    (λ l is. subst (λ (m : ℕ). l.1 < m) (sym total) is.1) (links t hs) (links_in t hs held) in
    walk_below (links t hs) (own_bits t hs) (ranks t hs) (own_ends t hs)
    (all_both (λ (l : ℕ × ℕ). l.1 < length (own_bits t hs)) (Falls (ranks t hs)) (links t hs) there (links_fall t hs held below))
    (suc (slice_index (ranks t hs) n)) n (omega arith) within

-- Each bit of a netlist has a walk, whatever its top holds.
pub walks_end : (cells : List CellLines) (modules : List ModuleLines) (top : ℕ) → WalksEnd (bits (table_of cells modules) (helds (table_of cells modules) modules top))
walks_end cells modules top =
    walks_under (table_of cells modules) (helds (table_of cells modules) modules top) (helds_held cells modules top) (helds_below (table_of cells modules) modules top)
