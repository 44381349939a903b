-- The netlist of the two blocks has no fault, so it has its design.
use Rattle.std.proofs.Common.{◌≡◌, ◌≢◌, ℕ, zero, suc, ◌<◌, ◌≤◌, Bool, false, true, not, ◌&&◌, List, [], ◌∷◌, length, map, Option, Some, None, ◌⊎◌, inl, inr, refl, sym, ap, ◌∙◌, subst, arith}
use Rattle.std.specs.Prelude.{codes}
use Rattle.std.specs.List.{list_any, slice_get}
use Rattle.std.specs.Option.{unwrap_or}
use Rattle.std.proofs.lemmas.Option.{same_Some, none-some}
use Rattle.pw_defs.specs.declared.cells.Dir.TheVariants.{Input, Output}
use Rattle.pw_defs.specs.declared.design.Body.{Body}
use Rattle.pw_defs.specs.declared.design.Body.TheVariants.{Module as ModuleBody, Cell as CellBody, Model as ModelBody}
use Rattle.pw_defs.specs.declared.netlist.Conn.{Conn}
use Rattle.pw_defs.specs.declared.netlist.Expr.{Expr}
use Rattle.pw_defs.specs.declared.netlist.Expr.TheVariants.{Whole}
use Rattle.pw_defs.specs.declared.netlist.Inst.{Inst}
use Rattle.pw_defs.specs.declared.netlist.Module.{Module}
use Rattle.pw_defs.specs.declared.netlist.Port.{Port}
use Rattle.worked_jobs.specs.Designs.{pair as pair_design}
use Rattle.worked_jobs.specs.Libraries.{buffer, library}
use Rattle.worked_jobs.specs.Netlists.{driving, pair, pair_top, receiving}
use Rattle.list_defs.specs.Members.{IsIn, all_differ, place_of, same_name}
use Rattle.list_defs.proofs.NameLemmas.{list_any-IsIn}
use Rattle.list_defs.proofs.Members.{IsIn-map}
use Rattle.design_defs.specs.Bits.{IsSpot, Spot}
use Rattle.design_defs.specs.DesignFaults.{HasPort, HasPortAt, HasThingName, IsAtOrAbove, IsDesignOf, IsFault, IsFaultless, IsTooLarge, IsTopInput, Thing}
use Rattle.design_defs.specs.Drivers.{is_interface_cell}
use Rattle.design_defs.specs.Hierarchy.{IsInstance, Way, body_at, cell_named, module_at, path, ports_in, type_of}
use Rattle.design_defs.specs.Links.{Feeds, IsFed, port_of_conn}
use Rattle.design_defs.specs.Names.{joined}
use Rattle.design_defs.specs.Places.{misselected, signals}
use Rattle.design_defs.specs.Ranges.{width}
use Rattle.list_defs.specs.Rings.{IsReached}
use Rattle.design_defs.proofs.Expressions.{of_expressions}
use Rattle.list_defs.proofs.Few.{few}
use Rattle.design_defs.proofs.Lookups.{other_name}
use Rattle.design_defs.proofs.WorkedCases.{at_conns, at_insts, at_links, at_modules, line_a, line_b, line_i, line_o, one_of_one, one_of_two}
use Rattle.design_defs.proofs.WorkedDesign.{pair_is_made}
use Rattle.design_defs.proofs.WorkedHierarchy.{IsPart, all_spots, all_ways, block_a, block_b, buffer_a, buffer_b, each_part, module_body, one_of_spots, one_of_ways, s, some_same}

-- NAMES. Where no two entries of a list have one name, a name is that of one entry.
one_entry : {X : Type 0} (entries : List (X × List ℕ)) → all_differ same_name (map (λ (e : X × List ℕ). e.1) entries) ≡ true
    → (x y : X) (name : List ℕ) → IsIn (x, name) entries → IsIn (y, name) entries → x ≡ y
one_entry [] differ x y name p q = absurd p
one_entry {X} (e ∷ entries) differ x y name p q =
    by p q (one_entry entries (both (list_any (same_name e.1) names) (all_differ same_name names) differ).1 x y name)
  where
    names : List (List ℕ)
    names = map (λ (k : X × List ℕ). k.1) entries

    both : (a b : Bool) → not a && b ≡ true → (a ≡ false) × (b ≡ true)
    both true b h = cc
    both false b h = (refl, h)

    not_again : (z w : X) → (z, name) ≡ e → IsIn (w, name) entries → ⊥
    not_again z w same there =
        let named : e.1 ≡ name = ap (λ (k : X × List ℕ). k.1) (sym same) in
        let among : IsIn name names = IsIn-map (λ (k : X × List ℕ). k.1) (w, name) entries there in
        let again : list_any (same_name e.1) names ≡ true = list_any-IsIn e.1 names (subst (λ n. IsIn n names) (sym named) among) in
        let never = (both (list_any (same_name e.1) names) (all_differ same_name names) differ).0 in
        cc

    by : ((x, name) ≡ e) ⊎ IsIn (x, name) entries → ((y, name) ≡ e) ⊎ IsIn (y, name) entries
        → (IsIn (x, name) entries → IsIn (y, name) entries → x ≡ y) → x ≡ y
    by (inl a) (inl b) rest = ap (λ (k : X × List ℕ). k.0) (a ∙ sym b)
    by (inl a) (inr b) rest = absurd (not_again x y a b)
    by (inr a) (inl b) rest = absurd (not_again y x b a)
    by (inr a) (inr b) rest = rest a b

-- PORTS. What holds of each port of an instance.

abbrev input : List ℕ → Port
input name = record { name = name; dir = Input; range = None }

abbrev output : List ℕ → Port
output name = record { name = name; dir = Output; range = None }

at_ports : (P : Way → Port → Type 0) → P [] (input (codes "x")) → P block_a (input (codes "x")) → P block_a (output (codes "y"))
    → P buffer_a (input (codes "A")) → P buffer_a (output (codes "Y")) → P block_b (input (codes "a")) → P block_b (output (codes "z"))
    → P buffer_b (input (codes "A")) → P buffer_b (output (codes "Y")) → (way : Way) (p : Port) → HasPort s way p → P way p
at_ports P a b c d e f g h k way p has = by (each_part way has.0 has.2)
  where
    moved : (body : Body) (ports : List Port) → has.0 ≡ body → ports_in s body ≡ Some ports → IsIn p ports
    moved body ports same known = subst (IsIn p) (some_same has.1 ports (sym has.3 ∙ ap (ports_in s) same ∙ known)) has.4

    by : IsPart way has.0 → P way p
    by (IsPart.is_top at body) = subst (λ w. P w p) (sym at) (one_of_one (P []) _ a p (moved (ModuleBody 2) _ body refl))
    by (IsPart.is_block_a at body) = subst (λ w. P w p) (sym at) (one_of_two (P block_a) _ _ b c p (moved (ModuleBody 0) _ body refl))
    by (IsPart.is_buffer_a at body) = subst (λ w. P w p) (sym at) (one_of_two (P buffer_a) _ _ d e p (moved (CellBody 0) _ body refl))
    by (IsPart.is_block_b at body) = subst (λ w. P w p) (sym at) (one_of_two (P block_b) _ _ f g p (moved (ModuleBody 1) _ body refl))
    by (IsPart.is_buffer_b at body) = subst (λ w. P w p) (sym at) (one_of_two (P buffer_b) _ _ h k p (moved (CellBody 0) _ body refl))

-- PORTS BY NUMBER. What holds of each port of an instance with its number.
one_of_one_at : (Q : ℕ → Port → Type 0) (a : Port) → Q 0 a → (n : ℕ) (p : Port) → slice_get (a ∷ []) n ≡ Some p → Q n p
one_of_one_at Q a x zero p e = subst (Q 0) (same_Some a p e) x
one_of_one_at Q a x (suc n) p e = absurd (none-some p e)

one_of_two_at : (Q : ℕ → Port → Type 0) (a b : Port) → Q 0 a → Q 1 b → (n : ℕ) (p : Port) → slice_get (a ∷ b ∷ []) n ≡ Some p → Q n p
one_of_two_at Q a b x y zero p e = subst (Q 0) (same_Some a p e) x
one_of_two_at Q a b x y (suc zero) p e = subst (Q 1) (same_Some b p e) y
one_of_two_at Q a b x y (suc (suc n)) p e = absurd (none-some p e)

at_numbered : (P : Way → ℕ → Port → Type 0) → P [] 0 (input (codes "x")) → P block_a 0 (input (codes "x")) → P block_a 1 (output (codes "y"))
    → P buffer_a 0 (input (codes "A")) → P buffer_a 1 (output (codes "Y")) → P block_b 0 (input (codes "a")) → P block_b 1 (output (codes "z"))
    → P buffer_b 0 (input (codes "A")) → P buffer_b 1 (output (codes "Y")) → (way : Way) (n : ℕ) (p : Port) → HasPortAt s way n p → P way n p
at_numbered P a b c d e f g h k way n p has = by (each_part way has.0 has.2)
  where
    moved : (body : Body) (ports : List Port) → has.0 ≡ body → ports_in s body ≡ Some ports → slice_get ports n ≡ Some p
    moved body ports same known =
        subst (λ (ps : List Port). slice_get ps n ≡ Some p) (some_same has.1 ports (sym has.3 ∙ ap (ports_in s) same ∙ known)) has.4

    by : IsPart way has.0 → P way n p
    by (IsPart.is_top at body) = subst (λ w. P w n p) (sym at) (one_of_one_at (P []) _ a n p (moved (ModuleBody 2) _ body refl))
    by (IsPart.is_block_a at body) = subst (λ w. P w n p) (sym at) (one_of_two_at (P block_a) _ _ b c n p (moved (ModuleBody 0) _ body refl))
    by (IsPart.is_buffer_a at body) = subst (λ w. P w n p) (sym at) (one_of_two_at (P buffer_a) _ _ d e n p (moved (CellBody 0) _ body refl))
    by (IsPart.is_block_b at body) = subst (λ w. P w n p) (sym at) (one_of_two_at (P block_b) _ _ f g n p (moved (ModuleBody 1) _ body refl))
    by (IsPart.is_buffer_b at body) = subst (λ w. P w n p) (sym at) (one_of_two_at (P buffer_b) _ _ h k n p (moved (CellBody 0) _ body refl))

abbrev things : List (Thing × List ℕ)
things =
    (Thing.instance block_a, codes "u_a") ∷ (Thing.instance buffer_a, codes "u_a/o") ∷ (Thing.instance block_b, codes "u_b") ∷
    (Thing.instance buffer_b, codes "u_b/i")
    ∷ (Thing.port [] 0, codes "x") ∷ (Thing.port block_a 0, codes "u_a/x") ∷ (Thing.port block_a 1, codes "u_a/y")
    ∷ (Thing.port buffer_a 0, codes "u_a/o/A") ∷ (Thing.port buffer_a 1, codes "u_a/o/Y") ∷ (Thing.port block_b 0, codes "u_b/a")
    ∷ (Thing.port block_b 1, codes "u_b/z") ∷ (Thing.port buffer_b 0, codes "u_b/i/A") ∷ (Thing.port buffer_b 1, codes "u_b/i/Y") ∷ []

of_way : (name : List ℕ) (outer : Way) (body : Body) → IsPart (name ∷ outer) body → IsIn (Thing.instance (name ∷ outer), path (name ∷ outer)) things
of_way name outer body (IsPart.is_top at is) = cc
of_way name outer body (IsPart.is_block_a at is) = inl (ap (λ w. (Thing.instance w, path w)) at)
of_way name outer body (IsPart.is_buffer_a at is) = inr (inl (ap (λ w. (Thing.instance w, path w)) at))
of_way name outer body (IsPart.is_block_b at is) = inr (inr (inl (ap (λ w. (Thing.instance w, path w)) at)))
of_way name outer body (IsPart.is_buffer_b at is) = inr (inr (inr (inl (ap (λ w. (Thing.instance w, path w)) at))))

each_thing : (t : Thing) (name : List ℕ) → HasThingName s t name → IsIn (t, name) things
each_thing _ _ (HasThingName.instance name outer there) = of_way name outer there.0 (each_part (name ∷ outer) there.0 there.1)
each_thing _ _ (HasThingName.port way number p has) =
    at_numbered (λ w n q. IsIn (Thing.port w n, joined (path w) q.name) things)
    (inr (inr (inr (inr (inl (refl)))))) (inr (inr (inr (inr (inr (inl (refl))))))) (inr (inr (inr (inr (inr (inr (inl (refl))))))))
    (inr (inr (inr (inr (inr (inr (inr (inl (refl))))))))) (inr (inr (inr (inr (inr (inr (inr (inr (inl (refl))))))))))
    (inr (inr (inr (inr (inr (inr (inr (inr (inr (inl (refl))))))))))) (inr (inr (inr (inr (inr (inr (inr (inr (inr (inr (inl (refl))))))))))))
    (inr (inr (inr (inr (inr (inr (inr (inr (inr (inr (inr (inl (refl)))))))))))))
    (inr (inr (inr (inr (inr (inr (inr (inr (inr (inr (inr (inr (inl (refl)))))))))))))) way number p has
each_thing _ _ (HasThingName.vector_bit way number p range place has vector within) =
    let scalar : p.range ≡ None = at_numbered (λ w n q. q.range ≡ None) refl refl refl refl refl refl refl refl refl way number p has in
    cc

one_thing : (x y : Thing) (name : List ℕ) → HasThingName s x name → HasThingName s y name → x ≡ y
one_thing x y name p q = one_entry things refl x y name (each_thing x name p) (each_thing y name q)

-- LINKS. Each bit has one.
abbrev label : Spot → List ℕ
label x = joined (path x.way) x.net

abbrev links : List ((Way × ℕ) × List ℕ)
links =
    (([], 0), codes "u_a/x") ∷ (([], 1), codes "n") ∷ (([], 2), codes "u_b/a") ∷ ((block_a, 0), codes "u_a/o/A") ∷ ((block_a, 1), codes "u_a/y")
    ∷ ((block_b, 0), codes "u_b/i/A") ∷ ((block_b, 1), codes "u_b/z") ∷ []

abbrev IsListed : Way → ℕ → Spot → Spot → Type 0
IsListed way number x y = IsIn ((way, number), label x) links

-- how far a bit is from where its signal begins
abbrev order : List (List ℕ)
order =
    codes "x" ∷ codes "u_a/x" ∷ codes "u_a/o/A" ∷ codes "u_a/o/Y" ∷ codes "u_a/y"
    ∷ codes "n" ∷ codes "u_b/a" ∷ codes "u_b/i/A" ∷ codes "u_b/i/Y" ∷ codes "u_b/z" ∷ []

abbrev rank : Spot → ℕ
rank x = unwrap_or (place_of (same_name (label x)) order) 0

abbrev Falls : Way → ℕ → Spot → Spot → Type 0
Falls way number x y = rank y < rank x

cell_body : (n m : ℕ) → CellBody n ≡ CellBody m → n ≡ m
cell_body n m e = cc

falls : (x y : Spot) → Feeds s x y → rank y < rank x
falls x y (way, line, IsFed.link number k) =
    let link = at_links Falls (omega arith) (omega arith) (omega arith) (omega arith) (omega arith) (omega arith) (omega arith) way number line x (Some y) k in
    subst (λ z. rank z < rank x) (sym (some_same y link.0 link.1)) link.2
falls x y (way, line, IsFed.through name inside inst k) = absurd (no_interface (each_part x.way (CellBody k.number) k.body))
  where
    plain : k.number ≡ 0 → ⊥
    plain first =
        let held : k.cell ≡ buffer = some_same k.cell buffer (sym k.is_cell ∙ ap (slice_get library.cells) first) in
        let interface = k.interface_cell in
        let none : is_interface_cell (Some k.cell) ≡ false = ap (λ c. is_interface_cell (Some c)) held in
        cc

    no_interface : IsPart x.way (CellBody k.number) → ⊥
    no_interface (IsPart.is_top at is) = cc
    no_interface (IsPart.is_block_a at is) = cc
    no_interface (IsPart.is_buffer_a at is) = plain (cell_body k.number 0 is)
    no_interface (IsPart.is_block_b at is) = cc
    no_interface (IsPart.is_buffer_b at is) = plain (cell_body k.number 0 is)
falls x y (way, line, IsFed.feed name inside inst k) = absurd (no_model (each_part x.way (ModelBody k.number) k.body))
  where
    no_model : IsPart x.way (ModelBody k.number) → ⊥
    no_model (IsPart.is_top at is) = cc
    no_model (IsPart.is_block_a at is) = cc
    no_model (IsPart.is_buffer_a at is) = cc
    no_model (IsPart.is_block_b at is) = cc
    no_model (IsPart.is_buffer_b at is) = cc

reached_falls : (x y : Spot) → IsReached (Feeds s) x y → rank y < rank x
reached_falls _ _ (IsReached.one x y step) = falls x y step
reached_falls _ _ (IsReached.more x y z step rest) =
    let first = falls x y step in
    let more = reached_falls y z rest in
    omega arith

-- EXPRESSIONS. A whole net is selected rightly, and has the width of the port.
selects_rightly : (m : Module) (net : List ℕ) → misselected m (Whole net) ≡ [] → (e : Expr) (name : List ℕ) → Some (Whole net) ≡ Some e
    → IsIn name (misselected m e) → ⊥
selects_rightly m net right e name same wrong =
    subst (IsIn name) right (subst (λ x. IsIn name (misselected m x)) (sym (some_same (Whole net) e same)) wrong)

has_width : (m : Module) (net : List ℕ) (i : Inst) (c : Conn) (known : Port) → length (signals m (Whole net)) ≡ width known.range
    → port_of_conn s i c ≡ Some known
    → (e : Expr) (p : Port) → Some (Whole net) ≡ Some e → port_of_conn s i c ≡ Some p → length (signals m e) ≡ width p.range
has_width m net i c known right there e p same port =
    ap (λ x. length (signals m x)) (sym (some_same (Whole net) e same)) ∙ right ∙ ap (λ (q : Port). width q.range) (some_same known p (sym there ∙ port))

nothing_connected : (e : Expr) → None ≡ Some e → ⊥
nothing_connected e same = cc

-- RECURSION. Above the top there is no module but its own.
above_top : (k : ℕ) (w : Way) → w ≡ [] → IsAtOrAbove s k w → Some (ModuleBody 2) ≡ Some (ModuleBody k)
above_top k _ top (IsAtOrAbove.here way body) = ap (body_at s) (sym top) ∙ body
above_top k _ top (IsAtOrAbove.above name outer more) = cc

not_above : (k other : ℕ) → Some (ModuleBody other) ≡ Some (ModuleBody k) → (other ≡ 2 → ⊥) → IsAtOrAbove s k [] → ⊥
not_above k other type differ up =
    let own = module_body 2 k (some_same (ModuleBody 2) (ModuleBody k) (above_top k [] refl up)) in
    let called = module_body other k (some_same (ModuleBody other) (ModuleBody k) type) in
    differ (called ∙ sym own)

of_cell : (k : ℕ) → Some (CellBody 0) ≡ Some (ModuleBody k) → ⊥
of_cell k e = cc

-- SIZE.
short_way : (way : Way) (body : Body) → IsPart way body → length way ≤ 2
short_way way body (IsPart.is_top at is) = let e : length way ≡ 0 = ap length at in omega arith
short_way way body (IsPart.is_block_a at is) = let e : length way ≡ 1 = ap length at in omega arith
short_way way body (IsPart.is_buffer_a at is) = let e : length way ≡ 2 = ap length at in omega arith
short_way way body (IsPart.is_block_b at is) = let e : length way ≡ 1 = ap length at in omega arith
short_way way body (IsPart.is_buffer_b at is) = let e : length way ≡ 2 = ap length at in omega arith

not_large : IsTooLarge s → ⊥
not_large (IsTooLarge.instances more) = few 1000000 (IsInstance s) all_ways (λ w there. one_of_ways w there.0 (each_part w there.0 there.1)) (omega arith) more
not_large (IsTooLarge.bits more) = few 8000000 (IsSpot s) all_spots one_of_spots (omega arith) more
not_large (IsTooLarge.depth way there deep) = let few_names = short_way way there.0 (each_part way there.0 there.1) in omega arith

-- MODULES. Their names differ from one another and from those of cells.
names_differ : (n earlier : ℕ) (m other : Module) → module_at s n ≡ Some m → module_at s earlier ≡ Some other → earlier < n → other.name ≢ m.name
names_differ zero earlier m other p q less same = omega arith
names_differ (suc zero) zero m other p q less same =
    other_name (codes "blka") (codes "blkb") refl (ap (λ (x : Module). x.name) (some_same driving other q) ∙ same ∙ ap (λ (x : Module). x.name)
    (some_same m receiving (sym p)))
names_differ (suc zero) (suc earlier) m other p q less same = omega arith
names_differ (suc (suc zero)) zero m other p q less same =
    other_name (codes "blka") (codes "top") refl (ap (λ (x : Module). x.name) (some_same driving other q) ∙ same ∙ ap (λ (x : Module). x.name)
    (some_same m pair_top (sym p)))
names_differ (suc (suc zero)) (suc zero) m other p q less same =
    other_name (codes "blkb") (codes "top") refl (ap (λ (x : Module). x.name) (some_same receiving other q) ∙ same ∙ ap (λ (x : Module). x.name)
    (some_same m pair_top (sym p)))
names_differ (suc (suc zero)) (suc (suc earlier)) m other p q less same = omega arith
names_differ (suc (suc (suc n))) earlier m other p q less same = cc

no_cell : (n : ℕ) (m : Module) → module_at s n ≡ Some m → cell_named s m.name ≡ None
no_cell zero m there = ap (λ (x : Module). cell_named s x.name) (some_same m driving (sym there))
no_cell (suc zero) m there = ap (λ (x : Module). cell_named s x.name) (some_same m receiving (sym there))
no_cell (suc (suc zero)) m there = ap (λ (x : Module). cell_named s x.name) (some_same m pair_top (sym there))
no_cell (suc (suc (suc n))) m there = cc

none_or_some : {X : Type 0} (o : Option X) (x : X) → o ≡ None → o ≡ Some x → ⊥
none_or_some o x e f = cc

-- an input of the top is the one that it has
top_label : (x : Spot) → IsTopInput s x → label x ≡ codes "x"
top_label x top =
    let port : top.port.name ≡ codes "x" = at_ports OnlyInput (λ e. refl) (λ e. cc) (λ e. cc) (λ e. cc) (λ e. cc) (λ e. cc) (λ e. cc) (λ e. cc)
    (λ e. cc) [] top.port top.has_port refl in
    ap (λ w. joined (path w) x.net) top.in_top ∙ sym top.same ∙ port
  where
    OnlyInput : Way → Port → Type 0
    OnlyInput w p = w ≡ [] → p.name ≡ codes "x"

no_fault : IsFaultless s
no_fault _ (IsFault.module_twice n earlier m other there before less same) = names_differ n earlier m other there before less same
no_fault _ (IsFault.module_and_cell n c m there cell) = none_or_some (cell_named s m.name) c (no_cell n m there) cell
no_fault _ (IsFault.port_mismatch n m model there is_model name ports) = is_model
no_fault _ (IsFault.recursion way n k m i is there type upward) =
    at_insts (λ w x j. type_of s j.kind ≡ Some (ModuleBody k) → IsAtOrAbove s k w → ⊥) (λ e. not_above k 0 e (λ z. cc)) (λ e. not_above k 1 e (λ z. cc))
    (λ e up. of_cell k e) (λ e up. of_cell k e) way n m i is there type upward
no_fault _ (IsFault.no_top none) = cc
no_fault _ (IsFault.unknown_type way n m i is there none) =
    at_insts (λ w x j. type_of s j.kind ≡ None → ⊥) (λ e. cc) (λ e. cc) (λ e. cc) (λ e. cc) way n m i is there none
no_fault _ (IsFault.size large) = not_large large
no_fault _ (IsFault.unknown_port way n m i c body is there conn type none) =
    at_conns (λ x j k. port_of_conn s j k ≡ None → ⊥) (λ e. cc) (λ e. cc) (λ e. cc) (λ e. cc) (λ e. cc) (λ e. cc) (λ e. cc)
    (λ e. cc) way n m i c is there conn none
no_fault _ (IsFault.selected_in_conn way n m i c e name is there conn expr wrong) =
    at_conns (λ x j k. k.expr ≡ Some e → IsIn name (misselected x e) → ⊥)
    (selects_rightly pair_top (codes "x") (simp of_expressions) e name) (selects_rightly pair_top (codes "n") (simp of_expressions) e name)
    (selects_rightly pair_top (codes "n") (simp of_expressions) e name) (λ f _. nothing_connected e f)
    (selects_rightly driving (codes "x") (simp of_expressions) e name) (selects_rightly driving (codes "y") (simp of_expressions) e name)
    (selects_rightly receiving (codes "a") (simp of_expressions) e name) (selects_rightly receiving (codes "z") (simp of_expressions) e name)
    way n m i c is there conn expr wrong
no_fault _ (IsFault.selected_in_assign way n m a name is there wrong) = at_modules (λ w x. IsIn a x.assigns → ⊥) (λ h. h) (λ h. h) (λ h. h) way n m is there
no_fault _ (IsFault.width_of_conn way n m i c e p is there conn expr port right differ) =
    differ (
    at_conns (λ x j k. k.expr ≡ Some e → port_of_conn s j k ≡ Some p → length (signals x e) ≡ width p.range)
    (has_width pair_top (codes "x") line_a (record { port = codes "x"; expr = Some (Whole (codes "x")) }) (input (codes "x")) (simp of_expressions) refl e p)
    (has_width pair_top (codes "n") line_a (record { port = codes "y"; expr = Some (Whole (codes "n")) }) (output (codes "y")) (simp of_expressions) refl e p)
    (has_width pair_top (codes "n") line_b (record { port = codes "a"; expr = Some (Whole (codes "n")) }) (input (codes "a")) (simp of_expressions) refl e p)
    (λ f _. absurd (nothing_connected e f))
    (has_width driving (codes "x") line_o (record { port = codes "A"; expr = Some (Whole (codes "x")) }) (input (codes "A")) (simp of_expressions) refl e p)
    (has_width driving (codes "y") line_o (record { port = codes "Y"; expr = Some (Whole (codes "y")) }) (output (codes "Y")) (simp of_expressions) refl e p)
    (has_width receiving (codes "a") line_i (record { port = codes "A"; expr = Some (Whole (codes "a")) }) (input (codes "A")) (simp of_expressions) refl e p)
    (has_width receiving (codes "z") line_i (record { port = codes "Y"; expr = Some (Whole (codes "z")) }) (output (codes "Y")) (simp of_expressions) refl e p)
    way n m i c is there conn expr port)
no_fault _ (IsFault.width_of_assign way n m a name names is there left right differ first) =
    at_modules (λ w x. IsIn a x.assigns → ⊥) (λ h. h) (λ h. h) (λ h. h) way n m is there
no_fault _ (IsFault.path_twice x y name way n line p q differ later at) = differ (one_thing x y name p q)
no_fault _ (IsFault.multi_driven way other n k l line line' m x a b name p q differ later is named) =
    let first = at_links IsListed (inl refl) (inr (inl refl)) (inr (inr (inl refl))) (inr (inr (inr (inl refl)))) (inr (inr (inr (inr (inl refl)))))
    (inr (inr (inr (inr (inr (inl refl)))))) (inr (inr (inr (inr (inr (inr (inl refl))))))) other l line' x b p in
    let second = at_links IsListed (inl refl) (inr (inl refl)) (inr (inr (inl refl))) (inr (inr (inr (inl refl)))) (inr (inr (inr (inr (inl refl)))))
    (inr (inr (inr (inr (inr (inl refl)))))) (inr (inr (inr (inr (inr (inr (inl refl))))))) way k line x a q in
    let same : (other, l) ≡ (way, k) = one_entry links refl (other, l) (way, k) (label x) first.2 second.2 in
    differ (ap (λ (e : Way × ℕ). e.0) same) (ap (λ (e : Way × ℕ). e.1) same)
no_fault _ (IsFault.driven_input way n k line m x a name p top is named) =
    let listed = at_links (λ w j y z. label y ≢ codes "x") (other_name _ _ refl) (other_name _ _ refl) (other_name _ _ refl) (other_name _ _ refl)
    (other_name _ _ refl)
    (other_name _ _ refl) (other_name _ _ refl) way k line x a p in
    listed.2 (top_label x top)
no_fault _ (IsFault.wire_loop way n line m x source name on_ring fed is) = let down = reached_falls x x on_ring.ring in omega arith

-- The netlist of the two blocks with the library has the design of the two blocks.
pub pair_has_its_design : IsDesignOf pair library [] (codes "top") pair_design
pair_has_its_design = record { faultless = no_fault; made = pair_is_made }
