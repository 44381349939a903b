-- Netlists of one module without instances: the only faults that such a netlist may have are a net with two feeders and a
-- ring, where its widths fit.
use Rattle.std.proofs.Common.{◌≡◌, ℕ, zero, suc, ◌<◌, ◌≤◌, List, [], ◌∷◌, ◌++◌, length, Option, Some, None, ◌⊎◌, inl, inr, refl, sym, ap, ◌∙◌, subst, arith}
use Rattle.std.specs.Prelude.{codes}
use Rattle.std.specs.List.{slice_get}
use Rattle.std.proofs.lemmas.Option.{same_Some, none-some}
use Rattle.pw_defs.specs.declared.cells.Dir.TheVariants.{Input}
use Rattle.pw_defs.specs.declared.design.Body.{Body}
use Rattle.pw_defs.specs.declared.design.Body.TheVariants.{Module as ModuleBody}
use Rattle.pw_defs.specs.declared.netlist.Assign.{Assign}
use Rattle.pw_defs.specs.declared.netlist.Inst.{Inst}
use Rattle.pw_defs.specs.declared.netlist.Module.{Module}
use Rattle.pw_defs.specs.declared.netlist.Net.{Net}
use Rattle.pw_defs.specs.declared.netlist.Port.{Port}
use Rattle.worked_jobs.specs.Libraries.{library}
use Rattle.list_defs.specs.Members.{IsIn}
use Rattle.design_defs.specs.Bits.{IsSpot, Spot, range_in, range_of}
use Rattle.design_defs.specs.DesignFaults.{Fault, HasPort, HasPortAt, HasThingName, IsFault, IsTooLarge, Thing, kind_number, sources}
use Rattle.design_defs.specs.Hierarchy.{IsInstance, IsOfModule, Sources, Way, body_at, module_at, ports_in}
use Rattle.design_defs.specs.Places.{misselected, signals}
use Rattle.design_defs.specs.Ranges.{width}
use Rattle.list_defs.proofs.Few.{few}
use Rattle.design_defs.proofs.Lookups.{IsNetBy, at_outer, body_of_spot, net_by}

-- the input of the module
abbrev pub the_input : Port
the_input = record { name = codes "x"; dir = Input; range = None }

-- a module with one input and these wires and assignments
abbrev pub flat_module : List Net → List Assign → Module
flat_module nets assigns = record { name = codes "top"; ports = the_input ∷ []; nets = nets; assigns = assigns; insts = []; line = 1 }

abbrev pub flat : List Net → List Assign → Sources
flat nets assigns = sources (flat_module nets assigns ∷ []) library [] (codes "top")

module_body : (n m : ℕ) → ModuleBody n ≡ ModuleBody m → n ≡ m
module_body n m e = cc

-- there is one module
one_module : (nets : List Net) (assigns : List Assign) (n : ℕ) (m : Module) → module_at (flat nets assigns) n ≡ Some m
    → (n ≡ 0) × (m ≡ flat_module nets assigns)
one_module nets assigns zero m e = (refl, cc)
one_module nets assigns (suc n) m e = cc

-- there is one instance, the top
pub only_top : (nets : List Net) (assigns : List Assign) (w : Way) (b : Body) → body_at (flat nets assigns) w ≡ Some b → (w ≡ []) × (b ≡ ModuleBody 0)
only_top nets assigns [] b e = (refl, cc)
only_top nets assigns (name ∷ outer) b e =
    let out = at_outer (flat nets assigns) name outer b e in
    let top = only_top nets assigns outer out.0 out.1 in
    let number : out.2.number ≡ 0 = module_body out.2.number 0 (sym out.2.is_outer ∙ top.1) in
    let held = one_module nets assigns out.2.number out.2.of_module out.2.is_module in
    absurd (subst (λ (m : Module). IsIn out.2.inst m.insts) held.1 out.2.is_line)

-- the module of an instance is the one module, which is that of the top
pub the_module : (nets : List Net) (assigns : List Assign) (w : Way) (n : ℕ) (m : Module) → IsOfModule (flat nets assigns) w n m
    → (w ≡ []) × (n ≡ 0) × (m ≡ flat_module nets assigns)
the_module nets assigns w n m of_module =
    let top = only_top nets assigns w (ModuleBody n) of_module.body in
    let held = one_module nets assigns n m of_module.is_module in
    (top.0, held.0, held.1)

-- the widths of all assignments fit, and nothing is selected wrongly
pub record Fits (nets : List Net) (assigns : List Assign) (a : Assign) : Type 0 where
  pub left : misselected (flat_module nets assigns) a.left ≡ []
  pub right : misselected (flat_module nets assigns) a.right ≡ []
  pub widths : length (signals (flat_module nets assigns) a.left) ≡ length (signals (flat_module nets assigns) a.right)

no_inst : (nets : List Net) (assigns : List Assign) (m : Module) (i : Inst) → m ≡ flat_module nets assigns → IsIn i m.insts → ⊥
no_inst nets assigns m i e there = subst (λ (x : Module). IsIn i x.insts) e there

-- the port is the input
pub one_port : (nets : List Net) (assigns : List Assign) (w : Way) (p : Port) → HasPort (flat nets assigns) w p → (w ≡ []) × (p ≡ the_input)
one_port nets assigns w p has =
    let top = only_top nets assigns w has.0 has.2 in
    let ports : Some has.1 ≡ Some (the_input ∷ []) = sym has.3 ∙ ap (ports_in (flat nets assigns)) top.1 in
    let same : has.1 ≡ the_input ∷ [] = cc in
    (top.0, first (subst (IsIn p) same has.4))
  where
    first : (p ≡ the_input) ⊎ ⊥ → p ≡ the_input
    first (inl e) = e
    first (inr never) = absurd never

-- the one port by number is the input
one_port_at : (nets : List Net) (assigns : List Assign) (w : Way) (n : ℕ) (p : Port) → HasPortAt (flat nets assigns) w n p
    → (w ≡ []) × (n ≡ 0) × (p ≡ the_input)
one_port_at nets assigns w n p has =
    let top = only_top nets assigns w has.0 has.2 in
    let ports : Some has.1 ≡ Some (the_input ∷ []) = sym has.3 ∙ ap (ports_in (flat nets assigns)) top.1 in
    let same : has.1 ≡ the_input ∷ [] = cc in
    let here = at n (subst (λ (ps : List Port). slice_get ps n ≡ Some p) same has.4) in
    (top.0, here.0, here.1)
  where
    at : (n : ℕ) → slice_get (the_input ∷ []) n ≡ Some p → (n ≡ 0) × (p ≡ the_input)
    at zero e = (refl, sym (same_Some the_input p e))
    at (suc n) e = absurd (none-some p e)

-- the one thing that has a name is the input
one_thing : (nets : List Net) (assigns : List Assign) (t : Thing) (name : List ℕ) → HasThingName (flat nets assigns) t name → t ≡ Thing.port [] 0
one_thing nets assigns _ _ (HasThingName.instance name outer there) = let top = only_top nets assigns (name ∷ outer) there.0 there.1 in cc
one_thing nets assigns _ _ (HasThingName.port way number p has) =
    let port = one_port_at nets assigns way number p has in
    λ i. Thing.port (port.0 i) (port.1 i)
one_thing nets assigns _ _ (HasThingName.vector_bit way number p range place has vector within) =
    let port = one_port_at nets assigns way number p has in
    let none : p.range ≡ None = ap (λ (q : Port). q.range) port.2 in
    cc

-- The netlist has no fault that is looked for before two feeders of a net.
pub no_early_fault : (nets : List Net) (assigns : List Assign) (all : List Spot) → ((x : Spot) → IsSpot (flat nets assigns) x → IsIn x all)
    → length all ≤ 8000000
    → ((a : Assign) → IsIn a assigns → Fits nets assigns a) → (f : Fault) → IsFault (flat nets assigns) f → kind_number f.kind < 8 → ⊥
no_early_fault nets assigns all spots short fit _ (IsFault.module_twice n earlier m other there before less same) low =
    let held = one_module nets assigns n m there in omega arith
no_early_fault nets assigns all spots short fit _ (IsFault.module_and_cell n c m there cell) low =
    let held = one_module nets assigns n m there in cc
no_early_fault nets assigns all spots short fit _ (IsFault.port_mismatch n m model there is_model name ports) low = is_model
no_early_fault nets assigns all spots short fit _ (IsFault.recursion way n k m i of_module there type upward) low =
    no_inst nets assigns m i (the_module nets assigns way n m of_module).2 there
no_early_fault nets assigns all spots short fit _ (IsFault.no_top none) low = cc
no_early_fault nets assigns all spots short fit _ (IsFault.unknown_type way n m i of_module there none) low =
    no_inst nets assigns m i (the_module nets assigns way n m of_module).2 there
no_early_fault nets assigns all spots short fit _ (IsFault.size large) low = not_large large
  where
    not_large : IsTooLarge (flat nets assigns) → ⊥
    not_large (IsTooLarge.instances more) =
        few 1000000 (IsInstance (flat nets assigns)) ([] ∷ []) (λ w there. inl (only_top nets assigns w there.0 there.1).0) (omega arith) more
    not_large (IsTooLarge.bits more) = few 8000000 (IsSpot (flat nets assigns)) all spots short more
    not_large (IsTooLarge.depth way there deep) =
        let empty : length way ≡ 0 = ap length (only_top nets assigns way there.0 there.1).0 in omega arith
no_early_fault nets assigns all spots short fit _ (IsFault.unknown_port way n m i c body of_module there conn type none) low =
    no_inst nets assigns m i (the_module nets assigns way n m of_module).2 there
no_early_fault nets assigns all spots short fit _ (IsFault.selected_in_conn way n m i c e name of_module there conn expr wrong) low =
    no_inst nets assigns m i (the_module nets assigns way n m of_module).2 there
no_early_fault nets assigns all spots short fit _ (IsFault.selected_in_assign way n m a name of_module there wrong) low =
    let same = (the_module nets assigns way n m of_module).2 in
    let fits = fit a (subst (λ (x : Module). IsIn a x.assigns) same there) in
    let left : misselected m a.left ≡ [] = ap (λ x. misselected x a.left) same ∙ fits.left in
    let right : misselected m a.right ≡ [] = ap (λ x. misselected x a.right) same ∙ fits.right in
    let both : misselected m a.left ++ misselected m a.right ≡ [] = rw (left, right) refl in
    subst (IsIn name) both wrong
no_early_fault nets assigns all spots short fit _ (IsFault.width_of_conn way n m i c e p of_module there conn expr port right width) low =
    no_inst nets assigns m i (the_module nets assigns way n m of_module).2 there
no_early_fault nets assigns all spots short fit _ (IsFault.width_of_assign way n m a name names of_module there left right differ first) low =
    let same = (the_module nets assigns way n m of_module).2 in
    let fits = fit a (subst (λ (x : Module). IsIn a x.assigns) same there) in
    differ (ap (λ x. length (signals x a.left)) same ∙ fits.widths ∙ ap (λ x. length (signals x a.right)) (sym same))
no_early_fault nets assigns all spots short fit _ (IsFault.path_twice x y name way n line p q differ later at) low =
    differ (one_thing nets assigns x name p ∙ sym (one_thing nets assigns y name q))
no_early_fault nets assigns all spots short fit _ (IsFault.multi_driven way other n k l line line' m x a b name p q differ later of_module named) low =
    omega arith
no_early_fault nets assigns all spots short fit _ (IsFault.driven_input way n k line m x a name p q of_module named) low = omega arith
no_early_fault nets assigns all spots short fit _ (IsFault.wire_loop way n line m x a name p q of_module) low = omega arith

-- the bits are those of the input and of the wires, declared or not
pub flat_net : (nets : List Net) (assigns : List Assign) (x : Spot) (range : Option (ℕ × ℕ)) → range_of (flat nets assigns) x ≡ Some range
    → (x.way ≡ []) × IsNetBy (flat_module nets assigns) x.net range
flat_net nets assigns x range e =
    let found = body_of_spot (flat nets assigns) x range e in
    let top = only_top nets assigns x.way found.0 found.1 in
    let in_top : range_in (flat nets assigns) (ModuleBody 0) x.net ≡ Some range = ap (λ b. range_in (flat nets assigns) b x.net) (sym top.1) ∙ found.2 in
    (top.0, net_by (flat_module nets assigns) x.net range in_top)

-- a bit of the top
abbrev pub at : List ℕ → Spot
at net = record { way = []; net = net; place = 0 }

-- the bit of a net of one bit
pub at_net : (x : Spot) (net : List ℕ) (range : Option (ℕ × ℕ)) → x.way ≡ [] → x.net ≡ net → range ≡ None → x.place < width range → x ≡ at net
at_net x net range way name scalar within =
    let one : width range ≡ 1 = ap width scalar in
    let place : x.place ≡ 0 = omega arith in
    λ i. record { way = way i; net = name i; place = place i }
