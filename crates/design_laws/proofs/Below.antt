-- What is at or below an instance of a made design: ways that lead on from its way, and their names below it.
use Rattle.std.proofs.Common.{◌≡◌, ◌≢◌, ℕ, List, [], ◌∷◌, ◌++◌, Option, Some, length, map, refl, sym, ap, ◌∙◌, subst, arith}
use Rattle.std.specs.List.{flat_map}
use Rattle.std.specs.declared.cmp.Ordering.{Ordering}
use Rattle.std.specs.declared.cmp.Ordering.TheVariants.{Less, Equal, Greater}
use Rattle.std.proofs.lemmas.List.{append_assoc, append_cancel_left, append_cancel_right, length-append}
use Rattle.std.proofs.lemmas.Option.{same_Some}
use Rattle.pw_defs.specs.declared.design.Body.TheVariants.{Module as ModuleBody}
use Rattle.pw_defs.specs.declared.design.Design.{Design}
use Rattle.pw_defs.specs.declared.netlist.Inst.{Inst}
use Rattle.pw_defs.specs.declared.netlist.Module.{Module}
use Rattle.pw_defs.specs.declared.netlist.Net.{Net}
use Rattle.pw_defs.specs.declared.netlist.Port.{Port}
use Rattle.list_defs.specs.Members.{IsIn}
use Rattle.list_defs.proofs.Members.{IsIn-append_left, IsIn-append_right, IsIn-map, IsIn-slice_get}
use Rattle.design_defs.specs.Alike.{IsAtOrBelow, IsNamedBelow, named_below}
use Rattle.design_defs.specs.DesignFaults.{HasThingName, IsFaultless, Thing}
use Rattle.design_defs.specs.Designs.{IsMadeFrom, IsParentOf}
use Rattle.design_defs.specs.Hierarchy.{IsInstance, Sources, Way, module_at, path, way_cmp}
use Rattle.design_defs.specs.Inputs.{declared_names}
use Rattle.design_defs.specs.Joined.{parent_of, path_of}
use Rattle.design_defs.specs.Names.{joined}
use Rattle.design_defs.specs.Places.{exprs_in, names_alone, net_range}
use Rattle.design_defs.proofs.BitOrders.{way_exact}
use Rattle.design_defs.proofs.Lookups.{IsNetBy, inst_found, net_by}
use Rattle.design_laws.proofs.Lines.{line_of}
use Rattle.design_laws.proofs.NoTwoNames.{no_two_names}
use Rattle.design_laws.proofs.Numbered.{IsWayOf, is_instance, one_number, one_way, parent_of_way, path_of_way, way_of_parent}
use Rattle.design_laws.proofs.SpotLists.{same_way_equal}
use Rattle.design_laws.specs.FullNames.{HaveFullNames, names_of}
use Rattle.design_defs.proofs.OneDesign.{early_of}

-- FULL NAMES. An instance below the top has one.
pub inst_full : (s : Sources) → HaveFullNames s → (name : List ℕ) (outer : Way) → IsInstance s (name ∷ outer) → name ≢ []
inst_full s full name outer there =
    let line = line_of s name outer there.0 there.1 in
    let m = line.of_module in
    let found = inst_found m name line.inst line.is_inst in
    let own : IsIn line.inst.name (map (λ (i : Inst). i.name) m.insts) = IsIn-map (λ (i : Inst). i.name) line.inst m.insts found.0 in
    let first = map (λ (p : Port). p.name) m.ports ++ map (λ (n : Net). n.name) m.nets in
    let declared : IsIn line.inst.name (declared_names m) = IsIn-append_right line.inst.name first (map (λ (i : Inst). i.name) m.insts) own in
    let all : IsIn line.inst.name (names_of m) = IsIn-append_left line.inst.name (declared_names m) (flat_map names_alone (exprs_in m)) declared in
    λ none. full m line.inst.name (IsIn-slice_get s.modules line.number m line.is_module.is_module) all (sym found.1 ∙ none)

-- a net of a module has one
pub net_full : (s : Sources) → HaveFullNames s → (n : ℕ) (m : Module) (net : List ℕ) (range : Option (ℕ × ℕ)) → module_at s n ≡ Some m
    → net_range m net ≡ Some range → net ≢ []
net_full s full n m net range is e none = full m net (IsIn-slice_get s.modules n m is) (all (net_by m net range e)) none
  where
    ports : List (List ℕ)
    ports = map (λ (p : Port). p.name) m.ports

    wires : List (List ℕ)
    wires = map (λ (x : Net). x.name) m.nets

    insts : List (List ℕ)
    insts = map (λ (i : Inst). i.name) m.insts

    used : List (List ℕ)
    used = flat_map names_alone (exprs_in m)

    all : IsNetBy m net range → IsIn net (names_of m)
    all (IsNetBy.by_port p there name same) =
        subst (λ x. IsIn x (names_of m)) (sym name) (IsIn-append_left p.name (declared_names m) used (IsIn-append_left p.name (ports ++ wires) insts
        (IsIn-append_left p.name ports wires (IsIn-map (λ (q : Port). q.name) p m.ports there))))
    all (IsNetBy.by_wire w there name same) =
        subst (λ x. IsIn x (names_of m)) (sym name) (IsIn-append_left w.name (declared_names m) used (IsIn-append_left w.name (ports ++ wires) insts
        (IsIn-append_right w.name ports wires (IsIn-map (λ (x : Net). x.name) w m.nets there))))
    all (IsNetBy.by_use there none) = IsIn-append_right net (declared_names m) used there

-- NAMES BELOW. What is joined below the path of an instance is joined below the instance.
pub joined_below : (above below name : List ℕ) → (below ≡ [] → name ≢ []) → joined (named_below above below) name ≡ named_below above (joined below name)
joined_below above [] [] some = absurd (some refl refl)
joined_below above [] (c ∷ cs) some = refl
joined_below [] (b ∷ bs) name some = refl
joined_below (a ∷ more) (b ∷ bs) name some = append_assoc (a ∷ more) (47 ∷ b ∷ bs) (47 ∷ name)

-- a name below a path is one
pub one_below : (above x y : List ℕ) → named_below above x ≡ named_below above y → x ≡ y
one_below above [] [] e = refl
one_below [] [] (c ∷ cs) e = e
one_below (a ∷ more) [] (c ∷ cs) e = let lengths = ap length e in let longer = length-append (a ∷ more) (47 ∷ c ∷ cs) in absurd (omega arith)
one_below [] (c ∷ cs) [] e = e
one_below (a ∷ more) (c ∷ cs) [] e = let lengths = ap length e in let longer = length-append (a ∷ more) (47 ∷ c ∷ cs) in absurd (omega arith)
one_below [] (c ∷ cs) (b ∷ bs) e = e
one_below (a ∷ more) (c ∷ cs) (b ∷ bs) e =
    let rest : 47 ∷ c ∷ cs ≡ 47 ∷ b ∷ bs = append_cancel_left (a ∷ more) (47 ∷ c ∷ cs) (47 ∷ b ∷ bs) e in
    cc

-- the path of what is below an instance
pub path_below : (s : Sources) → HaveFullNames s → (top below : Way) → IsInstance s (below ++ top) → path (below ++ top) ≡ named_below (path top) (path below)
path_below s full top [] there = refl
path_below s full top (name ∷ below) there =
    let line = line_of s name (below ++ top) there.0 there.1 in
    let outer : IsInstance s (below ++ top) = (ModuleBody line.number, line.is_module.body) in
    let some = inst_full s full name (below ++ top) there in
    ap (λ p. joined p name) (path_below s full top below outer) ∙ joined_below (path top) (path below) name (λ _. some)

-- the path of a way that isn't empty isn't empty
pub path_full : (name : List ℕ) (outer : Way) → name ≢ [] → path (name ∷ outer) ≢ []
path_full name outer some = by (path outer)
  where
    by : (p : List ℕ) → joined p name ≢ []
    by [] e = some e
    by (c ∷ cs) e = cc

-- two instances below the top with one path are the same
one_of_path : (s : Sources) → IsFaultless s → (n m : List ℕ) (v w : Way) → IsInstance s (n ∷ v) → IsInstance s (m ∷ w) → path (n ∷ v) ≡ path (m ∷ w) → n ∷ v ≡ m ∷ w
one_of_path s faultless n m v w first second same = by (way_cmp (n ∷ v) (m ∷ w)) refl
  where
    thing_way : Thing.instance (n ∷ v) ≡ Thing.instance (m ∷ w) → n ∷ v ≡ m ∷ w
    thing_way e = cc

    differ : (n ∷ v ≢ m ∷ w) → ⊥
    differ other =
        no_two_names s (early_of s faultless) (Thing.instance (n ∷ v)) (Thing.instance (m ∷ w)) (path (n ∷ v)) (HasThingName.instance n v first)
        (subst (HasThingName s (Thing.instance (m ∷ w))) (sym same) (HasThingName.instance m w second)) (λ e. other (thing_way e))

    equal : n ∷ v ≡ m ∷ w → way_cmp (n ∷ v) (m ∷ w) ≡ Equal
    equal e = ap (λ (x : Way). way_cmp x (m ∷ w)) e ∙ same_way_equal (m ∷ w)

    by : (o : Ordering) → way_cmp (n ∷ v) (m ∷ w) ≡ o → n ∷ v ≡ m ∷ w
    by Less e = absurd (differ (λ same. unequal (sym e ∙ equal same)))
      where
        unequal : Less ≡ Equal → ⊥
        unequal h = cc
    by Equal e = way_exact (n ∷ v) (m ∷ w) e
    by Greater e = absurd (differ (λ same. unequal (sym e ∙ equal same)))
      where
        unequal : Greater ≡ Equal → ⊥
        unequal h = cc

-- two ways below an instance with one path are the same
pub one_way_below : (s : Sources) → IsFaultless s → HaveFullNames s → (top v w : Way) → IsInstance s (v ++ top) → IsInstance s (w ++ top) → path v ≡ path w → v ≡ w
one_way_below s faultless full top [] [] first second same = refl
one_way_below s faultless full top [] (m ∷ w) first second same = absurd (path_full m w (inst_full s full m (w ++ top) second) (sym same))
one_way_below s faultless full top (n ∷ v) [] first second same = absurd (path_full n v (inst_full s full n (v ++ top) first) same)
one_way_below s faultless full top (n ∷ v) (m ∷ w) first second same =
    let paths : path (n ∷ (v ++ top)) ≡ path (m ∷ (w ++ top)) =
    path_below s full top (n ∷ v) first ∙ ap (named_below (path top)) same ∙ sym (path_below s full top (m ∷ w) second) in
    append_cancel_right (n ∷ v) (m ∷ w) top (one_of_path s faultless n m (v ++ top) (w ++ top) first second paths)

-- INSTANCES at or below one.
pub way_below : (s : Sources) (d : Design) (made : IsMadeFrom s d) (top : ℕ) (way : Way) → IsWayOf made top way → (i : ℕ) → IsAtOrBelow d top i → (n : ℕ) → n ≡ i
    → (below : Way) × IsWayOf made n (below ++ way)
way_below s d made top way at _ (IsAtOrBelow.at i same) n is = ([], subst (λ k. IsWayOf made k way) (sym (is ∙ same)) at)
way_below s d made top way at _ (IsAtOrBelow.inside i p parent rest) n is =
    let outer = way_below s d made top way at p rest p refl in
    let found = way_of_parent s d made n (Some p) (ap (parent_of d) is ∙ parent) in
    inside outer.0 outer.1 found.0 found.1 found.2
  where
    inside : (below : Way) → IsWayOf made p (below ++ way) → (own : Way) → IsWayOf made n own → IsParentOf made.numbering.ways own (Some p)
        → (more : Way) × IsWayOf made n (more ++ way)
    inside below there [] is' of = let e = of in cc
    inside below there (name ∷ outer) is' of =
        let numbers : p ≡ of.0 = same_Some p of.0 of.1 in
        let same : outer ≡ below ++ way = one_way s d made p outer (below ++ way) (subst (λ k. IsWayOf made k outer) (sym numbers) of.2) there in
        (name ∷ below, subst (IsWayOf made n) (ap (λ (w : Way). name ∷ w) same) is')

pub below_way : (s : Sources) (d : Design) (made : IsMadeFrom s d) (top : ℕ) (way : Way) → IsWayOf made top way → (below : Way) (i : ℕ) → IsWayOf made i (below ++ way)
    → IsAtOrBelow d top i
below_way s d made top way at [] i is = IsAtOrBelow.at i (one_number s d made i top way is at)
below_way s d made top way at (name ∷ below) i is =
    let parent = parent_of_way s d made i (name ∷ (below ++ way)) is in
    let of = parent.2 in
    IsAtOrBelow.inside i of.0 (parent.1 ∙ ap Some of.1) (below_way s d made top way at below of.0 of.2)

-- an instance below has the path of its way as its name there, and no other
pub named_by_way : (s : Sources) (d : Design) (made : IsMadeFrom s d) → HaveFullNames s → (top : ℕ) (way : Way) → IsWayOf made top way → (below : Way) (i : ℕ)
    → IsWayOf made i (below ++ way) → IsNamedBelow d top (path below) i
named_by_way s d made full top way at below i is =
    record {
      at_or_below = below_way s d made top way at below i is;
      path = path way;
      path_of_top = path_of_way s d made top way at;
      path_there = path_of_way s d made i (below ++ way) is ∙ ap Some (path_below s full way below (is_instance s d made i (below ++ way) is));
    }

pub way_of_name : (s : Sources) (d : Design) (made : IsMadeFrom s d) → HaveFullNames s → (top : ℕ) (way : Way) → IsWayOf made top way → (name : List ℕ) (i : ℕ)
    → IsNamedBelow d top name i → (below : Way) × IsWayOf made i (below ++ way) × (path below ≡ name)
way_of_name s d made full top way at name i named =
    let found = way_below s d made top way at i named.at_or_below i refl in
    let own : path_of d i ≡ Some (named_below (path way) (path found.0)) =
    path_of_way s d made i (found.0 ++ way) found.1 ∙ ap Some (path_below s full way found.0 (is_instance s d made i (found.0 ++ way) found.1)) in
    let above : named.path ≡ path way = same_Some named.path (path way) (sym named.path_of_top ∙ path_of_way s d made top way at) in
    let paths : named_below (path way) (path found.0) ≡ named_below named.path name =
    same_Some (named_below (path way) (path found.0)) (named_below named.path name) (sym own ∙ named.path_there) in
    (found.0, found.1, one_below (path way) (path found.0) name (paths ∙ ap (λ p. named_below p name) above))
