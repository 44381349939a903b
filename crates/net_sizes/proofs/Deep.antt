-- The depth below a module is one more than the greatest depth below its instances.
use Rattle.std.proofs.Common.{◌≡◌, ◌≢◌, ℕ, ◌+◌, ◌<◌, ◌≤◌, ◌⊎◌, List, [], ◌∷◌, ◌++◌, Option, None, Some, option_and_then, length, map, min, max, set, slice_index, inl, inr, refl, sym, ap, ◌∙◌, subst, arith, length-append, get_or-set_other, get_or-set_same}
use Rattle.std.proofs.lemmas.Bool.{cases_lt}
use Rattle.std.proofs.lemmas.Option.{same_Some}
use Rattle.list_defs.specs.Members.{IsIn}
use Rattle.list_defs.proofs.Members.{IsIn-append_cases, IsIn-append_left, IsIn-append_right, IsIn-map, IsIn-map_from}
use Rattle.pw_defs.specs.declared.design.Body.{Body}
use Rattle.pw_defs.specs.declared.design.Body.TheVariants.{Module as ModuleBody, Cell as CellBody, Model as ModelBody}
use Rattle.pw_defs.specs.declared.netlist.Inst.{Inst}
use Rattle.pw_defs.specs.declared.netlist.Module.{Module}
use Rattle.design_defs.specs.Hierarchy.{Sources, Way, body_inside, module_at, module_named, type_of}
use Rattle.design_defs.proofs.Lookups.{inside_by}
use Rattle.net_sizes.specs.Depths.{AreDeep, HasDeeper, HasDepth, IsDeep, IsDeepest, depth_in}
use Rattle.net_hierarchy.specs.Graph.{AreInstsApart, Holds, types_of}
use Rattle.net_hierarchy.specs.Below.{body_below}
use Rattle.net_hierarchy.proofs.Below.{at_below, below_first, snoc_view}
use Rattle.net_hierarchy.proofs.Places.{same_or_not}
use Rattle.net_hierarchy.proofs.Ways.{holds_by, inside_of_line}

-- one number more
pub deepest_more : {X : Type 0} (number : X → ℕ) (xs : List X) (x : X) (depth new : ℕ) → IsDeepest number xs depth → new ≡ max (number x) depth → IsDeepest number (xs ++ x ∷ []) new
deepest_more {X} number xs x depth new is e = record { bound = bound; one = one (cases_lt depth (number x)) is.one }
  where
    bound : (y : X) → IsIn y (xs ++ x ∷ []) → number y ≤ new
    bound y there =
        elim (IsIn-append_cases y xs (x ∷ []) there) [
          | inl old ↦ (let le = is.bound y old in omega arith)
          | inr last ↦ elim last [ inl same ↦ (let number_same = ap number same in omega arith) | inr never ↦ absurd never ]
        ]

    one : (depth < number x) ⊎ (number x ≤ depth) → (depth ≡ 0) ⊎ ((y : X) × IsIn y xs × (number y ≡ depth)) → (new ≡ 0) ⊎ ((y : X) × IsIn y (xs ++ x ∷ []) × (number y ≡ new))
    one (inl more) old = inr (x, IsIn-append_right x xs (x ∷ []) (inl refl), omega arith)
    one (inr less) (inl none) = inl (omega arith)
    one (inr less) (inr found) = inr (found.0, IsIn-append_left found.0 xs (x ∷ []) found.1, found.2 ∙ omega arith)

leaf_depth : (s : Sources) (b : Body) → ((name : List ℕ) → body_inside s name b ≡ None) → HasDepth s b 0
leaf_depth s b none = record { longest = []; end = b; there = refl; long = refl; bound = bound }
  where
    bound : (way : Way) (other : Body) → body_below s b way ≡ Some other → length way ≤ 0
    bound way other there =
        elim (snoc_view way) [
          | inl empty ↦ (let short = ap length empty in omega arith)
          | inr more ↦
              (let nothing : body_below s b way ≡ None = ap (body_below s b) more.2 ∙ below_first s b more.0 more.1 ∙ ap (option_and_then (λ c. body_below s c more.0)) (none more.1) in
              let something : body_below s b way ≡ Some other = there in
              cc)
        ]

module _ (s : Sources) (apart : AreInstsApart s) (most : ℕ) (depths done : List ℕ) (deep : AreDeep s most depths done) where
  -- the depth at an instance, the instance among it
  record IsStep (i : Inst) (v : ℕ) : Type 0 where
    pub number : depth_in depths most (type_of s i.kind) ≡ min most v
    pub none : type_of s i.kind ≡ None → v ≡ 0
    pub some : (b : Body) → type_of s i.kind ≡ Some b → (d : ℕ) × HasDepth s b d × (v ≡ d + 1)

  record IsGreatest (insts : List Inst) (d : ℕ) : Type 0 where
    pub bound : (i : Inst) → IsIn i insts → (v : ℕ) × IsStep i v × (v ≤ d)
    pub one : (d ≡ 0) ⊎ ((i : Inst) × IsIn i insts × IsStep i d)

  greatest : (insts : List Inst) → ((i : Inst) → IsIn i insts → (v : ℕ) × IsStep i v) → (d : ℕ) × IsGreatest insts d
  greatest [] step = (0, record { bound = λ i none. absurd none; one = inl refl })
  greatest (x ∷ xs) step = by (step x (inl refl)) (greatest xs (λ i there. step i (inr there)))
    where
      by : (v : ℕ) × IsStep x v → (d : ℕ) × IsGreatest xs d → (d : ℕ) × IsGreatest (x ∷ xs) d
      by here rest = elim (cases_lt here.0 rest.0) [ inl less ↦ old less | inr more ↦ new more ]
        where
          old : here.0 < rest.0 → (d : ℕ) × IsGreatest (x ∷ xs) d
          old less = (rest.0, record { bound = bound; one = elim rest.1.one [ inl none ↦ inl none | inr found ↦ inr (found.0, inr found.1, found.2) ] })
            where
              bound : (i : Inst) → (i ≡ x) ⊎ IsIn i xs → (v : ℕ) × IsStep i v × (v ≤ rest.0)
              bound i (inl same) = subst (λ j. (v : ℕ) × IsStep j v × (v ≤ rest.0)) (sym same) (here.0, here.1, omega arith)
              bound i (inr later) = rest.1.bound i later

          new : rest.0 ≤ here.0 → (d : ℕ) × IsGreatest (x ∷ xs) d
          new more = (here.0, record { bound = bound; one = inr (x, inl refl, here.1) })
            where
              bound : (i : Inst) → (i ≡ x) ⊎ IsIn i xs → (v : ℕ) × IsStep i v × (v ≤ here.0)
              bound i (inl same) = subst (λ j. (v : ℕ) × IsStep j v × (v ≤ here.0)) (sym same) (here.0, here.1, omega arith)
              bound i (inr later) = let old_one = rest.1.bound i later in (old_one.0, old_one.1, (let le = old_one.2 in omega arith))

  module _ (n : ℕ) (m : Module) (is : module_at s n ≡ Some m) (behind : (k : ℕ) → Holds (types_of s) n k → IsIn k done) where
    step : (i : Inst) → IsIn i m.insts → (v : ℕ) × IsStep i v
    step i one = by (type_of s i.kind) refl
      where
        of_body : (b : Body) (d : ℕ) → type_of s i.kind ≡ Some b → HasDepth s b d → depth_in depths most (Some b) ≡ min most (d + 1) → (v : ℕ) × IsStep i v
        of_body b d e has number = (
          d + 1,
          record {
            number = ap (depth_in depths most) e ∙ number;
            none = λ none. (let never : None ≡ Some b = sym none ∙ e in cc);
            some = λ c f. (d, subst (λ x. HasDepth s x d) (same_Some b c (sym e ∙ f)) has, refl);
          },
        )

        by : (o : Option Body) → type_of s i.kind ≡ o → (v : ℕ) × IsStep i v
        by None e = (0, record { number = ap (depth_in depths most) e ∙ omega arith; none = λ x. refl; some = λ b f. (let never : None ≡ Some b = sym e ∙ f in cc) })
        by (Some (ModuleBody k)) e =
            let below = deep k (behind k (holds_by s n k m i is one e)) in
            let number = below.number in
            of_body (ModuleBody k) below.depth e below.has (omega arith)
        by (Some (CellBody c)) e = of_body (CellBody c) 0 e (leaf_depth s (CellBody c) (λ name. refl)) (omega arith)
        by (Some (ModelBody c)) e = of_body (ModelBody c) 0 e (leaf_depth s (ModelBody c) (λ name. refl)) (omega arith)

    has_depth : (d : ℕ) → IsGreatest m.insts d → HasDepth s (ModuleBody n) d
    has_depth d great = elim great.one [ inl none ↦ flat none | inr found ↦ longer found.0 found.1 found.2 (type_of s found.0.kind) refl ]
      where
        further : (way front : Way) (name : List ℕ) (other : Body) → way ≡ front ++ name ∷ [] → body_below s (ModuleBody n) way ≡ Some other
            → (o : Option Body) → body_inside s name (ModuleBody n) ≡ o → length way ≤ d
        further way front name other parts there None e =
            let nothing : body_below s (ModuleBody n) way ≡ None = ap (body_below s (ModuleBody n)) parts ∙ below_first s (ModuleBody n) front name ∙ ap (option_and_then (λ c. body_below s c front)) e in
            cc
        further way front name other parts there (Some b) e =
            let by = inside_by s name (ModuleBody n) b e in
            let number : n ≡ by.number = let h = by.is_outer in cc in
            let module_same : by.of_module ≡ m = same_Some by.of_module m (sym by.is_module ∙ ap (module_at s) (sym number) ∙ is) in
            let one : IsIn by.inst m.insts = subst (λ (y : Module). IsIn by.inst y.insts) module_same by.is_line in
            let below : body_below s b front ≡ Some other =
            sym (ap (body_below s (ModuleBody n)) parts ∙ below_first s (ModuleBody n) front name ∙ ap (option_and_then (λ c. body_below s c front)) e) ∙ there in
            let v = great.bound by.inst one in
            let inner = v.1.some b by.is_type in
            let short = inner.1.bound front other below in
            let count : length way ≡ length front + 1 = ap length parts ∙ length-append front (name ∷ []) in
            let v_is = inner.2 in
            let v_le = v.2 in
            omega arith

        bound : (way : Way) (other : Body) → body_below s (ModuleBody n) way ≡ Some other → length way ≤ d
        bound way other there =
            elim (snoc_view way) [
              | inl empty ↦ (let short = ap length empty in omega arith)
              | inr more ↦ further way more.0 more.1 other more.2 there (body_inside s more.1 (ModuleBody n)) refl
            ]

        flat : d ≡ 0 → HasDepth s (ModuleBody n) d
        flat none = record { longest = []; end = ModuleBody n; there = refl; long = sym none; bound = bound }

        longer : (i : Inst) → IsIn i m.insts → IsStep i d → (o : Option Body) → type_of s i.kind ≡ o → HasDepth s (ModuleBody n) d
        longer i one is_step None e = flat (is_step.none e)
        longer i one is_step (Some b) e =
            let inner = is_step.some b e in
            let inside = inside_of_line s apart n (Some b) (record { m = m; i = i; is_module = is; one = one; is_type = e }) in
            record {
              longest = inner.1.longest ++ i.name ∷ [];
              end = inner.1.end;
              there = below_first s (ModuleBody n) inner.1.longest i.name ∙ ap (option_and_then (λ c. body_below s c inner.1.longest)) inside ∙ inner.1.there;
              long = length-append inner.1.longest (i.name ∷ []) ∙ ap (λ (k : ℕ). k + 1) inner.1.long ∙ sym inner.2;
              bound = bound;
            }

    pub one_deeper : (x : ℕ) → IsDeepest (depth_in depths most) (map (λ (i : Inst). type_of s i.kind) m.insts) x → (d : ℕ) × HasDepth s (ModuleBody n) d × (x ≡ min most d)
    one_deeper x deepest =
        let great = greatest m.insts step in
        (great.0, has_depth great.0 great.1, same great.0 great.1)
      where
        upper : (d : ℕ) → IsGreatest m.insts d → x ≤ min most d
        upper d great =
            elim deepest.one [
              | inl none ↦ omega arith
              | inr found ↦
                  (let inst = IsIn-map_from (λ (i : Inst). type_of s i.kind) found.0 m.insts found.1 in
                  let v = great.bound inst.0 inst.1 in
                  let number : depth_in depths most found.0 ≡ min most v.0 = ap (depth_in depths most) inst.2 ∙ v.1.number in
                  let v_le = v.2 in
                  let x_is = found.2 in
                  omega arith)
            ]

        lower : (d : ℕ) → IsGreatest m.insts d → min most d ≤ x
        lower d great =
            elim great.one [
              | inl none ↦ omega arith
              | inr found ↦
                  (let le = deepest.bound (type_of s found.0.kind) (IsIn-map (λ (i : Inst). type_of s i.kind) found.0 m.insts found.1) in
                  let number = found.2.number in
                  omega arith)
            ]

        same : (d : ℕ) → IsGreatest m.insts d → x ≡ min most d
        same d great = let a = upper d great in let b = lower d great in omega arith

pub deep_more : (s : Sources) (most : ℕ) (depths done : List ℕ) (n depth : ℕ) → AreDeep s most depths done → n < length depths
    → (d : ℕ) × HasDepth s (ModuleBody n) d × (depth ≡ min most d) → AreDeep s most (set depths n depth) (done ++ n ∷ [])
deep_more s most depths done n depth deep within new k there =
    elim (same_or_not k n) [
      | inl same ↦ subst (IsDeep s most (set depths n depth)) (sym same) (record { depth = new.0; has = new.1; number = get_or-set_same depths n depth 0 within ∙ new.2 })
      | inr other ↦ older other (IsIn-append_cases k done (n ∷ []) there)
    ]
  where
    older : k ≢ n → IsIn k done ⊎ ((k ≡ n) ⊎ ⊥) → IsDeep s most (set depths n depth) k
    older other (inl old) =
        let is = deep k old in
        record { depth = is.depth; has = is.has; number = get_or-set_other depths n k depth 0 other ∙ is.number }
    older other (inr (inl same)) = absurd (other same)
    older other (inr (inr never)) = absurd never

pub deeper_of : (s : Sources) (top limit : ℕ) (depths : List ℕ) → module_named s s.top ≡ Some top → IsDeep s (limit + 1) depths top
    → (limit < slice_index depths top → HasDeeper s limit) × (HasDeeper s limit → limit < slice_index depths top)
deeper_of s top limit depths named is = (deeper, number)
  where
    is_number : slice_index depths top ≡ min (limit + 1) is.depth
    is_number = is.number

    deeper : limit < slice_index depths top → HasDeeper s limit
    deeper large = (is.has.longest, (is.has.end, at_below s top named is.has.longest ∙ is.has.there), (let long = is.has.long in omega (arith, is_number)))

    number : HasDeeper s limit → limit < slice_index depths top
    number has =
        let le = is.has.bound has.0 has.1.0 (sym (at_below s top named has.0) ∙ has.1.1) in
        let large : limit < length has.0 = has.2 in
        omega (arith, is_number)
