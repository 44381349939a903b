-- What each step of the search through the graph of modules keeps.
use Rattle.std.proofs.Common.{◌≡◌, ◌≢◌, ℕ, zero, suc, ◌+◌, ◌≤◌, ◌⊎◌, List, [], ◌∷◌, ◌++◌, Option, None, Some, option_and_then, length, slice_get, take, set, replicate, inl, inr, refl, sym, ap, ◌∙◌, subst, arith, length-append}
use Rattle.std.proofs.lemmas.List.{take-append-le, take_all}
use Rattle.std.proofs.lemmas.Option.{same_Some, slice_get_within}
use Rattle.pw_defs.specs.declared.design.Body.{Body}
use Rattle.pw_defs.specs.declared.design.Body.TheVariants.{Module as ModuleBody, Cell as CellBody, Model as ModelBody}
use Rattle.list_defs.specs.Members.{IsIn}
use Rattle.list_defs.proofs.Members.{IsIn-append_cases, IsIn-append_left, IsIn-append_right}
use Rattle.list_defs.proofs.Longer.{slice_get-append, slice_get_front, slice_get_last}
use Rattle.list_defs.proofs.Members.{IsIn-slice_get}
use Rattle.net_hierarchy.specs.Graph.{HasCycle, Holds, IsOrder, Leads, Types}
use Rattle.net_hierarchy.specs.Search.{AreDoneTo, IsSearch, item_at, item_of, mark_at, mark_of}
use Rattle.net_hierarchy.specs.declared.search.Frame.{Frame}
use Rattle.net_hierarchy.specs.declared.search.Item.TheVariants.{End, Leaf, Module as ModuleItem}
use Rattle.net_hierarchy.specs.declared.search.Mark.{Mark}
use Rattle.net_hierarchy.specs.declared.search.Mark.TheVariants.{New, Open, Done}
use Rattle.list_defs.proofs.Longer.{slice_get-set_other}
use Rattle.net_hierarchy.proofs.Places.{get_pushed, get_replicate, get_set_same, in_take_all, in_take_more, same_or_not}

-- what stands in the row of a module
pub record IsItem (types : Types) (f : Frame) (k : ℕ) : Type 0 where
  pub row : List (Option Body)
  pub is_row : slice_get types f.number ≡ Some row
  pub there : slice_get row f.next ≡ Some (Some (ModuleBody k))

pub item_of_module : (types : Types) (f : Frame) (k : ℕ) → item_at types f ≡ ModuleItem k → IsItem types f k
item_of_module types f k e = of_row (slice_get types f.number) refl e
  where
    of_item : (row : List (Option Body)) → slice_get types f.number ≡ Some row → (o : Option (Option Body)) → slice_get row f.next ≡ o → item_of o ≡ ModuleItem k → IsItem types f k
    of_item row is None at h = cc
    of_item row is (Some None) at h = cc
    of_item row is (Some (Some (ModuleBody j))) at h = let same : j ≡ k = cc in record { row = row; is_row = is; there = at ∙ ap (λ n. Some (Some (ModuleBody n))) same }
    of_item row is (Some (Some (CellBody c))) at h = cc
    of_item row is (Some (Some (ModelBody m))) at h = cc

    of_row : (o : Option (List (Option Body))) → slice_get types f.number ≡ o → item_of (option_and_then (λ row. slice_get row f.next) o) ≡ ModuleItem k → IsItem types f k
    of_row None none h = cc
    of_row (Some row) is h = of_item row is (slice_get row f.next) refl h

pub holds_item : (types : Types) (f : Frame) (k : ℕ) → IsItem types f k → Holds types f.number k
holds_item types f k item = record { row = item.row; is_row = item.is_row; one = IsIn-slice_get item.row f.next (Some (ModuleBody k)) item.there }

-- one module comes next
pub one_item : (types : Types) (f : Frame) (n : ℕ) → item_at types f ≡ ModuleItem n → (row : List (Option Body)) (k : ℕ) → slice_get types f.number ≡ Some row
    → slice_get row f.next ≡ Some (Some (ModuleBody k)) → k ≡ n
one_item types f n item row k is at =
    let found : item_at types f ≡ ModuleItem k = ap (λ o. item_of (option_and_then (λ r. slice_get r f.next) o)) is ∙ ap item_of at in
    cc

-- at a leaf no module comes next
pub leaf_item : (types : Types) (f : Frame) → item_at types f ≡ Leaf → (row : List (Option Body)) (k : ℕ) → slice_get types f.number ≡ Some row
    → slice_get row f.next ≡ Some (Some (ModuleBody k)) → ⊥
leaf_item types f leaf row k is at =
    let found : item_at types f ≡ ModuleItem k = ap (λ o. item_of (option_and_then (λ r. slice_get r f.next) o)) is ∙ ap item_of at in
    cc

-- at the end nothing comes next
pub end_item : (types : Types) (f : Frame) → item_at types f ≡ End → (row : List (Option Body)) → slice_get types f.number ≡ Some row → slice_get row f.next ≡ None
end_item types f end row is = by (slice_get row f.next) (sym (ap (λ o. item_of (option_and_then (λ r. slice_get r f.next) o)) is) ∙ end)
  where
    by : (o : Option (Option Body)) → item_of o ≡ End → o ≡ None
    by None h = refl
    by (Some None) h = cc
    by (Some (Some (ModuleBody j))) h = cc
    by (Some (Some (CellBody c))) h = cc
    by (Some (Some (ModelBody m))) h = cc

module _ (types : Types) (top : ℕ) (marks : List Mark) (order : List ℕ) (stack : List Frame) (f : Frame) (is : IsSearch types top marks order (stack ++ f ∷ [])) where
  at_end : slice_get (stack ++ f ∷ []) (length stack) ≡ Some f
  at_end = slice_get_last stack f (length stack) refl

  -- the search goes on in the same module
  pub search_skip : (next : ℕ) → next ≤ f.next + 1
      → ((row : List (Option Body)) (k : ℕ) → slice_get types f.number ≡ Some row → slice_get row f.next ≡ Some (Some (ModuleBody k)) → IsIn k order)
      → IsSearch types top marks order (stack ++ record { number = f.number; next = next } ∷ [])
  search_skip next le passes = record {
    behind = is.behind;
    reached = is.reached;
    done = is.done;
    open_there = open_there;
    done_to = done_to;
    from_top = λ at h there. let old = before at h there in subst (Leads types top) old.2 (is.from_top at old.0 old.1);
    downward = λ at below h i there lower le_below.
        let old = before at h there in
        let old_below = before below i lower in
        subst (λ n. Leads types n i.number) old.2 (subst (λ n. Leads types old.0.number n) old_below.2 (is.downward at below old.0 old_below.0 old.1 old_below.1 le_below));
    first = λ h there. let old = before 0 h there in sym old.2 ∙ is.first old.0 old.1;
    last = λ e. let none = ap length e in absurd (omega (arith, none, length-append {A = Frame}));
  }
    where
      new : Frame
      new = record { number = f.number; next = next }

      before : (at : ℕ) (h : Frame) → slice_get (stack ++ new ∷ []) at ≡ Some h → (g : Frame) × (slice_get (stack ++ f ∷ []) at ≡ Some g) × (g.number ≡ h.number)
      before at h there =
          elim (get_pushed stack new at h there) [
            | inl old ↦ (h, slice_get-append stack (f ∷ []) at h old, refl)
            | inr last ↦ (f, slice_get_last stack f at last.0, sym (ap (λ (x : Frame). x.number) last.1))
          ]

      open_there : (n : ℕ) → slice_get marks n ≡ Some Open → (at : ℕ) × (h : Frame) × (slice_get (stack ++ new ∷ []) at ≡ Some h) × (h.number ≡ n)
      open_there n e =
          let old = is.open_there n e in
          elim (get_pushed stack f old.0 old.1 old.2) [
            | inl there ↦ (old.0, old.1, slice_get-append stack (new ∷ []) old.0 old.1 there, old.3)
            | inr last ↦ (length stack, new, slice_get_last stack new (length stack) refl, sym (ap (λ (x : Frame). x.number) last.1) ∙ old.3)
          ]

      done_to : (at : ℕ) (h : Frame) → slice_get (stack ++ new ∷ []) at ≡ Some h → AreDoneTo types order h
      done_to at h there =
          elim (get_pushed stack new at h there) [
            | inl old ↦ is.done_to at h (slice_get-append stack (f ∷ []) at h old)
            | inr last ↦ subst (AreDoneTo types order) (sym last.1) here
          ]
        where
          here : AreDoneTo types order new
          here row k is_row one =
              elim (in_take_more (Some (ModuleBody k)) row f.next next le one) [
                | inl old ↦ is.done_to (length stack) f at_end row k is_row old
                | inr next_one ↦ passes row k is_row next_one
              ]

  -- the search goes into a module that this one holds
  pub search_enter : (k : ℕ) → Holds types f.number k → IsSearch types top (set marks k Open) order ((stack ++ f ∷ []) ++ record { number = k; next = 0 } ∷ [])
  search_enter k holds = record {
    behind = is.behind;
    reached = is.reached;
    done = done;
    open_there = open_there;
    done_to = done_to;
    from_top = from_top;
    downward = downward;
    first = λ h there. is.first h (slice_get_front (stack ++ f ∷ []) (new ∷ []) 0 h (omega (arith, length-append {A = Frame})) there);
    last = λ e. let none = ap length e in absurd (omega (arith, none, length-append {A = Frame}));
  }
    where
      new : Frame
      new = record { number = k; next = 0 }

      done : (n : ℕ) → slice_get (set marks k Open) n ≡ Some Done → IsIn n order
      done n e =
          elim (same_or_not n k) [
            | inl same ↦ (let one : Open ≡ Done = get_set_same marks k Open Done (subst (λ j. slice_get (set marks k Open) j ≡ Some Done) same e) in cc)
            | inr other ↦ is.done n (sym (slice_get-set_other marks k n Open other) ∙ e)
          ]

      open_there : (n : ℕ) → slice_get (set marks k Open) n ≡ Some Open → (at : ℕ) × (h : Frame) × (slice_get ((stack ++ f ∷ []) ++ new ∷ []) at ≡ Some h) × (h.number ≡ n)
      open_there n e =
          elim (same_or_not n k) [
            | inl same ↦ (length (stack ++ f ∷ []), new, slice_get_last (stack ++ f ∷ []) new (length (stack ++ f ∷ [])) refl, sym same)
            | inr other ↦
                (let old = is.open_there n (sym (slice_get-set_other marks k n Open other) ∙ e) in
                (old.0, old.1, slice_get-append (stack ++ f ∷ []) (new ∷ []) old.0 old.1 old.2, old.3))
          ]

      done_to : (at : ℕ) (h : Frame) → slice_get ((stack ++ f ∷ []) ++ new ∷ []) at ≡ Some h → AreDoneTo types order h
      done_to at h there =
          elim (get_pushed (stack ++ f ∷ []) new at h there) [
            | inl old ↦ is.done_to at h old
            | inr last ↦ subst (AreDoneTo types order) (sym last.1) (λ row j is_row none. absurd none)
          ]

      from_top : (at : ℕ) (h : Frame) → slice_get ((stack ++ f ∷ []) ++ new ∷ []) at ≡ Some h → Leads types top h.number
      from_top at h there =
          elim (get_pushed (stack ++ f ∷ []) new at h there) [
            | inl old ↦ is.from_top at h old
            | inr last ↦
                subst (λ (x : Frame). Leads types top x.number) (sym last.1) (Leads.further top f.number k (is.from_top (length stack) f at_end) holds)
          ]

      downward : (at below : ℕ) (h i : Frame) → slice_get ((stack ++ f ∷ []) ++ new ∷ []) at ≡ Some h
          → slice_get ((stack ++ f ∷ []) ++ new ∷ []) below ≡ Some i → at ≤ below → Leads types h.number i.number
      downward at below h i there lower le =
          elim (get_pushed (stack ++ f ∷ []) new below i lower) [
            | inl old_below ↦
                (let within = slice_get_within (stack ++ f ∷ []) below i old_below in
                is.downward at below h i (slice_get_front (stack ++ f ∷ []) (new ∷ []) at h (omega arith) there) old_below le)
            | inr last ↦ subst (λ (x : Frame). Leads types h.number x.number) (sym last.1) (to_new (get_pushed (stack ++ f ∷ []) new at h there))
          ]
        where
          to_new : (slice_get (stack ++ f ∷ []) at ≡ Some h) ⊎ ((at ≡ length (stack ++ f ∷ [])) × (h ≡ new)) → Leads types h.number k
          to_new (inl old) =
              let within = slice_get_within (stack ++ f ∷ []) at h old in
              Leads.further h.number f.number k (is.downward at (length stack) h f old at_end (omega (arith, within, length-append {A = Frame}))) holds
          to_new (inr same) = subst (λ (x : Frame). Leads types x.number k) (sym same.1) (Leads.here k)

  -- the search leaves a module that is done
  pub search_leave : ((row : List (Option Body)) → slice_get types f.number ≡ Some row → slice_get row f.next ≡ None)
      → IsSearch types top (set marks f.number Done) (order ++ f.number ∷ []) stack
  search_leave at_row_end = record {
    behind = behind;
    reached = reached;
    done = done;
    open_there = open_there;
    done_to = λ at h there row k is_row one. IsIn-append_left k order (f.number ∷ []) (is.done_to at h (slice_get-append stack (f ∷ []) at h there) row k is_row one);
    from_top = λ at h there. is.from_top at h (slice_get-append stack (f ∷ []) at h there);
    downward = λ at below h i there lower le. is.downward at below h i (slice_get-append stack (f ∷ []) at h there) (slice_get-append stack (f ∷ []) below i lower) le;
    first = λ h there. is.first h (slice_get-append stack (f ∷ []) 0 h there);
    last = last;
  }
    where
      behind : (at n k : ℕ) → slice_get (order ++ f.number ∷ []) at ≡ Some n → Holds types n k → IsIn k (take at (order ++ f.number ∷ []))
      behind at n k there holds =
          elim (get_pushed order f.number at n there) [
            | inl old ↦
                (let within = slice_get_within order at n old in
                let le : at ≤ length order = omega arith in
                subst (IsIn k) (sym (take-append-le at order (f.number ∷ []) le)) (is.behind at n k old holds))
            | inr new ↦
                (let le : at ≤ length order = omega (arith, new.0) in
                let whole : take at order ≡ order = take_all at order (omega (arith, new.0)) in
                subst (IsIn k) (sym (take-append-le at order (f.number ∷ []) le ∙ whole)) (all_done (subst (λ m. Holds types m k) new.1 holds)))
          ]
        where
          all_done : Holds types f.number k → IsIn k order
          all_done holds =
              is.done_to (length stack) f at_end holds.row k holds.is_row (in_take_all (Some (ModuleBody k)) holds.row f.next (at_row_end holds.row holds.is_row) holds.one)

      reached : (n : ℕ) → IsIn n (order ++ f.number ∷ []) → Leads types top n
      reached n there =
          elim (IsIn-append_cases n order (f.number ∷ []) there) [
            | inl old ↦ is.reached n old
            | inr new ↦ elim new [
              | inl same ↦ subst (Leads types top) (sym same) (is.from_top (length stack) f at_end)
              | inr never ↦ absurd never
            ]
          ]

      in_last : IsIn f.number (order ++ f.number ∷ [])
      in_last = IsIn-append_right f.number order (f.number ∷ []) (inl refl)

      done : (n : ℕ) → slice_get (set marks f.number Done) n ≡ Some Done → IsIn n (order ++ f.number ∷ [])
      done n e =
          elim (same_or_not n f.number) [
            | inl same ↦ subst (λ j. IsIn j (order ++ f.number ∷ [])) (sym same) in_last
            | inr other ↦ IsIn-append_left n order (f.number ∷ []) (is.done n (sym (slice_get-set_other marks f.number n Done other) ∙ e))
          ]

      open_there : (n : ℕ) → slice_get (set marks f.number Done) n ≡ Some Open → (at : ℕ) × (h : Frame) × (slice_get stack at ≡ Some h) × (h.number ≡ n)
      open_there n e =
          elim (same_or_not n f.number) [
            | inl same ↦ (let one : Done ≡ Open = get_set_same marks f.number Done Open (subst (λ j. slice_get (set marks f.number Done) j ≡ Some Open) same e) in cc)
            | inr other ↦ older other (is.open_there n (sym (slice_get-set_other marks f.number n Done other) ∙ e))
          ]
        where
          older : n ≢ f.number → (at : ℕ) × (h : Frame) × (slice_get (stack ++ f ∷ []) at ≡ Some h) × (h.number ≡ n)
              → (at : ℕ) × (h : Frame) × (slice_get stack at ≡ Some h) × (h.number ≡ n)
          older other old =
              elim (get_pushed stack f old.0 old.1 old.2) [
                | inl there ↦ (old.0, old.1, there, old.3)
                | inr last ↦ absurd (other (sym old.3 ∙ ap (λ (x : Frame). x.number) last.1))
              ]

      last : stack ≡ [] → IsIn top (order ++ f.number ∷ [])
      last empty =
          let only : slice_get (stack ++ f ∷ []) 0 ≡ Some f = slice_get_last stack f 0 (sym (ap length empty)) in
          subst (λ n. IsIn n (order ++ f.number ∷ [])) (is.first f only) in_last

  -- a module that is open holds itself somewhere below
  pub search_returns : (k : ℕ) → Holds types f.number k → mark_at marks k ≡ Open → HasCycle types top
  search_returns k holds opened =
      let there = is.open_there k (marked (slice_get marks k) opened) in
      let within = slice_get_within (stack ++ f ∷ []) there.0 there.1 there.2 in
      record {
        upper = k;
        lower = f.number;
        reached = subst (Leads types top) there.3 (is.from_top there.0 there.1 there.2);
        downward = subst (λ n. Leads types n f.number) there.3 (is.downward there.0 (length stack) there.1 f there.2 at_end (omega (arith, within, length-append {A = Frame})));
        back = holds;
      }
    where
      marked : (o : Option Mark) → mark_of o ≡ Open → o ≡ Some Open
      marked None e = cc
      marked (Some m) e = ap Some e

  pub search_done : (k : ℕ) → mark_at marks k ≡ Done → IsIn k order
  search_done k done = is.done k (marked (slice_get marks k) done)
    where
      marked : (o : Option Mark) → mark_of o ≡ Done → o ≡ Some Done
      marked None e = cc
      marked (Some m) e = ap Some e

-- the search ends where it is inside no module
pub search_ends : (types : Types) (top : ℕ) (marks : List Mark) (order : List ℕ) (stack : List Frame) → IsSearch types top marks order stack → stack ≡ [] → IsOrder types top order
search_ends types top marks order stack is empty = record { with_top = is.last empty; behind = is.behind; reached = is.reached }

-- the search begins inside the top
pub search_starts : (types : Types) (top count : ℕ) → IsSearch types top (set (replicate count New) top Open) [] (record { number = top; next = 0 } ∷ [])
search_starts types top count = record {
  behind = λ at n k there holds. cc;
  reached = λ n none. absurd none;
  done = done;
  open_there = open_there;
  done_to = λ at h there row k is_row one. absurd (subst (λ (x : Frame). IsIn (Some (ModuleBody k)) (take x.next row)) (sym (only at h there)) one);
  from_top = λ at h there. subst (λ (x : Frame). Leads types top x.number) (only at h there) (Leads.here top);
  downward = λ at below h i there lower le. subst (λ (x : Frame). Leads types x.number i.number) (only at h there) (subst (λ (x : Frame). Leads types top x.number) (only below i lower) (Leads.here top));
  first = λ h there. ap (λ (x : Frame). x.number) (sym (only 0 h there));
  last = λ e. cc;
}
  where
    new : Frame
    new = record { number = top; next = 0 }

    only : (at : ℕ) (h : Frame) → slice_get (new ∷ []) at ≡ Some h → new ≡ h
    only zero h there = same_Some new h there
    only (suc at) h there = cc

    done : (n : ℕ) → slice_get (set (replicate count New) top Open) n ≡ Some Done → IsIn n []
    done n e =
        elim (same_or_not n top) [
          | inl same ↦ (let one : Open ≡ Done = get_set_same (replicate count New) top Open Done (subst (λ j. slice_get (set (replicate count New) top Open) j ≡ Some Done) same e) in cc)
          | inr other ↦ (let one : New ≡ Done = get_replicate count New Done n (sym (slice_get-set_other (replicate count New) top n Open other) ∙ e) in cc)
        ]

    open_there : (n : ℕ) → slice_get (set (replicate count New) top Open) n ≡ Some Open → (at : ℕ) × (h : Frame) × (slice_get (new ∷ []) at ≡ Some h) × (h.number ≡ n)
    open_there n e =
        elim (same_or_not n top) [
          | inl same ↦ (0, new, refl, sym same)
          | inr other ↦ (let one : New ≡ Open = get_replicate count New Open n (sym (slice_get-set_other (replicate count New) top n Open other) ∙ e) in cc)
        ]

-- the same state
pub search_same : (types : Types) (top : ℕ) (marks new_marks : List Mark) (order new_order : List ℕ) (stack new_stack : List Frame) → new_marks ≡ marks → new_order ≡ order → new_stack ≡ stack
    → IsSearch types top marks order stack → IsSearch types top new_marks new_order new_stack
search_same types top marks new_marks order new_order stack new_stack m o s is =
    subst (λ ms. IsSearch types top ms new_order new_stack) (sym m)
    (subst (λ os. IsSearch types top marks os new_stack) (sym o) (subst (IsSearch types top marks order) (sym s) is))
