-- The walk down to the least way at which a module holds one that the way leads through.
use Rattle.std.proofs.Common.{◌≡◌, ◌≢◌, ℕ, Bool, true, false, ◌⊎◌, List, [], ◌∷◌, ◌++◌, Some, option_and_then, inl, inr, refl, sym, ap, ◌∙◌, subst}
use Rattle.std.specs.Cmp.Lexicographic.{slice_cmp}
use Rattle.std.specs.Ordering.{nat_cmp, ordering_then}
use Rattle.std.specs.declared.cmp.Ordering.TheVariants.{Less, Greater}
use Rattle.std.proofs.lemmas.Option.{same_Some}
use Rattle.list_defs.specs.Members.{IsIn, same_name}
use Rattle.list_defs.specs.Orders.{name_cmp}
use Rattle.list_defs.proofs.NameLemmas.{same_name-equal}
use Rattle.pw_defs.specs.declared.design.Body.{Body}
use Rattle.pw_defs.specs.declared.design.Body.TheVariants.{Module as ModuleBody}
use Rattle.pw_defs.specs.declared.netlist.Inst.{Inst}
use Rattle.pw_defs.specs.declared.netlist.Module.{Module}
use Rattle.design_defs.specs.DesignFaults.{IsAtOrAbove}
use Rattle.design_defs.specs.DesignFaults.IsAtOrAbove.{here, above}
use Rattle.design_defs.specs.Hierarchy.{Sources, Way, body_at, body_inside, module_at, path, way_cmp, AreNamedInsts}
use Rattle.design_defs.proofs.BitOrders.{way_total}
use Rattle.design_defs.proofs.Lookups.{IsInsideBy, at_outer, other_name}
use Rattle.list_defs.proofs.Rising.{not_before_itself}
use Rattle.net_hierarchy.specs.Graph.{AreInstsApart, Holds, types_of}
use Rattle.net_hierarchy.proofs.Below.{snoc_view}
use Rattle.net_hierarchy.proofs.NoneBefore.{not_less}
use Rattle.net_hierarchy.proofs.Ways.{inside_of_line}
use Rattle.net_least.specs.Links.{AreNamed, ends, slashed}
use Rattle.net_least.specs.Recursion.{AreFree, Closes, Ends, IsBegun, IsBranch, IsClear, IsClosing, IsMarked, IsNext, key}
use Rattle.net_least.proofs.FreeModules.{none_through_free}
use Rattle.net_least.proofs.Fronts.{append_all, append_same, path_by_first, same_front, slashed_more, way_by_text}
use Rattle.net_least.proofs.Keys.{IsBehind, by_keys}

-- TEXTS of ways that go on from another.
named_front : (y w : Way) → AreNamed (y ++ w) → AreNamed y
named_front [] w named = tt
named_front (name ∷ y) w named = (named.0, named_front y w named.1)

named_back : (y w : Way) → AreNamed (y ++ w) → AreNamed w
named_back [] w named = named
named_back (name ∷ y) w named = named_back y w named.1

slashed_on : (y w : Way) → AreNamed (y ++ w) → slashed (y ++ w) ≡ slashed w ++ slashed y
slashed_on [] w named = sym (append_all (slashed w))
slashed_on (name ∷ y) w named =
    sym (slashed_more name (y ++ w) named.1) ∙ ap (λ t. t ++ 47 ∷ name) (slashed_on y w named.1) ∙ append_same (slashed w) (slashed y) (47 ∷ name)
    ∙ ap (λ t. slashed w ++ t) (slashed_more name y (named_front y w named.1))

behind : (y : Way) → IsBehind (slashed y)
behind [] = inl refl
behind (name ∷ y) = inr (path (name ∷ y), refl)

nothing_behind : (y : Way) → slashed y ≡ [] → y ≡ []
nothing_behind [] e = refl
nothing_behind (name ∷ y) e = cc

slashed_first : (y : Way) (name : List ℕ) → AreNamed (y ++ name ∷ []) → slashed (y ++ name ∷ []) ≡ 47 ∷ (name ++ slashed y)
slashed_first [] name named = ap (λ t. 47 ∷ t) (sym (append_all name))
slashed_first (x ∷ y) name named = ap (λ t. 47 ∷ t) (path_by_first (x ∷ y) name (named_back (x ∷ y) (name ∷ []) named).0 (named_front (x ∷ y) (name ∷ []) named))

-- the first instances behind the same way decide
by_branches : (w y z : Way) (j i : List ℕ) → AreNamed ((y ++ j ∷ []) ++ w) → AreNamed ((z ++ i ∷ []) ++ w) → name_cmp (j ++ slashed y) (i ++ slashed z) ≡ Greater
    → way_cmp ((y ++ j ∷ []) ++ w) ((z ++ i ∷ []) ++ w) ≡ Greater
by_branches w y z j i named_f named_v greater =
    way_by_text ((y ++ j ∷ []) ++ w) ((z ++ i ∷ []) ++ w) named_f named_v
    ∙ ap (λ o. ordering_then o (slice_cmp nat_cmp (ends ((y ++ j ∷ []) ++ w)) (ends ((z ++ i ∷ []) ++ w)))) texts
  where
    left : slashed ((y ++ j ∷ []) ++ w) ≡ slashed w ++ 47 ∷ (j ++ slashed y)
    left = slashed_on (y ++ j ∷ []) w named_f ∙ ap (λ t. slashed w ++ t) (slashed_first y j (named_front (y ++ j ∷ []) w named_f))

    right : slashed ((z ++ i ∷ []) ++ w) ≡ slashed w ++ 47 ∷ (i ++ slashed z)
    right = slashed_on (z ++ i ∷ []) w named_v ∙ ap (λ t. slashed w ++ t) (slashed_first z i (named_front (z ++ i ∷ []) w named_v))

    texts : name_cmp (slashed ((y ++ j ∷ []) ++ w)) (slashed ((z ++ i ∷ []) ++ w)) ≡ Greater
    texts =
        (λ k. name_cmp (left k) (right k)) ∙ same_front (slashed w) (47 ∷ (j ++ slashed y)) (47 ∷ (i ++ slashed z))
        ∙ same_front (47 ∷ []) (j ++ slashed y) (i ++ slashed z) ∙ greater

-- what goes on from a way doesn't come before it
pub not_before_front : (y w : Way) → AreNamed (y ++ w) → way_cmp (y ++ w) w ≢ Less
not_before_front [] w named = not_before_itself way_cmp way_total w
not_before_front (x ∷ y) w named =
    not_less _ (
    way_by_text ((x ∷ y) ++ w) w named (named_back (x ∷ y) w named)
    ∙ ap (λ o. ordering_then o (slice_cmp nat_cmp (ends ((x ∷ y) ++ w)) (ends w))) texts
    )
  where
    texts : name_cmp (slashed ((x ∷ y) ++ w)) (slashed w) ≡ Greater
    texts =
        (λ k. name_cmp (slashed_on (x ∷ y) w named k) (sym (append_all (slashed w)) k)) ∙ same_front (slashed w) (slashed (x ∷ y)) []

-- WAYS that go on from another lead through what is at its end.
at_back : (s : Sources) (l : ℕ) (y w : Way) → body_at s w ≡ Some (ModuleBody l) → IsAtOrAbove s l (y ++ w)
at_back s l [] w is = here w is
at_back s l (name ∷ y) w is = above name (y ++ w) (at_back s l y w is)

module_at_back : (s : Sources) (y w : Way) (b : ℕ) → body_at s (y ++ w) ≡ Some (ModuleBody b) → (l : ℕ) × (body_at s w ≡ Some (ModuleBody l))
module_at_back s [] w b is = (b, is)
module_at_back s (name ∷ y) w b is =
    let found = at_outer s name (y ++ w) (ModuleBody b) is in module_at_back s y w found.2.number (found.1 ∙ ap Some found.2.is_outer)

same_number : (n k : ℕ) → Some (ModuleBody n) ≡ Some (ModuleBody k) → n ≡ k
same_number n k e = cc

-- the names of a way to an instance aren't empty
pub named_at : (s : Sources) → AreNamedInsts s → (way : Way) (b : Body) → body_at s way ≡ Some b → AreNamed way
named_at s names [] b is = tt
named_at s names (name ∷ outer) b is = by (at_outer s name outer b is) (named_at s names outer)
  where
    by : (o : Body) × (body_at s outer ≡ Some o) × IsInsideBy s name o b → ((c : Body) → body_at s outer ≡ Some c → AreNamed outer) → AreNamed (name ∷ outer)
    by found rest = (
      λ empty. names found.2.number found.2.of_module found.2.inst found.2.is_module found.2.is_line (sym found.2.is_name ∙ empty),
      rest found.0 found.1,
    )

-- AT THE START the way is that of the top.
pub begun_at_top : (s : Sources) (top : ℕ) (marks : List Bool) → body_at s [] ≡ Some (ModuleBody top) → ((j : ℕ) → IsMarked marks j → j ≡ top) → IsMarked marks top
    → IsBegun s marks top
begun_at_top s top marks is one marked =
    record {
      way = [];
      body = is;
      named = tt;
      marked = λ j mark. here [] (subst (λ n. body_at s [] ≡ Some (ModuleBody n)) (sym (one j mark)) is);
      all = all;
      clear = clear;
      first = λ closing _. inl (closing, sym (append_all closing));
    }
  where
    all : (j : ℕ) → IsAtOrAbove s j [] → IsMarked marks j
    all j (here _ body) = subst (IsMarked marks) (same_number top j (sym is ∙ body)) marked

    clear : (front : Way) (name : List ℕ) (outer : Way) → [] ≡ front ++ name ∷ outer → IsClosing s outer → ⊥
    clear [] name outer e closing = cc
    clear (x ∷ front) name outer e closing = cc

module _ (s : Sources) (apart : AreInstsApart s) (names : AreNamedInsts s) (marks : List Bool) (n : ℕ) (begun : IsBegun s marks n) where
  -- the way closes where its module holds one that is marked
  pub closing_here : Closes (types_of s) marks n → IsClosing s begun.way
  closing_here (Closes.marked k holds mark) = record { n = n; k = k; body = begun.body; holds = holds; above = begun.marked k mark }
  closing_here (Closes.itself holds) = record { n = n; k = n; body = begun.body; holds = holds; above = here begun.way begun.body }

  pub closes_here : IsClosing s begun.way → Closes (types_of s) marks n
  closes_here closing =
      let same : closing.n ≡ n = same_number closing.n n (sym closing.body ∙ begun.body) in
      Closes.marked closing.k (subst (λ j. Holds (types_of s) j closing.k) same closing.holds) (begun.all closing.k closing.above)

  module _ (free : List Bool) (are_free : AreFree (types_of s) free) (m : Module) (is_module : module_at s n ≡ Some m) (open_here : Closes (types_of s) marks n → ⊥)
      (k : ℕ) (next : IsNext s free marks m.insts k) where
    abbrev w : Way
    w = begun.way

    abbrev i : Inst
    i = next.i

    pub body_next : body_at s (i.name ∷ w) ≡ Some (ModuleBody k)
    body_next =
        ap (option_and_then (body_inside s i.name)) begun.body
        ∙ inside_of_line s apart n (Some (ModuleBody k)) (record { m = m; i = i; is_module = is_module; one = next.is.one; is_type = next.is.is_type })

    named_next : AreNamed (i.name ∷ w)
    named_next = named_at s names (i.name ∷ w) (ModuleBody k) body_next

    -- what the instance at a way further down is, where it is of a module that isn't free
    record IsDown (name : List ℕ) (closing : Way) : Type 0 where
      pub j : Inst
      pub l : ℕ
      pub same : name ≡ j.name
      pub branch : IsBranch s free m.insts j l
      pub body : body_at s (name ∷ w) ≡ Some (ModuleBody l)

    down : (y : Way) (name : List ℕ) (closing : Way) → closing ≡ y ++ (name ∷ w) → IsClosing s closing → IsDown name closing
    down y name closing e is = by (at_outer s name w (ModuleBody at.0) at.1)
      where
        at : (l : ℕ) × (body_at s (name ∷ w) ≡ Some (ModuleBody l))
        at = module_at_back s y (name ∷ w) is.n (ap (body_at s) (sym e) ∙ is.body)

        by : (o : Body) × (body_at s w ≡ Some o) × IsInsideBy s name o (ModuleBody at.0) → IsDown name closing
        by found =
            let inside = found.2 in
            let number : inside.number ≡ n = same_number inside.number n (ap Some (sym inside.is_outer) ∙ sym found.1 ∙ begun.body) in
            let module_same : inside.of_module ≡ m = same_Some inside.of_module m (sym inside.is_module ∙ ap (module_at s) number ∙ is_module) in
            record {
              j = inside.inst;
              l = at.0;
              same = inside.is_name;
              branch = record {
                one = subst (λ (x : Module). IsIn inside.inst x.insts) module_same inside.is_line;
                is_type = inside.is_type;
                not_free = λ mark. none_through_free s at.0 closing is (subst (IsAtOrAbove s at.0) (sym e) (at_back s at.0 y (name ∷ w) at.1)) (are_free at.0 mark);
              };
              body = at.1;
            }

    -- a way that goes on through another instance comes later
    later : (y : Way) (name : List ℕ) (closing : Way) → closing ≡ y ++ (name ∷ w) → IsClosing s closing → name ≢ i.name
        → (z : Way) → AreNamed (z ++ (i.name ∷ w)) → IsClear s (z ++ (i.name ∷ w)) → way_cmp closing (z ++ (i.name ∷ w)) ≢ Less
    later y name closing e is other z named clear =
        let greater = by_branches w y z name i.name
        (subst AreNamed (e ∙ sym (append_same y (name ∷ []) w)) (named_at s names closing (ModuleBody is.n) is.body))
        (subst AreNamed (sym (append_same z (i.name ∷ []) w)) named) keys in
        not_less _ ((λ q. way_cmp ((e ∙ sym (append_same y (name ∷ []) w)) q) (sym (append_same z (i.name ∷ []) w) q)) ∙ greater)
      where
        d : IsDown name closing
        d = down y name closing e is

        least : (b : Bool) × Ends (types_of s) marks d.l b × (name_cmp (key d.j.name b) (key i.name next.ends) ≢ Less)
        least = next.least d.j d.l d.branch

        ends_first : (b : Bool) → Ends (types_of s) marks d.l b → slashed y ≡ [] → b ≡ true
        ends_first true has empty = refl
        ends_first false none empty =
            let none_behind : y ≡ [] = nothing_behind y empty in
            let short : closing ≡ name ∷ w = e ∙ ap (λ x. x ++ (name ∷ w)) none_behind in
            let number : is.n ≡ d.l = same_number is.n d.l (sym is.body ∙ ap (body_at s) short ∙ d.body) in
            let holds : Holds (types_of s) d.l is.k = subst (λ q. Holds (types_of s) q is.k) number is.holds in
            absurd (none (closes (subst (IsAtOrAbove s is.k) short is.above) holds))
          where
            closes : IsAtOrAbove s is.k (name ∷ w) → Holds (types_of s) d.l is.k → Closes (types_of s) marks d.l
            closes (here _ body) holds =
                let same : is.k ≡ d.l = same_number is.k d.l (sym body ∙ d.body) in
                Closes.itself (subst (Holds (types_of s) d.l) same holds)
            closes (above _ _ higher) holds = Closes.marked is.k holds (begun.all is.k higher)

        ends_next : (b : Bool) → Ends (types_of s) marks k b → b ≡ true → slashed z ≡ []
        ends_next false none never = cc
        ends_next true closes same =
            elim (snoc_view z) [
              | inl empty ↦ ap slashed empty
              | inr more ↦ absurd (clear more.0 more.1 (i.name ∷ w) (ap (λ x. x ++ (i.name ∷ w)) more.2 ∙ append_same more.0 (more.1 ∷ []) (i.name ∷ w)) (closing_next closes))
            ]
          where
            closing_next : Closes (types_of s) marks k → IsClosing s (i.name ∷ w)
            closing_next (Closes.marked q holds mark) = record { n = k; k = q; body = body_next; holds = holds; above = above i.name w (begun.marked q mark) }
            closing_next (Closes.itself holds) = record { n = k; k = k; body = body_next; holds = holds; above = here (i.name ∷ w) body_next }

        keys : name_cmp (name ++ slashed y) (i.name ++ slashed z) ≡ Greater
        keys =
            ap (λ x. name_cmp (x ++ slashed y) (i.name ++ slashed z)) d.same
            ∙ by_keys d.j.name i.name least.0 next.ends (slashed y) (slashed z) (λ same. other (d.same ∙ same)) (next.apart d.j d.l d.branch).1 (next.apart d.j d.l d.branch).0
            least.2 (ends_first least.0 least.1) (ends_next next.ends next.has) (behind y) (behind z)

    pub begun_next : (more : List Bool) → ((j : ℕ) → IsMarked more j → (j ≡ k) ⊎ IsMarked marks j) → IsMarked more k → ((j : ℕ) → IsMarked marks j → IsMarked more j)
        → IsBegun s more k
    begun_next more one new old =
        record { way = i.name ∷ w; body = body_next; named = named_next; marked = marked; all = all; clear = clear; first = first }
      where
        marked : (j : ℕ) → IsMarked more j → IsAtOrAbove s j (i.name ∷ w)
        marked j mark =
            elim (one j mark) [
              | inl same ↦ here (i.name ∷ w) (subst (λ q. body_at s (i.name ∷ w) ≡ Some (ModuleBody q)) (sym same) body_next)
              | inr before ↦ above i.name w (begun.marked j before)
            ]

        all : (j : ℕ) → IsAtOrAbove s j (i.name ∷ w) → IsMarked more j
        all j (here _ body) = subst (IsMarked more) (same_number k j (sym body_next ∙ body)) new
        all j (above _ _ higher) = old j (begun.all j higher)

        clear : (front : Way) (name : List ℕ) (outer : Way) → i.name ∷ w ≡ front ++ name ∷ outer → IsClosing s outer → ⊥
        clear [] name outer e closing = let same : outer ≡ w = cc in open_here (closes_here (subst (IsClosing s) same closing))
        clear (x ∷ front) name outer e closing = let rest : w ≡ front ++ name ∷ outer = cc in begun.clear front name outer rest closing

        first : (closing : Way) → IsClosing s closing → ((inner : Way) × (closing ≡ inner ++ (i.name ∷ w)))
            ⊎ ((inner : Way) → AreNamed (inner ++ (i.name ∷ w)) → IsClear s (inner ++ (i.name ∷ w)) → way_cmp closing (inner ++ (i.name ∷ w)) ≢ Less)
        first closing is = elim (begun.first closing is) [ inl on ↦ goes_on on.0 on.1 | inr before ↦ inr (later_all before) ]
          where
            later_all : ((inner : Way) → AreNamed (inner ++ w) → IsClear s (inner ++ w) → way_cmp closing (inner ++ w) ≢ Less)
                → (inner : Way) → AreNamed (inner ++ (i.name ∷ w)) → IsClear s (inner ++ (i.name ∷ w)) → way_cmp closing (inner ++ (i.name ∷ w)) ≢ Less
            later_all before inner named clear_way =
                let same : inner ++ (i.name ∷ w) ≡ (inner ++ i.name ∷ []) ++ w = sym (append_same inner (i.name ∷ []) w) in
                subst (λ v. way_cmp closing v ≢ Less) (sym same) (before (inner ++ i.name ∷ []) (subst AreNamed same named) (subst (IsClear s) same clear_way))

            goes_on : (x : Way) → closing ≡ x ++ w → ((inner : Way) × (closing ≡ inner ++ (i.name ∷ w)))
                ⊎ ((inner : Way) → AreNamed (inner ++ (i.name ∷ w)) → IsClear s (inner ++ (i.name ∷ w)) → way_cmp closing (inner ++ (i.name ∷ w)) ≢ Less)
            goes_on x e =
                elim (snoc_view x) [
                  | inl empty ↦ absurd (open_here (closes_here (subst (IsClosing s) (e ∙ ap (λ y. y ++ w) empty) is)))
                  | inr more ↦ branch more.0 more.1 (e ∙ ap (λ y. y ++ w) more.2 ∙ append_same more.0 (more.1 ∷ []) w) (same_name more.1 i.name) refl
                ]
              where
                branch : (y : Way) (name : List ℕ) → closing ≡ y ++ (name ∷ w) → (b : Bool) → same_name name i.name ≡ b → ((inner : Way) × (closing ≡ inner ++ (i.name ∷ w)))
                    ⊎ ((inner : Way) → AreNamed (inner ++ (i.name ∷ w)) → IsClear s (inner ++ (i.name ∷ w)) → way_cmp closing (inner ++ (i.name ∷ w)) ≢ Less)
                branch y name at true same = inl (y, at ∙ ap (λ q. y ++ (q ∷ w)) (same_name-equal name i.name same))
                branch y name at false differ = inr (later y name closing at is (other_name name i.name differ))
