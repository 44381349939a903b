-- The least ways by links, as links are added and modules done.
use Rattle.std.proofs.Common.{◌≡◌, ◌≢◌, ℕ, ◌<◌, ◌⊎◌, List, [], ◌∷◌, ◌++◌, Option, None, Some, slice_get, length, set, inl, inr, refl, sym, ap, ◌∙◌, subst, arith, get_or-set_same}
use Rattle.std.specs.declared.cmp.Ordering.TheVariants.{Less}
use Rattle.std.proofs.lemmas.List.{length-set}
use Rattle.std.proofs.lemmas.Option.{slice_get-get_or}
use Rattle.list_defs.specs.Members.{IsIn}
use Rattle.list_defs.proofs.Members.{IsIn-append_cases}
use Rattle.list_defs.proofs.Longer.{slice_get-set_other}
use Rattle.net_hierarchy.proofs.Places.{same_or_not}
use Rattle.list_defs.proofs.Longer.{slice_get_last}
use Rattle.pw_defs.specs.declared.design.Body.TheVariants.{Module as ModuleBody}
use Rattle.pw_defs.specs.declared.netlist.Inst.{Inst}
use Rattle.pw_defs.specs.declared.netlist.Module.{Module}
use Rattle.design_defs.specs.Hierarchy.{Sources, Way, module_at, type_of, way_cmp, AreNamedInsts}
use Rattle.net_hierarchy.specs.Graph.{AreInstsApart}
use Rattle.net_least.specs.Links.{IsWay}
use Rattle.net_least.specs.Nearest.{AreAllNear, AreNone, HasMark, IsLeastWay, IsNear, IsNearBelow, IsNearest, IsWayBy, IsWayTo, near_at, or_none}
use Rattle.net_least.specs.declared.links.Link.{Link}
use Rattle.net_least.specs.declared.nearest.Near.{Near}
use Rattle.net_least.specs.declared.own.OwnFault.{OwnFault}
use Rattle.net_least.proofs.Nearer.{at_of_by, by_of_at, first_found, least_more, nearer_found, none_more, still_found}
use Rattle.net_least.proofs.Spelled.{way_grows}

-- more links change nothing
pub nearest_grows : (symbols : List (List ℕ)) (links more : List Link) (P : Way → ℕ → Type 0) (near : Near) → IsNearest symbols links P near → IsNearest symbols (links ++ more) P near
nearest_grows symbols links more P near is = record { way = is.way; goes = way_grows symbols links more near.at is.way is.goes; least = is.least }

pub near_grows : (symbols : List (List ℕ)) (links more : List Link) (P : Way → ℕ → Type 0) (near : Option Near) → IsNear symbols links P near → IsNear symbols (links ++ more) P near
near_grows symbols links more P None none = none
near_grows symbols links more P (Some near) is = nearest_grows symbols links more P near is

-- ways of which the same holds
near_same : (symbols : List (List ℕ)) (links : List Link) (P Q : Way → ℕ → Type 0) → ((way : Way) (n : ℕ) → P way n → Q way n)
    → ((way : Way) (n : ℕ) → Q way n → P way n) → (near : Option Near) → IsNear symbols links P near → IsNear symbols links Q near
near_same symbols links P Q to from None none = λ way n q. none way n (from way n q)
near_same symbols links P Q to from (Some near) is =
    record { way = is.way; goes = is.goes; least = record { holds = to is.way near.end is.least.holds; least = λ other k q. is.least.least other k (from other k q) } }

-- nothing comes before the empty way
not_before_empty : (way : Way) → way_cmp way [] ≢ Less
not_before_empty [] less = cc
not_before_empty (name ∷ outer) less = cc

module _ (s : Sources) (own : List (Option OwnFault)) (symbols : List (List ℕ)) (links : List Link) where
  -- a module with a fault of its own is the end of the least way below it
  pub near_here : (n : ℕ) → HasMark own n → (near : Near) → near.at ≡ None → near.end ≡ n → IsNear symbols links (IsWayTo s own n) (Some near)
  near_here n mark near at end =
      record {
        way = [];
        goes = IsWay.end near.at [] at refl;
        least = subst (IsLeastWay (IsWayTo s own n) []) (sym end) (record { holds = record { there = refl; mark = mark }; least = λ other k to. not_before_empty other });
      }

  -- below another module the least way leads through one of its instances
  pub near_through : AreInstsApart s → (n : ℕ) (m : Module) → module_at s n ≡ Some m → (HasMark own n → ⊥) → (near : Option Near)
      → IsNear symbols links (IsWayBy s own m.insts) near → IsNear symbols links (IsWayTo s own n) near
  near_through apart n m is none near known =
      near_same symbols links (IsWayBy s own m.insts) (IsWayTo s own n) (at_of_by s own apart n m is) (λ way number at. by_of_at s own apart n m is way number at none) near known

  -- an instance more that leads nowhere
  pub near_other : (insts : List Inst) (i : Inst) (best : Option Near) → ((k : ℕ) → type_of s i.kind ≡ Some (ModuleBody k) → AreNone (IsWayTo s own k))
      → IsNear symbols links (IsWayBy s own insts) best → IsNear symbols links (IsWayBy s own (insts ++ i ∷ [])) best
  near_other insts i None none known = none_more s own insts i none known
  near_other insts i (Some near) none known = record { way = known.way; goes = known.goes; least = least_more s own insts i none known.way near.end known.least }

-- AN INSTANCE MORE, with a link for it.
module _ (s : Sources) (own : List (Option OwnFault)) (symbols : List (List ℕ)) (links : List Link) (names : AreNamedInsts s) (insts : List Inst) (i : Inst) (k : ℕ)
    (some : i.name ≢ []) (type : type_of s i.kind ≡ Some (ModuleBody k)) (inner through : Near) (l : Link) (spelled : slice_get symbols l.name ≡ Some i.name)
    (next : l.next ≡ inner.at) (at : through.at ≡ Some (length links)) (end : through.end ≡ inner.end) (is : IsNearest symbols links (IsWayTo s own k) inner) where
  -- the way through the instance
  pub goes_through : IsWay symbols (links ++ l ∷ []) through.at (is.way ++ i.name ∷ [])
  goes_through =
      IsWay.link through.at (is.way ++ i.name ∷ []) (length links) l i.name is.way at (slice_get_last links l (length links) refl) spelled some
      (subst (λ o. IsWay symbols (links ++ l ∷ []) o is.way) (sym next) (way_grows symbols links (l ∷ []) inner.at is.way is.goes)) refl

  pub near_first : AreNone (IsWayBy s own insts) → IsNearest symbols (links ++ l ∷ []) (IsWayBy s own (insts ++ i ∷ [])) through
  near_first none =
      record {
        way = is.way ++ i.name ∷ [];
        goes = goes_through;
        least = subst (IsLeastWay (IsWayBy s own (insts ++ i ∷ [])) (is.way ++ i.name ∷ [])) (sym end) (first_found s own names insts i k some type is.way inner.end is.least none);
      }

  pub near_nearer : (before : Near) (old : IsNearest symbols links (IsWayBy s own insts) before) → way_cmp (is.way ++ i.name ∷ []) old.way ≡ Less
      → IsNearest symbols (links ++ l ∷ []) (IsWayBy s own (insts ++ i ∷ [])) through
  near_nearer before old less =
      record {
        way = is.way ++ i.name ∷ [];
        goes = goes_through;
        least = subst (IsLeastWay (IsWayBy s own (insts ++ i ∷ [])) (is.way ++ i.name ∷ [])) (sym end)
            (nearer_found s own names insts i k some type is.way inner.end is.least old.way before.end old.least less);
      }

  pub near_still : (before : Near) (old : IsNearest symbols links (IsWayBy s own insts) before) → way_cmp (is.way ++ i.name ∷ []) old.way ≢ Less
      → IsNearest symbols (links ++ l ∷ []) (IsWayBy s own (insts ++ i ∷ [])) before
  near_still before old later =
      record {
        way = old.way;
        goes = way_grows symbols links (l ∷ []) before.at old.way old.goes;
        least = still_found s own names insts i k some type is.way inner.end is.least old.way before.end old.least later;
      }

pub near_below_grows : (s : Sources) (own : List (Option OwnFault)) (symbols : List (List ℕ)) (links more : List Link) (i : Inst) (below : Option Near)
    → IsNearBelow s own symbols links i below → IsNearBelow s own symbols (links ++ more) i below
near_below_grows s own symbols links more i None none = none
near_below_grows s own symbols links more i (Some near) known = (known.0, known.1, nearest_grows symbols links more (IsWayTo s own known.0) near known.2)

-- ONE MODULE MORE is done.
pub all_near_more : (s : Sources) (own : List (Option OwnFault)) (symbols : List (List ℕ)) (links more : List Link) (nears : List (Option Near)) (done : List ℕ) (n : ℕ) (near : Option Near)
    → AreAllNear s own symbols links nears done → n < length s.modules → IsNear symbols (links ++ more) (IsWayTo s own n) near
    → AreAllNear s own symbols (links ++ more) (set nears n near) (done ++ n ∷ [])
all_near_more s own symbols links more nears done n near known within here = record { count = length-set nears n near ∙ known.count; each = each }
  where
    there : slice_get (set nears n near) n ≡ Some near
    there =
        let count : length (set nears n near) ≡ length nears = length-set nears n near in
        let all : length nears ≡ length s.modules = known.count in
        slice_get-get_or (set nears n near) n None (omega arith) ∙ ap Some (get_or-set_same nears n near None (omega arith))

    each : (k : ℕ) → IsIn k (done ++ n ∷ []) → IsNear symbols (links ++ more) (IsWayTo s own k) (near_at (set nears n near) k)
    each k one =
        elim (same_or_not k n) [
          | inl same ↦
              subst (λ j. IsNear symbols (links ++ more) (IsWayTo s own j) (near_at (set nears n near) j)) (sym same)
              (subst (λ o. IsNear symbols (links ++ more) (IsWayTo s own n) (or_none o)) (sym there) here)
          | inr other ↦
              subst (λ o. IsNear symbols (links ++ more) (IsWayTo s own k) (or_none o)) (sym (slice_get-set_other nears n k near other))
              (near_grows symbols links more (IsWayTo s own k) (near_at nears k) (known.each k (old other (IsIn-append_cases k done (n ∷ []) one))))
        ]
      where
        old : k ≢ n → IsIn k done ⊎ IsIn k (n ∷ []) → IsIn k done
        old other (inl before) = before
        old other (inr (inl same)) = absurd (other same)
        old other (inr (inr never)) = absurd never
