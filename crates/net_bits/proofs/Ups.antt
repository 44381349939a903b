-- The names from an instance up to the top are those of its way.
use Rattle.std.proofs.Common.{◌≡◌, ℕ, ◌⊎◌, inl, inr, List, [], ◌∷◌, Some, map, slice_get, refl, sym, ap, ◌∙◌, arith}
use Rattle.std.proofs.lemmas.Option.{get_or_from_slice_get}
use Rattle.std.specs.declared.cmp.Ordering.TheVariants.{Less}
use Rattle.pw_defs.specs.declared.design.Body.{Body}
use Rattle.list_defs.specs.Members.{IsIn}
use Rattle.list_defs.specs.Orders.{AreAllRising}
use Rattle.list_defs.proofs.OneList.{one_place}
use Rattle.list_defs.proofs.Rising.{each_in}
use Rattle.design_defs.specs.Hierarchy.{IsInstance, Sources, Way, body_at, way_cmp}
use Rattle.design_defs.proofs.BitOrders.{way_total}
use Rattle.design_defs.proofs.Lookups.{at_outer}
use Rattle.module_rows.specs.declared.plain.Netlist.{Netlist}
use Rattle.module_rows.specs.View.{name_at}
use Rattle.net_instances.specs.Instances.{AreInstances, IsInsideAt}
use Rattle.net_instances.specs.declared.numbering.Instances.{Instances}
use Rattle.net_sizes.specs.declared.sizes.Counts.{Counts}
use Rattle.net_bits.specs.Standing.{AreNamesUp}

-- where there is an instance, there is the top
top_there : (s : Sources) (way : Way) (body : Body) → body_at s way ≡ Some body → IsInstance s []
top_there s [] body is = (body, is)
top_there s (name ∷ outer) body is = let above = at_outer s name outer body is in top_there s outer above.0 above.1

-- the top comes before all other instances
behind_top : (way : Way) → way_cmp way [] ≡ Less → way ≡ []
behind_top [] less = refl
behind_top (name ∷ outer) less = cc

-- the top is the first of all instances
pub top_first : (s : Sources) (ways : List Way) → AreAllRising way_cmp (IsInstance s) ways → (way : Way) → slice_get ways 0 ≡ Some way → way ≡ []
top_first s [] are way at = cc
top_first s (first ∷ ways) are way at = by (are.all [] (top_there s first here.0 here.1))
  where
    here : IsInstance s first
    here = are.each first (inl refl)

    by : ([] ≡ first) ⊎ IsIn [] ways → way ≡ []
    by (inl same) = cc
    by (inr later) =
        let same : first ≡ way = cc in
        sym same ∙ behind_top first (each_in (λ y. way_cmp first y ≡ Less) ways [] are.rising.0 later)

-- no other instance is the top
pub top_alone : (s : Sources) (ways : List Way) → AreAllRising way_cmp (IsInstance s) ways → (n : ℕ) → slice_get ways n ≡ Some [] → n ≡ 0
top_alone s [] are n at = cc
top_alone s (first ∷ ways) are n at =
    let top : first ≡ [] = top_first s (first ∷ ways) are first refl in
    one_place way_cmp way_total (first ∷ ways) are.rising n 0 [] at (ap Some top)

module _ (s : Sources) (n : Netlist) (bits : Counts) (made : Instances) (are : AreInstances s n bits made) where
  pub names_are : (number : ℕ) (names : List ℕ) → AreNamesUp made.rows number names → (way : Way) → slice_get are.ways number ≡ Some way
      → map (name_at n.symbols) names ≡ way
  names_are _ _ AreNamesUp.top way at = sym (top_first s are.ways are.all_ways way at)
  names_are _ _ (AreNamesUp.inner number row outer below there up) way at =
      by way at (are.each number way row at there).inside (λ outer_way outer_at. names_are row.parent outer up outer_way outer_at)
    where
      by : (w : Way) → slice_get are.ways number ≡ Some w → IsInsideAt s n.symbols are.ways row w
          → ((outer_way : Way) → slice_get are.ways row.parent ≡ Some outer_way → map (name_at n.symbols) outer ≡ outer_way) → name_at n.symbols row.name ∷ map (name_at n.symbols) outer ≡ w
      by _ at_w IsInsideAt.top rest = absurd (omega (arith, below, top_alone s are.ways are.all_ways number at_w))
      by _ at_w (IsInsideAt.inner name outer_way outer_at spelled line) rest =
          let first : name_at n.symbols row.name ≡ name = get_or_from_slice_get n.symbols row.name name [] spelled in
          let others = rest outer_way outer_at in
          λ i. first i ∷ others i
