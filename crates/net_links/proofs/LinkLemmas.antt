-- Links of lines, and the same links by numbers.
use Rattle.std.proofs.Common.{◌≡◌, ℕ, zero, suc, ◌+◌, ◌<◌, ◌≤◌, inl, inr, List, [], ◌∷◌, ◌++◌, length, map, refl, sym, ap, ◌∙◌, subst, arith, append-nil, append_assoc}
use Rattle.std.specs.Prelude.{Option, Some, None}
use Rattle.std.specs.List.{AllZip, enumerate_from, filter_map, flat_map, zip}
use Rattle.std.proofs.lemmas.Option.{slice_get_within}
use Rattle.pw_defs.specs.declared.cells.Dir.{Dir}
use Rattle.pw_defs.specs.declared.cells.Dir.TheVariants.{Input, Output}
use Rattle.pw_defs.specs.declared.design.Body.{Body}
use Rattle.pw_defs.specs.declared.design.Body.TheVariants.{Module as ModuleBody}
use Rattle.pw_defs.specs.declared.netlist.Assign.{Assign}
use Rattle.pw_defs.specs.declared.netlist.Inst.{Inst}
use Rattle.pw_defs.specs.declared.netlist.Module.{Module}
use Rattle.pw_defs.specs.declared.netlist.Port.{Port}
use Rattle.list_defs.specs.Members.{IsIn}
use Rattle.design_defs.specs.Hierarchy.{Sources}
use Rattle.design_defs.specs.Links.{End, Link, end_of, link_in, link_out, links_in, links_of_assign, links_of_conn, links_of_port}
use Rattle.design_defs.specs.Places.{Signal, signals}
use Rattle.design_defs.specs.Ranges.{width}
use Rattle.net_places.specs.Nets.{LocalBit}
use Rattle.net_runs.specs.LocalNumbers.{HasFewBits, IsBitNumber, IsSignalBit}
use Rattle.net_links.specs.declared.rows.LinkRow.{LinkRow}
use Rattle.net_links.specs.Adding.{AddsLinks, HasPortBits}
use Rattle.net_links.specs.LocalLinks.{AreLocalLinks, IsLocalEnd, IsLocalLink, LocalEnd, locals}
use Rattle.net_links.specs.RunLinks.{AreFew, AreFewOwn, local_in, local_out, locals_of_port, locals_of_sides, own_end}

-- a bit that an expression names is an end
end_signal : (s : Sources) (n : ℕ) (m : Module) (x : Signal) (o : Option ℕ) → IsSignalBit s (ModuleBody n) x o → IsLocalEnd s n m (end_of x) (own_end o)
end_signal s n m (Signal.net_bit net place) (Some bit) is = IsLocalEnd.inner net place bit is
end_signal s n m (Signal.net_bit net place) None is = absurd is
end_signal s n m Signal.constant (Some bit) is = absurd is
end_signal s n m Signal.constant None is = IsLocalEnd.constant

-- THE LINKS of a port, place by place
module _ (s : Sources) (n : ℕ) (m : Module) (inst : ℕ) (i : Inst) (p : Port) (first : ℕ) (has : HasPortBits s m inst i p first) where
  port_end : (a e : ℕ) → e ≡ first + a → a < width p.range → IsLocalEnd s n m (End.child i.name p.name a) (LocalEnd.child inst e)
  port_end a e same within =
      IsLocalEnd.child i.name p.name a inst e i has.body has.line refl has.is_type (subst (IsBitNumber s has.body (p.name, a)) (sym same) (has.bits a within))

  fed_by : (xs : List Signal) (os : List (Option ℕ)) (a e : ℕ) → e ≡ first + a → a + length xs ≤ width p.range → AllZip (IsSignalBit s (ModuleBody n)) xs os
      → AllZip (IsLocalLink s n m) (filter_map (λ (x : ℕ × Signal). Some (link_in i p x)) (enumerate_from a xs)) (map (local_in inst i.line) (enumerate_from e os))
  fed_by [] [] a e same fits zip = tt
  fed_by [] (o ∷ os) a e same fits zip = absurd zip
  fed_by (x ∷ xs) [] a e same fits zip = absurd zip
  fed_by (x ∷ xs) (o ∷ os) a e same fits zip = (
    record { fed = port_end a e same (omega arith); source = end_signal s n m x o zip.0; line = refl },
    fed_by xs os (a + 1) (e + 1) (omega arith) (omega arith) zip.1,
  )

  feeds : (xs : List Signal) (os : List (Option ℕ)) (a e : ℕ) → e ≡ first + a → a + length xs ≤ width p.range → AllZip (IsSignalBit s (ModuleBody n)) xs os
      → AllZip (IsLocalLink s n m) (filter_map (link_out i p) (enumerate_from a xs)) (filter_map (local_out inst i.line) (enumerate_from e os))
  feeds [] [] a e same fits zip = tt
  feeds [] (o ∷ os) a e same fits zip = absurd zip
  feeds (x ∷ xs) [] a e same fits zip = absurd zip
  feeds (Signal.net_bit net place ∷ xs) (Some bit ∷ os) a e same fits zip = (
    record { fed = IsLocalEnd.inner net place bit zip.0; source = port_end a e same (omega arith); line = refl },
    feeds xs os (a + 1) (e + 1) (omega arith) (omega arith) zip.1,
  )
  feeds (Signal.net_bit net place ∷ xs) (None ∷ os) a e same fits zip = absurd zip.0
  feeds (Signal.constant ∷ xs) (Some bit ∷ os) a e same fits zip = absurd zip.0
  feeds (Signal.constant ∷ xs) (None ∷ os) a e same fits zip = feeds xs os (a + 1) (e + 1) (omega arith) (omega arith) zip.1

  pub port_links : (dir : Dir) (xs : List Signal) (os : List (Option ℕ)) → length xs ≤ width p.range → AllZip (IsSignalBit s (ModuleBody n)) xs os
      → AllZip (IsLocalLink s n m) (links_of_port i p dir (enumerate_from 0 xs)) (locals_of_port dir inst i.line first os)
  port_links Input xs os fits zip = fed_by xs os 0 first (omega arith) (omega arith) zip
  port_links Output xs os fits zip = feeds xs os 0 first (omega arith) (omega arith) zip

-- the links of an assignment, bit by bit
sides_link : (s : Sources) (n : ℕ) (m : Module) (line : ℕ) (xs ys : List Signal) (os ps : List (Option ℕ)) → AllZip (IsSignalBit s (ModuleBody n)) xs os
    → AllZip (IsSignalBit s (ModuleBody n)) ys ps
    → AllZip (IsLocalLink s n m) (filter_map (λ (e : Signal × Signal). Some (record { fed = end_of e.0; source = end_of e.1; line = line })) (zip xs ys)) (locals_of_sides line os ps)
sides_link s n m line [] [] [] [] left right = tt
sides_link s n m line [] (y ∷ ys) [] (p ∷ ps) left right = tt
sides_link s n m line (x ∷ xs) [] (o ∷ os) [] left right = tt
sides_link s n m line (x ∷ xs) (y ∷ ys) (o ∷ os) (p ∷ ps) left right =
    (record { fed = end_signal s n m x o left.0; source = end_signal s n m y p right.0; line = refl }, sides_link s n m line xs ys os ps left.1 right.1)
sides_link s n m line [] ys (o ∷ os) ps left right = absurd left
sides_link s n m line (x ∷ xs) ys [] ps left right = absurd left
sides_link s n m line xs [] os (p ∷ ps) left right = absurd right
sides_link s n m line xs (y ∷ ys) os [] left right = absurd right

pub assign_links : (s : Sources) (n : ℕ) (m : Module) (a : Assign) (os ps : List (Option ℕ)) → AllZip (IsSignalBit s (ModuleBody n)) (signals m a.left) os
    → AllZip (IsSignalBit s (ModuleBody n)) (signals m a.right) ps → AllZip (IsLocalLink s n m) (links_of_assign m a) (locals_of_sides a.line os ps)
assign_links s n m a os ps left right = sides_link s n m a.line (signals m a.left) (signals m a.right) os ps left right

-- FEW BITS
few_number : (s : Sources) (body : Body) (x : LocalBit) (bit : ℕ) → HasFewBits s body → IsBitNumber s body x bit → bit < 4294967295
few_number s body x bit few is = omega (arith, slice_get_within is.bits bit x is.there, few is.bits is.all)

pub few_signals : (s : Sources) (n : ℕ) (xs : List Signal) (os : List (Option ℕ)) → HasFewBits s (ModuleBody n) → AllZip (IsSignalBit s (ModuleBody n)) xs os → AreFew os
few_signals s n [] [] few zip = tt
few_signals s n [] (o ∷ os) few zip = absurd zip
few_signals s n (x ∷ xs) [] few zip = absurd zip
few_signals s n (Signal.net_bit net place ∷ xs) (Some bit ∷ os) few zip = (few_number s (ModuleBody n) (net, place) bit few zip.0, few_signals s n xs os few zip.1)
few_signals s n (Signal.net_bit net place ∷ xs) (None ∷ os) few zip = absurd zip.0
few_signals s n (Signal.constant ∷ xs) (Some bit ∷ os) few zip = absurd zip.0
few_signals s n (Signal.constant ∷ xs) (None ∷ os) few zip = (tt, few_signals s n xs os few zip.1)

pub few_own_signals : (s : Sources) (n : ℕ) (xs : List Signal) (os : List (Option ℕ)) → HasFewBits s (ModuleBody n) → (IsIn Signal.constant xs → ⊥)
    → AllZip (IsSignalBit s (ModuleBody n)) xs os → AreFewOwn os
few_own_signals s n [] [] few none zip = tt
few_own_signals s n [] (o ∷ os) few none zip = absurd zip
few_own_signals s n (x ∷ xs) [] few none zip = absurd zip
few_own_signals s n (Signal.net_bit net place ∷ xs) (Some bit ∷ os) few none zip =
    (few_number s (ModuleBody n) (net, place) bit few zip.0, few_own_signals s n xs os few (λ there. none (inr there)) zip.1)
few_own_signals s n (Signal.net_bit net place ∷ xs) (None ∷ os) few none zip = absurd zip.0
few_own_signals s n (Signal.constant ∷ xs) os few none zip = absurd (none (inl refl))

-- the numbers of the bits of a port
pub few_port : (s : Sources) (m : Module) (inst : ℕ) (i : Inst) (p : Port) (first count : ℕ) (has : HasPortBits s m inst i p first) → HasFewBits s has.body
    → count ≡ width p.range → first + count ≤ 4294967295
few_port s m inst i p first zero has few same = let some : 0 < width p.range = some_width p.range in absurd (omega (arith, same, some))
  where
    some_width : (range : Option (ℕ × ℕ)) → 0 < width range
    some_width None = omega arith
    some_width (Some r) = omega arith
few_port s m inst i p first (suc last) has few same =
    let below : first + last < 4294967295 = few_number s has.body (p.name, last) (first + last) few (has.bits last (omega (arith, same))) in
    omega arith

-- ROWS that are added one after the other
zip_joined : {A B : Type 0} (R : A → B → Type 0) (xs us : List A) (ys vs : List B) → AllZip R xs ys → AllZip R us vs → AllZip R (xs ++ us) (ys ++ vs)
zip_joined R [] us [] vs front behind = behind
zip_joined R [] us (y ∷ ys) vs front behind = absurd front
zip_joined R (x ∷ xs) us [] vs front behind = absurd front
zip_joined R (x ∷ xs) us (y ∷ ys) vs front behind = (front.0, zip_joined R xs us ys vs front.1 behind)

pub adds_none : (s : Sources) (n : ℕ) (m : Module) (rows : List LinkRow) → AddsLinks s n m [] rows rows
adds_none s n m rows = ([], sym (append-nil (locals rows)), tt)

pub adds_also : (s : Sources) (n : ℕ) (m : Module) (old mid new : List LinkRow) (xs ys all : List Link) → AddsLinks s n m xs old mid → AddsLinks s n m ys mid new
    → all ≡ xs ++ ys → AddsLinks s n m all old new
adds_also s n m old mid new xs ys all first second is =
    let joined : AllZip (IsLocalLink s n m) (xs ++ ys) (first.0 ++ second.0) = zip_joined (IsLocalLink s n m) xs ys first.0 second.0 first.2 second.2 in (
      first.0 ++ second.0,
      second.1 ∙ ap (λ links. links ++ second.0) first.1 ∙ append_assoc (locals old) first.0 second.0,
      subst (λ links. AllZip (IsLocalLink s n m) links (first.0 ++ second.0)) (sym is) joined,
    )

-- the rows of all lines of a module
pub whole_module : (s : Sources) (n : ℕ) (m : Module) (start mid new : List LinkRow) → start ≡ [] → AddsLinks s n m (flat_map (λ (i : Inst). flat_map (links_of_conn s m i) i.conns) m.insts) start mid
    → AddsLinks s n m (flat_map (links_of_assign m) m.assigns) mid new → AreLocalLinks s n m (locals new)
whole_module s n m start mid new empty insts assigns =
    let all = adds_also s n m start mid new (flat_map (λ (i : Inst). flat_map (links_of_conn s m i) i.conns) m.insts) (flat_map (links_of_assign m) m.assigns) (links_in s m) insts assigns refl in
    subst (AllZip (IsLocalLink s n m) (links_in s m)) (sym (all.1 ∙ ap (λ rows. locals rows ++ all.0) empty)) all.2
