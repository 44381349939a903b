-- The rows of the two blocks: they can be read, and their design is that of the two blocks.
use Rattle.std.proofs.Common.{◌≡◌, ℕ, zero, suc, ◌+◌, ◌<◌, ◌≤◌, List, [], ◌∷◌, length, map, take, inl, inr, refl, ap, ◌∙◌, arith}
use Rattle.std.specs.Global.{Vec}
use Rattle.std.specs.List.{range_with_len, sum_by}
use Rattle.std.specs.Prelude.{codes}
use Rattle.pw_defs.specs.declared.design.Bit.{Bit}
use Rattle.pw_defs.specs.declared.design.Body.TheVariants.{Module, Cell}
use Rattle.pw_defs.specs.declared.design.Design.{Design}
use Rattle.pw_defs.specs.declared.design.Instance.{Instance}
use Rattle.list_defs.specs.Members.{IsIn}
use Rattle.worked_jobs.specs.Designs.{pair}
use Rattle.worked_jobs.specs.Libraries.{library}
use Rattle.design_rows.specs.Children.{HasChildren, HasNames, HasNameTwice, IsInner}
use Rattle.design_rows.specs.Sound.{AreRows, Owns}
use Rattle.design_rows.specs.View.{bit_at, design_of, inst_at, instance_at, kind_at, owner_at, path_in, place_at, place_name, size}
use Rattle.design_rows.specs.declared.tables.Feed.{Feed}
use Rattle.design_rows.specs.declared.tables.Feed.TheVariants.{Bit as BitFeed, Driver}
use Rattle.design_rows.specs.declared.tables.InstanceRow.{InstanceRow}
use Rattle.design_rows.specs.declared.tables.PlaceRow.{PlaceRow}
use Rattle.design_rows.specs.declared.tables.PlaceRow.TheVariants.{Net, Port}
use Rattle.design_rows.specs.declared.tables.Rows.{Rows}

abbrev inst : ℕ → ℕ → ℕ → ℕ → InstanceRow
inst parent name kind first = record { parent = parent; name = name; kind = kind; first_bit = first }

-- the top with its two blocks, each with its buffer
abbrev insts : List InstanceRow
insts = inst 0 0 0 0 ∷ inst 0 8 1 2 ∷ inst 1 10 2 4 ∷ inst 0 9 3 6 ∷ inst 3 11 2 8 ∷ []

abbrev places : List PlaceRow
places = Net 2 ∷ Port 1 0 0 ∷ Port 1 0 0 ∷ Port 3 1 0 ∷ Port 4 0 0 ∷ Port 5 1 0 ∷ Port 6 0 0 ∷ Port 7 1 0 ∷ []

abbrev feeds_of_pair : List Feed
feeds_of_pair = BitFeed 3 ∷ Driver ∷ BitFeed 1 ∷ BitFeed 5 ∷ BitFeed 2 ∷ Driver ∷ BitFeed 0 ∷ BitFeed 9 ∷ BitFeed 6 ∷ Driver ∷ []

abbrev rows : List InstanceRow → Vec Feed → Rows
rows insts feeds = record {
  cells = library;
  modules = pair.modules;
  models = [];
  names = [] ∷ codes "x" ∷ codes "n" ∷ codes "y" ∷ codes "A" ∷ codes "Y" ∷ codes "a" ∷ codes "z" ∷ codes "u_a" ∷ codes "u_b" ∷ codes "o" ∷ codes "i" ∷ [];
  kinds =
      record { body = Module 2; first = 0; size = 2 }
      ∷ record { body = Module 0; first = 2; size = 2 }
      ∷ record { body = Cell 0; first = 4; size = 2 }
      ∷ record { body = Module 1; first = 6; size = 2 } ∷ [];
  places = places;
  insts = insts;
  children = 1 ∷ 3 ∷ 2 ∷ 4 ∷ [];
  feeds = feeds;
}

-- the instances of the rows are those of the two blocks
pub the_instances : (feeds : Vec Feed) → map (instance_at (rows insts feeds)) (range_with_len 0 5) ≡ pair.insts
unfolding instance_at path_in
the_instances feeds = refl

-- and so are the bits
pub the_bits : (feeds : Vec Feed) → feeds.items ≡ feeds_of_pair → map (bit_at (rows insts feeds)) (range_with_len 0 10) ≡ pair.bits
unfolding bit_at path_in
the_bits feeds same = rw same refl

pub the_design : (feeds : Vec Feed) → feeds.items ≡ feeds_of_pair → design_of (rows insts feeds) ≡ pair
the_design feeds same =
    let made : List Instance → List Bit → Design =
    λ is bs. record { cells = library; modules = pair.modules; models = []; insts = is; bits = bs } in
    let bits_of : ℕ → List Bit = λ n. map (bit_at (rows insts feeds)) (range_with_len 0 n) in
    ap (λ is. made is (bits_of (length feeds.items))) (the_instances feeds)
    ∙ ap (made pair.insts) (ap bits_of (ap length same) ∙ the_bits feeds same)

-- the rows can be read
pub they_are_rows : (feeds : Vec Feed) → feeds.items ≡ feeds_of_pair → AreRows (rows insts feeds)
they_are_rows feeds same = record {
  parents = parents;
  inst_names = names;
  inst_kinds = kinds;
  kind_places = kind_places;
  bit_names = bit_names;
  firsts = firsts;
  all = ap length same;
  few = omega (arith, ap length same);
}
  where
    r : Rows
    r = rows insts feeds

    parents : (n : ℕ) → 0 < n → n < 5 → (inst_at r n).parent < n
    parents zero some within = omega (arith, some)
    parents (suc zero) some within = omega arith
    parents (suc (suc zero)) some within = omega arith
    parents (suc (suc (suc zero))) some within = omega arith
    parents (suc (suc (suc (suc zero)))) some within = omega arith
    parents (suc (suc (suc (suc (suc n))))) some within = omega (arith, within)

    names : (n : ℕ) → n < 5 → (inst_at r n).name < 12
    names zero within = omega arith
    names (suc zero) within = omega arith
    names (suc (suc zero)) within = omega arith
    names (suc (suc (suc zero))) within = omega arith
    names (suc (suc (suc (suc zero)))) within = omega arith
    names (suc (suc (suc (suc (suc n))))) within = omega (arith, within)

    kinds : (n : ℕ) → n < 5 → (inst_at r n).kind < 4
    kinds zero within = omega arith
    kinds (suc zero) within = omega arith
    kinds (suc (suc zero)) within = omega arith
    kinds (suc (suc (suc zero))) within = omega arith
    kinds (suc (suc (suc (suc zero)))) within = omega arith
    kinds (suc (suc (suc (suc (suc n))))) within = omega (arith, within)

    kind_places : (k : ℕ) → k < 4 → (kind_at r k).first + (kind_at r k).size ≤ 8
    kind_places zero within = omega arith
    kind_places (suc zero) within = omega arith
    kind_places (suc (suc zero)) within = omega arith
    kind_places (suc (suc (suc zero))) within = omega arith
    kind_places (suc (suc (suc (suc k)))) within = omega (arith, within)

    bit_names : (p : ℕ) → p < 8 → place_name (place_at r p) < 12
    bit_names zero within = omega arith
    bit_names (suc zero) within = omega arith
    bit_names (suc (suc zero)) within = omega arith
    bit_names (suc (suc (suc zero))) within = omega arith
    bit_names (suc (suc (suc (suc zero)))) within = omega arith
    bit_names (suc (suc (suc (suc (suc zero))))) within = omega arith
    bit_names (suc (suc (suc (suc (suc (suc zero)))))) within = omega arith
    bit_names (suc (suc (suc (suc (suc (suc (suc zero))))))) within = omega arith
    bit_names (suc (suc (suc (suc (suc (suc (suc (suc p)))))))) within = omega (arith, within)

    firsts : (n : ℕ) → n < 5 → (inst_at r n).first_bit ≡ sum_by (size r) (take n insts)
    firsts zero within = refl
    firsts (suc zero) within = refl
    firsts (suc (suc zero)) within = refl
    firsts (suc (suc (suc zero))) within = refl
    firsts (suc (suc (suc (suc zero)))) within = refl
    firsts (suc (suc (suc (suc (suc n))))) within = omega (arith, within)

-- the sixth bit is of the buffer in the first block
pub the_owner : (feeds : Vec Feed) → owner_at (rows insts feeds) 5 ≡ 2
the_owner feeds = refl

pub it_owns : (feeds : Vec Feed) → Owns (rows insts feeds) 2 5
it_owns feeds = record { there = omega arith; from = omega arith; to = omega arith }

-- what an instance is inside comes before it
pub no_instance_comes_first : (feeds : Vec Feed) → ¬ AreRows (rows (inst 0 0 0 0 ∷ inst 2 8 1 2 ∷ inst 1 10 2 4 ∷ []) feeds)
no_instance_comes_first feeds are = let before = are.parents 1 (omega arith) (omega arith) in omega (arith, before)

-- the blocks and their buffers are in order by what they are inside and by name
pub they_have_children : (feeds : Vec Feed) → HasChildren (rows insts feeds)
they_have_children feeds = record { rising = ((refl, (refl, (refl, tt))), ((refl, (refl, tt)), ((refl, tt), (tt, tt)))); each = each; all = all }
  where
    r : Rows
    r = rows insts feeds

    each : (n : ℕ) → IsIn n r.children → IsInner r n
    each n (inl is) = (omega (arith, is), omega (arith, is))
    each n (inr (inl is)) = (omega (arith, is), omega (arith, is))
    each n (inr (inr (inl is))) = (omega (arith, is), omega (arith, is))
    each n (inr (inr (inr (inl is)))) = (omega (arith, is), omega (arith, is))
    each n (inr (inr (inr (inr none)))) = absurd none

    all : (n : ℕ) → IsInner r n → IsIn n r.children
    all zero is = absurd (omega (arith, is.0))
    all (suc zero) is = inl refl
    all (suc (suc zero)) is = inr (inr (inl refl))
    all (suc (suc (suc zero))) is = inr (inl refl)
    all (suc (suc (suc (suc zero)))) is = inr (inr (inr (inl refl)))
    all (suc (suc (suc (suc (suc n))))) is = absurd (omega (arith, is.1))

pub they_have_names : (feeds : Vec Feed) → HasNames (rows insts feeds)
they_have_names feeds zero is = absurd (omega (arith, is.0))
they_have_names feeds (suc zero) is = λ same. cc
they_have_names feeds (suc (suc zero)) is = λ same. cc
they_have_names feeds (suc (suc (suc zero))) is = λ same. cc
they_have_names feeds (suc (suc (suc (suc zero)))) is = λ same. cc
they_have_names feeds (suc (suc (suc (suc (suc n))))) is = absurd (omega (arith, is.1))

-- two blocks inside the top have one name
pub the_second_is_named_as_the_first : (feeds : Vec Feed) → HasNameTwice (rows (inst 0 0 0 0 ∷ inst 0 8 1 2 ∷ inst 0 8 3 4 ∷ []) feeds)
the_second_is_named_as_the_first feeds = record {
  outer = 0;
  name = codes "u_a";
  one = 1;
  other = 2;
  two = λ same. absurd (omega (arith, same));
  is_one = record { inner = (omega arith, omega arith); inside = refl; named = refl };
  is_other = record { inner = (omega arith, omega arith); inside = refl; named = refl };
}
