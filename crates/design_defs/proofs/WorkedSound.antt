-- Worked examples of what a sound design has, and of designs that lack it; and of names that resolve.
use Rattle.std.proofs.Common.{◌≡◌, ℕ, zero, suc, ◌≤◌, ◌↔◌, false, List, [], ◌∷◌, Some, None, refl, sym, ap, ◌∙◌, arith}
use Rattle.std.specs.Prelude.{codes}
use Rattle.std.specs.Fmt.{digits}
use Rattle.std.specs.List.{slice_get}
use Rattle.pw_defs.specs.declared.design.Body.TheVariants.{Module as ModuleBody}
use Rattle.pw_defs.specs.declared.design.Design.{Design}
use Rattle.pw_defs.specs.declared.design.Feeder.TheVariants.{Bit as BitFeeder, Driver}
use Rattle.pw_defs.specs.declared.design.Instance.{Instance}
use Rattle.pw_defs.specs.declared.design.Named.{Named}
use Rattle.pw_defs.specs.declared.design.Named.TheVariants.{Port as PortOf, PortBit as BitOf}
use Rattle.pw_defs.specs.declared.design.PortBit.{PortBit}
use Rattle.worked_jobs.specs.Designs.{pair, vector}
use Rattle.worked_jobs.specs.Libraries.{library}
use Rattle.list_defs.specs.Members.{same_name}
use Rattle.design_defs.specs.Alike.{IsAtOrBelow}
use Rattle.design_defs.specs.Joined.{HasJoinedName, path_of}
use Rattle.design_defs.specs.Names.{joined}
use Rattle.design_defs.specs.Ports.{body_of, port_at}
use Rattle.design_defs.specs.Resolves.{Resolves, kind_of}
use Rattle.list_defs.specs.Rings.{IsReached}
use Rattle.design_defs.specs.Sound.{HasParentsFirst, HasTop, IsFedBy, IsSoundDesign}
use Rattle.design_defs.proofs.Lookups.{other_name}

-- TOP. The design of the two blocks has one.
inside : {A : Type 0} (i : Instance) (parent : ℕ) → i.parent ≡ Some parent → i.parent ≡ None → A
inside i parent e none = cc

instance_is : (i j : Instance) → Some i ≡ Some j → i.parent ≡ j.parent
instance_is i j e = ap (λ (o : Instance). o.parent) (some_same i j e)
  where
    some_same : (a b : Instance) → Some a ≡ Some b → a ≡ b
    some_same a b h = cc

alone : (n : ℕ) (i : Instance) → slice_get pair.insts n ≡ Some i → (i.parent ≡ None) ↔ (n ≡ 0)
alone zero i e = (λ none. refl, λ first. sym (instance_is _ i e))
alone (suc zero) i e = (inside i 0 (sym (instance_is _ i e)), λ first. absurd (omega arith))
alone (suc (suc zero)) i e = (inside i 1 (sym (instance_is _ i e)), λ first. absurd (omega arith))
alone (suc (suc (suc zero))) i e = (inside i 0 (sym (instance_is _ i e)), λ first. absurd (omega arith))
alone (suc (suc (suc (suc zero)))) i e = (inside i 3 (sym (instance_is _ i e)), λ first. absurd (omega arith))
alone (suc (suc (suc (suc (suc n))))) i e = cc

pub pair_has_top : HasTop pair
pair_has_top = record { first = (2, refl); alone = alone }

-- what an instance is inside stands before it, and is a module
pub pair_has_parents_first : HasParentsFirst pair
pair_has_parents_first zero p e = cc
pair_has_parents_first (suc zero) p e = let same : 0 ≡ p = cc in (omega arith, (2, ap (body_of pair) (sym same)))
pair_has_parents_first (suc (suc zero)) p e = let same : 1 ≡ p = cc in (omega arith, (0, ap (body_of pair) (sym same)))
pair_has_parents_first (suc (suc (suc zero))) p e = let same : 0 ≡ p = cc in (omega arith, (2, ap (body_of pair) (sym same)))
pair_has_parents_first (suc (suc (suc (suc zero)))) p e = let same : 3 ≡ p = cc in (omega arith, (1, ap (body_of pair) (sym same)))
pair_has_parents_first (suc (suc (suc (suc (suc n))))) p e = cc

-- RINGS. Two bits that feed one another make a design that isn't sound.
abbrev ring : Design
ring = record {
  cells = library;
  modules = record { name = codes "top"; ports = []; nets = []; assigns = []; insts = []; line = 1 } ∷ [];
  models = [];
  insts = record { path = []; parent = None; body = ModuleBody 0 } ∷ [];
  bits =
      record { name = codes "m"; owner = 0; port = None; feeder = BitFeeder 1 }
      ∷ record { name = codes "n"; owner = 0; port = None; feeder = BitFeeder 0 } ∷ [];
}

pub ring_is_not_sound : IsSoundDesign ring → ⊥
ring_is_not_sound sound =
    sound.no_ring 0 (IsReached.more 0 1 0 (IsFedBy.feeder (BitFeeder 1) refl refl) (IsReached.one 1 0 (IsFedBy.feeder (BitFeeder 0) refl refl)))

-- DRIVERS. A wire that is said to be a driver makes a design that isn't sound.
abbrev loose : Design
loose = record ring { bits = record { name = codes "m"; owner = 0; port = None; feeder = Driver (record { inst = 0; port = 0; place = 0 }) } ∷ [] }

pub wire_drives_not : IsSoundDesign loose → ⊥
wire_drives_not sound =
    let there = (sound.drivers_there 0 _ (record { inst = 0; port = 0; place = 0 }) refl).0 refl in
    let no_port = there.0 in
    cc

-- NAMES. The input of the second block stands for itself, seen from the top and from the block.
below_top : IsAtOrBelow pair 0 3
below_top = IsAtOrBelow.inside 3 0 refl (IsAtOrBelow.at 0 refl)

-- no instance has this name
no_instance : (name : List ℕ) (x : Named) → HasJoinedName pair x name → name ≡ codes "u_b/a" → 1 ≤ kind_of x
no_instance _ _ (HasJoinedName.instance inst path inner at) same = by inst at
  where
    differ : (other : List ℕ) → same_name other (codes "u_b/a") ≡ false → Some other ≡ Some path → 1 ≤ 0
    differ other apart e = absurd (other_name other (codes "u_b/a") apart (some_path other path e ∙ same))
      where
        some_path : (a b : List ℕ) → Some a ≡ Some b → a ≡ b
        some_path a b h = cc

    by : (n : ℕ) → path_of pair n ≡ Some path → 1 ≤ 0
    by zero e = differ [] refl e
    by (suc zero) e = differ (codes "u_a") refl e
    by (suc (suc zero)) e = differ (codes "u_a/o") refl e
    by (suc (suc (suc zero))) e = differ (codes "u_b") refl e
    by (suc (suc (suc (suc zero)))) e = differ (codes "u_b/i") refl e
    by (suc (suc (suc (suc (suc n))))) e = cc
no_instance _ _ (HasJoinedName.port inst port p path of has) same = omega arith
no_instance _ _ (HasJoinedName.vector_bit b p range path of has vector within) same = omega arith

same_path : (a b : List ℕ) → Some a ≡ Some b → a ≡ b
same_path a b e = cc

pub port_from_top : Resolves pair 0 (codes "u_b/a") (PortOf 3 0)
port_from_top = record {
  has_name = record { below = below_top; path = []; path_of_scope = refl; named = HasJoinedName.port 3 0 _ (codes "u_b") refl refl };
  first =
      λ y other. no_instance (joined other.path (codes "u_b/a")) y other.named
      (ap (λ path. joined path (codes "u_b/a")) (same_path other.path [] (sym other.path_of_scope)));
}

-- the one bit of a scalar port has no name of its own
pub scalar_bit_has_no_name : (name : List ℕ) → HasJoinedName pair (BitOf (record { inst = 0; port = 0; place = 0 })) name → ⊥
scalar_bit_has_no_name name named = by (BitOf (record { inst = 0; port = 0; place = 0 })) name refl named
  where
    by : (x : Named) (n : List ℕ) → x ≡ BitOf (record { inst = 0; port = 0; place = 0 }) → HasJoinedName pair x n → ⊥
    by _ _ same (HasJoinedName.instance inst path inner at) = cc
    by _ _ same (HasJoinedName.port inst port p path of has) = cc
    by _ _ same (HasJoinedName.vector_bit b p range path of has vector within) =
        let bit : b ≡ record { inst = 0; port = 0; place = 0 } = cc in
        let there : port_at pair 0 0 ≡ Some p = ap (λ (q : PortBit). port_at pair q.inst q.port) (sym bit) ∙ has in
        cc

-- a bit of a vector port has one
pub vector_bit_has_name : HasJoinedName vector (BitOf (record { inst = 1; port = 0; place = 1 })) (codes "u_b/a[2]")
unfolding digits
vector_bit_has_name = HasJoinedName.vector_bit (record { inst = 1; port = 0; place = 1 }) _ (3, 0) (codes "u_b") refl refl refl (omega arith)
