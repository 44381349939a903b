-- The worked chip: its macro's boundary, the unit of a chain in it, and an open walk of it.
use Rattle.std.proofs.Common.{◌≡◌, ℕ, zero, suc, ◌≤◌, List, [], ◌∷◌, Some, inl, inr, refl, arith}
use Rattle.std.specs.Prelude.{codes}
use Rattle.pw_defs.specs.declared.chains.Element.TheVariants.{Face as FaceElement}
use Rattle.pw_defs.specs.declared.chains.Partial.TheVariants.{Take}
use Rattle.pw_defs.specs.declared.intent.Face.{Face}
use Rattle.pw_defs.specs.declared.values.Value.TheVariants.{Off, On}
use Rattle.design_defs.specs.Alike.{IsAtOrBelow, inside}
use Rattle.design_defs.specs.CutWalks.{IsCutWalk}
use Rattle.supply_defs.specs.Network.{IsRoot, IsUnfed}
use Rattle.supply_defs.specs.UnitViews.{IsGroundRoot, in_ports}
use Rattle.domain_defs.specs.Candidates.{AreCandidatesMade}
use Rattle.domain_defs.specs.Faces.{HasFaces}
use Rattle.worked_jobs.specs.Designs.{chip}
use Rattle.signoff_defs.specs.Boundaries.{AreBoundaries, HasValuesIn}
use Rattle.signoff_defs.specs.Elements.{AreSeenAt, IsElement}
use Rattle.list_defs.specs.Found.{AreFound}
use Rattle.signoff_defs.specs.OpenWalks.{IsOpenWalk}
use Rattle.signoff_defs.specs.UnitsOf.{IsUnitOf, HoldsBits}
use Rattle.signoff_defs.specs.Visibility.{in_walk}
use Rattle.signoff_defs.proofs.WorkedChip.{alone, chip_intent}
use Rattle.signoff_defs.proofs.WorkedReport.{none_in_order, one_in_order}

-- ---- the boundary

first_outside : HasValuesIn chip_intent 0 2 (Off ∷ On 800000 ∷ [])
first_outside = record {
  root = 0;
  is_root = IsRoot.fed 2 0 0 (λ none. none) refl (IsRoot.unfed 0 refl);
  list = _;
  listed = inl refl;
  of_unit = refl;
  of_root = refl;
  values_are = refl;
}

first_inside : HasValuesIn chip_intent 1 2 (Off ∷ On 800000 ∷ [])
first_inside = record {
  root = 2;
  is_root = IsRoot.stopped 2 (inl refl);
  list = _;
  listed = inr
      (inr (inl refl));
  of_unit = refl;
  of_root = refl;
  values_are = refl;
}

second_outside : HasValuesIn chip_intent 0 3 (Off ∷ On 800000 ∷ On 900000 ∷ [])
second_outside = record {
  root = 1;
  is_root = IsRoot.fed 3 1 1 (λ none. none) refl (IsRoot.unfed 1 refl);
  list = _;
  listed = inr (inl refl);
  of_unit = refl;
  of_root = refl;
  values_are = refl;
}

second_inside : HasValuesIn chip_intent 1 3 (Off ∷ On 800000 ∷ [])
second_inside = record {
  root = 3;
  is_root = IsRoot.stopped 3 (inr (inl refl));
  list = _;
  listed = inr (inr (inr (inl refl)));
  of_unit = refl;
  of_root = refl;
  values_are = refl;
}

-- the chip has 0.9 V at the second port, and the macro hasn't
pub the_macro_has_one_boundary_line : AreBoundaries chip chip_intent (record { inst = codes "m"; port = codes "VB"; values = On 900000 ∷ [] } ∷ [])
the_macro_has_one_boundary_line = record {
  found = _;
  are_found =
      AreFound.passed _ _ _ (λ is_port. record { outside = _; has_outside = first_outside; inside = _; has_inside = first_inside; beyond = refl })
      (AreFound.found _ _ _ _ (record {
        is_port = inl refl;
        instance_name = refl;
        port_name = refl;
        beyond = record { outside = _; has_outside = second_outside; inside = _; has_inside = second_inside; beyond = refl };
        some = λ e. cc;
      }) AreFound.end);
  in_order = one_in_order _ _;
}

-- ---- units

in_macro : IsAtOrBelow chip 1 1
in_macro = IsAtOrBelow.at 1 refl

in_first : IsAtOrBelow chip 1 2
in_first = inside 2 1 refl in_macro

in_second : IsAtOrBelow chip 1 4
in_second = inside 4 1 refl in_macro

last_unit : (other : ℕ) (bits : List ℕ) → HoldsBits chip chip_intent bits other → other ≤ 1
last_unit zero bits holds = omega arith
last_unit (suc zero) bits holds = omega arith
last_unit (suc (suc n)) bits holds = let none = holds.there in cc

-- the chain between the blocks of the macro is in the macro's unit
pub a_chain_in_the_macro_is_in_its_unit : IsUnitOf chip chip_intent (9 ∷ 7 ∷ 1 ∷ 4 ∷ 6 ∷ []) 1
a_chain_in_the_macro_is_in_its_unit = record {
  holds = record {
    this = _;
    there = refl;
    held = (
      record { owner = 5; owned = refl; within = inside 5 4 refl in_second },
      (
        record { owner = 4; owned = refl; within = in_second },
        (
          record { owner = 1; owned = refl; within = in_macro },
          (record { owner = 2; owned = refl; within = in_first }, (record { owner = 3; owned = refl; within = inside 3 2 refl in_first }, tt)),
        ),
      ),
    );
  };
  innermost = λ other holds. last_unit other _ holds;
}

-- ---- an open walk

no_candidates : (face : Face) → AreSeenAt chip chip_intent 1 face []
no_candidates face = record {
  isolating = [];
  shifting = [];
  are_isolating = ([], AreCandidatesMade.none, none_in_order _);
  are_shifting = ([], AreCandidatesMade.none, none_in_order _);
  seen = tt;
}

-- the cell of the first block takes its signal from the input of the macro
pub a_receiver_in_the_macro_takes_from_its_input : IsOpenWalk chip chip_intent 1 1 5 (Take (codes "m/x") (codes "m/u_a/o/A") (alone 2) [])
a_receiver_in_the_macro_takes_from_its_input = IsOpenWalk.take 5 (record { inst = 3; port = 0; place = 0 }) (5 ∷ 3 ∷ 2 ∷ []) (alone 2) []
    (record { there = refl; receives = refl; inside = inside 3 2 refl in_first; inner = λ e. omega (arith, e) })
    (IsCutWalk.goes 5 3 _ _ _ refl refl refl (IsCutWalk.goes 3 2 _ _ _ refl refl refl (IsCutWalk.stops 2 refl)))
    (record { set = alone 2; is_set = refl; roots = record { power_root = IsRoot.stopped 2 (inl refl); ground_root = IsGroundRoot.missing } })
    (record {
      elements = FaceElement [] ∷ FaceElement [] ∷ FaceElement [] ∷ [];
      are_elements =
          AreFound.found _ _ _ _ (IsElement.inner_face _ _ _ [] (HasFaces.between 0 0 1 refl refl refl (λ e. omega (arith, e))) (no_candidates _))
          (AreFound.found _ _ _ _ (IsElement.outer_face _ _ _ [] (HasFaces.between 1 1 2 refl refl refl (λ e. omega (arith, e))) (no_candidates _))
          (AreFound.found _ _ _ _ (IsElement.inner_face _ _ _ [] (HasFaces.between 1 1 2 refl refl refl (λ e. omega (arith, e))) (no_candidates _))
          (AreFound.passed _ _ _ (record { parent = 2; above = refl; domain = 2; inside = refl; outside = refl })
          (AreFound.passed _ _ _ (record { parent = 2; above = refl; domain = 2; inside = refl; outside = refl }) AreFound.end))));
      kept = refl;
    })

-- it speaks of the first port of the macro alone
pub the_walk_speaks_of_the_port : in_walk (Take (codes "m/x") (codes "m/u_a/o/A") (alone 2) []) ≡ 2 ∷ []
the_walk_speaks_of_the_port = refl

-- ports fed from outside come first in the interface, in order of declaration, and are no roots of the chip
pub the_ports_of_the_macro : in_ports chip_intent.supplies (record { inst = 1; outer = Some 0; passed = 0; ports = 2 ∷ 3 ∷ []; exports = [] }) ≡ 2 ∷ 3 ∷ []
the_ports_of_the_macro = refl

pub a_port_is_no_root : IsUnfed chip_intent.supplies 2 → ⊥
a_port_is_no_root unfed = cc
