-- Parts of the sets that a check may make, and what a walk passes, on worked data.
use Rattle.std.proofs.Common.{◌≡◌, ℕ, true, false, [], ◌∷◌, inl, inr, refl, sym, ◌∙◌, arith}
use Rattle.std.proofs.lemmas.Bool.{true≢false}
use Rattle.pw_defs.specs.declared.conditions.Cond.TheVariants.{Is, On as IsOn}
use Rattle.pw_defs.specs.declared.design.PortBit.{PortBit}
use Rattle.pw_defs.specs.declared.values.Value.TheVariants.{Off, On}
use Rattle.supply_defs.proofs.Meaning.{holding}
use Rattle.worked_jobs.specs.Designs.{pair as pair_design, isolated as isolated_design}
use Rattle.worked_jobs.specs.Intents.{pair as pair_intent}
use Rattle.signoff_defs.specs.Boundaries.{macro_ports, values_beyond}
use Rattle.signoff_defs.specs.WalkParts.{Part, walk_parts}
use Rattle.signoff_defs.specs.WorkLists.{Work, SetPart, HasMoreParts, IsEntry, IsInside, states_with}

abbrev at : ℕ → ℕ → PortBit
at inst port = record { inst = inst; port = port; place = 0 }

-- a signal comes out of the first block's cell and of the first block, and goes into the second block and its cell
pub a_walk_goes_out_and_in : walk_parts pair_design 0 (8 ∷ 6 ∷ 0 ∷ 3 ∷ 5 ∷ []) ≡
    Part.inner (at 2 1) ∷ Part.outer (at 2 1) ∷ Part.inner (at 1 1) ∷ Part.outer (at 1 1)
    ∷ Part.outer (at 3 0) ∷ Part.inner (at 3 0) ∷ Part.outer (at 4 0) ∷ Part.inner (at 4 0) ∷ []
a_walk_goes_out_and_in = refl

-- at a port of the top a walk passes the inner side alone
pub at_the_top_the_inner_side_alone : walk_parts pair_design 0 (2 ∷ 1 ∷ []) ≡ Part.inner (at 0 0) ∷ Part.outer (at 1 0) ∷ Part.inner (at 1 0) ∷ []
at_the_top_the_inner_side_alone = refl

-- the isolation cell of the second block is passed between its pins
pub a_walk_goes_through_a_cell : walk_parts isolated_design 3 (7 ∷ 13 ∷ 11 ∷ 6 ∷ []) ≡
    Part.inner (at 3 0) ∷ Part.outer (at 5 0) ∷ Part.inner (at 5 0) ∷ Part.cell 5 ∷ Part.inner (at 5 2) ∷ Part.outer (at 5 2) ∷ []
a_walk_goes_through_a_cell = refl

pub without_macros_no_boundary : macro_ports pair_intent ≡ []
without_macros_no_boundary = refl

pub what_the_macro_has_not : values_beyond (Off ∷ On 800000 ∷ On 900000 ∷ []) (Off ∷ On 800000 ∷ []) ≡ On 900000 ∷ []
what_the_macro_has_not = refl

-- one root that is off or on, and two conditions on it
abbrev small : Work
small = record { lists = (Off ∷ On 0 ∷ []) ∷ []; places = 0 ∷ []; constraints = []; watched = Is 0 Off ∷ IsOn 0 ∷ [] }

abbrev where_off : SetPart
where_off = record { level = 0; rests = states_with small (Is 0 Off) }

abbrev where_on : SetPart
where_on = record { level = 0; rests = states_with small (IsOn 0) }

off_there : states_with small (Is 0 Off) (0 ∷ []) ≡ true
off_there = simp holding

off_not_there : states_with small (IsOn 0) (0 ∷ []) ≡ false
off_not_there = simp holding

on_there : states_with small (IsOn 0) (1 ∷ []) ≡ true
on_there = simp holding

pub two_conditions_have_two_parts : HasMoreParts small 1
two_conditions_have_two_parts = record {
  parts = where_off ∷ where_on ∷ [];
  count = refl;
  each = (
    record {
      set = states_with small (Is 0 Off);
      entry = IsEntry.in_watched _ _ (inl refl) (IsInside.itself _);
      within = record { front = []; at = refl; level_in = omega arith; same = λ rest. refl; some = (0 ∷ [], off_there) };
    },
    (
      record {
        set = states_with small (IsOn 0);
        entry = IsEntry.in_watched _ _ (inr (inl refl)) (IsInside.itself _);
        within = record { front = []; at = refl; level_in = omega arith; same = λ rest. refl; some = (1 ∷ [], on_there) };
      },
      tt,
    ),
  );
  different = ((inr (0 ∷ [], λ same. true≢false (sym off_there ∙ same ∙ off_not_there)), tt), (tt, tt));
}
