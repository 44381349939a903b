-- The two blocks of the example have their report: isolation is missing on the chain from the one that can be off.
use Rattle.std.proofs.Common.{◌≡◌, ◌≢◌, ℕ, zero, suc, ◌≤◌, true, false, List, [], ◌∷◌, Some, None, inl, inr, refl, sym, ap, subst, ◌∙◌, arith}
use Rattle.std.specs.Prelude.{codes, slice_get, slice_index, take}
use Rattle.std.specs.List.{flat_map}
use Rattle.std.specs.declared.cmp.Ordering.{Ordering}
use Rattle.std.specs.declared.cmp.Ordering.TheVariants.{Less}
use Rattle.std.proofs.lemmas.Bool.{true≢false}
use Rattle.std.proofs.lemmas.Fmt.{decimal_digit}
use Rattle.std.proofs.lemmas.List.Sorted.{IsPermutation-refl}
use Rattle.pw_defs.specs.declared.chains.Chain.{Chain}
use Rattle.pw_defs.specs.declared.chains.Element.{Element}
use Rattle.pw_defs.specs.declared.chains.Element.TheVariants.{Face as FaceElement}
use Rattle.pw_defs.specs.Values.{state_cmp}
use Rattle.pw_defs.specs.declared.chains.Kind.TheVariants.{IsoMissing}
use Rattle.pw_defs.specs.declared.conditions.Cond.{Cond}
use Rattle.pw_defs.specs.declared.intent.RootList.{RootList}
use Rattle.pw_defs.specs.declared.report.Finding.{Finding}
use Rattle.pw_defs.specs.declared.chains.Walk.{Walk}
use Rattle.pw_defs.specs.declared.design.Feeder.TheVariants.{Driver}
use Rattle.pw_defs.specs.declared.design.PortBit.{PortBit}
use Rattle.pw_defs.specs.declared.intent.Face.{Face}
use Rattle.pw_defs.specs.declared.intent.SupplySet.{SupplySet}
use Rattle.pw_defs.specs.declared.strategies.Choice.{Choice}
use Rattle.pw_defs.specs.declared.values.Value.{Value}
use Rattle.pw_defs.specs.declared.values.Value.TheVariants.{Off, On}
use Rattle.list_defs.specs.Members.{IsIn}
use Rattle.list_defs.specs.Orders.{IsPutInOrder}
use Rattle.design_defs.specs.Alike.{IsAtOrBelow, inside}
use Rattle.design_defs.specs.Walks.{IsWalk, AreWalks}
use Rattle.supply_defs.specs.Conditions.{holds}
use Rattle.supply_defs.proofs.Meaning.{holding}
use Rattle.supply_defs.specs.Network.{IsRoot, IsUnfed}
use Rattle.supply_defs.specs.Places.{value_at}
use Rattle.supply_defs.specs.SetConditions.{SomeShows}
use Rattle.supply_defs.specs.UnitLists.{IsAtOrInside}
use Rattle.supply_defs.specs.UnitViews.{IsGroundRoot, HasRoots}
use Rattle.domain_defs.specs.Candidates.{AreCandidatesMade}
use Rattle.domain_defs.specs.Faces.{HasFaces}
use Rattle.domain_defs.specs.Precedence.{IsChoice}
use Rattle.worked_jobs.specs.Designs.{pair as pair_design}
use Rattle.worked_jobs.specs.Intents.{pair as pair_intent, switchable, steady}
use Rattle.worked_jobs.specs.Reports.{pair as pair_report}
use Rattle.worked_jobs.specs.Texts.{pair_report as pair_report_text}
use Rattle.signoff_defs.specs.Chains.{IsChainOf, AreAllChains}
use Rattle.signoff_defs.specs.ChainCrossings.{IsCrossingOf}
use Rattle.signoff_defs.specs.Crossings.{Crossing}
use Rattle.signoff_defs.specs.Findings.{NamedWatch, IsFindingOf, AreFindings}
use Rattle.signoff_defs.specs.Elements.{AreSeenAt, IsElement, AreElements}
use Rattle.list_defs.specs.Found.{AreFound}
use Rattle.signoff_defs.specs.ReportText.{report_text}
use Rattle.signoff_defs.specs.RootOrders.{RootOrder, IsRootOrder}
use Rattle.signoff_defs.specs.Needs.{isolation_need, shifting_need}
use Rattle.signoff_defs.specs.Reports.{legal_states, AreLegalStates, AreWatches, IsReport, named_watches}
use Rattle.signoff_defs.specs.UnitsOf.{IsUnitOf, HoldsBits}
use Rattle.signoff_defs.specs.Visibility.{IsVisible}
use Rattle.signoff_defs.specs.WalkParts.{walk_parts}
use Rattle.signoff_defs.specs.Watches.{where_some}
use Rattle.signoff_defs.specs.Witnesses.{LegalStates, IsVisiblePart}

pub the_report_has_its_text : report_text pair_report ≡ pair_report_text
unfolding report_text
the_report_has_its_text = rw (decimal_digit 0 (omega arith), decimal_digit 1 (omega arith), decimal_digit 2 (omega arith)) refl

-- ---- walks

abbrev at : ℕ → ℕ → PortBit
at inst port = record { inst = inst; port = port; place = 0 }

-- from the input of the first block's cell back to the input of the top
abbrev first_walk : Walk
first_walk = record { from = Driver (at 0 0); to = at 2 0; bits = 4 ∷ 2 ∷ 1 ∷ [] }

-- from the input of the second block's cell back to the output of the first block's cell
abbrev second_walk : Walk
second_walk = record { from = Driver (at 2 1); to = at 4 0; bits = 8 ∷ 6 ∷ 0 ∷ 3 ∷ 5 ∷ [] }

pub the_pair_has_two_walks : AreWalks pair_design (first_walk ∷ second_walk ∷ [])
the_pair_has_two_walks = (
  (refl, IsWalk.goes 4 2 _ _ _ refl refl (IsWalk.goes 2 1 _ _ _ refl refl (IsWalk.ends 1 _ refl refl))),
  (
    (
      refl,
      IsWalk.goes 8 6 _ _ _ refl refl
          (IsWalk.goes 6 0 _ _ _ refl refl (IsWalk.goes 0 3 _ _ _ refl refl (IsWalk.goes 3 5 _ _ _ refl refl (IsWalk.ends 5 _ refl refl)))),
    ),
    tt,
  ),
)

-- ---- chains

pub none_in_order : {X : Type 0} (cmp : X → X → Ordering) → IsPutInOrder cmp [] []
none_in_order cmp = record { same = IsPermutation-refl []; sorted = λ k d low inside. absurd (omega (arith, inside)); stable = λ x. refl }

pub one_in_order : {X : Type 0} (cmp : X → X → Ordering) (x : X) → IsPutInOrder cmp (x ∷ []) (x ∷ [])
one_in_order cmp x = record { same = IsPermutation-refl (x ∷ []); sorted = λ k d low inside. absurd (omega (arith, inside)); stable = λ y. refl }

-- without strategies no face has candidates
no_candidates : (face : Face) → AreSeenAt pair_design pair_intent 0 face []
no_candidates face = record {
  isolating = [];
  shifting = [];
  are_isolating = ([], AreCandidatesMade.none, none_in_order _);
  are_shifting = ([], AreCandidatesMade.none, none_in_order _);
  seen = tt;
}

abbrev plain_face : Element
plain_face = FaceElement []

first_elements : AreElements pair_design pair_intent 0 (walk_parts pair_design 0 (4 ∷ 2 ∷ 1 ∷ [])) (plain_face ∷ plain_face ∷ plain_face ∷ [])
first_elements =
    AreFound.found _ _ _ _ (IsElement.inner_face (at 0 0) None _ [] (HasFaces.of_top 0 refl refl) (no_candidates _))
    (AreFound.found _ _ _ _ (IsElement.outer_face (at 1 0) _ _ [] (HasFaces.between 0 0 1 refl refl refl (λ e. cc)) (no_candidates _))
    (AreFound.found _ _ _ _ (IsElement.inner_face (at 1 0) _ _ [] (HasFaces.between 0 0 1 refl refl refl (λ e. cc)) (no_candidates _))
    (AreFound.passed _ _ _ (record { parent = 1; above = refl; domain = 1; inside = refl; outside = refl })
    (AreFound.passed _ _ _ (record { parent = 1; above = refl; domain = 1; inside = refl; outside = refl }) AreFound.end))))

second_elements : AreElements pair_design pair_intent 0 (walk_parts pair_design 0 (8 ∷ 6 ∷ 0 ∷ 3 ∷ 5 ∷ []))
    (plain_face ∷ plain_face ∷ plain_face ∷ plain_face ∷ [])
second_elements =
    AreFound.passed _ _ _ (record { parent = 1; above = refl; domain = 1; inside = refl; outside = refl })
    (AreFound.passed _ _ _ (record { parent = 1; above = refl; domain = 1; inside = refl; outside = refl })
    (AreFound.found _ _ _ _ (IsElement.inner_face (at 1 1) _ _ [] (HasFaces.between 0 0 1 refl refl refl (λ e. cc)) (no_candidates _))
    (AreFound.found _ _ _ _ (IsElement.outer_face (at 1 1) _ _ [] (HasFaces.between 0 0 1 refl refl refl (λ e. cc)) (no_candidates _))
    (AreFound.found _ _ _ _ (IsElement.outer_face (at 3 0) _ _ [] (HasFaces.between 0 0 2 refl refl refl (λ e. cc)) (no_candidates _))
    (AreFound.found _ _ _ _ (IsElement.inner_face (at 3 0) _ _ [] (HasFaces.between 0 0 2 refl refl refl (λ e. cc)) (no_candidates _))
    (AreFound.passed _ _ _ (record { parent = 3; above = refl; domain = 2; inside = refl; outside = refl })
    (AreFound.passed _ _ _ (record { parent = 3; above = refl; domain = 2; inside = refl; outside = refl }) AreFound.end)))))))

switchable_roots : HasRoots pair_intent.supplies [] switchable switchable
switchable_roots = record { power_root = IsRoot.unfed 0 refl; ground_root = IsGroundRoot.there 2 2 (IsRoot.unfed 2 refl) }

steady_roots : HasRoots pair_intent.supplies [] steady steady
steady_roots = record { power_root = IsRoot.unfed 1 refl; ground_root = IsGroundRoot.there 2 2 (IsRoot.unfed 2 refl) }

-- the top is the only unit
top_alone : (other : ℕ) (bits : List ℕ) → HoldsBits pair_design pair_intent bits other → other ≤ 0
top_alone zero bits holds = omega arith
top_alone (suc n) bits holds = let none = holds.there in cc

in_top : IsAtOrBelow pair_design 0 0
in_top = IsAtOrBelow.at 0 refl

in_first : IsAtOrBelow pair_design 0 1
in_first = inside 1 0 refl in_top

in_second : IsAtOrBelow pair_design 0 3
in_second = inside 3 0 refl in_top

first_unit : IsUnitOf pair_design pair_intent (4 ∷ 2 ∷ 1 ∷ []) 0
first_unit = record {
  holds = record {
    this = _;
    there = refl;
    held = (
      record { owner = 2; owned = refl; within = inside 2 1 refl in_first },
      (record { owner = 1; owned = refl; within = in_first }, (record { owner = 0; owned = refl; within = in_top }, tt)),
    );
  };
  innermost = λ other holds. top_alone other _ holds;
}

second_unit : IsUnitOf pair_design pair_intent (8 ∷ 6 ∷ 0 ∷ 3 ∷ 5 ∷ []) 0
second_unit = record {
  holds = record {
    this = _;
    there = refl;
    held = (
      record { owner = 4; owned = refl; within = inside 4 3 refl in_second },
      (
        record { owner = 3; owned = refl; within = in_second },
        (
          record { owner = 0; owned = refl; within = in_top },
          (record { owner = 1; owned = refl; within = in_first }, (record { owner = 2; owned = refl; within = inside 2 1 refl in_first }, tt)),
        ),
      ),
    );
  };
  innermost = λ other holds. top_alone other _ holds;
}

abbrev first_chain : Chain
first_chain = record {
  receiver = codes "u_a/o/A";
  to = switchable;
  driver = codes "x";
  from = steady;
  unit = 0;
  elements = plain_face ∷ plain_face ∷ plain_face ∷ [];
}

abbrev second_chain : Chain
second_chain = record {
  receiver = codes "u_b/i/A";
  to = steady;
  driver = codes "u_a/o/Y";
  from = switchable;
  unit = 0;
  elements = plain_face ∷ plain_face ∷ plain_face ∷ plain_face ∷ [];
}

pub the_first_walk_is_a_chain : IsChainOf pair_design pair_intent first_walk first_chain
the_first_walk_is_a_chain = record {
  driver = at 0 0;
  driven = record { receives = refl; ends = refl; drives = refl; judged = tt };
  unit = first_unit;
  receiver_name = refl;
  driver_name = refl;
  to_set = record { set = switchable; is_set = refl; roots = switchable_roots };
  from_set = record { set = steady; is_set = refl; roots = steady_roots };
  elements = first_elements;
}

pub the_second_walk_is_a_chain : IsChainOf pair_design pair_intent second_walk second_chain
the_second_walk_is_a_chain = record {
  driver = at 2 1;
  driven = record { receives = refl; ends = refl; drives = refl; judged = tt };
  unit = second_unit;
  receiver_name = refl;
  driver_name = refl;
  to_set = record { set = steady; is_set = refl; roots = steady_roots };
  from_set = record { set = switchable; is_set = refl; roots = switchable_roots };
  elements = second_elements;
}

pub the_pair_has_two_chains : AreAllChains pair_design pair_intent (first_chain ∷ second_chain ∷ [])
the_pair_has_two_chains = record {
  walks = first_walk ∷ second_walk ∷ [];
  are_walks = the_pair_has_two_walks;
  are_chains = AreFound.found _ _ _ _ the_first_walk_is_a_chain (AreFound.found _ _ _ _ the_second_walk_is_a_chain AreFound.end);
}

-- ---- watches

abbrev chosen_none : Choice
chosen_none = record { first = None; tie = false }

nothing_chosen : (from to : SupplySet) → IsChoice [] from to chosen_none
nothing_chosen from to = IsChoice.none (λ place c passes. let there = passes.there in cc)

abbrev first_crossing : Crossing
first_crossing = record { driver = steady; receiver = switchable; strategies = []; tied = false; cells = [] }

abbrev second_crossing : Crossing
second_crossing = record { driver = switchable; receiver = steady; strategies = []; tied = false; cells = [] }

first_judged : IsCrossingOf first_chain first_crossing
first_judged = let none = nothing_chosen steady switchable in record {
  choices = chosen_none ∷ chosen_none ∷ chosen_none ∷ chosen_none ∷ chosen_none ∷ chosen_none ∷ [];
  are_choices = (none, (none, (none, (none, (none, (none, tt))))));
  driver = refl;
  receiver = refl;
  strategies = refl;
  tied = refl;
  cells = refl;
}

second_judged : IsCrossingOf second_chain second_crossing
second_judged = let none = nothing_chosen switchable steady in record {
  choices = chosen_none ∷ chosen_none ∷ chosen_none ∷ chosen_none ∷ chosen_none ∷ chosen_none ∷ chosen_none ∷ chosen_none ∷ [];
  are_choices = (none, (none, (none, (none, (none, (none, (none, (none, tt))))))));
  driver = refl;
  receiver = refl;
  strategies = refl;
  tied = refl;
  cells = refl;
}

abbrev pair_watches : List NamedWatch
pair_watches = flat_map named_watches ((first_chain, first_crossing) ∷ (second_chain, second_crossing) ∷ [])

the_pair_is_watched : AreWatches pair_design pair_intent (first_chain ∷ second_chain ∷ []) pair_watches
the_pair_is_watched = record { crossings = first_crossing ∷ second_crossing ∷ []; are_crossings = (first_judged, (second_judged, tt)); all = refl }

-- ---- the order of the roots and the legal states

abbrev pub order : RootOrder
order = record { roots = 0 ∷ 1 ∷ 2 ∷ []; visible = 3; lists = (Off ∷ On 800000 ∷ []) ∷ (Off ∷ On 800000 ∷ []) ∷ (Off ∷ On 0 ∷ []) ∷ [] }

abbrev pub places : List ℕ
places = 0 ∷ 1 ∷ 2 ∷ []

flat_root : (root : ℕ) → IsUnfed pair_intent.supplies root → IsIn root (0 ∷ 1 ∷ 2 ∷ [])
flat_root zero flat = inl refl
flat_root (suc zero) flat = inr (inl refl)
flat_root (suc (suc zero)) flat = inr (inr (inl refl))
flat_root (suc (suc (suc n))) flat = cc

visible_root : (root : ℕ) → IsVisible pair_design pair_intent root → IsIn root (0 ∷ 1 ∷ 2 ∷ [])
visible_root root (IsVisible.outside flat own) = flat_root root flat
visible_root root (IsVisible.of_macro zero u roots supply there outer is in_roots to) = cc
visible_root root (IsVisible.of_macro (suc n) u roots supply there outer is in_roots to) = cc

each_visible : (root : ℕ) → IsIn root (0 ∷ 1 ∷ 2 ∷ []) → IsVisible pair_design pair_intent root
each_visible root (inl e) = subst (IsVisible pair_design pair_intent) (sym e) (IsVisible.outside refl refl)
each_visible root (inr (inl e)) = subst (IsVisible pair_design pair_intent) (sym e) (IsVisible.outside refl refl)
each_visible root (inr (inr (inl e))) = subst (IsVisible pair_design pair_intent) (sym e) (IsVisible.outside refl refl)
each_visible root (inr (inr (inr none))) = absurd none

-- each list of values is the top's
of_top : (list : RootList) → IsIn list pair_intent.lists → IsAtOrInside pair_intent.units list.unit 0
of_top list (inl e) = subst (λ (l : RootList). IsAtOrInside pair_intent.units l.unit 0) (sym e) (IsAtOrInside.at 0)
of_top list (inr (inl e)) = subst (λ (l : RootList). IsAtOrInside pair_intent.units l.unit 0) (sym e) (IsAtOrInside.at 0)
of_top list (inr (inr (inl e))) = subst (λ (l : RootList). IsAtOrInside pair_intent.units l.unit 0) (sym e) (IsAtOrInside.at 0)
of_top list (inr (inr (inr none))) = absurd none

pub the_pair_has_its_roots_by_name : IsRootOrder pair_design pair_intent order
the_pair_has_its_roots_by_name = record {
  seen = 0 ∷ 1 ∷ 2 ∷ [];
  are_visible = record { rising = ((refl, (refl, tt)), ((refl, tt), (tt, tt))); each = each_visible; all = visible_root };
  hidden = [];
  are_hidden = record { rising = tt; each = λ root none. absurd none; all = λ root hidden. absurd (hidden.unseen (flat_root root hidden.is_root)) };
  roots = refl;
  count = refl;
  lists = (
    record { list = _; is_list = record { listed = inl refl; of_root = refl; outermost = λ other there same. of_top other there }; listed = refl },
    (
      record { list = _; is_list = record { listed = inr (inl refl); of_root = refl; outermost = λ other there same. of_top other there }; listed = refl },
      (
        record {
          list = _;
          is_list = record {
            listed = inr (inr (inl refl));
            of_root = refl;
            outermost =
                λ other there same. of_top other there;
          };
          listed = refl;
        },
        tt,
      ),
    ),
  );
}

each_place : (supply root : ℕ) → IsRoot pair_intent.supplies [] supply root → slice_get (0 ∷ 1 ∷ 2 ∷ []) (slice_index places supply) ≡ Some root
each_place _ _ (IsRoot.stopped a here) = absurd here
each_place _ _ (IsRoot.unfed zero none) = refl
each_place _ _ (IsRoot.unfed (suc zero) none) = refl
each_place _ _ (IsRoot.unfed (suc (suc zero)) none) = refl
each_place _ _ (IsRoot.unfed (suc (suc (suc n))) none) = cc
each_place _ _ (IsRoot.fed zero b root off step rest) = cc
each_place _ _ (IsRoot.fed (suc zero) b root off step rest) = cc
each_place _ _ (IsRoot.fed (suc (suc zero)) b root off step rest) = cc
each_place _ _ (IsRoot.fed (suc (suc (suc n))) b root off step rest) = cc

abbrev pub legal : LegalStates
legal = legal_states pair_intent order places

-- the first block is off or on, and all else is on
abbrev pub off_state : List Value
off_state = Off ∷ On 800000 ∷ On 0 ∷ []

abbrev pub on_state : List Value
on_state = On 800000 ∷ On 800000 ∷ On 0 ∷ []

pub the_pair_has_two_legal_states : legal.states ≡ off_state ∷ on_state ∷ []
the_pair_has_two_legal_states = simp holding

pub the_pair_is_legal : AreLegalStates pair_design pair_intent order legal
the_pair_is_legal = record { is_order = the_pair_has_its_roots_by_name; places = places; are_places = record { count = refl; each = each_place }; legal_are = refl }

off_is_legal : IsIn off_state legal.states
off_is_legal = subst (IsIn off_state) (sym the_pair_has_two_legal_states) (inl refl)

-- ---- findings

not_shown : (cond : Cond) → holds (value_at places off_state) cond ≡ false → holds (value_at places on_state) cond ≡ false
    → SomeShows legal.value legal.states cond → ⊥
not_shown cond off on shows = by (subst (IsIn shows.0) the_pair_has_two_legal_states shows.1)
  where
    by : IsIn shows.0 (off_state ∷ on_state ∷ []) → ⊥
    by (inl e) = true≢false (sym shows.2 ∙ ap (λ (s : List Value). holds (value_at places s) cond) e ∙ off)
    by (inr (inl e)) = true≢false (sym shows.2 ∙ ap (λ (s : List Value). holds (value_at places s) cond) e ∙ on)
    by (inr (inr none)) = none

-- isolation is needed on the second chain where the first block is off
need_is_shown : holds (value_at places off_state) (isolation_need second_crossing) ≡ true
need_is_shown = simp holding

off_is_least : (part : List Value) → IsVisiblePart legal (isolation_need second_crossing) part → state_cmp part off_state ≢ Less
off_is_least part is = by (subst (IsIn is.state) the_pair_has_two_legal_states is.shows.is_legal)
  where
    by : IsIn is.state (off_state ∷ on_state ∷ []) → state_cmp part off_state ≢ Less
    by (inl e) = subst (λ (p : List Value). state_cmp p off_state ≢ Less) (sym (is.seen ∙ ap (take 3) e)) (λ less. cc)
    by (inr (inl e)) = subst (λ (p : List Value). state_cmp p off_state ≢ Less) (sym (is.seen ∙ ap (take 3) e)) (λ less. cc)
    by (inr (inr none)) = absurd none

abbrev missing : Finding
missing = record { kind = IsoMissing; receiver = codes "u_b/i/A"; driver = codes "u_a/o/Y"; forced = false; witness = Some (record { values = off_state }) }

abbrev need_watch : NamedWatch
need_watch = record { receiver = codes "u_b/i/A"; driver = codes "u_a/o/Y"; watch = where_some IsoMissing (isolation_need second_crossing) }

missing_is_found : IsFindingOf legal need_watch missing
missing_is_found = record {
  raised = (off_state, off_is_legal, need_is_shown);
  kind = refl;
  receiver = refl;
  driver = refl;
  forced = refl;
  witness = record {
    holds = record { state = off_state; shows = record { is_legal = off_is_legal; shown = need_is_shown }; seen = refl };
    least = off_is_least;
  };
}

pub the_pair_has_one_finding : AreFindings legal pair_watches (missing ∷ [])
the_pair_has_one_finding =
    AreFound.passed _ _ _ (not_shown (isolation_need first_crossing) (simp holding) (simp holding))
    (AreFound.passed _ _ _ (not_shown (shifting_need first_crossing) (simp holding) (simp holding))
    (AreFound.found _ _ _ _ missing_is_found (AreFound.passed _ _ _ (not_shown (shifting_need second_crossing) (simp holding) (simp holding)) AreFound.end)))

-- ---- the report

pub the_pair_has_its_report : IsReport pair_design pair_intent pair_report
the_pair_has_its_report = record {
  chains = first_chain ∷ second_chain ∷ [];
  are_chains = the_pair_has_two_chains;
  order = order;
  legal = legal;
  are_legal = the_pair_is_legal;
  watches = pair_watches;
  are_watches = the_pair_is_watched;
  found = missing ∷ [];
  are_found = the_pair_has_one_finding;
  top = refl;
  chain_count = refl;
  passed = refl;
  boundaries = record { found = []; are_found = AreFound.end; in_order = none_in_order _ };
  visible = refl;
  findings = one_in_order _ missing;
}
