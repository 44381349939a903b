-- The supplies of the worked pair are sound, and some state of it is legal.
use Rattle.std.proofs.Common.{◌≡◌, ℕ, zero, suc, ◌<◌, List, [], ◌∷◌, Some, inl, inr, refl, sym, ap, subst, ◌∙◌, arith}
use Rattle.std.specs.Prelude.{slice_get}
use Rattle.pw_defs.specs.declared.intent.RootList.{RootList}
use Rattle.pw_defs.specs.declared.supplies.Said.{Said}
use Rattle.pw_defs.specs.declared.supplies.Supply.{Supply}
use Rattle.pw_defs.specs.declared.values.Value.{Value}
use Rattle.pw_defs.specs.declared.values.Value.TheVariants.{Off, On}
use Rattle.list_defs.specs.Members.{IsIn}
use Rattle.list_defs.specs.Rings.{IsReached}
use Rattle.supply_defs.specs.Network.{IsRoot, IsFedBy, FeedersLead}
use Rattle.supply_defs.specs.UnitLists.{AreValues, IsSeen, IsSeenRoot, OutersAreSmaller}
use Rattle.supply_defs.specs.Values.{HasValue, IsMentioned, IsPortWithin, IsSwitchOutput, IsUnstated}
use Rattle.worked_jobs.specs.Designs.{pair as pair_design}
use Rattle.worked_jobs.specs.Intents.{pair as pair_intent}
use Rattle.signoff_defs.specs.Reports.{HasNoLegalState}
use Rattle.signoff_defs.specs.Witnesses.{LegalStates}
use Rattle.signoff_defs.proofs.SoundSupplies.{HasSoundSupplies}
use Rattle.signoff_defs.proofs.OneReport.{legal_once}
use Rattle.signoff_defs.proofs.WorkedReport.{order, legal, off_state, on_state, the_pair_is_legal, the_pair_has_two_legal_states}

-- nothing feeds a supply
unfed : (a b : ℕ) → IsFedBy pair_intent.supplies a b → ⊥
unfed zero b step = cc
unfed (suc zero) b step = cc
unfed (suc (suc zero)) b step = cc
unfed (suc (suc (suc n))) b step = cc

no_lead : (a b : ℕ) → FeedersLead pair_intent.supplies a b → ⊥
no_lead _ _ (IsReached.one a b step) = unfed a b step
no_lead _ _ (IsReached.more a b c step more) = unfed a b step

-- each supply is its own root
own_root : (stop : List ℕ) (a r : ℕ) → IsRoot pair_intent.supplies stop a r → a ≡ r
own_root stop _ _ (IsRoot.stopped a here) = refl
own_root stop _ _ (IsRoot.unfed a none) = refl
own_root stop _ _ (IsRoot.fed a b r off step more) = absurd (unfed a b step)

-- there is no soft macro
no_port : (unit inner port : ℕ) → IsPortWithin pair_intent.units unit inner port → ⊥
no_port unit zero port within = let there = within.there in let outer = within.outer in cc
no_port unit (suc n) port within = let there = within.there in cc

no_switch : (unit supply : ℕ) → IsSwitchOutput pair_intent.supplies unit supply → ⊥
no_switch unit zero is = let there = is.there in let kind = is.kind in cc
no_switch unit (suc zero) is = let there = is.there in let kind = is.kind in cc
no_switch unit (suc (suc zero)) is = let there = is.there in let kind = is.kind in cc
no_switch unit (suc (suc (suc n))) is = let there = is.there in cc

-- the values that a line mentions on a supply
abbrev mentioned_on : ℕ → List Value
mentioned_on zero = Off ∷ On 800000 ∷ []
mentioned_on (suc zero) = On 800000 ∷ []
mentioned_on (suc (suc zero)) = On 0 ∷ []
mentioned_on (suc (suc (suc n))) = []

same_value_said : (u v : ℕ) (x y : Value) → (let s : Said = record { unit = u; value = x } in s) ≡ record { unit = v; value = y } → x ≡ y
same_value_said u v x y e = ap (λ (s : Said). s.value) e

said_of : (unit supply : ℕ) (v : Value) → IsMentioned pair_intent.supplies unit supply v → IsIn v (mentioned_on supply)
said_of unit zero v (inl e) = inl (same_value_said unit 0 v Off e)
said_of unit zero v (inr (inl e)) = inr (inl (same_value_said unit 0 v (On 800000) e))
said_of unit zero v (inr (inr none)) = absurd none
said_of unit (suc zero) v (inl e) = inl (same_value_said unit 0 v (On 800000) e)
said_of unit (suc zero) v (inr none) = absurd none
said_of unit (suc (suc zero)) v (inl e) = inl (same_value_said unit 0 v (On 0) e)
said_of unit (suc (suc zero)) v (inr none) = absurd none
said_of unit (suc (suc (suc n))) v said = absurd said

-- off, and what lines mention
abbrev values_of : ℕ → List Value
values_of zero = Off ∷ On 800000 ∷ []
values_of (suc zero) = Off ∷ On 800000 ∷ []
values_of (suc (suc zero)) = Off ∷ On 0 ∷ []
values_of (suc (suc (suc n))) = Off ∷ []

off_in : (root : ℕ) → IsIn Off (values_of root)
off_in zero = inl refl
off_in (suc zero) = inl refl
off_in (suc (suc zero)) = inl refl
off_in (suc (suc (suc n))) = inl refl

mentioned_in : (root : ℕ) (v : Value) → IsIn v (mentioned_on root) → IsIn v (values_of root)
mentioned_in zero v there = there
mentioned_in (suc zero) v there = inr there
mentioned_in (suc (suc zero)) v there = inr there
mentioned_in (suc (suc (suc n))) v there = absurd there

-- something is said of each supply
stated : (root : ℕ) → IsUnstated pair_intent.supplies pair_intent.units 0 root → ⊥
stated zero is = is.unmentioned 0 Off (IsRoot.unfed 0 refl) (inl refl)
stated (suc zero) is = is.unmentioned 1 (On 800000) (IsRoot.unfed 1 refl) (inl refl)
stated (suc (suc zero)) is = is.unmentioned 2 (On 0) (IsRoot.unfed 2 refl) (inl refl)
stated (suc (suc (suc n))) is = nowhere (suc (suc (suc n))) (suc (suc (suc n))) refl is.is_root
  where
    nowhere : (a r : ℕ) → a ≡ suc (suc (suc n)) → IsRoot pair_intent.supplies [] a r → ⊥
    nowhere _ _ same (IsRoot.stopped a here) = here
    nowhere _ _ same (IsRoot.unfed a none) = cc
    nowhere _ _ same (IsRoot.fed a b r off step more) = unfed a b step

value_there : (unit root : ℕ) (v : Value) → unit ≡ 0 → HasValue pair_intent.supplies pair_intent.units unit root v → IsIn v (values_of root)
value_there _ _ _ top (HasValue.off unit root is) = off_in root
value_there _ _ _ top (HasValue.mentioned unit root supply v is said) =
    mentioned_in root v (subst (λ (n : ℕ). IsIn v (mentioned_on n)) (own_root _ supply root is) (said_of unit supply v said))
value_there _ _ _ top (HasValue.given unit root inner inner_root port v within is is' has) = absurd (no_port unit inner port within)
value_there _ _ _ top (HasValue.switched unit root input other v switch named is has) = absurd (no_switch unit root switch)
value_there _ _ _ top (HasValue.unstated unit root nothing) =
    absurd (stated root (subst (λ (u : ℕ). IsUnstated pair_intent.supplies pair_intent.units u root) top nothing))

has_values : (root : ℕ) (v : Value) → root < 3 → IsIn v (values_of root) → HasValue pair_intent.supplies pair_intent.units 0 root v
has_values zero v below (inl e) = subst (HasValue pair_intent.supplies pair_intent.units 0 0) (sym e) (HasValue.off 0 0 (IsRoot.unfed 0 refl))
has_values zero v below (inr (inl e)) = subst (HasValue pair_intent.supplies pair_intent.units 0 0) (sym e)
    (HasValue.mentioned 0 0 0 (On 800000) (IsRoot.unfed 0 refl) (inr (inl refl)))
has_values zero v below (inr (inr none)) = absurd none
has_values (suc zero) v below (inl e) = subst (HasValue pair_intent.supplies pair_intent.units 0 1) (sym e) (HasValue.off 0 1 (IsRoot.unfed 1 refl))
has_values (suc zero) v below (inr (inl e)) = subst (HasValue pair_intent.supplies pair_intent.units 0 1) (sym e)
    (HasValue.mentioned 0 1 1 (On 800000) (IsRoot.unfed 1 refl) (inl refl))
has_values (suc zero) v below (inr (inr none)) = absurd none
has_values (suc (suc zero)) v below (inl e) = subst (HasValue pair_intent.supplies pair_intent.units 0 2) (sym e) (HasValue.off 0 2 (IsRoot.unfed 2 refl))
has_values (suc (suc zero)) v below (inr (inl e)) = subst (HasValue pair_intent.supplies pair_intent.units 0 2) (sym e)
    (HasValue.mentioned 0 2 2 (On 0) (IsRoot.unfed 2 refl) (inl refl))
has_values (suc (suc zero)) v below (inr (inr none)) = absurd none
has_values (suc (suc (suc n))) v below there = absurd (omega (arith, below))

values_are : (l : RootList) → IsIn l pair_intent.lists → AreValues pair_intent.supplies pair_intent.units l.unit l.root l.values
values_are l (inl e) = subst (λ (m : RootList). AreValues pair_intent.supplies pair_intent.units m.unit m.root m.values) (sym e)
    (record { rising = ((refl, tt), (tt, tt)); each = λ v there. has_values 0 v (omega arith) there; all = λ v has. value_there 0 0 v refl has })
values_are l (inr (inl e)) = subst (λ (m : RootList). AreValues pair_intent.supplies pair_intent.units m.unit m.root m.values) (sym e)
    (record { rising = ((refl, tt), (tt, tt)); each = λ v there. has_values 1 v (omega arith) there; all = λ v has. value_there 0 1 v refl has })
values_are l (inr (inr (inl e))) = subst (λ (m : RootList). AreValues pair_intent.supplies pair_intent.units m.unit m.root m.values) (sym e)
    (record { rising = ((refl, tt), (tt, tt)); each = λ v there. has_values 2 v (omega arith) there; all = λ v has. value_there 0 2 v refl has })
values_are l (inr (inr (inr none))) = absurd none

abbrev three_roots : List (ℕ × ℕ)
three_roots = (0, 0) ∷ (0, 1) ∷ (0, 2) ∷ []

own_seen : (unit supply : ℕ) (s : Supply) → slice_get pair_intent.supplies supply ≡ Some s → s.unit ≡ unit → IsIn (unit, supply) three_roots
own_seen unit zero s there of_unit = let top : unit ≡ 0 = cc in inl (cc)
own_seen unit (suc zero) s there of_unit = let top : unit ≡ 0 = cc in inr (inl (cc))
own_seen unit (suc (suc zero)) s there of_unit = let top : unit ≡ 0 = cc in inr (inr (inl (cc)))
own_seen unit (suc (suc (suc n))) s there of_unit = cc

seen_supply : (unit supply : ℕ) → IsSeen pair_intent.supplies pair_intent.units unit supply → IsIn (unit, supply) three_roots
seen_supply unit supply (IsSeen.own s there of_unit) = own_seen unit supply s there of_unit
seen_supply unit supply (IsSeen.port inner within) = absurd (no_port unit inner supply within)

seen_root : (p : ℕ × ℕ) → IsSeenRoot pair_intent.supplies pair_intent.units p.0 p.1 → IsIn p three_roots
seen_root p is = subst (λ (n : ℕ). IsIn (p.0, n) three_roots) (own_root _ is.supply p.1 is.is_root) (seen_supply p.0 is.supply is.seen)

each_seen : (p : ℕ × ℕ) → IsIn p three_roots → IsSeenRoot pair_intent.supplies pair_intent.units p.0 p.1
each_seen p (inl e) = subst (λ (q : ℕ × ℕ). IsSeenRoot pair_intent.supplies pair_intent.units q.0 q.1) (sym e)
    (record { supply = 0; seen = IsSeen.own _ refl refl; is_root = IsRoot.unfed 0 refl })
each_seen p (inr (inl e)) = subst (λ (q : ℕ × ℕ). IsSeenRoot pair_intent.supplies pair_intent.units q.0 q.1) (sym e)
    (record { supply = 1; seen = IsSeen.own _ refl refl; is_root = IsRoot.unfed 1 refl })
each_seen p (inr (inr (inl e))) = subst (λ (q : ℕ × ℕ). IsSeenRoot pair_intent.supplies pair_intent.units q.0 q.1) (sym e)
    (record { supply = 2; seen = IsSeen.own _ refl refl; is_root = IsRoot.unfed 2 refl })
each_seen p (inr (inr (inr none))) = absurd none

top_alone : OutersAreSmaller pair_intent.units
top_alone zero outer u there is = cc
top_alone (suc n) outer u there is = cc

pub the_pair_has_sound_supplies : HasSoundSupplies pair_intent
the_pair_has_sound_supplies = record {
  no_ring = λ a lead. no_lead a a lead;
  in_range = λ a b step. absurd (unfed a b step);
  lists = record { roots = record { rising = ((refl, (refl, tt)), ((refl, tt), (tt, tt))); each = each_seen; all = seen_root }; values = values_are };
  outers = top_alone;
}

pub some_state_of_the_pair_is_legal : HasNoLegalState pair_design pair_intent → ⊥
some_state_of_the_pair_is_legal none =
    let same = legal_once pair_design pair_intent refl the_pair_has_sound_supplies none.order order none.legal legal none.are_legal the_pair_is_legal in
    let empty : [] ≡ off_state ∷ on_state ∷ [] = sym none.none ∙ ap (λ (l : LegalStates). l.states) same.1 ∙ the_pair_has_two_legal_states in
    cc
