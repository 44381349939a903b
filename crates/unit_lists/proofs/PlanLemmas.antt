-- What grows in a plan, and that it stays so in the network.
use Rattle.std.proofs.Common.{◌≡◌, ℕ, List, [], ◌∷◌, ◌++◌, BTreeMap, BTreeSet, Vec, Global, inl, inr, refl, sym, subst}
use Rattle.pw_defs.specs.declared.intent.Unit.{Unit as PowerUnit}
use Rattle.pw_defs.specs.declared.supplies.Said.{Said}
use Rattle.pw_defs.specs.declared.supplies.Supply.{Supply}
use Rattle.pw_defs.specs.declared.values.Value.{Value}
use Rattle.list_defs.specs.Members.{IsIn}
use Rattle.list_defs.proofs.Members.{IsIn-append_left, IsIn-append_right, IsIn-append_cases}
use Rattle.supply_defs.specs.UnitLists.{IsSeenRoot}
use Rattle.supply_defs.specs.UnitViews.{IsRootIn}
use Rattle.unit_lists.specs.Kept.{Gains}
use Rattle.unit_lists.specs.Plans.{Grows, IsGiven, IsInputPlanned, IsLink, IsMentionOn, IsPlan, IsPortPlanned, IsSaidPlanned, IsSeenPlanned}
use Rattle.unit_lists.specs.Roots.{AreRoots}
use Rattle.unit_lists.specs.declared.plans.Plan.{Plan}
use Rattle.unit_lists.specs.declared.views.View.{View}

-- a list gains what is put behind it
pub gains_last : {X : Type 0} (old new : List X) (x : X) → new ≡ old ++ x ∷ [] → Gains old new x
gains_last {X} old new x e = let G : List X → Type 0 = λ xs. Gains old xs x in subst G (sym e) (record {
  kept = λ y there. IsIn-append_left y old (x ∷ []) there;
  there = IsIn-append_right x old (x ∷ []) (inl refl);
  only = λ y there. elim (IsIn-append_cases y old (x ∷ []) there) [ inl was ↦ inl was | inr last ↦ elim last [ inl same ↦ inr same | inr none ↦ absurd none ] ];
})

-- what holds of all that a list has holds of all that it has after it gained one of which it holds
gained : {X : Type 0} (P : X → Type 0) (old new : List X) (x : X) → Gains old new x → P x → ((y : X) → IsIn y old → P y) → (y : X) → IsIn y new → P y
gained P old new x gains holds each y there = elim (gains.only y there) [ inl was ↦ each y was | inr same ↦ subst P (sym same) holds ]

pub grows_none : (p : Plan) → Grows p p
grows_none p = record { seen = λ a there. there; met = λ a there. there; given = λ a there. there; begins = λ a there. there; links = λ a there. there }

pub grows_on : (p q r : Plan) → Grows p q → Grows q r → Grows p r
grows_on p q r h k = record {
  seen = λ a there. k.seen a (h.seen a there);
  met = λ a there. k.met a (h.met a there);
  given = λ a there. k.given a (h.given a there);
  begins = λ a there. k.begins a (h.begins a there);
  links = λ a there. k.links a (h.links a there);
}

pub grows_seen : (p : Plan) (views : BTreeSet View) (a : View) → Gains p.seen.keys views.keys a → Grows p (record p { seen = views })
grows_seen p views a gains = record { seen = gains.kept; met = λ b there. there; given = λ b there. there; begins = λ b there. there; links = λ b there. there }

pub grows_met : (p : Plan) (roots : BTreeMap View ℕ) (views : BTreeSet View) (a : View) → Gains p.met.keys views.keys a → Grows p (record p { roots = roots; met = views })
grows_met p roots views a gains = record { seen = λ b there. there; met = gains.kept; given = λ b there. there; begins = λ b there. there; links = λ b there. there }

pub grows_given : (p : Plan) (views : BTreeSet View) (a : View) → Gains p.given.keys views.keys a → Grows p (record p { given = views })
grows_given p views a gains = record { seen = λ b there. there; met = λ b there. there; given = gains.kept; begins = λ b there. there; links = λ b there. there }

pub grows_begins : (p : Plan) (begins : Vec (View × Value) Global) (b : View × Value) → Gains p.begins.items begins.items b → Grows p (record p { begins = begins })
grows_begins p begins b gains = record { seen = λ a there. there; met = λ a there. there; given = λ a there. there; begins = gains.kept; links = λ a there. there }

pub grows_links : (p : Plan) (links : BTreeSet (View × View)) (l : View × View) → Gains p.links.keys links.keys l → Grows p (record p { links = links })
grows_links p links l gains = record { seen = λ a there. there; met = λ a there. there; given = λ a there. there; begins = λ a there. there; links = gains.kept }

-- a plan stays so in the network where it gains what is so
pub plan_gains_seen : (supplies : List Supply) (units : List PowerUnit) (p : Plan) (views : BTreeSet View) (a : View) → Gains p.seen.keys views.keys a
    → IsSeenRoot supplies units a.unit a.supply → IsPlan supplies units p → IsPlan supplies units (record p { seen = views })
plan_gains_seen supplies units p views a gains is h = record {
  roots = h.roots;
  seen = gained (λ (b : View). IsSeenRoot supplies units b.unit b.supply) p.seen.keys views.keys a gains is h.seen;
  met = h.met;
  given = h.given;
  begins = h.begins;
  links = h.links;
}

pub plan_gains_met : (supplies : List Supply) (units : List PowerUnit) (p : Plan) (roots : BTreeMap View ℕ) (views : BTreeSet View) (a : View) → Gains p.met.keys views.keys a
    → AreRoots supplies units roots → IsRootIn supplies units a.unit a.supply a.supply → IsPlan supplies units p → IsPlan supplies units (record p { roots = roots; met = views })
plan_gains_met supplies units p roots views a gains kept is h = record {
  roots = kept;
  seen = h.seen;
  met = gained (λ (b : View). IsRootIn supplies units b.unit b.supply b.supply) p.met.keys views.keys a gains is h.met;
  given = h.given;
  begins = h.begins;
  links = h.links;
}

pub plan_gains_given : (supplies : List Supply) (units : List PowerUnit) (p : Plan) (views : BTreeSet View) (a : View) → Gains p.given.keys views.keys a
    → IsGiven supplies units a → IsPlan supplies units p → IsPlan supplies units (record p { given = views })
plan_gains_given supplies units p views a gains is h = record {
  roots = h.roots;
  seen = h.seen;
  met = h.met;
  given = gained (λ (b : View). IsGiven supplies units b) p.given.keys views.keys a gains is h.given;
  begins = h.begins;
  links = h.links;
}

pub plan_gains_begins : (supplies : List Supply) (units : List PowerUnit) (p : Plan) (begins : Vec (View × Value) Global) (a : View) (v : Value)
    → Gains p.begins.items begins.items (a, v) → IsMentionOn supplies units a v → IsPlan supplies units p → IsPlan supplies units (record p { begins = begins })
plan_gains_begins supplies units p begins a v gains is h = record {
  roots = h.roots;
  seen = h.seen;
  met = h.met;
  given = h.given;
  begins = λ b w there. gained (λ (q : View × Value). IsMentionOn supplies units q.0 q.1) p.begins.items begins.items (a, v) gains is (λ q there. h.begins q.0 q.1 there) (b, w) there;
  links = h.links;
}

pub plan_gains_links : (supplies : List Supply) (units : List PowerUnit) (p : Plan) (links : BTreeSet (View × View)) (a b : View)
    → Gains p.links.keys links.keys (a, b) → IsLink supplies units a b → IsPlan supplies units p → IsPlan supplies units (record p { links = links })
plan_gains_links supplies units p links a b gains is h = record {
  roots = h.roots;
  seen = h.seen;
  met = h.met;
  given = h.given;
  begins = h.begins;
  links = λ c d there. gained (λ (q : View × View). IsLink supplies units q.0 q.1) p.links.keys links.keys (a, b) gains is (λ q there. h.links q.0 q.1 there) (c, d) there;
}

-- what is in a plan stays in it
pub seen_stays : (supplies : List Supply) (units : List PowerUnit) (p q : Plan) (unit supply : ℕ) → Grows p q → IsSeenPlanned supplies units p unit supply
    → IsSeenPlanned supplies units q unit supply
seen_stays supplies units p q unit supply grows h = record { root = h.root; is_root = h.is_root; met = grows.met _ h.met; seen = grows.seen _ h.seen }

pub said_stays : (supplies : List Supply) (units : List PowerUnit) (p q : Plan) (supply : ℕ) (said : Said) → Grows p q → IsSaidPlanned supplies units p supply said
    → IsSaidPlanned supplies units q supply said
said_stays supplies units p q supply said grows h = record { root = h.root; is_root = h.is_root; given = grows.given _ h.given; begins = grows.begins _ h.begins }

pub input_stays : (supplies : List Supply) (units : List PowerUnit) (p q : Plan) (unit output input : ℕ) → Grows p q
    → IsInputPlanned supplies units p unit output input → IsInputPlanned supplies units q unit output input
input_stays supplies units p q unit output input grows h = record { root = h.root; is_root = h.is_root; met = grows.met _ h.met; link = grows.links _ h.link }

pub port_stays : (supplies : List Supply) (units : List PowerUnit) (p q : Plan) (unit inner port : ℕ) → Grows p q
    → IsPortPlanned supplies units p unit inner port → IsPortPlanned supplies units q unit inner port
port_stays supplies units p q unit inner port grows h = record {
  root = h.root;
  inner_root = h.inner_root;
  is_root = h.is_root;
  is_inner = h.is_inner;
  met = grows.met _ h.met;
  given = grows.given _ h.given;
  link = grows.links _ h.link;
  seen = seen_stays supplies units p q unit port grows h.seen;
}
