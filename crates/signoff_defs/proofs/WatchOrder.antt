-- The watches on a crossing come in order of the kinds, each kind once at most.
use Rattle.std.proofs.Common.{◌≡◌, Bool, true, false, List, [], ◌∷◌, Option, Some, None, refl, sym, subst}
use Rattle.std.specs.Prelude.{IfSome, option_map, if◌then◌else◌}
use Rattle.std.specs.List.{AllByRecursion, AllZip, filter_map}
use Rattle.std.specs.Ordering.{nat_cmp}
use Rattle.std.specs.declared.cmp.Ordering.{Ordering}
use Rattle.std.specs.declared.cmp.Ordering.TheVariants.{Less}
use Rattle.pw_defs.specs.declared.chains.Kind.{Kind}
use Rattle.pw_defs.specs.declared.chains.Kind.TheVariants.{IsoMissing, IsoRedundant, IsoSupply, IsoIntent, LsMissing, LsRedundant, LsSupply, LsIntent, Tie}
use Rattle.pw_defs.specs.declared.chains.Watch.{Watch}
use Rattle.pw_defs.specs.declared.intent.SupplySet.{SupplySet}
use Rattle.list_defs.specs.Orders.{IsRising}
use Rattle.signoff_defs.specs.Crossings.{Crossing}
use Rattle.pw_defs.specs.Kinds.{kind_number}
use Rattle.signoff_defs.specs.Watches.{watched_if, kinds_on, watches_on}

abbrev pub watch_cmp : Watch → Watch → Ordering
watch_cmp a b = nat_cmp (kind_number a.kind) (kind_number b.kind)

-- a watch, if there is one, is of this kind
abbrev IsOfKind : Kind → Option Watch → Type 0
IsOfKind kind watch = IfSome watch (λ w. w.kind ≡ kind)

of_kind : (kind : Kind) (test : Bool) (watch : Watch) → watch.kind ≡ kind → IsOfKind kind (watched_if test watch)
of_kind kind true watch is = is
of_kind kind false watch is = tt

chosen_kind : (kind : Kind) (test : Bool) (v w : Watch) → v.kind ≡ kind → w.kind ≡ kind → (if test then v else w).kind ≡ kind
chosen_kind kind true v w p q = p
chosen_kind kind false v w p q = q

mapped_kind : (kind : Kind) (to : SupplySet → Watch) (set : Option SupplySet) → ((s : SupplySet) → (to s).kind ≡ kind) → IsOfKind kind (option_map to set)
mapped_kind kind to None is = tt
mapped_kind kind to (Some s) is = is s

abbrev kinds : List Kind
kinds = IsoMissing ∷ IsoRedundant ∷ IsoSupply ∷ IsoIntent ∷ LsMissing ∷ LsRedundant ∷ LsSupply ∷ LsIntent ∷ Tie ∷ []

each_of_its_kind : (c : Crossing) → AllZip IsOfKind kinds (kinds_on c)
each_of_its_kind c = (
  of_kind IsoMissing _ _ (chosen_kind IsoMissing _ _ _ refl refl),
  (
    of_kind IsoRedundant _ _ refl,
    (
      mapped_kind IsoSupply _ _ (λ s. refl),
      (
        of_kind IsoIntent _ _ refl,
        (
          of_kind LsMissing _ _ (chosen_kind LsMissing _ _ _ refl refl),
          (of_kind LsRedundant _ _ refl, (of_kind LsSupply _ _ refl, (of_kind LsIntent _ _ refl, (of_kind Tie _ _ refl, tt)))),
        ),
      ),
    ),
  ),
)

abbrev later : Kind → Kind → Type 0
later kind other = nat_cmp (kind_number kind) (kind_number other) ≡ Less

-- the watches of later kinds come behind
behind : (kind : Kind) (w : Watch) → w.kind ≡ kind → (ks : List Kind) (os : List (Option Watch)) → AllByRecursion (later kind) ks → AllZip IsOfKind ks os
    → AllByRecursion (λ v. watch_cmp w v ≡ Less) (filter_map (λ o. o) os)
behind kind w is [] [] below of = tt
behind kind w is [] (o ∷ os) below of = absurd of
behind kind w is (k ∷ ks) [] below of = absurd of
behind kind w is (k ∷ ks) (None ∷ os) below of = behind kind w is ks os below.1 of.1
behind kind w is (k ∷ ks) (Some v ∷ os) below of =
    let first : watch_cmp w v ≡ Less = subst (λ (n : Kind). nat_cmp (kind_number n) (kind_number v.kind) ≡ Less) (sym is)
    (subst (λ (n : Kind). nat_cmp (kind_number kind) (kind_number n) ≡ Less) (sym of.0) below.0) in
    (first, behind kind w is ks os below.1 of.1)

rising : (ks : List Kind) (os : List (Option Watch)) → IsRising (λ k l. nat_cmp (kind_number k) (kind_number l)) ks → AllZip IsOfKind ks os
    → IsRising watch_cmp (filter_map (λ o. o) os)
rising [] [] up of = tt
rising [] (o ∷ os) up of = absurd of
rising (k ∷ ks) [] up of = absurd of
rising (k ∷ ks) (None ∷ os) up of = rising ks os up.1 of.1
rising (k ∷ ks) (Some v ∷ os) up of = (behind k v of.0 ks os up.0 of.1, rising ks os up.1 of.1)

kinds_rise : IsRising (λ (k l : Kind). nat_cmp (kind_number k) (kind_number l)) kinds
kinds_rise = search

-- the watches on a crossing come in order of the kinds
pub watches_rise : (c : Crossing) → IsRising watch_cmp (watches_on c)
watches_rise c = rising kinds (kinds_on c) kinds_rise (each_of_its_kind c)
