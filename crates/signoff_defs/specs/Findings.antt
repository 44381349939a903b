-- The findings on chains: a finding for each watch that is raised.
use Rattle.std.specs.Prelude.{◌≡◌, ℕ, Bool, true, false, List}
use Rattle.std.specs.Ordering.{nat_cmp, ordering_then}
use Rattle.std.specs.declared.cmp.Ordering.{Ordering}
use Rattle.pw_defs.specs.declared.chains.Kind.{Kind}
use Rattle.pw_defs.specs.declared.chains.Kind.TheVariants.{IsoMissing, IsoRedundant, IsoSupply, IsoIntent, LsMissing, LsRedundant, LsSupply, LsIntent, Tie}
use Rattle.pw_defs.specs.declared.chains.Sense.{Sense}
use Rattle.pw_defs.specs.declared.chains.Sense.TheVariants.{WhenSome, WhenNone, Always}
use Rattle.pw_defs.specs.declared.chains.Watch.{Watch}
use Rattle.pw_defs.specs.declared.report.Finding.{Finding}
use Rattle.list_defs.specs.Orders.{name_cmp}
use Rattle.list_defs.specs.Found.{AreFound}
use Rattle.pw_defs.specs.Kinds.{kind_number}
use Rattle.signoff_defs.specs.Witnesses.{LegalStates, IsRaised, IsWitness}

-- a watch with the names of the receiver and driver that it stands for
pub record NamedWatch : Type 0 where
  pub receiver : List ℕ
  pub driver : List ℕ
  pub watch : Watch

-- a cell is missing whatever the states are
abbrev pub is_forced_by : Sense → Kind → Bool
is_forced_by WhenSome kind = false
is_forced_by WhenNone kind = false
is_forced_by Always IsoMissing = true
is_forced_by Always IsoRedundant = false
is_forced_by Always IsoSupply = false
is_forced_by Always IsoIntent = false
is_forced_by Always LsMissing = true
is_forced_by Always LsRedundant = false
is_forced_by Always LsSupply = false
is_forced_by Always LsIntent = false
is_forced_by Always Tie = false

-- the finding of a watch that is raised
pub record IsFindingOf (legal : LegalStates) (w : NamedWatch) (f : Finding) : Type 0 where
  pub raised : IsRaised legal w.watch
  pub kind : f.kind ≡ w.watch.kind
  pub receiver : f.receiver ≡ w.receiver
  pub driver : f.driver ≡ w.driver
  pub forced : f.forced ≡ is_forced_by w.watch.sense w.watch.kind
  pub witness : IsWitness legal w.watch.sense w.watch.cond f.witness

-- a watch that isn't raised
abbrev pub IsQuiet : LegalStates → NamedWatch → Type 0
IsQuiet legal w = ¬ IsRaised legal w.watch

-- the findings of watches, in order of the watches: one for each that is raised
abbrev pub AreFindings : LegalStates → List NamedWatch → List Finding → Type 0
AreFindings legal = AreFound (IsFindingOf legal) (IsQuiet legal)

-- findings come by receiver name, then by kind
abbrev pub finding_cmp : Finding → Finding → Ordering
finding_cmp f g = ordering_then (name_cmp f.receiver g.receiver) (nat_cmp (kind_number f.kind) (kind_number g.kind))
