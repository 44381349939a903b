-- Which findings there are on worked watches, and which of them have a state.
use Rattle.std.proofs.Common.{true, false, [], ◌∷◌, None, sym, ◌∙◌, refl}
use Rattle.std.specs.Prelude.{codes}
use Rattle.std.proofs.lemmas.Bool.{true≢false}
use Rattle.pw_defs.specs.declared.chains.Kind.TheVariants.{IsoMissing, LsMissing, LsRedundant, Tie}
use Rattle.pw_defs.specs.declared.chains.Watch.{Watch}
use Rattle.pw_defs.specs.declared.conditions.Cond.TheVariants.{Any}
use Rattle.pw_defs.specs.declared.values.Value.TheVariants.{Off}
use Rattle.supply_defs.proofs.Meaning.{holds_any}
use Rattle.supply_defs.specs.States.{value_in}
use Rattle.signoff_defs.specs.Findings.{NamedWatch, IsFindingOf, IsQuiet}
use Rattle.signoff_defs.specs.Watches.{at_once, where_some, where_none}
use Rattle.signoff_defs.specs.Witnesses.{LegalStates}

-- one legal state, of one root that is off
abbrev one_state : LegalStates
one_state = record { states = (Off ∷ []) ∷ []; visible = 1; value = value_in }

abbrev on_a_chain : Watch → NamedWatch
on_a_chain watch = record { receiver = codes "r"; driver = codes "d"; watch = watch }

-- a cell that is missing whatever the states are is found without a state
pub a_forced_finding_has_no_state : IsFindingOf one_state (on_a_chain (at_once IsoMissing))
    (record { kind = IsoMissing; receiver = codes "r"; driver = codes "d"; forced = true; witness = None })
a_forced_finding_has_no_state = record { raised = tt; kind = refl; receiver = refl; driver = refl; forced = refl; witness = refl }

-- a tie is found at once, and isn't called forced
pub a_tie_is_not_forced : IsFindingOf one_state (on_a_chain (at_once Tie))
    (record { kind = Tie; receiver = codes "r"; driver = codes "d"; forced = false; witness = None })
a_tie_is_not_forced = record { raised = tt; kind = refl; receiver = refl; driver = refl; forced = refl; witness = refl }

-- where no direction is needed, no shifter is missing
pub what_nothing_needs_is_not_missing : IsQuiet one_state (on_a_chain (where_some LsMissing (Any [])))
what_nothing_needs_is_not_missing shows = true≢false (sym shows.2 ∙ holds_any (value_in shows.0) [])

-- and one that is there is redundant, without a state
pub what_nothing_needs_is_redundant : IsFindingOf one_state (on_a_chain (where_none LsRedundant (Any [])))
    (record { kind = LsRedundant; receiver = codes "r"; driver = codes "d"; forced = false; witness = None })
what_nothing_needs_is_redundant = record {
  raised = λ state there. holds_any (value_in state) [];
  kind = refl;
  receiver = refl;
  driver = refl;
  forced = refl;
  witness = refl;
}
