-- Why an expression stands for no condition.
use Rattle.std.specs.Prelude.{◌≡◌, ℕ, List, Err}
use Rattle.pw_defs.specs.declared.faults.TermFault.{TermFault}
use Rattle.pw_defs.specs.declared.faults.TermFault.TheVariants.{U8, U9, Memory}
use Rattle.pw_defs.specs.declared.terms.Term.{Term}
use Rattle.pw_defs.specs.declared.terms.TermNames.{TermNames}
use Rattle.power_states.specs.TermMeaning.{EachMeans, NamesNoState}

-- this state isn't there; want of memory is free
abbrev pub HasNoState : List ℕ → TermFault → Type 0
HasNoState state U8 = ⊥
HasNoState state (U9 name) = name ≡ state
HasNoState state Memory = Unit {0}

-- the first state of the term that isn't there
abbrev pub HasFault : TermNames → Term → TermFault → Type 0
HasFault names term U8 = ⊥
HasFault names term (U9 name) = NamesNoState term names name
HasFault names term Memory = Unit {0}

-- the first state of the terms that isn't there
abbrev pub HasFaultAmong : TermNames → List Term → TermFault → Type 0
HasFaultAmong names terms U8 = ⊥
HasFaultAmong names terms (U9 name) = EachMeans names terms (Err name)
HasFaultAmong names terms Memory = Unit {0}
