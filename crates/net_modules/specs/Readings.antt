-- What is kept of a phrase that is read, where the phrase itself isn't.
use Rattle.std.specs.Prelude.{◌≡◌, List, Result, Ok, Err}
use Rattle.pw_defs.specs.declared.faults.NetFault.{NetFault}
use Rattle.pw_defs.specs.declared.faults.NetFault.TheVariants.{N1, N2, N3, N4, Memory}
use Rattle.net_text.specs.NetlistGrammar.{Named}
use Rattle.text_defs.specs.Grammar.{Grammar, read, read_whole}
use Rattle.text_streams.specs.declared.stops.Stop.{Stop}
use Rattle.text_streams.specs.declared.stops.Stop.TheVariants as stops

-- the grammar reads some phrase, of which this is kept, or stops at a fault; want of memory may come in place of any answer
abbrev pub Took : {K X A : Type 0} → (X → A → Type 0) → Grammar K A → List K → Result X Stop → List K → Type 0
Took {A = A} Keeps g old (Ok x) new = (phrase : A) × (read g old ≡ Ok (phrase, new)) × Keeps x phrase
Took Keeps g old (Err stops.Fault) new = read g old ≡ Err new
Took Keeps g old (Err stops.Memory) new = Unit {0}

-- the same of a text that is a whole phrase
abbrev pub TookWhole : {K X A : Type 0} → (X → A → Type 0) → Grammar K A → List K → Result X Stop → List K → Type 0
TookWhole {A = A} Keeps g old (Ok x) new = (phrase : A) × (read_whole g old ≡ Ok phrase) × Keeps x phrase
TookWhole Keeps g old (Err stops.Fault) new = read_whole g old ≡ Err new
TookWhole Keeps g old (Err stops.Memory) new = Unit {0}

-- a second declaration of a name, at its line
abbrev pub IsNamedFault : Named → NetFault → Type 0
IsNamedFault named Memory = Unit {0}
IsNamedFault named (N1 at) = ⊥
IsNamedFault named (N2 at) = ⊥
IsNamedFault named (N3 at) = ⊥
IsNamedFault named (N4 at) = at ≡ record { line = named.line; name = named.text }
