-- A parser that stops where another one does.
use Rattle.std.proofs.Common.{◌≡◌, List, Err}
use Rattle.text_defs.specs.Grammar.{Grammar, read}
use Rattle.text_streams.specs.declared.stops.Stop.{Stop}
use Rattle.text_streams.specs.declared.stops.Stop.TheVariants as stops

-- the grammar stops here, or memory was wanting
abbrev pub IsStopped : {K A : Type 0} → Grammar K A → List K → Stop → List K → Type 0
IsStopped g old stops.Fault new = read g old ≡ Err new
IsStopped g old stops.Memory new = Unit {0}

pub stopped_as : {K A B : Type 0} (g : Grammar K A) (h : Grammar K B) (old other new : List K) (e : Stop) → IsStopped g other e new
    → (read g other ≡ Err new → read h old ≡ Err new) → IsStopped h old e new
stopped_as g h old other new stops.Fault t k = k t
stopped_as g h old other new stops.Memory t k = tt
