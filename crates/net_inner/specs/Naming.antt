-- Names that are added to others, of which no two are the same.
use Rattle.std.specs.Prelude.{◌≡◌, ℕ, Bool, true, false, List, ◌++◌}
use Rattle.list_defs.specs.Members.{all_differ, same_name}

-- Names come behind others, if no two are the same then; however more names come behind them.
abbrev pub AddsNames : List (List ℕ) → List (List ℕ) → List (List ℕ) → Bool → Type 0
AddsNames names old new true = new ≡ old ++ names
AddsNames names old new false = (more : List (List ℕ)) → all_differ same_name (old ++ (names ++ more)) ≡ false
