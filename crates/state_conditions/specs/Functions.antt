-- Whether each function that an expression names has a supply.
use Rattle.std.specs.Prelude.{Bool, true, is_some}
use Rattle.std.specs.List.{list_all}
use Rattle.pw_defs.specs.declared.terms.Term.{Term}
use Rattle.pw_defs.specs.declared.terms.Term.TheOpen.{Term-F}
use Rattle.pw_defs.specs.declared.terms.Term.TheFolds.{fold-Term}
use Rattle.pw_defs.specs.declared.terms.TermNames.{TermNames}
use Rattle.power_states.specs.TermMeaning.{supply_of}

-- one level of a term, with the answers of its parts in their place
abbrev pub has_functions_at : TermNames → Term-F Bool → Bool
has_functions_at names (Term-F.Is object state) = true
has_functions_at names (Term-F.Volt power value) = is_some (supply_of names power)
has_functions_at names (Term-F.On power) = is_some (supply_of names power)
has_functions_at names (Term-F.Not part) = part
has_functions_at names (Term-F.All parts) = list_all (λ b. b) parts
has_functions_at names (Term-F.Any parts) = list_all (λ b. b) parts

-- whether each function that the term names has a supply
unfoldable pub has_functions : TermNames → Term → Bool
has_functions names = fold-Term Bool (has_functions_at names)
