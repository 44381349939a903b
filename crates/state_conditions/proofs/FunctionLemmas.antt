-- What `has_functions` is at each form of a term.
use Rattle.std.proofs.Common.{◌≡◌, Bool, List, is_some, sym, ap, ◌∙◌}
use Rattle.std.specs.List.{list_all}
use Rattle.std.proofs.lemmas.List.Folds.{list_all-map}
use Rattle.pw_defs.specs.declared.terms.Term.{Term}
use Rattle.pw_defs.specs.declared.terms.Term.TheOpen.{Term-F}
use Rattle.pw_defs.specs.declared.terms.Term.TheFolds.{fold-roll-Term}
use Rattle.pw_defs.specs.declared.terms.Term.TheVariants.{Volt, On, Not, All, Any, rolls-Volt, rolls-On, rolls-Not, rolls-All, rolls-Any}
use Rattle.pw_defs.specs.declared.terms.TermNames.{TermNames}
use Rattle.pw_defs.specs.declared.values.Value.{Value}
use Rattle.power_states.specs.TermMeaning.{supply_of}
use Rattle.state_conditions.specs.Functions.{has_functions, has_functions_at}

pub names_volt : (names : TermNames) (power : Bool) (v : Value) → has_functions names (Volt power v) ≡ is_some (supply_of names power)
unfolding has_functions
names_volt names power v = ap (has_functions names) (sym (rolls-Volt power v)) ∙ fold-roll-Term Bool (has_functions_at names) (Term-F.Volt power v)

pub names_on : (names : TermNames) (power : Bool) → has_functions names (On power) ≡ is_some (supply_of names power)
unfolding has_functions
names_on names power = ap (has_functions names) (sym (rolls-On power)) ∙ fold-roll-Term Bool (has_functions_at names) (Term-F.On power)

pub names_not : (names : TermNames) (part : Term) → has_functions names (Not part) ≡ has_functions names part
unfolding has_functions
names_not names part = ap (has_functions names) (sym (rolls-Not part)) ∙ fold-roll-Term Bool (has_functions_at names) (Term-F.Not part)

pub names_all : (names : TermNames) (parts : List Term) → has_functions names (All parts) ≡ list_all (has_functions names) parts
unfolding has_functions
names_all names parts =
    ap (has_functions names) (sym (rolls-All parts)) ∙ fold-roll-Term Bool (has_functions_at names) (Term-F.All parts) ∙ list_all-map (λ b. b) (has_functions names) parts

pub names_any : (names : TermNames) (parts : List Term) → has_functions names (Any parts) ≡ list_all (has_functions names) parts
unfolding has_functions
names_any names parts =
    ap (has_functions names) (sym (rolls-Any parts)) ∙ fold-roll-Term Bool (has_functions_at names) (Term-F.Any parts) ∙ list_all-map (λ b. b) (has_functions names) parts

-- which functions a term names, form by form
pub ruleset naming = (names_volt, names_on, names_not, names_all, names_any)
