-- The sets of several conditions.
use Rattle.std.specs.Prelude.{ℕ, List}
use Rattle.std.specs.List.{AllZip}
use Rattle.pw_defs.specs.declared.values.Value.{Value}
use Rattle.pw_defs.specs.declared.conditions.Cond.{Cond}
use Rattle.diagram_defs.specs.declared.locals.Local.{Local}
use Rattle.diagram_defs.specs.Diagrams.{Diagram}
use Rattle.diagram_defs.specs.Locals.{IsLocalFor}
use Rattle.state_build.specs.Built.{built_set}

-- there is one set for each condition, of the states at which it holds
abbrev pub AreBuilt : Diagram → List ℕ → List (List Value) → List Cond → List Local → Type 0
AreBuilt d arities lists conds sets = AllZip (λ cond set. IsLocalFor d (built_set arities lists cond) set) conds sets
