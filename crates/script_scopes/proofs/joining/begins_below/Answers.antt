use Rattle.std.proofs.Common.{nat_eq, ◌∷◌, [], ap, ◌∙◌}
use Rattle.std.specs.List.{starts_with}
use Rattle.script_scopes.proofs.FrontLemmas.{goes_on, not_begun}
use Rattle.script_scopes.proofs.joining.begins_below.Goals as goal

pub returns-in-Some : goal.returns-in-Some
returns-in-Some c =
    let cases = c.in-Some.ensures.cases in
    let behind = c.in-Some.behind.now in
    c.starts_with.ensures.value ∙ ap (starts_with nat_eq behind) c.as_slice.ensures ∙ goes_on c.args.name.now c.args.path.now (47 ∷ []) behind cases.0 cases.1

pub returns-in-None : goal.returns-in-None
returns-in-None c = not_begun c.args.name.now c.args.path.now (47 ∷ []) c.in-None.ensures.cases
