-- What is at the end of a way below a body.
use Rattle.std.specs.Prelude.{[], ◌∷◌, Option, Some, option_and_then}
use Rattle.pw_defs.specs.declared.design.Body.{Body}
use Rattle.design_defs.specs.Hierarchy.{Sources, Way, body_inside}

-- what is at a way below a body
abbrev pub body_below : Sources → Body → Way → Option Body
body_below s body [] = Some body
body_below s body (name ∷ outer) = option_and_then (body_inside s name) (body_below s body outer)
