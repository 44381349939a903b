use Rattle.std.proofs.Common.{◌∙◌, ap, option_and_then, slice_get}
use Rattle.named_rows.proofs.PlaceLemmas.{find-place_of}
use Rattle.script_world.specs.Objects.{is_named}
use Rattle.script_world.proofs.ObjectLemmas.{found_named, found_within, places_found}
use Rattle.script_world.proofs.objects.Objects.find.Goals as goal

pub returns-clause-place : goal.returns-clause-place
returns-clause-place c =
    c.find.ensures ∙ places_found c.self.inside.places c.self.inside.rows c.args.self.now c.self.invariant c.self.view_is c.args.name.now

pub returns-clause-object : goal.returns-clause-object
returns-clause-object c =
    ap (option_and_then (slice_get c.args.self.now.objects))
    (c.find.ensures ∙ places_found c.self.inside.places c.self.inside.rows c.args.self.now c.self.invariant c.self.view_is c.args.name.now)
    ∙ find-place_of (is_named c.args.name.now) c.args.self.now.objects

pub returns-clause-within : goal.returns-clause-within
returns-clause-within c =
    found_within c.args.self.now.objects c.args.name.now c.find.result
    (c.find.ensures ∙ places_found c.self.inside.places c.self.inside.rows c.args.self.now c.self.invariant c.self.view_is c.args.name.now)

pub returns-clause-named : goal.returns-clause-named
returns-clause-named c =
    found_named c.args.self.now.objects c.args.name.now c.find.result
    (c.find.ensures ∙ places_found c.self.inside.places c.self.inside.rows c.args.self.now c.self.invariant c.self.view_is c.args.name.now)
