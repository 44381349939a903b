use Rattle.std.proofs.Common.{List, ℕ, ap, sym, subst}
use Rattle.script_world.specs.Ranges.{IsOrigin}
use Rattle.script_world.specs.Seen.{origin_seen}
use Rattle.script_world.proofs.ObjectLemmas.{origin_fits, places_are, read_object}
use Rattle.script_world.proofs.objects.Objects.origin.Goals as goal

pub returns-clause-origin : goal.returns-clause-origin
returns-clause-origin c =
    let places = c.self.inside.places in
    let rows = c.self.inside.rows in
    let same = places_are places rows c.args.self.now c.self.invariant c.self.view_is in
    read_object places rows c.args.self.now c.self.invariant c.self.view_is (λ o. o.origin) c.args.at c.row.result.now _
    (λ name. ap (λ (ps : List (List ℕ)). origin_seen ps c.row.result.now.origin) (sym same)) c.row.ensures

pub returns-clause-sound : goal.returns-clause-sound
returns-clause-sound c =
    let places = c.self.inside.places in
    let rows = c.self.inside.rows in
    let P : List (List ℕ) → Type 0 = λ ps. IsOrigin ps c.row.result.now.origin in
    subst P (sym (places_are places rows c.args.self.now c.self.invariant c.self.view_is))
    (origin_fits places rows c.args.self.now c.self.invariant c.self.view_is c.args.at c.row.result.now c.row.ensures)
