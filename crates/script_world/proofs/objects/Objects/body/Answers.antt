use Rattle.std.proofs.Common.{ap, sym, subst}
use Rattle.script_world.specs.Ranges.{IsBody}
use Rattle.script_world.specs.Seen.{Known, body_seen}
use Rattle.script_world.proofs.ObjectLemmas.{body_fits, known_is, read_object}
use Rattle.script_world.proofs.objects.Objects.body.Goals as goal

pub returns-clause-body : goal.returns-clause-body
returns-clause-body c =
    let places = c.self.inside.places in
    let rows = c.self.inside.rows in
    let known = known_is places rows c.args.self.now c.self.invariant c.self.view_is in
    read_object places rows c.args.self.now c.self.invariant c.self.view_is (λ o. o.body) c.args.at c.row.result.now _
    (λ name. ap (λ (k : Known). body_seen k c.row.result.now.body) (sym known)) c.row.ensures

pub returns-clause-sound : goal.returns-clause-sound
returns-clause-sound c =
    let places = c.self.inside.places in
    let rows = c.self.inside.rows in
    let P : Known → Type 0 = λ k. IsBody k c.row.result.now.body in
    subst P (sym (known_is places rows c.args.self.now c.self.invariant c.self.view_is))
    (body_fits places rows c.args.self.now c.self.invariant c.self.view_is c.args.at c.row.result.now c.row.ensures)
