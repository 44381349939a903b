use Rattle.std.proofs.Common.{refl}
use Rattle.net_text.proofs.DirectLaws.{direct_graphic, direct_step, direct_within, measured_direct}
use Rattle.net_text.proofs.words.word_at.Goals as goal

pub behind_graphic-requires-clause-size : goal.behind_graphic-requires-clause-size
behind_graphic-requires-clause-size c =
    direct_within c.args.place.text.now c.rest.result.now c.args.place.at _ c.args.place.line _ c.requires.some c.rest.ensures c.in-Some.ensures refl

pub behind_graphic-requires-clause-some : goal.behind_graphic-requires-clause-some
behind_graphic-requires-clause-some c = c.in-Some.ensures.some

pub behind_graphic-requires-clause-graphic : goal.behind_graphic-requires-clause-graphic
behind_graphic-requires-clause-graphic c =
    direct_graphic c.args.place.text.now c.rest.result.now c.args.place.at _ c.args.place.line _ c.rest.ensures c.in-Some.ensures refl

pub returns-in-Some-clause-measured : goal.returns-in-Some-clause-measured
returns-in-Some-clause-measured c = measured_direct c.rest.result.now c.args.place.line _ c.in-Some.ensures

pub returns-in-Some-clause-tokens : goal.returns-in-Some-clause-tokens
returns-in-Some-clause-tokens c =
    direct_step c.args.place.text.now c.rest.result.now _ c.args.place.at _ _ c.args.place.line c.args.place.fresh _ _ c.requires.some c.rest.ensures c.requires.at.line
    c.in-Some.ensures refl c.behind_graphic.ensures.text c.behind_graphic.ensures.place c.behind_graphic.ensures.fresh
