use Rattle.script_scopes.proofs.PartLemmas.{word_nothing, word_resolves}
use Rattle.script_scopes.proofs.parts.words_resolve.Goals as goal

pub returns-clause-named : goal.returns-clause-named
returns-clause-named c = λ scope word x within other. word_resolves c.args.hierarchy.now c.sound.ensures scope within word other x

pub returns-clause-nothing : goal.returns-clause-nothing
returns-clause-nothing c = λ scope word within other. word_nothing c.args.hierarchy.now c.sound.ensures scope within word other
