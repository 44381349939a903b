use Rattle.std.proofs.Common.{refl}
use Rattle.net_text.proofs.DirectLaws.{name_direct}
use Rattle.net_text.proofs.direct.name_word.Goals as goal

pub returns : goal.returns
returns c =
    name_direct c.args.text.now c.args.behind.now c.args.byte c.args.line _ c.requires.split c.name_size-size.result c.requires.begins c.name_size-size.ensures.size
    c.front-name.ensures c.word_class.ensures refl
