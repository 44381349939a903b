use Rattle.std.proofs.Common.{refl, sym, ◌∙◌}
use Rattle.net_text.proofs.DirectLaws.{mark_direct}
use Rattle.net_text.proofs.direct.mark_word.Goals as goal

pub returns : goal.returns
returns c =
    mark_direct c.args.text.now c.args.behind.now c.args.byte c.args.line _ c.requires.split (sym c.is_mark.ensures ∙ c.if-not-is_mark.false) c.front.ensures c.mark_class.ensures
    refl
