use Rattle.std.proofs.Common.{[], Ok, Err, subst}
use Rattle.tcl_words.specs.ListWords.{HasListFault, PartsInto}
use Rattle.tcl_words.specs.Places.{PieceText}
use Rattle.tcl_words.specs.Settings.{Holds}
use Rattle.tcl_words.specs.Words.{AreWords, Variables, list}
use Rattle.tcl_words.proofs.Onward.{fault_onward, ok_onward}
use Rattle.tcl_words.proofs.WordListSteps.{list_fault, parts_whole}
use Rattle.tcl_words.proofs.word_lists.split_list.Goals as goal

pub returns-clause-ok : goal.returns-clause-ok
returns-clause-ok c =
    let left = c.words.new.reader.left in
    ok_onward
    (λ words. (vars : Variables) → Holds c.new.result vars → AreWords c.new-reader.result.whole list vars c.new-reader.result.left (Ok (words, left)))
    (PartsInto c.args.text.now)
    (λ words h.
    parts_whole c.args.text.now words left
    (subst (λ (t : PieceText). AreWords t.whole list [] t.left (Ok (words, left))) c.new-reader.ensures (h [] c.new.ensures)))
    c.words.result c.words.ensures.ok

pub returns-clause-err : goal.returns-clause-err
returns-clause-err c =
    fault_onward
    (λ fault. (vars : Variables) → Holds c.new.result vars → AreWords c.new-reader.result.whole list vars c.new-reader.result.left (Err fault))
    (HasListFault c.args.text.now)
    (λ fault h.
    list_fault c.args.text.now fault
    (subst (λ (t : PieceText). AreWords t.whole list [] t.left (Err fault)) c.new-reader.ensures (h [] c.new.ensures)))
    c.words.result c.words.ensures.err
