use Rattle.std.proofs.Common.{List, ℕ, Option, MatchOption, IfOk, subst}
use Rattle.std.proofs.lemmas.Result.{IfOk-weaker}
use Rattle.upf_commands.specs.Forms.{IsMisformed, pairs}
use Rattle.upf_reader.specs.Faults.{IsFormed, HasMisformedPair, ArePairsFormed}
use Rattle.upf_reader.specs.Readings.{HasParting}
use Rattle.upf_reader.specs.declared.values.OpenLists.{OpenLists}
use Rattle.upf_reader.proofs.ValueLemmas.{pairs_open, pairs_followed, pairs_told}
use Rattle.upf_reader.proofs.values.pair_list_formed.Goals as goal

pub returns-in-Words : goal.returns-in-Words
returns-in-Words c =
    let parts = subst (HasParting c.args.text.now) c.in-Words.is c.in_ok-items.ensures in
    IfOk-weaker c.pairs_formed.result (λ (r : Option OpenLists). MatchOption r (HasMisformedPair c.in-Words.items) (ArePairsFormed c.in-Words.items))
    (λ (r : Option OpenLists). MatchOption r (IsMisformed pairs c.args.text.now) (IsFormed pairs c.args.text.now))
    (pairs_told c.args.text.now c.in-Words.items parts)
    (subst (λ (ws : List (List ℕ)). IfOk c.pairs_formed.result (λ (r : Option OpenLists). MatchOption r (HasMisformedPair ws) (ArePairsFormed ws))) c.as_slice.ensures.items c.pairs_formed.ensures)

pub returns-in-Unclosed : goal.returns-in-Unclosed
returns-in-Unclosed c =
    let h = subst (HasParting c.args.text.now) c.in-Unclosed.is c.in_ok-items.ensures in pairs_open c.args.text.now h.0 h.1

pub returns-in-AfterWord : goal.returns-in-AfterWord
returns-in-AfterWord c =
    let h = subst (HasParting c.args.text.now) c.in-AfterWord.is c.in_ok-items.ensures in pairs_followed c.args.text.now h.0 h.1
