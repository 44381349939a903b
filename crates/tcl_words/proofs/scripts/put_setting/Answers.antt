use Rattle.std.proofs.Common.{◌∙◌}
use Rattle.std.proofs.lemmas.Result.{on_ok_weaker}
use Rattle.tcl_words.proofs.LineSteps.{sets_so}
use Rattle.tcl_words.proofs.scripts.put_setting.Goals as goal

pub returns-in_ok-text-in-len3 : goal.returns-in_ok-text-in-len3
returns-in_ok-text-in-len3 c =
    let items = c.as_slice.ensures.items in
    let name_at = c.name-item.is in
    let text_at = c.text-item.is in
    let name_is = c.in_ok-name-in-len3.ensures.items ∙ c.as_slice-in-len3.ensures.bytes in
    let text_is = c.in_ok-text-in-len3.ensures.items ∙ c.as_slice-in-len3-2.ensures.bytes in
    on_ok_weaker c.set.result
    (λ put vars holds. sets_so c.set.new.self c.args.words.now c.in_ok-name-in-len3.name.items c.in_ok-text-in-len3.text.items c.requires (cc) (cc) vars (put vars holds))
    c.set.ensures
