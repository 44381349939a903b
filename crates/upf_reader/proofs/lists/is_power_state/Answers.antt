use Rattle.std.proofs.Common.{◌≡◌, ◌↔◌, ◌-◌, [], ◌∷◌, IsTrue, sym, ◌∙◌, ap, drop, take, length}
use Rattle.std.proofs.lemmas.Result.{IfOk-weaker}
use Rattle.upf_commands.specs.Forms.{AreListOf, power_state}
use Rattle.upf_reader.specs.Tests.{are_options}
use Rattle.upf_reader.proofs.ListLemmas.{front_item, power_state_so}
use Rattle.upf_reader.proofs.lists.is_power_state.Goals as goal

pub returns : goal.returns
returns c =
    let words = c.args.words.now in
    let rest = take (length words - 1) (drop 1 words) in
    let split : words ≡ c.as_slice.result.now ∷ rest =
    front_item words c.state-item.result c.in-len1-up.len_at_least ∙ ap (λ w. w ∷ rest) (sym c.state-item.is ∙ sym c.as_slice.ensures.bytes) in
    IfOk-weaker c.are_options.result (λ are. are ≡ are_options [] rest) (λ is. IsTrue is ↔ AreListOf power_state words)
    (λ b e. power_state_so words c.as_slice.result.now rest split (sym c.is_simple.ensures ∙ c.if-not-is_simple.false) b e) c.are_options.ensures
