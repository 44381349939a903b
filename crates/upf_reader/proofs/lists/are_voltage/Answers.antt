use Rattle.std.proofs.Common.{◌≡◌, ◌↔◌, [], ◌∷◌, IsTrue, sym, ◌∙◌, ap, ap₂, subst}
use Rattle.upf_reader.proofs.ListLemmas.{one_item, two_items, three_items, one_so, two_so, three_so, AnyVoltage}
use Rattle.upf_reader.proofs.lists.are_voltage.Goals as goal

pub returns-in-len1 : goal.returns-in-len1
returns-in-len1 c =
    let split : c.args.words.now ≡ c.as_slice.result.now ∷ [] =
    one_item c.args.words.now c.word-item.result c.in-len1.len_at_least c.in-len1.len_below
    ∙ ap (λ w. w ∷ []) (sym c.word-item.is ∙ sym c.as_slice.ensures.bytes) in
    subst (λ ws. IsTrue c.is_volts.result ↔ AnyVoltage ws) (sym split) (one_so c.as_slice.result.now c.is_volts.result c.is_volts.ensures)

pub returns-in-len2 : goal.returns-in-len2
returns-in-len2 c =
    let split : c.args.words.now ≡ c.as_slice-in-len2.result.now ∷ c.as_slice-in-len2-2.result.now ∷ [] =
    two_items c.args.words.now c.first-item.result c.last-item.result c.in-len2.len_at_least c.in-len2.len_below
    ∙ ap₂ (λ v w. v ∷ w ∷ []) (sym c.first-item.is ∙ sym c.as_slice-in-len2.ensures.bytes) (sym c.last-item.is ∙ sym c.as_slice-in-len2-2.ensures.bytes) in
    subst (λ ws. IsTrue c.rise.result ↔ AnyVoltage ws) (sym split) (two_so c.as_slice-in-len2.result.now c.as_slice-in-len2-2.result.now c.rise.result c.rise.ensures)

pub returns-then-is_volts : goal.returns-then-is_volts
returns-then-is_volts c =
    let first = c.as_slice-then-is_volts.result.now in
    let second = c.as_slice-in-len3.result.now in
    let last = c.as_slice-then-is_volts-2.result.now in
    let split : c.args.words.now ≡ first ∷ second ∷ last ∷ [] =
    three_items c.args.words.now c.first-item-then-words-lt4.result c.second-item.result c.last-item-then-words-lt4.result c.in-len3.len_at_least c.in-len3.len_below
    ∙ ap₂ (λ v ws. v ∷ ws) (sym c.first-item-then-words-lt4.is ∙ sym c.as_slice-then-is_volts.ensures.bytes)
    (ap₂ (λ v w. v ∷ w ∷ []) (sym c.second-item.is ∙ sym c.as_slice-in-len3.ensures.bytes)
    (sym c.last-item-then-words-lt4.is ∙ sym c.as_slice-then-is_volts-2.ensures.bytes)) in
    subst (λ ws. IsTrue c.rise-then-is_volts.result ↔ AnyVoltage ws) (sym split)
    (three_so first second last c.rise-then-is_volts.result (c.is_volts-in-len3.ensures.0 c.if-is_volts.true) c.rise-then-is_volts.ensures)
