-- There are too many values so far, and none is lost later.
use Rattle.std.proofs.Common.{◌≡◌, ◌<◌, ◌+◌, ◌∙◌, length, drop, sym, ap, arith}
use Rattle.std.proofs.lemmas.Bool.{lt-leb}
use Rattle.std.proofs.lemmas.List.{at_drop_more}
use Rattle.form_intent.specs.Script.{put_values, values_of}
use Rattle.form_intent.proofs.ValueLemmas.{length-put_values-le}
use Rattle.form_intent.proofs.values.values_of.Goals as goal

pub returns-then-len-gt-MAX_VALUES : goal.returns-then-len-gt-MAX_VALUES
returns-then-len-gt-MAX_VALUES c =
    let stated = c.args.stated.now in
    let i = c.loop-value.value-index in
    let rest : put_values (drop (i + 1) stated) c.put_value.new.values.items ≡ values_of stated =
    ap (put_values (drop (i + 1) stated)) c.in_ok-put_value.ensures ∙ sym (at_drop_more (λ vs. put_values vs c.loop-value.values.items) stated i _ (omega arith)) ∙ c.loop-value.invariant.rest in
    let many : 64 < length c.put_value.new.values.items = omega arith in
    lt-leb (length (values_of stated)) 64 (omega (arith, many, length-put_values-le (drop (i + 1) stated) c.put_value.new.values.items, ap length rest))
