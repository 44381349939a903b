use Rattle.std.proofs.Common.{◌↔◌, IsTrue, List, ℕ, Option, MatchOption, map, sym, subst}
use Rattle.std.proofs.lemmas.Result.{IfOk-weaker}
use Rattle.upf_commands.specs.Commands.{HasKey, RepeatsKey}
use Rattle.upf_reader.specs.Faults.{SomeGivesKey}
use Rattle.upf_reader.specs.Parts.{part_view}
use Rattle.upf_reader.specs.Rows.{option_view}
use Rattle.upf_reader.proofs.KeyLemmas.{repeats_so, no_repeats}
use Rattle.upf_reader.proofs.keys.repeats_key.Goals as goal

pub returns-in-Some : goal.returns-in-Some
returns-in-Some c =
    let text = c.args.text.now in
    let o = option_view c.args.option.now in
    let before = map part_view c.args.parts.now in
    let has = subst (λ (r : Option (List ℕ)). MatchOption r ((key : List ℕ) → ¬ HasKey text key) (HasKey text)) c.in-Some.is c.in_ok-key.ensures in
    IfOk-weaker c.give_key.result (λ b. IsTrue b ↔ SomeGivesKey o c.as_slice.result.now before) (λ b. IsTrue b ↔ RepeatsKey before o text)
    (λ b h.
    repeats_so before o text c.as_slice.result.now b (c.is_keyed.ensures.0 c.if-not-is_keyed.false) (subst (HasKey text) (sym c.as_slice.ensures.bytes) has) h)
    c.give_key.ensures

pub returns-in-None : goal.returns-in-None
returns-in-None c =
    let text = c.args.text.now in
    let never = subst (λ (r : Option (List ℕ)). MatchOption r ((key : List ℕ) → ¬ HasKey text key) (HasKey text)) c.in-None.is c.in_ok-key.ensures in
    no_repeats (map part_view c.args.parts.now) (option_view c.args.option.now) text never
