use Rattle.std.proofs.Common.{◌≡◌, ◌∙◌, ℕ, List, Ok, decimal, arith, subst, sym}
use Rattle.std.specs.Str.{IsUtf8}
use Rattle.std.proofs.lemmas.Fmt.{IsAscii-decimal, parse-decimal}
use Rattle.std.proofs.lemmas.Str.{IsUtf8-from_ascii}
use Rattle.design_paths.proofs.numbers.parsed.Goals as goal

pub returns-in-Ok-parse : goal.returns-in-Ok-parse
returns-in-Ok-parse c = λ number few is.
    let text : c.in-Ok.text.now ≡ decimal number = c.in-Ok.ensures.cases.0 ∙ is in
    let read = parse-decimal 32 number c.in-Ok.text.now c.parse.result few (omega arith) text c.parse.ensures.value.0 in
    let same : Ok c.in-Ok-parse.number ≡ Ok number = sym c.in-Ok-parse.is ∙ read in
    cc

pub returns-in-Err-parse : goal.returns-in-Err-parse
returns-in-Err-parse c = λ number few is.
    let text : c.in-Ok.text.now ≡ decimal number = c.in-Ok.ensures.cases.0 ∙ is in
    let read = parse-decimal 32 number c.in-Ok.text.now c.parse.result few (omega arith) text c.parse.ensures.value.0 in
    let same = sym c.in-Err-parse.is ∙ read in
    cc

pub returns-in-Err : goal.returns-in-Err
returns-in-Err c = λ number few is.
    let utf8 = IsUtf8-from_ascii (decimal number) (IsAscii-decimal number (omega arith)) in
    let P : List ℕ → Type 0 = IsUtf8 in
    absurd (c.in-Err.ensures.cases.0 (subst P (sym is) utf8))
