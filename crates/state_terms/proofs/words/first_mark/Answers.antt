use Rattle.std.proofs.Common.{◌≡◌, arith}
use Rattle.power_states.specs.ExpressionWords.{opens, shuts, bang, both, either, same, differs, brace, unbrace, comma, quote}
use Rattle.state_terms.proofs.FirstTokens.{at_byte, at_bytes, no_token_at, none_found, plain_byte, no_mark_at, bang_first, differs_first, opens_first, shuts_first, brace_first, unbrace_first, comma_first, quote_first, both_first, either_first, same_first, no_both, no_either, no_same}
use Rattle.state_terms.proofs.words.first_mark.Goals as goal

pub returns-in-40 : goal.returns-in-40
returns-in-40 c = at_byte c.args.text.now c.in_ok-first.rest.now c.in_ok-first.first.now 40 opens c.in_ok-first.ensures.cases.0 c.in-40.is (opens_first c.in_ok-first.rest.now)

pub returns-in-41 : goal.returns-in-41
returns-in-41 c = at_byte c.args.text.now c.in_ok-first.rest.now c.in_ok-first.first.now 41 shuts c.in_ok-first.ensures.cases.0 c.in-41.is (shuts_first c.in_ok-first.rest.now)

pub returns-in-123 : goal.returns-in-123
returns-in-123 c = at_byte c.args.text.now c.in_ok-first.rest.now c.in_ok-first.first.now 123 brace c.in_ok-first.ensures.cases.0 c.in-123.is (brace_first c.in_ok-first.rest.now)

pub returns-in-125 : goal.returns-in-125
returns-in-125 c = at_byte c.args.text.now c.in_ok-first.rest.now c.in_ok-first.first.now 125 unbrace c.in_ok-first.ensures.cases.0 c.in-125.is (unbrace_first c.in_ok-first.rest.now)

pub returns-in-44 : goal.returns-in-44
returns-in-44 c = at_byte c.args.text.now c.in_ok-first.rest.now c.in_ok-first.first.now 44 comma c.in_ok-first.ensures.cases.0 c.in-44.is (comma_first c.in_ok-first.rest.now)

pub returns-in-96 : goal.returns-in-96
returns-in-96 c = at_byte c.args.text.now c.in_ok-first.rest.now c.in_ok-first.first.now 96 quote c.in_ok-first.ensures.cases.0 c.in-96.is (quote_first c.in_ok-first.rest.now)

pub returns-in-Some : goal.returns-in-Some
returns-in-Some c =
    at_bytes c.args.text.now c.in_ok-first.rest.now c.in-Some.left.now c.in_ok-first.first.now 33 61 differs c.in_ok-first.ensures.cases.0 c.in-33.is c.in-Some.ensures
    (differs_first c.in-Some.left.now)

pub returns-in-None : goal.returns-in-None
returns-in-None c =
    at_byte c.args.text.now c.in_ok-first.rest.now c.in_ok-first.first.now 33 bang c.in_ok-first.ensures.cases.0 c.in-33.is (bang_first c.in_ok-first.rest.now c.in-None.ensures)

pub returns-in_ok-behind_byte-in-38 : goal.returns-in_ok-behind_byte-in-38
returns-in_ok-behind_byte-in-38 c =
    at_bytes c.args.text.now c.in_ok-first.rest.now c.in_ok-behind_byte-in-38.field-0.now c.in_ok-first.first.now 38 38 both c.in_ok-first.ensures.cases.0 c.in-38.is
    c.in_ok-behind_byte-in-38.ensures (both_first c.in_ok-behind_byte-in-38.field-0.now)

pub returns-in_err-behind_byte-in-38 : goal.returns-in_err-behind_byte-in-38
returns-in_err-behind_byte-in-38 c =
    none_found c.from_residual-in_err-behind_byte-in-38.result c.args.text.now c.from_residual-in_err-behind_byte-in-38.ensures
    (
    no_token_at c.args.text.now c.in_ok-first.rest.now c.in_ok-first.first.now 38 c.in_ok-first.ensures.cases.0 c.in-38.is
    (λ tokens h. no_both c.in_ok-first.rest.now tokens c.in_err-behind_byte-in-38.ensures h)
    )

pub returns-in_ok-behind_byte-in-124 : goal.returns-in_ok-behind_byte-in-124
returns-in_ok-behind_byte-in-124 c =
    at_bytes c.args.text.now c.in_ok-first.rest.now c.in_ok-behind_byte-in-124.field-0.now c.in_ok-first.first.now 124 124 either c.in_ok-first.ensures.cases.0 c.in-124.is
    c.in_ok-behind_byte-in-124.ensures (either_first c.in_ok-behind_byte-in-124.field-0.now)

pub returns-in_err-behind_byte-in-124 : goal.returns-in_err-behind_byte-in-124
returns-in_err-behind_byte-in-124 c =
    none_found c.from_residual-in_err-behind_byte-in-124.result c.args.text.now c.from_residual-in_err-behind_byte-in-124.ensures
    (
    no_token_at c.args.text.now c.in_ok-first.rest.now c.in_ok-first.first.now 124 c.in_ok-first.ensures.cases.0 c.in-124.is
    (λ tokens h. no_either c.in_ok-first.rest.now tokens c.in_err-behind_byte-in-124.ensures h)
    )

pub returns-in_ok-behind_byte-in-61 : goal.returns-in_ok-behind_byte-in-61
returns-in_ok-behind_byte-in-61 c =
    at_bytes c.args.text.now c.in_ok-first.rest.now c.in_ok-behind_byte-in-61.field-0.now c.in_ok-first.first.now 61 61 same c.in_ok-first.ensures.cases.0 c.in-61.is
    c.in_ok-behind_byte-in-61.ensures (same_first c.in_ok-behind_byte-in-61.field-0.now)

pub returns-in_err-behind_byte-in-61 : goal.returns-in_err-behind_byte-in-61
returns-in_err-behind_byte-in-61 c =
    none_found c.from_residual-in_err-behind_byte-in-61.result c.args.text.now c.from_residual-in_err-behind_byte-in-61.ensures
    (
    no_token_at c.args.text.now c.in_ok-first.rest.now c.in_ok-first.first.now 61 c.in_ok-first.ensures.cases.0 c.in-61.is
    (λ tokens h. no_same c.in_ok-first.rest.now tokens c.in_err-behind_byte-in-61.ensures h)
    )

pub returns-in_default : goal.returns-in_default
returns-in_default c =
    let n40 : c.in_ok-first.first.now ≡ 40 → ⊥ = λ e. omega arith in
    let n41 : c.in_ok-first.first.now ≡ 41 → ⊥ = λ e. omega arith in
    let n33 : c.in_ok-first.first.now ≡ 33 → ⊥ = λ e. omega arith in
    let n38 : c.in_ok-first.first.now ≡ 38 → ⊥ = λ e. omega arith in
    let n124 : c.in_ok-first.first.now ≡ 124 → ⊥ = λ e. omega arith in
    let n61 : c.in_ok-first.first.now ≡ 61 → ⊥ = λ e. omega arith in
    let n123 : c.in_ok-first.first.now ≡ 123 → ⊥ = λ e. omega arith in
    let n125 : c.in_ok-first.first.now ≡ 125 → ⊥ = λ e. omega arith in
    let n44 : c.in_ok-first.first.now ≡ 44 → ⊥ = λ e. omega arith in
    let n96 : c.in_ok-first.first.now ≡ 96 → ⊥ = λ e. omega arith in
    no_mark_at c.args.text.now c.in_ok-first.rest.now c.in_ok-first.first.now c.in_ok-first.ensures.cases.0 c.requires (plain_byte c.in_ok-first.first.now n40 n41 n33 n38 n124 n61
    n123 n125 n44 n96)
