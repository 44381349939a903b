use Rattle.std.proofs.Common.{◌≡◌, sym, ◌∙◌, ap, bytes_eq, false, Bor, List, ℕ}
use Rattle.std.specs.List.{list_any}
use Rattle.upf_reader.specs.Rows.{texts_view}
use Rattle.upf_reader.specs.Tests.{are_options}
use Rattle.upf_reader.proofs.ListLemmas.{options_stop, options_step, first_words, added_text}
use Rattle.upf_reader.proofs.lists.are_options.Goals as goal

pub returns-in_default : goal.returns-in_default
returns-in_default c =
    let p = first_words c.loop-left.left.now c.loop-left-test.ensures in
    sym (options_stop (texts_view c.loop-left.seen.items) p.0 p.1 (c.in_default.ensures p.0 p.1 p.2))
    ∙ ap (are_options (texts_view c.loop-left.seen.items)) (sym p.2) ∙ c.loop-left.invariant

pub loop-left-preserved : goal.loop-left-preserved
loop-left-preserved c =
    let next = c.in-Some.ensures in
    let seen = c.loop-left.seen.items in
    let new : list_any (bytes_eq c.in-Some.word.now) (texts_view seen) ≡ false =
    ap (λ (ts : List (Bor (List ℕ))). list_any (bytes_eq c.in-Some.word.now) (texts_view ts)) (sym c.deref.ensures.value)
    ∙ sym c.is_seen.ensures ∙ c.if-is_seen.false in
    ap (λ (ts : List (Bor (List ℕ))). are_options (texts_view ts) c.in-Some.behind.now) c.in_ok-push.ensures.items
    ∙ ap (λ (ts : List (List ℕ)). are_options ts c.in-Some.behind.now) (added_text seen c.in-Some.word)
    ∙ sym (options_step (texts_view seen) c.in-Some.word.now next.0 c.in-Some.behind.now new next.2)
    ∙ ap (are_options (texts_view seen)) (sym next.1) ∙ c.loop-left.invariant
