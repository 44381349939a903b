-- Expressions in braces, by how deep they may nest.
use Rattle.std.proofs.Common.{◌≡◌, ℕ, zero, suc, true, false, Result, refl, ap, ◌∙◌}
use Rattle.text_defs.specs.Grammar.{read, next, passes}
use Rattle.text_defs.specs.Tokens.{of_class}
use Rattle.net_text.specs.NetlistClasses.{is_left_brace}
use Rattle.net_text.specs.NetlistGrammar.{NetlistGrammar, Lined, nested, concatenation}
use Rattle.text_streams.specs.declared.stops.Stop.{Stop}
use Rattle.net_text.specs.declared.exprs.ExprAt.{ExprAt}
use Rattle.text_streams.specs.Answers.{Answers}
use Rattle.net_text.specs.ParserViews.{lined_view}
use Rattle.net_text.proofs.ListLaws.{Tokens, answers_as}

module _ (g : NetlistGrammar Lined) (old new : Tokens) (r : Result ExprAt Stop) where
  pub nested_flat : (depth : ℕ) → depth ≡ 0 → Answers lined_view g old r new → Answers lined_view (nested g depth) old r new
  unfolding nested
  nested_flat depth e h = answers_as lined_view (nested g depth) old g r new (ap (λ (d : ℕ). read (nested g d) old) e) h

  alone_read : (depth : ℕ) → passes (of_class is_left_brace) (next old) ≡ false → read (nested g depth) old ≡ read g old
  unfolding nested read
  alone_read zero e = refl
  alone_read (suc depth) e = ap (λ b. elim b [ true ↦ read (concatenation (nested g depth)) old | false ↦ read g old ]) e

  pub nested_alone : (depth : ℕ) → passes (of_class is_left_brace) (next old) ≡ false → Answers lined_view g old r new → Answers lined_view (nested g depth) old r new
  nested_alone depth e h = answers_as lined_view (nested g depth) old g r new (alone_read depth e) h

  braces_read : (depth : ℕ) → passes (of_class is_left_brace) (next old) ≡ true → read (nested g (suc depth)) old ≡ read (concatenation (nested g depth)) old
  unfolding nested read
  braces_read depth e = ap (λ b. elim b [ true ↦ read (concatenation (nested g depth)) old | false ↦ read g old ]) e

  pub nested_braces : (depth less : ℕ) → depth ≡ suc less → passes (of_class is_left_brace) (next old) ≡ true → Answers lined_view (concatenation (nested g less)) old r new
      → Answers lined_view (nested g depth) old r new
  nested_braces depth less is e h =
      answers_as lined_view (nested g depth) old (concatenation (nested g less)) r new (ap (λ (d : ℕ). read (nested g d) old) is ∙ braces_read less e) h
