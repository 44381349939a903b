-- What is kept of the modules that were read, as a loop reads them.
use Rattle.std.proofs.Common.{◌≡◌, ℕ, ◌<◌, ◌+◌, true, false, List, [], ◌∷◌, ◌++◌, Option, None, Ok, Err, length, refl, sym, ap, subst, ◌∙◌, arith}
use Rattle.std.proofs.lemmas.List.{length-append}
use Rattle.pw_defs.specs.declared.netlist.Module.{Module}
use Rattle.module_rows.specs.declared.plain.Draft.{Draft}
use Rattle.module_rows.specs.Growth.{no_module}
use Rattle.text_defs.specs.Grammar.{next, passes, read}
use Rattle.text_defs.specs.Tokens.{Token, of_class}
use Rattle.text_streams.proofs.AnswerLaws.{Keeps, kept_on}
use Rattle.net_text.proofs.ListLaws.{row_begins, row_end, row_fault}
use Rattle.net_text.specs.NetlistClasses.{is_module}
use Rattle.net_text.specs.NetlistGrammar.{ModuleWords, Named, module_words, netlist}
use Rattle.net_text.specs.NetlistTokens.{NetlistClass}
use Rattle.net_modules.specs.Drafts.{IsEnded, IsReadFrom}
use Rattle.net_modules.specs.Sayings.{first_of}
use Rattle.net_modules.proofs.ItemLaws.{map_itself}
use Rattle.net_modules.proofs.ModuleLaws.{none_read, read_on}

abbrev Tokens : Type 0
Tokens = List (Token NetlistClass)

-- some modules were read
pub record HasModules (held : List Module) (old tokens : Tokens) (draft : Draft) (second : Option Named) (count : ℕ) : Type 0 where
  pub words : List ModuleWords
  pub long : length words ≡ count
  pub kept : Keeps (λ (m : ModuleWords). m) (of_class is_module) module_words 4294967295 words tokens [] old
  pub is : IsReadFrom held words draft second

pub no_modules : (tokens : Tokens) (draft : Draft) → draft.current ≡ no_module → HasModules draft.modules tokens tokens draft None 0
no_modules tokens draft e = record {
  words = [];
  long = refl;
  kept = row_begins (λ (m : ModuleWords). m) (of_class is_module) module_words [] tokens tokens refl;
  is = none_read draft e;
}

module _ (held : List Module) (old tokens : Tokens) (draft : Draft) (second : Option Named) (count : ℕ) (so_far : HasModules held old tokens draft second count) where
  pub one_module_more : (rest : Tokens) (draft' : Draft) (found after : Option Named) (m : ModuleWords) → count < 4294967295
      → passes (of_class is_module) (next tokens) ≡ true → read module_words tokens ≡ Ok (m, rest) → IsEnded draft draft' found m → after ≡ first_of second found
      → HasModules held old rest draft' after (count + 1)
  one_module_more rest draft' found after m few more reads ended is =
      let words = so_far.words in
      let lt : length words < 4294967295 = omega (arith, few, so_far.long) in
      record {
        words = words ++ m ∷ [];
        long = length-append words (m ∷ []) ∙ ap (λ (n : ℕ). n + 1) so_far.long;
        kept =
            kept_on (λ (m : ModuleWords). m) (of_class is_module) module_words 4294967295 [] words old tokens so_far.kept rest m (words ++ m ∷ []) lt more reads refl;
        is = subst (IsReadFrom held (words ++ m ∷ []) draft') (sym is) (read_on words m held draft draft' second found so_far.is ended);
      }

  pub modules_fault : (left : Tokens) → count < 4294967295 → passes (of_class is_module) (next tokens) ≡ true → read module_words tokens ≡ Err left
      → read netlist old ≡ Err left
  unfolding netlist
  modules_fault left few more stops =
      row_fault (λ (m : ModuleWords). m) (of_class is_module) module_words so_far.words old tokens so_far.kept left (omega (arith, few, so_far.long)) more stops

  pub modules_end : passes (of_class is_module) (next tokens) ≡ false → read netlist old ≡ Ok (so_far.words, tokens)
  unfolding netlist
  modules_end stops =
      row_end (λ (m : ModuleWords). m) (of_class is_module) module_words so_far.words old tokens so_far.kept stops
      ∙ ap (λ (l : List ModuleWords). Ok (l, tokens)) (map_itself so_far.words)
