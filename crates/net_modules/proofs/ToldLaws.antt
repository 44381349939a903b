-- What a text's modules and its second declarations are, by what was read of its tokens.
use Rattle.std.proofs.Common.{◌≡◌, ℕ, List, [], ◌∷◌, Option, None, Some, Result, Ok, Err, is_some, map, true, false, refl, sym, ap, ◌∙◌, subst}
use Rattle.module_rows.specs.declared.plain.Draft.{Draft}
use Rattle.pw_defs.specs.declared.faults.At.{At}
use Rattle.pw_defs.specs.declared.faults.NetFault.{NetFault}
use Rattle.pw_defs.specs.declared.faults.NetFault.TheVariants.{N1, N2, N3, N4, Memory}
use Rattle.pw_defs.specs.declared.netlist.Module.{Module}
use Rattle.std.specs.Option.{option_map}
use Rattle.std.proofs.lemmas.Bool.{false≢true}
use Rattle.std.proofs.lemmas.Option.{none-some}
use Rattle.text_defs.specs.Grammar.{next, read, read_whole, whole}
use Rattle.text_streams.specs.declared.stops.Stop.{Stop}
use Rattle.text_streams.specs.declared.stops.Stop.TheVariants as stops
use Rattle.net_text.specs.CommaLists.{named_view}
use Rattle.net_text.specs.Streams.{word_view}
use Rattle.net_text.specs.declared.tokens.NameAt.{NameAt}
use Rattle.net_text.specs.declared.words.Word.{Word}
use Rattle.text_defs.specs.Tokens.{Token}
use Rattle.net_text.specs.ModulesMeant.{module_of}
use Rattle.net_text.specs.NetlistGrammar.{ModuleWords, Named, NetlistGrammar, netlist}
use Rattle.net_text.specs.NetlistTokens.{NetlistClass, netlist_tokens}
use Rattle.net_text.specs.Stopped.{IsFaultNext, IsToldFault}
use Rattle.net_text.proofs.StoppedLaws.{told_fault, told_words}
use Rattle.net_modules.specs.declared.modules.NetlistRead.{NetlistRead}
use Rattle.net_modules.specs.Drafts.{AreAdded, IsReadFrom, IsReadWhole}
use Rattle.net_modules.specs.Readings.{IsNamedFault, TookWhole}

pub told_modules : (text : List ℕ) (tokens : List (Token NetlistClass)) (words : List ModuleWords) (old draft : Draft) → tokens ≡ netlist_tokens text
    → read_whole netlist tokens ≡ Ok words → IsReadFrom old.modules words draft None → AreAdded text old draft
told_modules text tokens words old draft e reads is = record {
  modules = map module_of words;
  reads = record { words = words; reads = told_words text tokens words e reads; once = is.0; value = refl };
  behind = is.1;
}

pub told_second : (text : List ℕ) (tokens : List (Token NetlistClass)) (words : List ModuleWords) (held : List Module) (draft : Draft) (named : Named) (f : NetFault) → tokens ≡ netlist_tokens text
    → read_whole netlist tokens ≡ Ok words → IsReadFrom held words draft (Some named) → IsNamedFault named f → IsToldFault text f
told_second text tokens words held draft named (N1 at) e reads is h = absurd h
told_second text tokens words held draft named (N2 at) e reads is h = absurd h
told_second text tokens words held draft named (N3 at) e reads is h = absurd h
told_second text tokens words held draft named Memory e reads is h = tt
told_second text tokens words held draft named (N4 at) e reads is h =
    record {
      words = words;
      reads = told_words text tokens words e reads;
      inside = is.inside;
      first_module = is.first_module;
      declaration = is.refused.declaration;
      first = is.refused.first;
      place = h ∙ ap (λ (n : Named). let at : At = record { line = n.line; name = n.text } in at) (sym is.refused.same);
    }

-- ---- whole texts

pub left_over : {A : Type 0} (g : NetlistGrammar A) (old left : List (Token NetlistClass)) (x : A) (o : Option Word) → read g old ≡ Ok (x, left)
    → option_map word_view o ≡ next left → is_some o ≡ true → read_whole g old ≡ Err left
left_over g old [] x None e p t = absurd (false≢true t)
left_over g old [] x (Some w) e p t = absurd (none-some (word_view w) (sym p))
left_over g old (k ∷ rest) x o e p t = ap whole e

pub nothing_left : {A : Type 0} (g : NetlistGrammar A) (old left : List (Token NetlistClass)) (x : A) (o : Option Word) → read g old ≡ Ok (x, left)
    → option_map word_view o ≡ next left → is_some o ≡ false → read_whole g old ≡ Ok x
nothing_left g old [] x o e p t = ap whole e
nothing_left g old (k ∷ rest) x None e p t = absurd (none-some k p)
nothing_left g old (k ∷ rest) x (Some w) e p t = absurd (false≢true (sym t))

module _ (text : List ℕ) (tokens new : List (Token NetlistClass)) (old draft : Draft) (e : tokens ≡ netlist_tokens text) where
  abbrev Taken : Result NetlistRead Stop → Type 0
  Taken r = TookWhole
      (λ (whole_read : NetlistRead) (words : List ModuleWords). IsReadWhole old.modules words draft (option_map named_view whole_read.second) whole_read.count)
      netlist tokens r new

  -- what is known of the second declaration that was found, or of none
  taken_as : (whole_read : NetlistRead) (found : Option NameAt) (t : Taken (Ok whole_read)) → whole_read.second ≡ found
      → IsReadFrom old.modules t.0 draft (option_map named_view found)
  taken_as whole_read found t same = subst (λ (o : Option NameAt). IsReadFrom old.modules t.0 draft (option_map named_view o)) same t.2.is

  pub modules_taken : (whole_read : NetlistRead) → Taken (Ok whole_read) → whole_read.second ≡ None → AreAdded text old draft
  modules_taken whole_read t none = told_modules text tokens t.0 old draft e t.1 (taken_as whole_read None t none)

  pub second_taken : (whole_read : NetlistRead) (second : NameAt) (f : NetFault) → Taken (Ok whole_read) → whole_read.second ≡ Some second
      → IsNamedFault (named_view second) f → IsToldFault text f
  second_taken whole_read second f t some named =
      told_second text tokens t.0 old.modules draft (named_view second) f e t.1 (taken_as whole_read (Some second) t some) named

  pub fault_taken : (s : Stop) (f : NetFault) → Taken (Err s) → s ≡ stops.Fault → IsFaultNext text (next new) f → IsToldFault text f
  fault_taken s f t fault told = told_fault text tokens new (next new) e (subst (λ r. Taken (Err r)) fault t) refl f told
