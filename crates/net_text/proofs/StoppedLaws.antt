-- What a reader of a whole text tells, by what was read of its tokens.
use Rattle.std.proofs.Common.{◌≡◌, ◌≢◌, List, [], ◌∷◌, Option, Some, Ok, Err, refl, sym, ap, subst, ◌∙◌}
use Rattle.pw_defs.specs.declared.faults.NetFault.{NetFault}
use Rattle.pw_defs.specs.declared.faults.NetFault.TheVariants.{N1, N2, N3, N4, Memory}
use Rattle.std.specs.Prelude.{ℕ}
use Rattle.text_defs.specs.Grammar.{IsPhrase, read_whole, next}
use Rattle.text_defs.specs.FirstFault.{IsFirstFault}
use Rattle.text_defs.specs.Tokens.{Token}
use Rattle.net_text.specs.NetlistTokens.{NetlistClass, Inout, LeftOut, netlist_tokens}
use Rattle.net_text.specs.NetlistGrammar.{ModuleWords, netlist}
use Rattle.net_text.specs.NetlistFaults.{HasWords, IsCutShort, IsOther, HasNetlistFault}
use Rattle.net_text.specs.Stopped.{IsFaultNext, IsToldFault, fault_next, fault_of_class, place_next}
use Rattle.net_text.proofs.NetlistLaws.{words_read, fault_read}

-- a text that cannot go on has the fault that its next token is
pub cut : (text : List ℕ) (left : List (Token NetlistClass)) → IsFirstFault (IsPhrase netlist) (netlist_tokens text) left
    → HasNetlistFault text (fault_next (next left) (place_next text (next left)))
cut text [] fault = record { left = []; fault = fault; of_class = (λ e. cc, λ e. cc); place = refl }
cut text (t ∷ rest) fault = by t.class refl
  where
    other : Some t.class ≢ Some Inout → Some t.class ≢ Some LeftOut → IsCutShort text IsOther (place_next text (Some t))
    other m n = record { left = t ∷ rest; fault = fault; of_class = (m, n); place = refl }

    by : (c : NetlistClass) → t.class ≡ c → HasNetlistFault text (fault_of_class c (place_next text (Some t)))
    by NetlistClass.Module e = other (λ k. cc) (λ k. cc)
    by NetlistClass.Endmodule e = other (λ k. cc) (λ k. cc)
    by NetlistClass.Input e = other (λ k. cc) (λ k. cc)
    by NetlistClass.Output e = other (λ k. cc) (λ k. cc)
    by NetlistClass.Wire e = other (λ k. cc) (λ k. cc)
    by NetlistClass.Assign e = other (λ k. cc) (λ k. cc)
    by NetlistClass.Name e = other (λ k. cc) (λ k. cc)
    by NetlistClass.Number e = other (λ k. cc) (λ k. cc)
    by NetlistClass.Constant e = other (λ k. cc) (λ k. cc)
    by NetlistClass.Open e = other (λ k. cc) (λ k. cc)
    by NetlistClass.Shut e = other (λ k. cc) (λ k. cc)
    by NetlistClass.LeftBracket e = other (λ k. cc) (λ k. cc)
    by NetlistClass.RightBracket e = other (λ k. cc) (λ k. cc)
    by NetlistClass.LeftBrace e = other (λ k. cc) (λ k. cc)
    by NetlistClass.RightBrace e = other (λ k. cc) (λ k. cc)
    by NetlistClass.Comma e = other (λ k. cc) (λ k. cc)
    by NetlistClass.Dot e = other (λ k. cc) (λ k. cc)
    by NetlistClass.Colon e = other (λ k. cc) (λ k. cc)
    by NetlistClass.Semicolon e = other (λ k. cc) (λ k. cc)
    by NetlistClass.Equals e = other (λ k. cc) (λ k. cc)
    by NetlistClass.Inout e = record { left = t ∷ rest; fault = fault; of_class = ap (λ x. Some x) e; place = refl }
    by NetlistClass.LeftOut e = record { left = t ∷ rest; fault = fault; of_class = ap (λ x. Some x) e; place = refl }
    by NetlistClass.Stray e = other (λ k. cc) (λ k. cc)

pub told_words : (text : List ℕ) (tokens : List (Token NetlistClass)) (words : List ModuleWords) → tokens ≡ netlist_tokens text
    → read_whole netlist tokens ≡ Ok words → HasWords text words
told_words text tokens words e r = words_read text words (ap (read_whole netlist) (sym e) ∙ r)

module _ (text : List ℕ) (tokens left : List (Token NetlistClass)) (token : Option (Token NetlistClass)) (e : tokens ≡ netlist_tokens text)
    (stops : read_whole netlist tokens ≡ Err left) (is : token ≡ next left) where
  told : (f : NetFault) → f ≡ fault_next token (place_next text token) → HasNetlistFault text f
  told f h =
      subst (HasNetlistFault text) (sym (h ∙ ap (λ t. fault_next t (place_next text t)) is))
      (cut text left (fault_read text left (ap (read_whole netlist) (sym e) ∙ stops)))

  pub told_fault : (f : NetFault) → IsFaultNext text token f → IsToldFault text f
  told_fault (N1 at) h = told (N1 at) h
  told_fault (N2 at) h = told (N2 at) h
  told_fault (N3 at) h = told (N3 at) h
  told_fault (N4 at) h = told (N4 at) h
  told_fault Memory h = tt
