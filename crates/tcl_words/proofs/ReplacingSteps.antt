-- How the reading of bare and quoted text goes on by one piece, or by one variable.
use Rattle.std.proofs.Common.{◌≡◌, ℕ, Bool, true, false, List, [], ◌∷◌, ◌++◌, Some, None, Ok, Err, refl, sym, ◌∙◌, ap, subst, length, ◌<◌, ◌≤◌, arith}
use Rattle.std.proofs.lemmas.Bool.{false≢true}
use Rattle.std.proofs.lemmas.List.{append_assoc, append-nil}
use Rattle.pw_defs.specs.declared.faults.At.{At}
use Rattle.pw_defs.specs.declared.faults.TclFault.TheVariants.{T3, T4}
use Rattle.tcl_words.specs.Pieces.{Piece, byte, escaped, carried, is_byte, begins}
use Rattle.tcl_words.specs.Readings.{GoesOn, is_replaced_at, meant_text}
use Rattle.tcl_words.specs.TclFaults.{at, nameless}
use Rattle.tcl_words.specs.Words.{Read, Manner, Variables, value_of, with_text, IsVariable, IsReplaced, over, stopped, joined, taken, plain, variable, unset, dollar, bracket}
use Rattle.tcl_words.proofs.Replacing.{only_special}
use Rattle.tcl_words.proofs.VariableNames.{variable_shorter}

with_with : (front more : List ℕ) (read : Read (List ℕ)) → with_text front (with_text more read) ≡ with_text (front ++ more) read
with_with front more (Ok r) = ap (λ text. Ok (text, r.1)) (sym (append_assoc front more r.0))
with_with front more (Err f) = refl

pub with_none : (text : List ℕ) (read : Read (List ℕ)) → text ≡ [] → with_text text read ≡ read
with_none text (Ok r) e = ap (λ (t : List ℕ). Ok (t ++ r.0, r.1)) e
with_none text (Err f) e = refl

-- what is left behind a variable is shorter than the text from its `$` on
pub shorter_behind : (text rest : List Piece) (name : List ℕ) (left : List Piece) → text ≡ byte 36 ∷ rest → IsVariable rest name left → length left < length text
shorter_behind text rest name left is v =
    let less : length left ≤ length rest = variable_shorter rest name left v in
    let all : length text ≡ length (byte 36 ∷ rest) = ap length is in omega arith

module _ (whole : List Piece) (manner : Manner) (vars : Variables) (stop : Piece → Bool) where
  goes : (front more longer : List ℕ) (text left : List Piece) → longer ≡ front ++ more
      → ((read : Read (List ℕ)) → IsReplaced whole manner vars stop left read → IsReplaced whole manner vars stop text (with_text more read))
      → GoesOn whole manner vars stop front text longer left
  goes front more longer text left is step all so read h =
      subst (IsReplaced whole manner vars stop all) (with_with front more read ∙ ap (λ t. with_text t read) (sym is)) (so (with_text more read) (step read h))

  plain_step : (p : Piece) (rest : List Piece) → stop p ≡ false → is_replaced_at manner p ≡ false → (read : Read (List ℕ))
      → IsReplaced whole manner vars stop rest read → IsReplaced whole manner vars stop (p ∷ rest) (with_text (meant_text p) read)
  plain_step (byte b) rest e f read h = plain b rest read e f h
  plain_step (escaped b) rest e f read h = taken b rest read e h
  plain_step carried rest e f read h = joined rest read e h

  -- a piece at which no variable is replaced
  pub plain_goes : (p : Piece) (text rest : List Piece) (front longer : List ℕ) → text ≡ p ∷ rest → stop p ≡ false → is_replaced_at manner p ≡ false
      → longer ≡ front ++ meant_text p → GoesOn whole manner vars stop front text longer rest
  plain_goes p text rest front longer is e f more =
      subst (λ t. GoesOn whole manner vars stop front t longer rest) (sym is) (goes front (meant_text p) longer (p ∷ rest) rest more (plain_step p rest e f))

  first_so : (test : Piece → Bool) (text rest : List Piece) (b : Bool) → text ≡ byte 36 ∷ rest → begins test text ≡ b → test (byte 36) ≡ b
  first_so test text rest b is e = sym (ap (begins test) is) ∙ e

  -- a variable that is set
  pub variable_goes : (text rest left : List Piece) (name value front longer : List ℕ) → text ≡ byte 36 ∷ rest → begins stop text ≡ false
      → begins (is_replaced_at manner) text ≡ true → IsVariable rest name left → value_of name vars ≡ Some value → longer ≡ front ++ value
      → GoesOn whole manner vars stop front text longer left
  variable_goes text rest left name value front longer is e f v set more =
      subst (λ t. GoesOn whole manner vars stop front t longer left) (sym is)
      (goes front value longer (byte 36 ∷ rest) left more
      (λ read h. variable rest left name value read (first_so stop text rest false is e) (first_so (is_replaced_at manner) text rest true is f) v set h))

  -- a `$` that names none
  pub dollar_goes : (text rest left : List Piece) (front longer : List ℕ) → text ≡ byte 36 ∷ rest → begins stop text ≡ false
      → begins (is_replaced_at manner) text ≡ true → ((name : List ℕ) (behind : List Piece) → ¬ IsVariable rest name behind) → left ≡ rest → longer ≡ front ++ 36 ∷ []
      → GoesOn whole manner vars stop front text longer left
  dollar_goes text rest left front longer is e f none same more =
      subst (λ t. GoesOn whole manner vars stop front t longer left) (sym is)
      (goes front (36 ∷ []) longer (byte 36 ∷ rest) left more
      (λ read h. dollar rest read (first_so stop text rest false is e) (first_so (is_replaced_at manner) text rest true is f) none
      (subst (λ l. IsReplaced whole manner vars stop l read) same h)))

  -- a variable that isn't set
  pub unset_fault : (text rest left : List Piece) (name : List ℕ) (place : At) → text ≡ byte 36 ∷ rest → begins stop text ≡ false
      → begins (is_replaced_at manner) text ≡ true → IsVariable rest name left → value_of name vars ≡ None → place ≡ at whole text name
      → IsReplaced whole manner vars stop text (Err (T4 place))
  unset_fault text rest left name place is e f v none here =
      subst (λ p. IsReplaced whole manner vars stop text (Err (T4 p))) (sym here)
      (subst (λ t. IsReplaced whole manner vars stop t (Err (T4 (at whole t name)))) (sym is)
      (unset rest left name (first_so stop text rest false is e) (first_so (is_replaced_at manner) text rest true is f) v none))

  -- a bracket
  pub bracket_fault : (text : List Piece) (place : At) → begins stop text ≡ false → begins (is_replaced_at manner) text ≡ true
      → begins (is_byte 36) text ≡ false → place ≡ nameless whole text → IsReplaced whole manner vars stop text (Err (T3 place))
  bracket_fault text place e f g here = subst (λ p. IsReplaced whole manner vars stop text (Err (T3 p))) (sym here) (so text e f g)
    where
      so : (t : List Piece) → begins stop t ≡ false → begins (is_replaced_at manner) t ≡ true → begins (is_byte 36) t ≡ false
          → IsReplaced whole manner vars stop t (Err (T3 (nameless whole t)))
      so [] e f g = absurd (false≢true f)
      so (escaped b ∷ rest) e f g = absurd (false≢true f)
      so (carried ∷ rest) e f g = absurd (false≢true f)
      so (byte b ∷ rest) e f g =
          let same : b ≡ 91 = only_special manner b f g in
          subst (λ c. IsReplaced whole manner vars stop (byte c ∷ rest) (Err (T3 (nameless whole (byte c ∷ rest))))) (sym same)
          (bracket rest (subst (λ c. stop (byte c) ≡ false) same e) (subst (λ c. is_replaced_at manner (byte c) ≡ true) same f))

  -- where a text stops, nothing more of it is read
  pub stops_at : (p : Piece) (text rest : List Piece) → text ≡ p ∷ rest → stop p ≡ true → IsReplaced whole manner vars stop text (Ok ([], text))
  stops_at p text rest is e = subst (λ t. IsReplaced whole manner vars stop t (Ok ([], t))) (sym is) (stopped p rest e)

  pub stops_at_end : (text : List Piece) → text ≡ [] → IsReplaced whole manner vars stop text (Ok ([], text))
  stops_at_end text is = subst (λ t. IsReplaced whole manner vars stop t (Ok ([], t))) (sym is) over

  -- the whole text is read where nothing more of it is
  pub all_read : (all left behind : List Piece) (text : List ℕ)
      → ((read : Read (List ℕ)) → IsReplaced whole manner vars stop left read → IsReplaced whole manner vars stop all (with_text text read))
      → IsReplaced whole manner vars stop left (Ok ([], left)) → behind ≡ left → (longer : List ℕ) → longer ≡ text
      → IsReplaced whole manner vars stop all (Ok (longer, behind))
  all_read all left behind text so h is longer same =
      subst (λ t. IsReplaced whole manner vars stop all (Ok (t, behind))) (append-nil text ∙ sym same)
      (subst (λ l. IsReplaced whole manner vars stop all (Ok (text ++ [], l))) (sym is) (so (Ok ([], left)) h))
