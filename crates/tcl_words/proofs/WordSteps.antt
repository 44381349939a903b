-- How a word is read, by what it begins with.
use Rattle.std.proofs.Common.{◌≡◌, ℕ, Bool, true, false, List, [], ◌∷◌, Ok, Err, refl, sym, ◌∙◌, subst}
use Rattle.std.proofs.lemmas.Bool.{false≢true, true≢false}
use Rattle.std.specs.List.{list_any}
use Rattle.pw_defs.specs.declared.faults.At.{At}
use Rattle.pw_defs.specs.declared.faults.TclFault.{TclFault}
use Rattle.pw_defs.specs.declared.faults.TclFault.TheVariants.{T1}
use Rattle.tcl_words.specs.Pieces.{Piece, byte, is_byte, begins}
use Rattle.tcl_words.specs.TclFaults.{nameless}
use Rattle.tcl_words.specs.Words.{Read, Manner, Variables, is_gap, is_stop, stops, IsBraced, IsReplaced, closed, IsWord, braced, unbraced, quoted, unquoted, faulty, bare, AreWords, gap}
use Rattle.tcl_words.proofs.Replacing.{stops_at_quote}

module _ (whole : List Piece) (manner : Manner) (vars : Variables) where
  pub braced_ok : (here rest left : List Piece) (word : List ℕ) (read : Read (List ℕ)) → here ≡ byte 123 ∷ rest → IsBraced 0 rest word left
      → closed whole manner word left ≡ read → IsWord whole manner vars here read
  braced_ok here rest left word read is h e =
      subst (λ t. IsWord whole manner vars t read) (sym is) (subst (IsWord whole manner vars (byte 123 ∷ rest)) e (braced rest left word h))

  pub unbraced_fault : (here rest : List Piece) (place : At) → here ≡ byte 123 ∷ rest → ((word : List ℕ) (left : List Piece) → ¬ IsBraced 0 rest word left)
      → place ≡ nameless whole here → IsWord whole manner vars here (Err (T1 place))
  unbraced_fault here rest place is none so =
      subst (λ p. IsWord whole manner vars here (Err (T1 p))) (sym so)
      (subst (λ t. IsWord whole manner vars t (Err (T1 (nameless whole t)))) (sym is) (unbraced rest none))

  pub quoted_ok : (here rest mid left : List Piece) (word : List ℕ) (read : Read (List ℕ)) → here ≡ byte 34 ∷ rest → list_any (is_byte 34) rest ≡ true
      → IsReplaced whole manner vars (is_byte 34) rest (Ok (word, mid)) → (t : Bool) → (t ≡ true → mid ≡ byte 34 ∷ left)
      → (t ≡ false → begins (is_byte 34) mid ≡ false) → closed whole manner word left ≡ read → IsWord whole manner vars here read
  quoted_ok here rest mid left word read is some h t taken stays e =
      subst (λ q. IsWord whole manner vars q read) (sym is)
      (subst (IsWord whole manner vars (byte 34 ∷ rest)) e
      (quoted rest left word some (subst (λ m. IsReplaced whole manner vars (is_byte 34) rest (Ok (word, m))) (by t taken stays) h)))
    where
      at : begins (is_byte 34) mid ≡ true
      at = stops_at_quote whole manner vars rest (Ok (word, mid)) h some

      by : (u : Bool) → (u ≡ true → mid ≡ byte 34 ∷ left) → (u ≡ false → begins (is_byte 34) mid ≡ false) → mid ≡ byte 34 ∷ left
      by true taken stays = taken refl
      by false taken stays = absurd (false≢true (sym (stays refl) ∙ at))

  pub unquoted_fault : (here rest : List Piece) (place : At) → here ≡ byte 34 ∷ rest → list_any (is_byte 34) rest ≡ false → place ≡ nameless whole here
      → IsWord whole manner vars here (Err (T1 place))
  unquoted_fault here rest place is none so =
      subst (λ p. IsWord whole manner vars here (Err (T1 p))) (sym so)
      (subst (λ t. IsWord whole manner vars t (Err (T1 (nameless whole t)))) (sym is) (unquoted rest none))

  pub quoted_fault : (here rest : List Piece) (fault : TclFault) → here ≡ byte 34 ∷ rest → list_any (is_byte 34) rest ≡ true
      → IsReplaced whole manner vars (is_byte 34) rest (Err fault) → IsWord whole manner vars here (Err fault)
  quoted_fault here rest fault is some h = subst (λ t. IsWord whole manner vars t (Err fault)) (sym is) (faulty rest fault some h)

  pub bare_ok : (text w l : List Piece) (read : Read (List ℕ)) → stops manner text ≡ false → begins (is_byte 123) text ≡ false
      → begins (is_byte 34) text ≡ false → w ≡ whole → l ≡ text → IsReplaced w manner vars (is_stop manner) l read → IsWord whole manner vars text read
  bare_ok text w l read go no_brace no_quote same is h =
      by text go no_brace no_quote (subst (λ t. IsReplaced whole manner vars (is_stop manner) t read) is (subst (λ v. IsReplaced v manner vars (is_stop manner) l read) same h))
    where
      by : (t : List Piece) → stops manner t ≡ false → begins (is_byte 123) t ≡ false → begins (is_byte 34) t ≡ false
          → IsReplaced whole manner vars (is_stop manner) t read → IsWord whole manner vars t read
      by [] go e f h = absurd (true≢false go)
      by (p ∷ rest) go e f h = bare p rest read e f h

  pub gap_goes : (p : Piece) (text rest : List Piece) (read : Read (List (List ℕ))) → text ≡ p ∷ rest → is_gap manner p ≡ true
      → AreWords whole manner vars rest read → AreWords whole manner vars text read
  gap_goes p text rest read is e h = subst (λ t. AreWords whole manner vars t read) (sym is) (gap p rest read e h)
