-- A step over a piece of a text, and the line behind it.
use Rattle.std.proofs.Common.{◌≡◌, ℕ, zero, suc, ◌+◌, ◌-◌, ◌<◌, ◌≤◌, ◌==◌, min, max, Bool, true, ◌&&◌, ◌||◌, cond, List, [], ◌∷◌, ◌++◌, length, filter, take, drop, get_or, false, refl, sym, ap, ◌∙◌, arith}
use Rattle.std.proofs.Math.Seq.{take-add, take-length}
use Rattle.std.proofs.lemmas.List.{length-append, length-drop, drop_all, drop_more}
use Rattle.std.proofs.lemmas.List.Elements.{filter-append}
use Rattle.text_defs.specs.Lines.{newlines, line_at, last_line}
use Rattle.text_defs.specs.Pieces.{Piece, Placed, is_blank, pieces_from}
use Rattle.text_streams.specs.Places.{fresh_after}

module _ {A : Type 0} (piece : Bool → List ℕ → Piece A) (text : List ℕ) where
  -- bytes past the end cover nothing
  covered_cut : (place : ℕ) (fresh : Bool) (covered : ℕ) (rest : List ℕ)
      → pieces_from piece text place fresh (min covered (length rest)) rest ≡ pieces_from piece text place fresh covered rest
  unfolding pieces_from
  covered_cut place fresh covered [] = refl
  covered_cut place fresh zero (b ∷ rest) = let e : min 0 (suc (length rest)) ≡ 0 = omega arith in rw e refl
  covered_cut place fresh (suc covered) (b ∷ rest) =
      let e : min (suc covered) (suc (length rest)) ≡ suc (min covered (length rest)) = omega arith in
      rw e (covered_cut (place + 1) (b == 10 || (fresh && is_blank b)) covered rest)

  -- what stands behind the covered bytes
  behind_covered : (place : ℕ) (fresh : Bool) (covered : ℕ) (rest : List ℕ) → covered ≤ length rest
      → pieces_from piece text place fresh covered rest ≡ pieces_from piece text (place + covered) (fresh_after fresh (take covered rest)) 0 (drop covered rest)
  unfolding pieces_from
  behind_covered place fresh zero rest le = let e : place + 0 ≡ place = omega arith in rw e refl
  behind_covered place fresh (suc covered) [] le = absurd (omega (arith, le))
  behind_covered place fresh (suc covered) (b ∷ rest) le =
      let e : place + suc covered ≡ place + 1 + covered = omega arith in
      rw e (behind_covered (place + 1) (b == 10 || (fresh && is_blank b)) covered rest (omega (arith, le)))

  -- the first piece, and those behind it
  pub piece_step : (place : ℕ) (fresh : Bool) (rest : List ℕ) (n : ℕ) → 0 < length rest → n ≡ min (max (piece fresh rest).size 1) (length rest)
      → pieces_from piece text place fresh 0 rest
      ≡ (let p : Placed A = record { what = (piece fresh rest).what; line = line_at text place } in p)
      ∷ pieces_from piece text (place + n) (fresh_after fresh (take n rest)) 0 (drop n rest)
  unfolding pieces_from
  piece_step place fresh [] n some e = absurd (omega (arith, some))
  piece_step place fresh (b ∷ rest) n some e =
      let size : ℕ = (piece fresh (b ∷ rest)).size in
      let m : ℕ = min (size - 1) (length rest) in
      let k : n ≡ suc (min (size - 1) (length rest)) = omega (arith, e) in
      let f : Bool = b == 10 || (fresh && is_blank b) in
      let sum : place + suc m ≡ place + 1 + m = omega arith in
      let here : Placed A = record { what = (piece fresh (b ∷ rest)).what; line = line_at text place } in
      let there : pieces_from piece text (place + 1) f (size - 1) rest
      ≡ pieces_from piece text (place + suc m) (fresh_after f (take m rest)) 0 (drop m rest)
      = sym (covered_cut (place + 1) f (size - 1) rest) ∙ behind_covered (place + 1) f m rest (omega arith)
      ∙ ap (λ (p : ℕ). pieces_from piece text p (fresh_after f (take m rest)) 0 (drop m rest)) (sym sum) in
      ap (λ l. here ∷ l) there
      ∙ ap (λ (n : ℕ). here ∷ pieces_from piece text (place + n) (fresh_after fresh (take n (b ∷ rest))) 0 (drop n (b ∷ rest))) (sym k)

-- one byte on in counting newlines
pub newlines_on : (bytes : List ℕ) (i byte count total : ℕ) → i < length bytes → byte ≡ get_or bytes i 0 → count + newlines (drop i bytes) ≡ total
    → count + cond (byte == 10) 1 0 + newlines (drop (i + 1) bytes) ≡ total
newlines_on bytes i byte count total lt is so_far =
    by (byte == 10) refl (newlines (drop (i + 1) bytes)) refl ∙ ap (λ (l : List ℕ). count + newlines l) (ap (λ (b : ℕ). b ∷ drop (i + 1) bytes) is ∙ sym (drop_more bytes i 0 lt)) ∙ so_far
  where
    by : (b : Bool) → (byte == 10) ≡ b → (n : ℕ) → newlines (drop (i + 1) bytes) ≡ n
        → count + cond (byte == 10) 1 0 + newlines (drop (i + 1) bytes) ≡ count + newlines (byte ∷ drop (i + 1) bytes)
    by true e n f = rw (e, f) (omega arith)
    by false e n f = rw (e, f) (omega arith)

pub newlines_past : (bytes : List ℕ) (i count : ℕ) → length bytes ≤ i → count + newlines (drop i bytes) ≡ newlines bytes → count ≡ newlines bytes
newlines_past bytes i count past so_far =
    let e : count + newlines (drop i bytes) ≡ count + 0 = ap (λ (l : List ℕ). count + newlines l) (drop_all i bytes past) in omega (arith, e, so_far)

-- the line on which a text ends, and the line behind bytes
pub ends_on : (text : List ℕ) (line : ℕ) → line ≡ min (1 + newlines text) 4294967295 → line ≡ last_line text
unfolding line_at
ends_on text line e = rw (take-length text) e

pub at_behind : (text bytes : List ℕ) (place size line : ℕ) → place + size ≤ length text → bytes ≡ take size (drop place text)
    → line ≡ min (line_at text place + newlines bytes) 4294967295 → line ≡ line_at text (place + size)
unfolding line_at
at_behind text bytes place size line within is e = rw (take-add place size text) (e ∙ by)
  where
    by : min (min (1 + newlines (take place text)) 4294967295 + newlines bytes) 4294967295
        ≡ min (1 + newlines (take place text ++ take size (drop place text))) 4294967295
    by = rw (is, filter-append (λ b. b == 10) (take place text) (take size (drop place text)), length-append (filter (λ b. b == 10) (take place text)) (filter (λ b. b == 10) (take size (drop place text)))) (omega arith)

pub long_behind : (text rest : List ℕ) (place size : ℕ) → place + size ≤ length text → rest ≡ drop place text → size ≤ length rest
long_behind text rest place size le back = let l : length rest ≡ length text - place = ap length back ∙ length-drop place text in omega (arith, le, l)

pub on_line : (line other : ℕ) (bytes : List ℕ) → line ≡ other → min (line + newlines bytes) 4294967295 ≡ min (other + newlines bytes) 4294967295
on_line line other bytes e = ap (λ (l : ℕ). min (l + newlines bytes) 4294967295) e

-- a text begins on line 1
pub starts_at : (text : List ℕ) → 1 ≡ line_at text 0
unfolding line_at
starts_at text = refl
