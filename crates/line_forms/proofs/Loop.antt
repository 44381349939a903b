-- Reading one after the other, as a loop does.
use Rattle.std.proofs.Common.{◌≡◌, ℕ, zero, suc, ◌-◌, ◌+◌, ◌<◌, Bool, true, false, List, [], ◌∷◌, ◌++◌, length, Option, Some, None, refl, sym, ap, ◌∙◌, append_assoc, arith}
use Rattle.std.proofs.lemmas.List.{append-nil, length-append}
use Rattle.line_forms.specs.declared.fault.ReadFault.{ReadFault}
use Rattle.line_forms.specs.declared.fault.ReadFault.TheVariants as faults
use Rattle.line_forms.specs.Reading.{Read, ◌>>=◌, Fails, many_in, many_at, with_front}

regroup : {A : Type 0} (front : List A) (x : A) (read : Option (List A × List ℕ)) → with_front front (read >>= λ xs. Some (x ∷ xs.0, xs.1)) ≡ with_front (front ++ x ∷ []) read
regroup {A} front x (Some xs) = ap (λ (all : List A). Some (all, xs.1)) (simp append_assoc)
regroup front x None = refl

module _ {A : Type 0} (goes_on : List ℕ → Bool) (r : Read A) where
  pub starts : (front : List A) (text : List ℕ) → with_front front (many_in (length text + length front - length front) goes_on r text) ≡ with_front front (many_at goes_on r text)
  unfolding many_at
  starts front text =
      let n : length text + length front - length front ≡ length text = omega arith in
      rw n refl

  step : (front : List A) (n : ℕ) (rest after : List ℕ) (x : A) → goes_on rest ≡ true → r rest ≡ Some (x, after)
      → with_front front (many_in (suc n) goes_on r rest) ≡ with_front (front ++ x ∷ []) (many_in n goes_on r after)
  unfolding many_in
  step front n rest after x more read = rw (more, read) (regroup front x (many_in n goes_on r after))

  pub steps : (front : List A) (room : ℕ) (rest after : List ℕ) (x : A) (total : Option (List A × List ℕ)) → goes_on rest ≡ true → r rest ≡ Some (x, after) → length front < room
      → with_front front (many_in (room - length front) goes_on r rest) ≡ total → with_front (front ++ x ∷ []) (many_in (room - length (front ++ x ∷ [])) goes_on r after) ≡ total
  steps front room rest after x total more read lt so_far =
      let n : room - length front ≡ suc (room - length (front ++ x ∷ [])) = omega (arith, length-append front (x ∷ [])) in
      sym (rw n (step front (room - length (front ++ x ∷ [])) rest after x more read)) ∙ so_far

  stuck : (n : ℕ) (rest : List ℕ) → goes_on rest ≡ true → r rest ≡ None → many_in n goes_on r rest ≡ None
  unfolding many_in
  stuck zero rest more read = rw more refl
  stuck (suc n) rest more read = rw (more, read) refl

  pub fails : (e : ReadFault) (front : List A) (n : ℕ) (rest : List ℕ) (total : Option (List A × List ℕ)) → goes_on rest ≡ true → Fails e (r rest)
      → with_front front (many_in n goes_on r rest) ≡ total → Fails e total
  fails faults.OtherForm front n rest total more read so_far = sym so_far ∙ ap (with_front front) (stuck n rest more read)
  fails faults.Memory front n rest total more read so_far = tt

  pub ends : (front : List A) (n : ℕ) (rest : List ℕ) (total : Option (List A × List ℕ)) → goes_on rest ≡ false → with_front front (many_in n goes_on r rest) ≡ total → total ≡ Some (front, rest)
  unfolding many_in
  ends front zero rest total over so_far = sym so_far ∙ rw over (ap (λ (all : List A). Some (all, rest)) (append-nil front))
  ends front (suc n) rest total over so_far = sym so_far ∙ rw over (ap (λ (all : List A). Some (all, rest)) (append-nil front))
