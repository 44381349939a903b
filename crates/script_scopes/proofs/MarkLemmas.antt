-- Marked instances by number are marked instances by path.
use Rattle.std.proofs.Common.{◌≡◌, ℕ, ◌<◌, Bool, true, false, cond, nat_eq, ◌||◌, List, [], ◌∷◌, ◌++◌, length, Option, Some, Result, Ok, Err, OnOk, OnErr, unwrap_or, inl, inr, refl, sym, ap, ◌∙◌, subst}
use Rattle.std.specs.List.{list_any}
use Rattle.std.specs.Option.{option_map}
use Rattle.std.proofs.lemmas.Bool.{eq-eqb, eqb-true, false≢true}
use Rattle.std.proofs.lemmas.List.{map-append}
use Rattle.std.proofs.lemmas.Option.{slice_get_cases}
use Rattle.list_defs.specs.Members.{IsIn, same_name}
use Rattle.list_defs.proofs.Members.{IsIn-append_cases}
use Rattle.list_defs.proofs.NameLemmas.{same_name-equal, same_name-itself}
use Rattle.pw_defs.specs.declared.design.Design.{Design}
use Rattle.pw_defs.specs.declared.design.Instance.{Instance}
use Rattle.script_defs.specs.Scopes.{is_one_of}
use Rattle.script_defs.specs.UnitSteps.{with_mark}
use Rattle.script_scopes.specs.Marked.{AreThere, marked, with_number}
use Rattle.script_scopes.specs.Standing.{IsHierarchy, own_path}
use Rattle.script_scopes.proofs.PathLemmas.{one_path, path_some, path_there}

-- what follows from a value and from an error holds
pub either_way : {T E : Type 0} (r : Result T E) (P Q R : Type 0) → (P → R) → (Q → R) → OnOk r P → OnErr r Q → R
either_way (Ok x) P Q R f g p q = f p
either_way (Err x) P Q R f g p q = g q

module _ (d : Design) (h : IsHierarchy d) where
  -- two numbers are the same where their paths are, if the paths tell them apart
  same_by : (n m : ℕ) → (own_path d n ≡ own_path d m → n ≡ m) → nat_eq n m ≡ same_name (own_path d n) (own_path d m)
  same_by n m told = by (nat_eq n m) refl (same_name (own_path d n) (own_path d m)) refl
    where
      by : (a : Bool) → nat_eq n m ≡ a → (b : Bool) → same_name (own_path d n) (own_path d m) ≡ b → a ≡ b
      by true e true f = refl
      by false e false f = refl
      by true e false f =
          let same : own_path d n ≡ own_path d m = ap (own_path d) (eqb-true n m e) in
          absurd (false≢true (sym f ∙ subst (λ p. same_name (own_path d n) p ≡ true) same (same_name-itself (own_path d n))))
      by false e true f = absurd (false≢true (sym e ∙ eq-eqb n m (told (same_name-equal (own_path d n) (own_path d m) f))))

  pub told_there : (n m : ℕ) → n < length d.insts → m < length d.insts → own_path d n ≡ own_path d m → n ≡ m
  told_there n m in_n in_m same = one_path d h n m (own_path d m) (path_there d n in_n ∙ ap Some same) (path_there d m in_m)

  told_later : (n m : ℕ) → n < length d.insts → 0 < n → own_path d n ≡ own_path d m → n ≡ m
  told_later n m in_n later same = elim (slice_get_cases d.insts m).1 [
    | inl found ↦ told_there n m in_n found.1 same
    | inr past ↦
        let none : own_path d m ≡ [] = ap (λ (o : Option Instance). unwrap_or (option_map (λ (i : Instance). i.path) o) []) past.1 in
        absurd (path_some d h n (own_path d n) later (path_there d n in_n) (same ∙ none))
  ]

  any_by : (n : ℕ) (numbers : List ℕ) → ((m : ℕ) → IsIn m numbers → own_path d n ≡ own_path d m → n ≡ m) → list_any (nat_eq n) numbers ≡ is_one_of (own_path d n) (marked d numbers)
  any_by n [] told = refl
  any_by n (m ∷ ms) told =
      rw (same_by n m (told m (inl refl))) (ap (λ b. same_name (own_path d n) (own_path d m) || b) (any_by n ms (λ k there. told k (inr there))))

  -- an instance below the top is marked where its path is
  pub any_later : (n : ℕ) (numbers : List ℕ) → n < length d.insts → 0 < n → list_any (nat_eq n) numbers ≡ is_one_of (own_path d n) (marked d numbers)
  any_later n numbers in_n later = any_by n numbers (λ m there. told_later n m in_n later)

  any_there : (n : ℕ) (numbers : List ℕ) → n < length d.insts → AreThere d numbers → list_any (nat_eq n) numbers ≡ is_one_of (own_path d n) (marked d numbers)
  any_there n numbers in_n there = any_by n numbers (λ m is. told_there n m in_n (there m is))

  -- one more mark is one more path
  pub marked_with : (n : ℕ) (numbers : List ℕ) → n < length d.insts → AreThere d numbers → marked d (with_number numbers n) ≡ with_mark (marked d numbers) (own_path d n)
  marked_with n numbers in_n there =
      by (list_any (nat_eq n) numbers) ∙ ap (λ b. cond b (marked d numbers) (marked d numbers ++ own_path d n ∷ [])) (any_there n numbers in_n there)
    where
      by : (b : Bool) → marked d (cond b numbers (numbers ++ n ∷ [])) ≡ cond b (marked d numbers) (marked d numbers ++ own_path d n ∷ [])
      by true = refl
      by false = map-append (own_path d) numbers (n ∷ [])

  pub there_with : (n : ℕ) (numbers : List ℕ) → n < length d.insts → AreThere d numbers → AreThere d (with_number numbers n)
  there_with n numbers in_n there = by (list_any (nat_eq n) numbers)
    where
      by : (b : Bool) → AreThere d (cond b numbers (numbers ++ n ∷ []))
      by true = there
      by false = λ m is. elim (IsIn-append_cases m numbers (n ∷ []) is) [
        | inl before ↦ there m before
        | inr last ↦ elim last [ inl same ↦ let P : ℕ → Type 0 = λ k. k < length d.insts in subst P (sym same) in_n | inr none ↦ absurd none ]
      ]
