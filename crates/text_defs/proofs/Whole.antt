-- A whole text has one value or one first fault, and never both.
use Rattle.std.proofs.Common.{◌≡◌, List, [], ◌∷◌, ◌++◌, Option, None, ◌⊎◌, inl, inr, Result, Ok, Err, refl, sym, ap, ◌∙◌, subst}
use Rattle.std.proofs.lemmas.List.{append_assoc, append-nil}
use Rattle.list_defs.specs.Members.{IsIn}
use Rattle.text_defs.specs.FirstFault.{EndsAt, IsFirstFault}
use Rattle.text_defs.specs.Grammar.{Grammar, Reads, IsPhrase, Reading, read, CanEnd, ended, whole, read_whole}
use Rattle.text_defs.proofs.Found.{IsFound, found, ok_same, err_same}
use Rattle.text_defs.proofs.Faults.{IsFault, fault}
use Rattle.text_defs.proofs.Clear.{IsClear}

-- where a front and more are as long as two other lists, one of the fronts begins the other
fronts : {K : Type 0} (a b x y : List K) → a ++ x ≡ b ++ y
    → ((more : List K) × (b ≡ a ++ more) × (x ≡ more ++ y)) ⊎ ((more : List K) × (a ≡ b ++ more) × (y ≡ more ++ x))
fronts [] b x y e = inl (b, refl, e)
fronts (k ∷ a) [] x y e = inr (k ∷ a, refl, sym e)
fronts {K} (k ∷ a) (l ∷ b) x y e =
    let head : k ≡ l = cc in
    let tail : a ++ x ≡ b ++ y = cc in
    elim (fronts a b x y tail) [
      | inl f ↦ inl (f.0, (let joined : l ∷ b ≡ k ∷ (a ++ f.0) = cc (head, f.1) in joined), f.2)
      | inr f ↦ inr (f.0, (let joined : k ∷ a ≡ l ∷ (b ++ f.0) = cc (head, f.1) in joined), f.2)
    ]

-- a text that can be read has no fault
pub no_fault : {K : Type 0} (IsReadable : List K → Type 0) (tokens left : List K) → IsReadable tokens → ¬ IsFirstFault IsReadable tokens left
no_fault IsReadable tokens [] reads f =
    f.ends (subst IsReadable (f.split ∙ append-nil f.front) reads)
no_fault {K} IsReadable tokens (k ∷ rest) reads f =
    f.ends (rest, subst IsReadable (f.split ∙ sym (append_assoc f.front (k ∷ []) rest)) reads)

-- what one fault leaves is not before what another leaves
not_before : {K : Type 0} (IsReadable : List K → Type 0) (tokens left other : List K)
    (f : IsFirstFault IsReadable tokens left) (g : IsFirstFault IsReadable tokens other)
    → (more : List K) → g.front ≡ f.front ++ more → left ≡ more ++ other → left ≡ other
not_before IsReadable tokens left other f g [] front rest = rest
not_before {K} IsReadable tokens left other f g (k ∷ more) front rest = absurd (
    let at : EndsAt IsReadable f.front (k ∷ (more ++ other)) = (let P : List K → Type 0 = EndsAt IsReadable f.front in subst P rest f.ends) in
    at (
      more ++ g.begins.0,
      subst IsReadable
          (ap (λ l. l ++ g.begins.0) front ∙ append_assoc f.front (k ∷ more) g.begins.0 ∙ sym (append_assoc f.front (k ∷ []) (more ++ g.begins.0)))
          g.begins.1,
    )
    )

-- a text has at most one first fault
pub one_fault : {K : Type 0} (IsReadable : List K → Type 0) (tokens left other : List K) → IsFirstFault IsReadable tokens left
    → IsFirstFault IsReadable tokens other → left ≡ other
one_fault IsReadable tokens left other f g =
    elim (fronts f.front g.front left other (sym f.split ∙ g.split)) [
      | inl h ↦ not_before IsReadable tokens left other f g h.0 h.1 h.2
      | inr h ↦ sym (not_before IsReadable tokens other left g f h.0 h.1 h.2)
    ]

module _ {K C A : Type 0} (class : K → C) (g : Grammar K A) (starts follows : List (Option C)) (clear : IsClear class g starts follows)
    (ends : IsIn None follows) where
  again_whole : (tokens : List K) (x : A) → Reads g tokens x → read g tokens ≡ Ok (x, [])
  again_whole tokens x r = subst (λ l. read g l ≡ Ok (x, [])) (append-nil tokens) (clear.again tokens [] x r ends)

  -- a whole text is read as one value
  pub one_value : (tokens : List K) (x y : A) → Reads g tokens x → Reads g tokens y → x ≡ y
  one_value tokens x y a b = ap (λ p. p.0) (ok_same (x, []) (y, []) (sym (again_whole tokens x a) ∙ again_whole tokens y b))

  -- what is read is what the whole text is read as
  pub whole_value : (tokens : List K) (x : A) → read_whole g tokens ≡ Ok x → Reads g tokens x
  whole_value tokens x e = by (read g tokens) refl e
    where
      by : (r : Reading K A) → read g tokens ≡ r → whole r ≡ Ok x → Reads g tokens x
      by (Err l) t e = cc
      by (Ok p) t e = at p.1 (found g tokens p.0 p.1 t) e
        where
          at : (rest : List K) → IsFound g tokens p.0 rest → ended p.0 rest ≡ Ok x → Reads g tokens x
          at [] f e =
              let same : p.0 ≡ x = ok_same p.0 x e in
              subst (λ y. Reads g tokens y) same (subst (λ l. Reads g l p.0) (sym (f.split ∙ append-nil f.front)) f.reads)
          at (k ∷ rest) f e = cc

  pub value_whole : (tokens : List K) (x : A) → Reads g tokens x → read_whole g tokens ≡ Ok x
  value_whole tokens x r = ap whole (again_whole tokens x r)

  -- where reading stops is the first fault
  pub whole_fault : CanEnd g → (tokens left : List K) → read_whole g tokens ≡ Err left → IsFirstFault (IsPhrase g) tokens left
  whole_fault c tokens left e = by (read g tokens) refl e
    where
      stopped : (l : List K) → read g tokens ≡ Err l → IsFault g tokens l → IsFirstFault (IsPhrase g) tokens l
      stopped [] t f =
          record {
            front = f.front;
            split = f.split;
            begins = f.begins;
            ends = λ x.
                let same : read g f.front ≡ Err [] = subst (λ l. read g l ≡ Err []) (f.split ∙ append-nil f.front) t in
                let no : Err [] ≡ Ok (x.0, []) = sym same ∙ again_whole f.front x.0 x.1 in
                cc;
          }
      stopped (k ∷ rest) t f =
          record {
            front = f.front;
            split = f.split;
            begins = f.begins;
            ends = λ b.
                let whole_text = again_whole ((f.front ++ k ∷ []) ++ b.0) b.1.0 b.1.1 in
                let stays = subst (λ l. read g l ≡ Err (k ∷ b.0)) (sym (append_assoc f.front (k ∷ []) b.0)) (f.stays k rest b.0 refl) in
                let no : Err (k ∷ b.0) ≡ Ok (b.1.0, []) = sym stays ∙ whole_text in
                cc;
          }

      by : (r : Reading K A) → read g tokens ≡ r → whole r ≡ Err left → IsFirstFault (IsPhrase g) tokens left
      by (Err l) t e = subst (IsFirstFault (IsPhrase g) tokens) (err_same {X = A} l left e) (stopped l t (fault g tokens l c t))
      by (Ok p) t e = behind p.1 (found g tokens p.0 p.1 t) e
        where
          behind : (rest : List K) → IsFound g tokens p.0 rest → ended p.0 rest ≡ Err left → IsFirstFault (IsPhrase g) tokens left
          behind [] f e = cc
          behind (k ∷ rest) f e =
              subst (IsFirstFault (IsPhrase g) tokens) (err_same {X = A} (k ∷ rest) left e)
              (record {
                front = f.front;
                split = f.split;
                begins = ([], (p.0, subst (λ l. Reads g l p.0) (sym (append-nil f.front)) f.reads));
                ends = λ b.
                    let whole_text = again_whole ((f.front ++ k ∷ []) ++ b.0) b.1.0 b.1.1 in
                    let stays = subst (λ l. read g l ≡ Ok (p.0, k ∷ b.0)) (sym (append_assoc f.front (k ∷ []) b.0)) (f.same (k ∷ b.0) refl) in
                    let no : k ∷ b.0 ≡ [] = ap (λ q. q.1) (ok_same (p.0, k ∷ b.0) (b.1.0, []) (sym stays ∙ whole_text)) in
                    cc;
              })

  pub fault_whole : CanEnd g → (tokens left : List K) → IsFirstFault (IsPhrase g) tokens left → read_whole g tokens ≡ Err left
  fault_whole c tokens left f = by (read_whole g tokens) refl
    where
      by : (r : Result A (List K)) → read_whole g tokens ≡ r → r ≡ Err left
      by (Ok x) e = absurd (no_fault (IsPhrase g) tokens left (x, whole_value tokens x e) f)
      by (Err l) e = ap Err (one_fault (IsPhrase g) tokens l left (whole_fault c tokens l e) f)

  -- each text is read as a value or has a first fault
  pub value_or_fault : CanEnd g → (tokens : List K) → IsPhrase g tokens ⊎ ((left : List K) × IsFirstFault (IsPhrase g) tokens left)
  value_or_fault c tokens = by (read_whole g tokens) refl
    where
      by : (r : Result A (List K)) → read_whole g tokens ≡ r → IsPhrase g tokens ⊎ ((left : List K) × IsFirstFault (IsPhrase g) tokens left)
      by (Ok x) e = inl (x, whole_value tokens x e)
      by (Err left) e = inr (left, whole_fault c tokens left e)
