-- Tuples that may be taken in place of numbers.
use Rattle.std.proofs.Common.{◌≡◌, ℕ, zero, suc, ◌+◌, ◌<◌, Bool, ◌&&◌, List, [], ◌∷◌, ◌++◌, take, drop, length, get_or, refl, sym, ap, ◌∙◌, arith}
use Rattle.std.specs.List.{Contains}
use Rattle.std.proofs.lemmas.List.{drop_more}
use Rattle.std.proofs.lemmas.List.Elements.{All-nil, All-push, All-weaker, All-contains, All-contains_itself}
use Rattle.diagram_defs.specs.declared.quantifiers.Quantifier.{Quantifier}
use Rattle.diagram_defs.specs.Diagrams.{Diagram, member, IsSet, IsNumberFor}
use Rattle.diagram_defs.specs.Quantified.{quantified_two, quantified_none, deciding}
use Rattle.diagram_defs.proofs.Quantifying.{quantified_append, quantified_first, quantified_nothing, two_none, two_decided, two_decides, same_members}
use Rattle.state_meets.specs.Walks.{meet, Stands, constant_set}

module _ (d : Diagram) (q : Quantifier) (level : ℕ) where
  pub alone : (n : ℕ) (rest : List ℕ) → meet q d.nodes (n ∷ []) rest ≡ member d.nodes n rest
  alone n rest =
      quantified_first q (λ m. member d.nodes m rest) n [] ∙ ap (quantified_two q (member d.nodes n rest)) (quantified_nothing q (λ m. member d.nodes m rest)) ∙ two_none q (member d.nodes n rest)

  one_more : (numbers : List ℕ) (n : ℕ) (rest : List ℕ) → meet q d.nodes (numbers ++ n ∷ []) rest ≡ quantified_two q (meet q d.nodes numbers rest) (member d.nodes n rest)
  one_more numbers n rest =
      quantified_append q (λ m. member d.nodes m rest) numbers (n ∷ []) ∙ ap (quantified_two q (meet q d.nodes numbers rest)) (alone n rest)

  pub Stands_none : Stands d q level [] []
  Stands_none = record { sets = All-nil (IsSet d level); same = λ rest full. refl }

  -- one number more
  pub Stands_more : (numbers tuple : List ℕ) (n : ℕ) → IsSet d level n → Stands d q level numbers tuple → Stands d q level (numbers ++ n ∷ []) (tuple ++ n ∷ [])
  Stands_more numbers tuple n is before = record {
    sets = All-push (IsSet d level) tuple n before.sets is;
    same = λ rest full. one_more tuple n rest ∙ ap (λ (b : Bool). quantified_two q b (member d.nodes n rest)) (before.same rest full) ∙ sym (one_more numbers n rest);
  }

  -- one that says nothing is left out
  pub Stands_left_out : (numbers tuple : List ℕ) (n : ℕ) → IsNumberFor d level (constant_set d level (quantified_none q)) n → Stands d q level numbers tuple → Stands d q level (numbers ++ n ∷ []) tuple
  Stands_left_out numbers tuple n is before = record {
    sets = before.sets;
    same = λ rest full.
        before.same rest full ∙ sym (one_more numbers n rest ∙ ap (quantified_two q (meet q d.nodes numbers rest)) (is.same rest ∙ ap (λ (b : Bool). b && quantified_none q) full) ∙ two_none q (meet q d.nodes numbers rest));
  }

  -- one of the numbers that decides stands for all
  decided : (numbers more : List ℕ) (n : ℕ) (rest : List ℕ) → member d.nodes n rest ≡ deciding q → meet q d.nodes (numbers ++ n ∷ more) rest ≡ deciding q
  decided numbers more n rest e =
      quantified_append q (λ m. member d.nodes m rest) numbers (n ∷ more)
      ∙ two_decided q (meet q d.nodes numbers rest) (meet q d.nodes (n ∷ more) rest) (quantified_first q (λ m. member d.nodes m rest) n more ∙ two_decides q (member d.nodes n rest) (meet q d.nodes more rest) e)

  pub Stands_decided : (numbers more : List ℕ) (n : ℕ) → IsNumberFor d level (constant_set d level (deciding q)) n → Stands d q level (numbers ++ n ∷ more) (n ∷ [])
  Stands_decided numbers more n is = record {
    sets = All-push (IsSet d level) [] n (All-nil (IsSet d level)) is.in_level;
    same = λ rest full.
        let e = is.same rest ∙ ap (λ (b : Bool). b && deciding q) full in
        alone n rest ∙ e ∙ sym (decided numbers more n rest e);
  }

  -- the same numbers in another order, or without repeats
  pub Stands_members : (numbers tuple other : List ℕ) → ((n : ℕ) → Contains tuple n → Contains other n) → ((n : ℕ) → Contains other n → Contains tuple n) → Stands d q level numbers tuple → Stands d q level numbers other
  Stands_members numbers tuple other there back before = record {
    sets = All-weaker (Contains other) (IsSet d level) (λ n in_other. All-contains (IsSet d level) tuple n before.sets (back n in_other)) other (All-contains_itself other);
    same = λ rest full. same_members q (λ n. member d.nodes n rest) other tuple back there ∙ before.same rest full;
  }

-- a list of one number
pub single : (xs : List ℕ) → length xs ≡ 1 → xs ≡ get_or xs 0 0 ∷ []
single [] e = absurd (omega arith)
single (x ∷ []) e = refl
single (x ∷ y ∷ xs) e = absurd (omega arith)

take_whole : (i : ℕ) (xs : List ℕ) → take i xs ++ drop i xs ≡ xs
take_whole zero xs = refl
take_whole (suc i) [] = refl
take_whole (suc i) (x ∷ xs) = ap (λ (ys : List ℕ). x ∷ ys) (take_whole i xs)

-- a list, cut at a place
pub cut : (xs : List ℕ) (i : ℕ) → i < length xs → take i xs ++ get_or xs i 0 ∷ drop (i + 1) xs ≡ xs
cut xs i inside = ap (λ (ys : List ℕ). take i xs ++ ys) (sym (drop_more xs i 0 inside)) ∙ take_whole i xs
