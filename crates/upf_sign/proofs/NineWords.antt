-- A list of nine words, read word by word.
use Rattle.std.proofs.Common.{◌≡◌, ℕ, ◌<◌, ◌≤◌, List, [], ◌∷◌, get_or, length, map, arith}
use Rattle.upf_sign.specs.Words.{Job, HasValues, IsJob}
use Rattle.upf_sign.specs.Jobs.{AreOptions}

-- nine things are those that are read of them
pub nine : {X : Type 0} (f : X → List ℕ) (xs : List X) (a b c d e g h i j : X) → 9 ≤ length xs → length xs < 10
    → a ≡ get_or xs 0 a → b ≡ get_or xs 1 b → c ≡ get_or xs 2 c → d ≡ get_or xs 3 d → e ≡ get_or xs 4 e → g ≡ get_or xs 5 g → h ≡ get_or xs 6 h → i ≡ get_or xs 7 i → j ≡ get_or xs 8 j
    → map f xs ≡ f a ∷ f b ∷ f c ∷ f d ∷ f e ∷ f g ∷ f h ∷ f i ∷ f j ∷ []
nine f [] a b c d e g h i j low high p q r s t u v w x = absurd (omega arith)
nine f (_ ∷ []) a b c d e g h i j low high p q r s t u v w x = absurd (omega arith)
nine f (_ ∷ _ ∷ []) a b c d e g h i j low high p q r s t u v w x = absurd (omega arith)
nine f (_ ∷ _ ∷ _ ∷ []) a b c d e g h i j low high p q r s t u v w x = absurd (omega arith)
nine f (_ ∷ _ ∷ _ ∷ _ ∷ []) a b c d e g h i j low high p q r s t u v w x = absurd (omega arith)
nine f (_ ∷ _ ∷ _ ∷ _ ∷ _ ∷ []) a b c d e g h i j low high p q r s t u v w x = absurd (omega arith)
nine f (_ ∷ _ ∷ _ ∷ _ ∷ _ ∷ _ ∷ []) a b c d e g h i j low high p q r s t u v w x = absurd (omega arith)
nine f (_ ∷ _ ∷ _ ∷ _ ∷ _ ∷ _ ∷ _ ∷ []) a b c d e g h i j low high p q r s t u v w x = absurd (omega arith)
nine f (_ ∷ _ ∷ _ ∷ _ ∷ _ ∷ _ ∷ _ ∷ _ ∷ []) a b c d e g h i j low high p q r s t u v w x = absurd (omega arith)
nine f (x1 ∷ x2 ∷ x3 ∷ x4 ∷ x5 ∷ x6 ∷ x7 ∷ x8 ∷ x9 ∷ []) a b c d e g h i j low high p q r s t u v w x = cc
nine f (x1 ∷ x2 ∷ x3 ∷ x4 ∷ x5 ∷ x6 ∷ x7 ∷ x8 ∷ x9 ∷ x10 ∷ more) a b c d e g h i j low high p q r s t u v w x = absurd (omega arith)

-- nine words that have the options and values are the job, and nine that haven't are none
pub options_of : (words : List (List ℕ)) (job : Job) (a b c d e : List ℕ) → words ≡ a ∷ b ∷ job.library ∷ c ∷ job.netlist ∷ d ∷ job.script ∷ e ∷ job.top ∷ []
    → AreOptions a b c d e → HasValues job → IsJob words job
options_of words job a b c d e is options values =
    let p : a ≡ _ = options.0 in
    let q : b ≡ _ = options.1 in
    let r : c ≡ _ = options.2 in
    let s : d ≡ _ = options.3 in
    let t : e ≡ _ = options.4 in
    record { spelled = cc; values = values }
