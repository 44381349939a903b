-- What holds of each value that a grammar reads from tokens of a kind, put together from its parts.
use Rattle.std.proofs.Common.{◌≡◌, ℕ, zero, suc, Bool, true, false, List, [], ◌∷◌, ◌++◌, Option, None, Some, inl, inr, subst, if◌then◌else◌}
use Rattle.std.specs.Prelude.{IfSome}
use Rattle.std.specs.List.{AllByRecursion}
use Rattle.std.proofs.lemmas.Option.{none-some, same_Some}
use Rattle.text_defs.specs.Grammar.{Grammar, Reads, ◌>>=◌, ◌>>◌}
use Rattle.text_defs.specs.Phrases.{listed, many, option}
use Rattle.text_defs.specs.Tokens.{Token, one_of}

-- P holds of what the grammar reads from such tokens
abbrev pub Holds : {K A : Type 0} → (K → Type 0) → Grammar K A → (A → Type 0) → Type 0
Holds {K} {A} Such g P = (tokens : List K) (x : A) → AllByRecursion Such tokens → Reads g tokens x → P x

-- what holds of each of a joined list holds of each of its front, and of each behind it
each_front : {X : Type 0} (P : X → Type 0) (xs ys : List X) → AllByRecursion P (xs ++ ys) → AllByRecursion P xs
each_front P [] ys each = tt
each_front P (x ∷ xs) ys each = (each.0, each_front P xs ys each.1)

each_behind : {X : Type 0} (P : X → Type 0) (xs ys : List X) → AllByRecursion P (xs ++ ys) → AllByRecursion P ys
each_behind P [] ys each = each
each_behind P (x ∷ xs) ys each = each_behind P xs ys each.1

-- nothing is asked of what is read
abbrev pub Any : {A : Type 0} → A → Type 0
Any x = Unit {0}

pub holds-any : {K A : Type 0} (Such : K → Type 0) (g : Grammar K A) → Holds Such g Any
holds-any Such g tokens x such reads = tt

pub holds-gives : {K A : Type 0} (Such : K → Type 0) (P : A → Type 0) (x : A) → P x → Holds Such (Grammar.gives x) P
unfolding Reads
holds-gives Such P x holds tokens y such reads = subst P reads.1 holds

-- a token of a class is one of the tokens
pub holds-one_of : {C : Type 0} (Such : Token C → Type 0) (test : C → Bool) → Holds Such (one_of test) Such
unfolding Reads
holds-one_of {C} Such test tokens y such reads = by reads.0 (test reads.0.class) (subst (AllByRecursion Such) reads.1 such).0 reads.2
  where
    by : (t : Token C) (b : Bool) → Such t → (if b then Some t else None) ≡ Some y → Such y
    by t true such e = subst Such (same_Some t y e) such
    by t false such e = absurd (none-some y e)

pub holds-then : {K A B : Type 0} (Such : K → Type 0) (first : Grammar K A) (second : A → Grammar K B) (P : A → Type 0) (Q : B → Type 0)
    → Holds Such first P → ((x : A) → P x → Holds Such (second x) Q) → Holds Such (first >>= second) Q
unfolding Reads
holds-then Such first second P Q one two tokens y such reads =
    let parted = subst (AllByRecursion Such) reads.3 such in
    let x = one reads.1 reads.0 (each_front Such reads.1 reads.2 parted) reads.4 in
    two reads.0 x reads.2 y (each_behind Such reads.1 reads.2 parted) reads.5

-- behind what may be anything
pub holds-behind : {K A B : Type 0} (Such : K → Type 0) (first : Grammar K A) (second : A → Grammar K B) (Q : B → Type 0)
    → ((x : A) → Holds Such (second x) Q) → Holds Such (first >>= second) Q
holds-behind Such first second Q two = holds-then Such first second Any Q (holds-any Such first) (λ x any. two x)

pub holds-where : {K A : Type 0} (Such : K → Type 0) (test : K → Bool) (this other : Grammar K A) (P : A → Type 0) → Holds Such this P → Holds Such other P
    → Holds Such (Grammar.where_next test this other) P
unfolding Reads
holds-where Such test this other P one two tokens x such reads = elim reads [ inl here ↦ one tokens x such here | inr there ↦ two tokens x such there ]

pub holds-option : {K A : Type 0} (Such : K → Type 0) (begins : K → Bool) (phrase : Grammar K A) (P : A → Type 0) → Holds Such phrase P
    → Holds Such (option begins phrase) (λ found. IfSome found P)
holds-option {K} {A} Such begins phrase P each =
    let IfThere : Option A → Type 0 = λ found. IfSome found P in
    let some : A → Grammar K (Option A) = λ x. Grammar.gives (Some x) in
    holds-where Such begins (phrase >>= some) (Grammar.gives None) IfThere
    (holds-then Such phrase some P IfThere each (λ x holds. holds-gives Such IfThere (Some x) holds))
    (holds-gives Such IfThere None tt)

pub holds-many : {K A : Type 0} (Such : K → Type 0) (most : ℕ) (begins : K → Bool) (phrase : Grammar K A) (P : A → Type 0) → Holds Such phrase P
    → Holds Such (many most begins phrase) (AllByRecursion P)
unfolding many
holds-many Such zero begins phrase P each = holds-gives Such (AllByRecursion P) [] tt
holds-many {K} {A} Such (suc most) begins phrase P each =
    let more : A → List A → Grammar K (List A) = λ x xs. Grammar.gives (x ∷ xs) in
    let rest : A → Grammar K (List A) = λ x. many most begins phrase >>= more x in
    holds-where Such begins (phrase >>= rest) (Grammar.gives []) (AllByRecursion P)
    (holds-then Such phrase rest P (AllByRecursion P) each
    (λ x holds. holds-then Such (many most begins phrase) (more x) (AllByRecursion P) (AllByRecursion P) (holds-many Such most begins phrase P each)
    (λ xs behind. holds-gives Such (AllByRecursion P) (x ∷ xs) (holds, behind))))
    (holds-gives Such (AllByRecursion P) [] tt)

pub holds-listed : {K A B : Type 0} (Such : K → Type 0) (most : ℕ) (separates : K → Bool) (separator : Grammar K B) (phrase : Grammar K A) (P : A → Type 0)
    → Holds Such phrase P → Holds Such (listed most separates separator phrase) (AllByRecursion P)
holds-listed {K} {A} {B} Such most separates separator phrase P each =
    let more : A → List A → Grammar K (List A) = λ x xs. Grammar.gives (x ∷ xs) in
    let rest : A → Grammar K (List A) = λ x. many most separates (separator >> phrase) >>= more x in
    holds-then Such phrase rest P (AllByRecursion P) each
    (λ x holds. holds-then Such (many most separates (separator >> phrase)) (more x) (AllByRecursion P) (AllByRecursion P)
    (holds-many Such most separates (separator >> phrase) P (holds-behind Such separator (λ b. phrase) P (λ b. each)))
    (λ xs behind. holds-gives Such (AllByRecursion P) (x ∷ xs) (holds, behind)))
