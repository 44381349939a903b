-- Readings that are put together from readings of parts.
use Rattle.std.proofs.Common.{◌≡◌, ℕ, ◌<◌, List, ◌∷◌, length, sym, ◌∙◌, ap, subst, arith}
use Rattle.power_states.specs.ExpressionWords.{Token, HasTokens}
use Rattle.state_terms.specs.Readings.{Begins, BeginsNot, Reads, Lacks, Behind, Before}

-- what the grammar of some thing says
abbrev pub Grammar : Type 0 → Type 1
Grammar X = List Token → X → List Token → Type 0

tail_is : (a b : Token) (xs ys : List Token) → a ∷ xs ≡ b ∷ ys → xs ≡ ys
tail_is a b xs ys e = cc

-- a word or mark, and a thing behind it
pub behind_reads : {X : Type 0} (Is : Grammar X) (first : Token) (text mid left : List ℕ) (x : X) → Begins text first mid → Reads (Behind first Is) mid x left
    → Reads Is text x left
behind_reads Is first text mid left x b r =
    record {
      shorter = (let near : length mid < length text = b.shorter in let far : length left < length mid = r.shorter in omega arith);
      on = λ more h. let p = r.on more h in (first ∷ p.0, b.on p.0 p.1, p.2);
      only = λ tokens y more h k. let p = b.back tokens h in r.only p.0 y more p.2 (subst (λ (ts : List Token). Is ts y more) p.1 k);
    }

pub behind_lacks : {X : Type 0} (Is : Grammar X) (first : Token) (text mid : List ℕ) → Begins text first mid → Lacks (Behind first Is) mid → Lacks Is text
behind_lacks Is first text mid b l tokens y more h k = let p = b.back tokens h in l p.0 y more p.2 (subst (λ (ts : List Token). Is ts y more) p.1 k)

-- a thing, and a word or mark behind it
pub before_reads : {X : Type 0} (Is : Grammar X) (last : Token) (text mid left : List ℕ) (x : X) → Reads Is text x mid → Begins mid last left
    → Reads (Before last Is) text x left
before_reads Is last text mid left x r b =
    record {
      shorter = (let near : length mid < length text = r.shorter in let far : length left < length mid = b.shorter in omega arith);
      on = λ more h. r.on (last ∷ more) (b.on more h);
      only = λ tokens y more h k.
          let q = r.only tokens y (last ∷ more) h k in
          let p = b.back (last ∷ more) q.1 in
          (q.0, subst (λ (ts : List Token). HasTokens left ts) (sym (tail_is last last more p.0 p.1)) p.2);
    }

pub before_lacks : {X : Type 0} (Is : Grammar X) (last : Token) (text mid : List ℕ) (x : X) → Reads Is text x mid → BeginsNot mid last
    → Lacks (Before last Is) text
before_lacks Is last text mid x r n tokens y more h k = let q = r.only tokens y (last ∷ more) h k in n more q.1

pub before_lacks_all : {X : Type 0} (Is : Grammar X) (last : Token) (text : List ℕ) → Lacks Is text → Lacks (Before last Is) text
before_lacks_all Is last text l tokens y more h k = l tokens y (last ∷ more) h k

-- Another thing of the same words and marks.
pub record IsMade {X Y : Type 0} (Is : Grammar X) (f : X → Y) (Was : Grammar Y) : Type 0 where
  pub build : (tokens : List Token) (x : X) (more : List Token) → Is tokens x more → Was tokens (f x) more
  pub invert : (tokens : List Token) (y : Y) (more : List Token) → Was tokens y more → (x : X) × Is tokens x more × (y ≡ f x)

pub made_reads : {X Y : Type 0} (Is : Grammar X) (f : X → Y) (Was : Grammar Y) (text left : List ℕ) (x : X) → IsMade Is f Was → Reads Is text x left
    → Reads Was text (f x) left
made_reads Is f Was text left x made r =
    record {
      shorter = r.shorter;
      on = λ more h. let p = r.on more h in (p.0, p.1, made.build p.0 x more p.2);
      only = λ tokens y more h k.
          let p = made.invert tokens y more k in
          let q = r.only tokens p.0 more h p.1 in
          (p.2 ∙ ap f q.0, q.1);
    }

pub made_lacks : {X Y : Type 0} (Is : Grammar X) (f : X → Y) (Was : Grammar Y) (text : List ℕ) → IsMade Is f Was → Lacks Is text → Lacks Was text
made_lacks Is f Was text made l tokens y more h k = let p = made.invert tokens y more k in l tokens p.0 more h p.1
