-- The voltages of a literal, word by word.
use Rattle.std.proofs.Common.{◌≡◌, ℕ, MatchOption, Option, Some, None, ◌<◌, ◌≤◌, List, [], ◌∷◌, ◌++◌, length, sym, ◌∙◌, ap, subst, append_assoc, append-nil, arith}
use Rattle.std.specs.Borrow.{Bor}
use Rattle.pw_defs.specs.declared.faults.VoltFault.{VoltFault}
use Rattle.pw_defs.specs.declared.faults.VoltFault.TheVariants.{Form, Range}
use Rattle.text_defs.specs.Volts.{IsVolts}
use Rattle.pw_lex.specs.VoltForms.{IsVoltFault, microvolts}
use Rattle.upf_commands.specs.Voltages.{IsVoltage, one, two, three}
use Rattle.upf_commands.proofs.OneVoltage.{one_volts, one_voltage}
use Rattle.power_states.specs.ExpressionWords.{Token, word, unbrace, comma, HasTokens}
use Rattle.power_states.specs.Expressions.{AreVoltageWords, closes, plain, listed}
use Rattle.state_terms.specs.Readings.{Begins, BeginsNot, Reads, Lacks}
use Rattle.state_terms.specs.Marks.{BeginsWithNoWord}
use Rattle.state_terms.specs.Parts.{IsListed, plain as plain_word, behind_comma, AreVolts}

-- a text with a fault is no voltage
pub no_volts : (text : List ℕ) (fault : VoltFault) → IsVoltFault text fault → (v : ℕ) → IsVolts text v → ⊥
no_volts text Form h v k = h (record { digits = k.digits; decimals = k.decimals })
no_volts text Range h v k =
    let high : 1000000000 < microvolts text = h.1 in
    let same : v ≡ microvolts text = k.value in
    let low : v ≤ 1000000000 = k.limit in
    omega arith

pub low_volts : (text : List ℕ) (v : ℕ) → IsVolts text v → v ≤ 1000000000
low_volts text v h = h.limit

-- one word
pub one_of : (text : List ℕ) (v : ℕ) → IsVoltage (text ∷ []) v → IsVolts text v
one_of text v (one w u h) = h

pub one_told : (text : List ℕ) (r : Option ℕ) → MatchOption r ((v : ℕ) → ¬ IsVolts text v) (IsVolts text)
    → MatchOption r ((v : ℕ) → ¬ IsVoltage (text ∷ []) v) (IsVoltage (text ∷ []))
one_told text None h = λ v k. h v (one_of text v k)
one_told text (Some v) h = one text v h

-- two words
pub record AreTwo (first last : List ℕ) (v : ℕ) : Type 0 where
  pub low : ℕ
  pub high : ℕ
  pub of_first : IsVolts first low
  pub of_last : IsVolts last high
  pub order : low ≤ high

pub two_of : (first last : List ℕ) (v : ℕ) → IsVoltage (first ∷ last ∷ []) v → AreTwo first last v
two_of first last v (two f l low high h k up) = record { low = low; high = high; of_first = h; of_last = k; order = up }

pub two_fall : (first last : List ℕ) (low high : ℕ) → IsVolts first low → IsVolts last high → high < low → (v : ℕ) → IsVoltage (first ∷ last ∷ []) v → ⊥
two_fall first last low high h k falls v volt =
    let p = two_of first last v volt in
    let a : p.low ≡ low = one_volts first p.low low p.of_first h in
    let b : p.high ≡ high = one_volts last p.high high p.of_last k in
    let up : p.low ≤ p.high = p.order in
    omega arith

-- three words
pub record AreThree (first second last : List ℕ) (v : ℕ) : Type 0 where
  pub low : ℕ
  pub high : ℕ
  pub of_first : IsVolts first low
  pub of_second : IsVolts second v
  pub of_last : IsVolts last high
  pub order : low ≤ high

pub three_of : (first second last : List ℕ) (v : ℕ) → IsVoltage (first ∷ second ∷ last ∷ []) v → AreThree first second last v
three_of first second last v (three f s l low u high h m k up) =
    record { low = low; high = high; of_first = h; of_second = m; of_last = k; order = up }

pub three_fall : (first second last : List ℕ) (low high : ℕ) → IsVolts first low → IsVolts last high → high < low → (v : ℕ)
    → IsVoltage (first ∷ second ∷ last ∷ []) v → ⊥
three_fall first second last low high h k falls v volt =
    let p = three_of first second last v volt in
    let a : p.low ≡ low = one_volts first p.low low p.of_first h in
    let b : p.high ≡ high = one_volts last p.high high p.of_last k in
    let up : p.low ≤ p.high = p.order in
    omega arith

-- no voltage where one of the words is none
pub none_of : (A : ℕ → Type 0) (r : Option ℕ) → r ≡ None → ((v : ℕ) → ¬ A v) → MatchOption r ((v : ℕ) → ¬ A v) A
none_of A None e h = h
none_of A (Some v) e h = absurd (not_none v e)
  where
    not_none : (v : ℕ) → Some v ≡ None → ⊥
    not_none v e = cc

no_fourth : (a b c d : List ℕ) (more : List (List ℕ)) (v : ℕ) → IsVoltage (a ∷ b ∷ c ∷ d ∷ more) v → ⊥
no_fourth a b c d more v h = elim h [ ]

no_none : (v : ℕ) → IsVoltage [] v → ⊥
no_none v h = elim h [ ]

-- words with commas
not_comma : (bytes : List ℕ) (xs ys : List Token) → word bytes ∷ xs ≡ comma ∷ ys → ⊥
not_comma bytes xs ys e = cc

not_brace : (bytes : List ℕ) (xs ys : List Token) → word bytes ∷ xs ≡ unbrace ∷ ys → ⊥
not_brace bytes xs ys e = cc

comma_not_brace : (xs ys : List Token) → comma ∷ xs ≡ unbrace ∷ ys → ⊥
comma_not_brace xs ys e = cc

pub word_listed : (text bytes left : List ℕ) → BeginsNot text comma → Begins text (word bytes) left → Reads IsListed text bytes left
word_listed text bytes left n b =
    record {
      shorter = b.shorter;
      on = λ more h. (word bytes ∷ more, b.on more h, plain_word bytes more);
      only = λ tokens y more h k. listed_only tokens y more h k;
    }
  where
    same_word : (y : List ℕ) (more rest : List Token) → word y ∷ more ≡ word bytes ∷ rest → HasTokens left rest → (y ≡ bytes) × HasTokens left more
    same_word y more rest e h = let ends : more ≡ rest = cc in (cc, subst (λ (ts : List Token). HasTokens left ts) (sym ends) h)

    listed_only : (tokens : List Token) (y : List ℕ) (more : List Token) → HasTokens text tokens → IsListed tokens y more → (y ≡ bytes) × HasTokens left more
    listed_only tokens y more h (plain_word t l) = let p = b.back (word t ∷ l) h in same_word t l p.0 p.1 p.2
    listed_only tokens y more h (behind_comma t l) = absurd (n (word t ∷ l) h)

pub comma_listed : (text mid bytes left : List ℕ) → Begins text comma mid → Begins mid (word bytes) left → Reads IsListed text bytes left
comma_listed text mid bytes left b w =
    record {
      shorter = (let near : length mid < length text = b.shorter in let far : length left < length mid = w.shorter in omega arith);
      on = λ more h. (comma ∷ word bytes ∷ more, b.on (word bytes ∷ more) (w.on more h), behind_comma bytes more);
      only = λ tokens y more h k. listed_only tokens y more h k;
    }
  where
    same_word : (y : List ℕ) (more rest : List Token) → word y ∷ more ≡ word bytes ∷ rest → HasTokens left rest → (y ≡ bytes) × HasTokens left more
    same_word y more rest e h = let ends : more ≡ rest = cc in (cc, subst (λ (ts : List Token). HasTokens left ts) (sym ends) h)

    comma_first : (y : List ℕ) (more rest : List Token) → comma ∷ word y ∷ more ≡ comma ∷ rest → HasTokens mid rest → (y ≡ bytes) × HasTokens left more
    comma_first y more rest e h =
        let behind : word y ∷ more ≡ rest = cc in
        let p = w.back (word y ∷ more) (subst (λ (ts : List Token). HasTokens mid ts) (sym behind) h) in
        same_word y more p.0 p.1 p.2

    listed_only : (tokens : List Token) (y : List ℕ) (more : List Token) → HasTokens text tokens → IsListed tokens y more → (y ≡ bytes) × HasTokens left more
    listed_only tokens y more h (plain_word t l) = let p = b.back (word t ∷ l) h in absurd (not_comma t l p.0 p.1)
    listed_only tokens y more h (behind_comma t l) = let p = b.back (comma ∷ word t ∷ l) h in comma_first t l p.0 p.1 p.2

no_word_there : (text : List ℕ) → BeginsNot text comma → BeginsWithNoWord text → (tokens : List Token) (y : List ℕ) (more : List Token) → HasTokens text tokens
    → IsListed tokens y more → ⊥
no_word_there text n w tokens y more h (plain_word t l) = w t l h
no_word_there text n w tokens y more h (behind_comma t l) = n (word t ∷ l) h

pub no_listed : (text : List ℕ) → BeginsNot text comma → BeginsWithNoWord text → Lacks IsListed text
no_listed text n w tokens y more h k = no_word_there text n w tokens y more h k

no_word_after : (text mid : List ℕ) → Begins text comma mid → BeginsWithNoWord mid → (tokens : List Token) (y : List ℕ) (more : List Token) → HasTokens text tokens
    → IsListed tokens y more → ⊥
no_word_after text mid b w tokens y more h (plain_word t l) = let p = b.back (word t ∷ l) h in not_comma t l p.0 p.1
no_word_after text mid b w tokens y more h (behind_comma t l) =
    let p = b.back (comma ∷ word t ∷ l) h in
    let behind : word t ∷ l ≡ p.0 = cc in
    w t l (subst (λ (ts : List Token). HasTokens mid ts) (sym behind) p.2)

pub no_listed_after : (text mid : List ℕ) → Begins text comma mid → BeginsWithNoWord mid → Lacks IsListed text
no_listed_after text mid b w tokens y more h k = no_word_after text mid b w tokens y more h k

-- what voltage words begin with
pub data WordsGo : List Token → List (List ℕ) → List Token → Type 0 where
  ends : (left : List Token) → WordsGo (unbrace ∷ left) [] left
  goes : (tokens rest left : List Token) (text : List ℕ) (words : List (List ℕ)) → IsListed tokens text rest → AreVoltageWords rest words left
      → WordsGo tokens (text ∷ words) left

words_go : (tokens left : List Token) (words : List (List ℕ)) → AreVoltageWords tokens words left → WordsGo tokens words left
words_go tokens left words (closes l) = ends l
words_go tokens left words (plain t r l ws h) = goes (word t ∷ r) r l t ws (plain_word t r) h
words_go tokens left words (listed t r l ws h) = goes (comma ∷ word t ∷ r) r l t ws (behind_comma t r) h

listed_front : (tokens rest left : List Token) (text : List ℕ) (words : List (List ℕ)) → IsListed tokens text rest → AreVoltageWords rest words left
    → AreVoltageWords tokens (text ∷ words) left
listed_front tokens rest left text words (plain_word t l) h = plain t l left words h
listed_front tokens rest left text words (behind_comma t l) h = listed t l left words h

-- the closing brace
closed_only : (front : List (List ℕ)) (text left : List ℕ) (v : ℕ) → Begins text unbrace left → IsVoltage front v → (tokens : List Token) (y : ℕ)
    (more : List Token) (words : List (List ℕ)) → HasTokens text tokens → IsVoltage (front ++ words) y → WordsGo tokens words more → (y ≡ v) × HasTokens left more
closed_only front text left v b volt tokens y more words h k (ends l) =
    let p = b.back (unbrace ∷ l) h in
    let same : l ≡ p.0 = cc in
    (one_voltage front y v (subst (λ ws. IsVoltage ws y) (append-nil front) k) volt, subst (λ (ts : List Token). HasTokens left ts) (sym same) p.2)
closed_only front text left v b volt tokens y more words h k (goes ts r l t ws i a) = absurd (no_listed_brace text left ts r t b h i)
  where
    no_listed_brace : (text left : List ℕ) (tokens rest : List Token) (bytes : List ℕ) → Begins text unbrace left → HasTokens text tokens
        → IsListed tokens bytes rest → ⊥
    no_listed_brace text left tokens rest bytes b h (plain_word t l) = let p = b.back (word t ∷ l) h in not_brace t l p.0 p.1
    no_listed_brace text left tokens rest bytes b h (behind_comma t l) = let p = b.back (comma ∷ word t ∷ l) h in comma_not_brace (word t ∷ l) p.0 p.1

pub closed_reads : (front : List (List ℕ)) (text left : List ℕ) (v : ℕ) → Begins text unbrace left → IsVoltage front v → Reads (AreVolts front) text v left
closed_reads front text left v b volt =
    record {
      shorter = b.shorter;
      on = λ more h. (
        unbrace ∷ more,
        b.on more h,
        record { words = []; behind = closes more; means = subst (λ ws. IsVoltage ws v) (sym (append-nil front)) volt },
      );
      only = λ tokens y more h k. closed_only front text left v b volt tokens y more k.words h k.means (words_go tokens more k.words k.behind);
    }

closed_never : (front : List (List ℕ)) (text left : List ℕ) → Begins text unbrace left → ((v : ℕ) → ¬ IsVoltage front v) → (tokens : List Token) (y : ℕ)
    (more : List Token) (words : List (List ℕ)) → HasTokens text tokens → IsVoltage (front ++ words) y → WordsGo tokens words more → ⊥
closed_never front text left b never tokens y more words h k (ends l) = never y (subst (λ ws. IsVoltage ws y) (append-nil front) k)
closed_never front text left b never tokens y more words h k (goes ts r l t ws i a) = no_listed_here ts r t h i
  where
    no_listed_here : (tokens rest : List Token) (bytes : List ℕ) → HasTokens text tokens → IsListed tokens bytes rest → ⊥
    no_listed_here tokens rest bytes h (plain_word t l) = let p = b.back (word t ∷ l) h in not_brace t l p.0 p.1
    no_listed_here tokens rest bytes h (behind_comma t l) = let p = b.back (comma ∷ word t ∷ l) h in comma_not_brace (word t ∷ l) p.0 p.1

pub closed_lacks : (front : List (List ℕ)) (text left : List ℕ) → Begins text unbrace left → ((v : ℕ) → ¬ IsVoltage front v) → Lacks (AreVolts front) text
closed_lacks front text left b never tokens y more h k = closed_never front text left b never tokens y more k.words h k.means (words_go tokens more k.words k.behind)

-- A closing brace here ends no voltage: there is none, or no voltage is of the words in front.
abbrev pub IsOpen : List (List ℕ) → List ℕ → Type 0
IsOpen front text = (left : List Token) (v : ℕ) → HasTokens text (unbrace ∷ left) → ¬ IsVoltage (front ++ []) v

pub open_here : (front : List (List ℕ)) (text : List ℕ) → BeginsNot text unbrace → IsOpen front text
open_here front text n left v h k = n left h

pub open_at_first : (text : List ℕ) → IsOpen [] text
open_at_first text left v h k = no_none v k

-- one more word
module _ (front : List (List ℕ)) (text : List ℕ) (is_open : IsOpen front text) where
  further_only : (bytes mid left : List ℕ) (v : ℕ) → Reads IsListed text bytes mid → Reads (AreVolts (front ++ bytes ∷ [])) mid v left
      → (tokens : List Token) (y : ℕ) (more : List Token) (words : List (List ℕ)) → HasTokens text tokens → IsVoltage (front ++ words) y
      → WordsGo tokens words more → (y ≡ v) × HasTokens left more
  further_only bytes mid left v r s tokens y more words h k (ends l) = absurd (is_open l y h k)
  further_only bytes mid left v r s tokens y more words h k (goes ts rest l t ws i a) =
      let p = r.only ts t rest h i in
      let same : front ++ (t ∷ ws) ≡ (front ++ bytes ∷ []) ++ ws = ap (λ (b : List ℕ). front ++ (b ∷ ws)) p.0 ∙ sym (append_assoc front (bytes ∷ []) ws) in
      s.only rest y l p.1 (record { words = ws; behind = a; means = subst (λ us. IsVoltage us y) same k })

  pub further_reads : (bytes mid left : List ℕ) (v : ℕ) → Reads IsListed text bytes mid → Reads (AreVolts (front ++ bytes ∷ [])) mid v left
      → Reads (AreVolts front) text v left
  further_reads bytes mid left v r s =
      record {
        shorter = (let near : length mid < length text = r.shorter in let far : length left < length mid = s.shorter in omega arith);
        on = λ more h.
            let p = s.on more h in
            let q = r.on p.0 p.1 in (
              q.0,
              q.1,
              record {
                words = bytes ∷ p.2.words;
                behind = listed_front q.0 p.0 more bytes p.2.words q.2 p.2.behind;
                means = subst (λ ws. IsVoltage ws v) (append_assoc front (bytes ∷ []) p.2.words) p.2.means;
              },
            );
        only = λ tokens y more h k. further_only bytes mid left v r s tokens y more k.words h k.means (words_go tokens more k.words k.behind);
      }

  further_never : (bytes mid : List ℕ) → Reads IsListed text bytes mid → Lacks (AreVolts (front ++ bytes ∷ [])) mid → (tokens : List Token) (y : ℕ)
      (more : List Token) (words : List (List ℕ)) → HasTokens text tokens → IsVoltage (front ++ words) y → WordsGo tokens words more → ⊥
  further_never bytes mid r s tokens y more words h k (ends l) = is_open l y h k
  further_never bytes mid r s tokens y more words h k (goes ts rest l t ws i a) =
      let p = r.only ts t rest h i in
      let same : front ++ (t ∷ ws) ≡ (front ++ bytes ∷ []) ++ ws = ap (λ (b : List ℕ). front ++ (b ∷ ws)) p.0 ∙ sym (append_assoc front (bytes ∷ []) ws) in
      s rest y l p.1 (record { words = ws; behind = a; means = subst (λ us. IsVoltage us y) same k })

  pub further_lacks : (bytes mid : List ℕ) → Reads IsListed text bytes mid → Lacks (AreVolts (front ++ bytes ∷ [])) mid → Lacks (AreVolts front) text
  further_lacks bytes mid r s tokens y more h k = further_never bytes mid r s tokens y more k.words h k.means (words_go tokens more k.words k.behind)

  -- no word
  no_word_never : Lacks IsListed text → (tokens : List Token) (y : ℕ) (more : List Token) (words : List (List ℕ)) → HasTokens text tokens
      → IsVoltage (front ++ words) y → WordsGo tokens words more → ⊥
  no_word_never s tokens y more words h k (ends l) = is_open l y h k
  no_word_never s tokens y more words h k (goes ts rest l t ws i a) = s ts t rest h i

  pub no_word_lacks : Lacks IsListed text → Lacks (AreVolts front) text
  no_word_lacks s tokens y more h k = no_word_never s tokens y more k.words h k.means (words_go tokens more k.words k.behind)

-- a fourth word
fourth_never : (a b c : List ℕ) (text : List ℕ) → BeginsNot text unbrace → (tokens : List Token) (y : ℕ) (more : List Token) (words : List (List ℕ))
    → HasTokens text tokens → IsVoltage (a ∷ b ∷ c ∷ words) y → WordsGo tokens words more → ⊥
fourth_never a b c text n tokens y more words h k (ends l) = n l h
fourth_never a b c text n tokens y more words h k (goes ts rest l t ws i e) = no_fourth a b c t ws y k

pub fourth_lacks : (a b c : List ℕ) (text : List ℕ) → BeginsNot text unbrace → Lacks (AreVolts (a ∷ b ∷ c ∷ [])) text
fourth_lacks a b c text n tokens y more h k = fourth_never a b c text n tokens y more k.words h k.means (words_go tokens more k.words k.behind)

-- a further word, with or without a comma before it
pub listed_here : (text : List ℕ) (r : Option (Bor (List ℕ) × Bor (List ℕ))) → BeginsNot text comma
    → MatchOption r (BeginsWithNoWord text) (λ p. Begins text (word p.0.now) p.1.now)
    → MatchOption r (Lacks IsListed text) (λ p. Reads IsListed text p.0.now p.1.now)
listed_here text None n h = no_listed text n h
listed_here text (Some p) n h = word_listed text p.0.now p.1.now n h

pub listed_behind : (text mid : List ℕ) (r : Option (Bor (List ℕ) × Bor (List ℕ))) → Begins text comma mid
    → MatchOption r (BeginsWithNoWord mid) (λ p. Begins mid (word p.0.now) p.1.now)
    → MatchOption r (Lacks IsListed text) (λ p. Reads IsListed text p.0.now p.1.now)
listed_behind text mid None b h = no_listed_after text mid b h
listed_behind text mid (Some p) b h = comma_listed text mid p.0.now p.1.now b h
