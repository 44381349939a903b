-- Comparisons, from their words.
use Rattle.std.proofs.Common.{◌≡◌, ℕ, Bool, true, false, List, [], ◌∷◌, codes, refl, sym, ◌∙◌, ap, subst}
use Rattle.std.specs.Str.{bytes_eq}
use Rattle.std.proofs.lemmas.Bool.{false≢true}
use Rattle.std.proofs.lemmas.Slice.Eq.{bytes_eq-Decides}
use Rattle.pw_defs.specs.declared.terms.Term.{Term}
use Rattle.pw_defs.specs.declared.terms.Term.TheVariants.{Is, Volt, On}
use Rattle.pw_defs.specs.declared.values.Value.TheVariants.{Off as OffValue, On as OnValue}
use Rattle.power_states.specs.ExpressionWords.{Token, word, same, differs, brace, quote, HasTokens}
use Rattle.power_states.specs.Expressions.{Language, supply, logic, IsSupplyValue, off as off_value, on as on_value, at, quoted, IsFunction, of_power, of_ground, IsComparison, in_state, not_in_state, has, has_not}
use Rattle.state_terms.specs.Readings.{Begins, BeginsNot, Reads, Lacks, Behind}
use Rattle.state_terms.specs.Marks.{BeginsWithNoWord}
use Rattle.state_terms.specs.Parts.{AreVolts, IsLiteral, full_on, IsQuoted, bare, behind_quote, IsLevel, off, on, IsSide, a_state, a_value, sign_of, signed}
use Rattle.state_terms.proofs.Combining.{IsMade, behind_reads, behind_lacks, made_reads, made_lacks}

same_words : (a b : List ℕ) (xs ys : List Token) → word a ∷ xs ≡ word b ∷ ys → (a ≡ b) × (xs ≡ ys)
same_words a b xs ys e = (cc, cc)

-- literals
literal_made : IsMade (AreVolts []) (λ (v : ℕ). v) (Behind (word (codes "FULL_ON")) (Behind brace IsLiteral))
literal_made =
    record {
      build = λ tokens v more h. full_on tokens more v h;
      invert = λ tokens v more h. literal_invert tokens v more h;
    }
  where
    literal_invert : (tokens : List Token) (v : ℕ) (more : List Token) → IsLiteral (brace ∷ word (codes "FULL_ON") ∷ tokens) v more
        → (w : ℕ) × AreVolts [] tokens w more × (v ≡ w)
    literal_invert tokens v more (full_on t l u h) = (u, h, refl)

pub literal_reads : (text mid on_word far left : List ℕ) (v : ℕ) → Begins text brace mid → Begins mid (word on_word) far → on_word ≡ codes "FULL_ON"
    → Reads (AreVolts []) far v left → Reads IsLiteral text v left
literal_reads text mid on_word far left v b w e r =
    behind_reads IsLiteral brace text mid left v b
    (
    behind_reads (Behind brace IsLiteral) (word (codes "FULL_ON")) mid far left v (subst (λ (bytes : List ℕ). Begins mid (word bytes) far) e w)
    (made_reads (AreVolts []) (λ (u : ℕ). u) (Behind (word (codes "FULL_ON")) (Behind brace IsLiteral)) far left v literal_made r)
    )

pub literal_lacks : (text mid on_word far : List ℕ) → Begins text brace mid → Begins mid (word on_word) far → on_word ≡ codes "FULL_ON" → Lacks (AreVolts []) far
    → Lacks IsLiteral text
literal_lacks text mid on_word far b w e l =
    behind_lacks IsLiteral brace text mid b
    (
    behind_lacks (Behind brace IsLiteral) (word (codes "FULL_ON")) mid far (subst (λ (bytes : List ℕ). Begins mid (word bytes) far) e w)
    (made_lacks (AreVolts []) (λ (u : ℕ). u) (Behind (word (codes "FULL_ON")) (Behind brace IsLiteral)) far literal_made l)
    )

brace_first : (tokens : List Token) (v : ℕ) (more : List Token) → IsLiteral tokens v more
    → (rest : List Token) × (tokens ≡ brace ∷ word (codes "FULL_ON") ∷ rest)
brace_first tokens v more (full_on t l u h) = (t, refl)

pub no_literal : (text : List ℕ) → BeginsNot text brace → Lacks IsLiteral text
no_literal text n tokens v more h k =
    let p = brace_first tokens v more k in
    n (word (codes "FULL_ON") ∷ p.0) (subst (λ (ts : List Token). HasTokens text ts) p.1 h)

full_on_first : (text mid : List ℕ) → Begins text brace mid → (tokens : List Token) (v : ℕ) (more : List Token) → HasTokens text tokens → IsLiteral tokens v more
    → (rest : List Token) × HasTokens mid (word (codes "FULL_ON") ∷ rest)
full_on_first text mid b tokens v more h (full_on t l u k) =
    let p = b.back (brace ∷ word (codes "FULL_ON") ∷ t) h in
    let behind : word (codes "FULL_ON") ∷ t ≡ p.0 = cc in
    (t, subst (λ (ts : List Token). HasTokens mid ts) (sym behind) p.2)

pub no_word_literal : (text mid : List ℕ) → Begins text brace mid → BeginsWithNoWord mid → Lacks IsLiteral text
no_word_literal text mid b n tokens v more h k = let p = full_on_first text mid b tokens v more h k in n (codes "FULL_ON") p.0 p.1

pub other_word_literal : (text mid other far : List ℕ) → Begins text brace mid → Begins mid (word other) far → (other ≡ codes "FULL_ON" → ⊥) → Lacks IsLiteral text
other_word_literal text mid other far b w apart tokens v more h k =
    let p = full_on_first text mid b tokens v more h k in
    let q = w.back (word (codes "FULL_ON") ∷ p.0) p.1 in
    apart (sym (same_words (codes "FULL_ON") other p.0 q.0 q.1).0)

-- back quotes
bare_invert : (text : List ℕ) → BeginsNot text quote → (tokens : List Token) (v : ℕ) (more : List Token) → HasTokens text tokens → IsQuoted tokens v more
    → IsLiteral tokens v more
bare_invert text n tokens v more h (bare t l u k) = k
bare_invert text n tokens v more h (behind_quote t l u k) = absurd (n t h)

pub bare_reads : (text left : List ℕ) (v : ℕ) → BeginsNot text quote → Reads IsLiteral text v left → Reads IsQuoted text v left
bare_reads text left v n r =
    record {
      shorter = r.shorter;
      on = λ more h. let p = r.on more h in (p.0, p.1, bare p.0 more v p.2);
      only = λ tokens y more h k. r.only tokens y more h (bare_invert text n tokens y more h k);
    }

pub bare_lacks : (text : List ℕ) → BeginsNot text quote → Lacks IsLiteral text → Lacks IsQuoted text
bare_lacks text n l tokens y more h k = l tokens y more h (bare_invert text n tokens y more h k)

no_quote_literal : (tokens : List Token) (v : ℕ) (more : List Token) → IsLiteral (quote ∷ tokens) v more → ⊥
no_quote_literal tokens v more h = elim h [ ]

quoted_made : IsMade IsLiteral (λ (v : ℕ). v) (Behind quote IsQuoted)
quoted_made = record { build = λ tokens v more h. behind_quote tokens more v h; invert = λ tokens v more h. quoted_invert tokens v more h }
  where
    quoted_invert : (tokens : List Token) (v : ℕ) (more : List Token) → IsQuoted (quote ∷ tokens) v more → (w : ℕ) × IsLiteral tokens w more × (v ≡ w)
    quoted_invert tokens v more (bare t l u k) = absurd (no_quote_literal tokens u l k)
    quoted_invert tokens v more (behind_quote t l u k) = (u, k, refl)

pub quoted_reads : (text mid left : List ℕ) (v : ℕ) → Begins text quote mid → Reads IsLiteral mid v left → Reads IsQuoted text v left
quoted_reads text mid left v b r =
    behind_reads IsQuoted quote text mid left v b (made_reads IsLiteral (λ (u : ℕ). u) (Behind quote IsQuoted) mid left v quoted_made r)

pub quoted_lacks : (text mid : List ℕ) → Begins text quote mid → Lacks IsLiteral mid → Lacks IsQuoted text
quoted_lacks text mid b l = behind_lacks IsQuoted quote text mid b (made_lacks IsLiteral (λ (u : ℕ). u) (Behind quote IsQuoted) mid quoted_made l)

-- what a function has
volt_build : (power : Bool) (tokens : List Token) (v : ℕ) (more : List Token) → IsQuoted tokens v more → IsSupplyValue power tokens (Volt power (OnValue v)) more
volt_build power tokens v more (bare t l u (full_on r m w k)) = at r m k.words w k.behind k.means
volt_build power tokens v more (behind_quote t l u (full_on r m w k)) = quoted r m k.words w k.behind k.means

volt_invert : (power : Bool) (text : List ℕ) → BeginsWithNoWord text → (tokens : List Token) (y : Term) (more : List Token) → HasTokens text tokens
    → IsSupplyValue power tokens y more → (v : ℕ) × IsQuoted tokens v more × (y ≡ Volt power (OnValue v))
volt_invert power text n tokens y more h (off_value l) = absurd (n (codes "OFF") l h)
volt_invert power text n tokens y more h (on_value l) = absurd (n (codes "FULL_ON") l h)
volt_invert power text n tokens y more h (at r l ws v k i) =
    (v, bare tokens l v (full_on r l v (record { words = ws; behind = k; means = i })), refl)
volt_invert power text n tokens y more h (quoted r l ws v k i) =
    (v, behind_quote (brace ∷ word (codes "FULL_ON") ∷ r) l v (full_on r l v (record { words = ws; behind = k; means = i })), refl)

pub volt_reads : (power : Bool) (text left : List ℕ) (v : ℕ) → BeginsWithNoWord text → Reads IsQuoted text v left
    → Reads (IsSupplyValue power) text (Volt power (OnValue v)) left
volt_reads power text left v n r =
    record {
      shorter = r.shorter;
      on = λ more h. let p = r.on more h in (p.0, p.1, volt_build power p.0 v more p.2);
      only = λ tokens y more h k.
          let p = volt_invert power text n tokens y more h k in
          let q = r.only tokens p.0 more h p.1 in
          (p.2 ∙ ap (λ (u : ℕ). Volt power (OnValue u)) q.0, q.1);
    }

pub volt_lacks : (power : Bool) (text : List ℕ) → BeginsWithNoWord text → Lacks IsQuoted text → Lacks (IsSupplyValue power) text
volt_lacks power text n l tokens y more h k = let p = volt_invert power text n tokens y more h k in l tokens p.0 more h p.1

level_build : (power : Bool) (bytes : List ℕ) (term : Term) (more : List Token) → IsLevel power bytes term → IsSupplyValue power (word bytes ∷ more) term more
level_build power bytes term more off = off_value more
level_build power bytes term more on = on_value more

level_invert : (power : Bool) (bytes : List ℕ) (term : Term) (tokens more : List Token) → IsSupplyValue power (word bytes ∷ tokens) term more
    → IsLevel power bytes term × (tokens ≡ more)
level_invert power bytes term tokens more (off_value l) = (off, refl)
level_invert power bytes term tokens more (on_value l) = (on, refl)

one_level : (power : Bool) (bytes : List ℕ) (t u : Term) → IsLevel power bytes t → IsLevel power bytes u → t ≡ u
one_level power bytes t u off off = refl
one_level power bytes t u on on = refl

pub level_reads : (power : Bool) (text bytes left : List ℕ) (term : Term) → Begins text (word bytes) left → IsLevel power bytes term
    → Reads (IsSupplyValue power) text term left
level_reads power text bytes left term b level =
    record {
      shorter = b.shorter;
      on = λ more h. (word bytes ∷ more, b.on more h, level_build power bytes term more level);
      only = λ tokens y more h k.
          let p = b.back tokens h in
          let q = level_invert power bytes y p.0 more (subst (λ (ts : List Token). IsSupplyValue power ts y more) p.1 k) in
          (one_level power bytes y term q.0 level, subst (λ (ts : List Token). HasTokens left ts) q.1 p.2);
    }

pub level_lacks : (power : Bool) (text bytes left : List ℕ) → Begins text (word bytes) left → ((term : Term) → ¬ IsLevel power bytes term)
    → Lacks (IsSupplyValue power) text
level_lacks power text bytes left b n tokens y more h k =
    let p = b.back tokens h in
    let q = level_invert power bytes y p.0 more (subst (λ (ts : List Token). IsSupplyValue power ts y more) p.1 k) in
    n y q.0

-- which words they are
pub no_level : (power : Bool) (bytes : List ℕ) → (bytes ≡ codes "OFF" → ⊥) → (bytes ≡ codes "FULL_ON" → ⊥) → (term : Term) → IsLevel power bytes term → ⊥
no_level power bytes n m term off = n refl
no_level power bytes n m term on = m refl

pub level_off : (power : Bool) (bytes : List ℕ) → bytes ≡ codes "OFF" → IsLevel power bytes (Volt power OffValue)
level_off power bytes e = subst (λ (t : List ℕ). IsLevel power t (Volt power OffValue)) (sym e) off

pub level_on : (power : Bool) (bytes : List ℕ) → bytes ≡ codes "FULL_ON" → IsLevel power bytes (On power)
level_on power bytes e = subst (λ (t : List ℕ). IsLevel power t (On power)) (sym e) on

pub no_function : (bytes : List ℕ) → (bytes ≡ codes "power" → ⊥) → (bytes ≡ codes "ground" → ⊥) → (power : Bool) → IsFunction bytes power → ⊥
no_function bytes n m power of_power = n refl
no_function bytes n m power of_ground = m refl

pub names_power : (bytes : List ℕ) → bytes ≡ codes "power" → IsFunction bytes true
names_power bytes e = subst (λ (t : List ℕ). IsFunction t true) (sym e) of_power

pub names_ground : (bytes : List ℕ) → bytes ≡ codes "ground" → IsFunction bytes false
names_ground bytes e = subst (λ (t : List ℕ). IsFunction t false) (sym e) of_ground

-- what a word is compared with
one_function : (bytes : List ℕ) (p q : Bool) → IsFunction bytes p → IsFunction bytes q → p ≡ q
one_function bytes p q of_power of_power = refl
one_function bytes p q of_ground of_ground = refl

pub state_reads : (object text state left : List ℕ) → Begins text (word state) left → Reads (IsSide logic object) text (Is object state) left
state_reads object text state left b =
    record {
      shorter = b.shorter;
      on = λ more h. (word state ∷ more, b.on more h, a_state object state more);
      only = λ tokens y more h k. state_only tokens y more h k;
    }
  where
    state_only : (tokens : List Token) (y : Term) (more : List Token) → HasTokens text tokens → IsSide logic object tokens y more
        → (y ≡ Is object state) × HasTokens left more
    state_only tokens y more h (a_state o s l) =
        let p = b.back (word s ∷ l) h in
        let q = same_words s state l p.0 p.1 in
        (ap (λ (t : List ℕ). Is object t) q.0, subst (λ (ts : List Token). HasTokens left ts) (sym q.1) p.2)

pub state_lacks : (object text : List ℕ) → BeginsWithNoWord text → Lacks (IsSide logic object) text
state_lacks object text n tokens y more h k = state_never tokens y more h k
  where
    state_never : (tokens : List Token) (y : Term) (more : List Token) → HasTokens text tokens → IsSide logic object tokens y more → ⊥
    state_never tokens y more h (a_state o s l) = n s l h

value_made : (subject : List ℕ) (power : Bool) → IsFunction subject power → IsMade (IsSupplyValue power) (λ (t : Term). t) (IsSide supply subject)
value_made subject power f =
    record { build = λ tokens t more h. a_value subject power tokens more t f h; invert = λ tokens t more h. side_invert tokens t more h }
  where
    side_invert : (tokens : List Token) (y : Term) (more : List Token) → IsSide supply subject tokens y more
        → (t : Term) × IsSupplyValue power tokens t more × (y ≡ t)
    side_invert tokens y more (a_value s p r l t g h) =
        (t, subst (λ (q : Bool). IsSupplyValue q tokens t more) (one_function subject p power g f) h, refl)

pub value_reads : (subject : List ℕ) (power : Bool) (text left : List ℕ) (term : Term) → IsFunction subject power → Reads (IsSupplyValue power) text term left
    → Reads (IsSide supply subject) text term left
value_reads subject power text left term f r =
    made_reads (IsSupplyValue power) (λ (t : Term). t) (IsSide supply subject) text left term (value_made subject power f) r

pub value_lacks : (subject : List ℕ) (power : Bool) (text : List ℕ) → IsFunction subject power → Lacks (IsSupplyValue power) text → Lacks (IsSide supply subject) text
value_lacks subject power text f l = made_lacks (IsSupplyValue power) (λ (t : Term). t) (IsSide supply subject) text (value_made subject power f) l

pub function_lacks : (subject text : List ℕ) → ((power : Bool) → ¬ IsFunction subject power) → Lacks (IsSide supply subject) text
function_lacks subject text n tokens y more h k = function_never tokens y more k
  where
    function_never : (tokens : List Token) (y : Term) (more : List Token) → IsSide supply subject tokens y more → ⊥
    function_never tokens y more (a_value s p r l t g v) = n p g

-- both sides
compared_build : (language : Language) (subject : List ℕ) (is_same : Bool) (tokens : List Token) (t : Term) (more : List Token) → IsSide language subject tokens t more
    → IsComparison language (word subject ∷ sign_of is_same ∷ tokens) (signed is_same t) more
compared_build language subject true tokens t more (a_state o s l) = in_state o s l
compared_build language subject false tokens t more (a_state o s l) = not_in_state o s l
compared_build language subject true tokens t more (a_value f p r l u g v) = has f p r l u g v
compared_build language subject false tokens t more (a_value f p r l u g v) = has_not f p r l u g v

compared_invert : (language : Language) (subject : List ℕ) (is_same : Bool) (tokens : List Token) (y : Term) (more : List Token)
    → IsComparison language (word subject ∷ sign_of is_same ∷ tokens) y more
    → (t : Term) × IsSide language subject tokens t more × (y ≡ signed is_same t)
compared_invert language subject true tokens y more (in_state o s l) = (Is o s, a_state o s l, refl)
compared_invert language subject true tokens y more (has f p r l u g v) = (u, a_value f p r l u g v, refl)
compared_invert language subject false tokens y more (not_in_state o s l) = (Is o s, a_state o s l, refl)
compared_invert language subject false tokens y more (has_not f p r l u g v) = (u, a_value f p r l u g v, refl)

compared_made : (language : Language) (subject : List ℕ) (is_same : Bool)
    → IsMade (IsSide language subject) (signed is_same) (Behind (sign_of is_same) (Behind (word subject) (IsComparison language)))
compared_made language subject is_same = record { build = compared_build language subject is_same; invert = compared_invert language subject is_same }

pub compared_reads : (language : Language) (subject : List ℕ) (is_same : Bool) (text mid far left : List ℕ) (term : Term) → Begins text (word subject) mid → Begins mid (sign_of is_same) far
    → Reads (IsSide language subject) far term left → Reads (IsComparison language) text (signed is_same term) left
compared_reads language subject is_same text mid far left term b s r =
    behind_reads (IsComparison language) (word subject) text mid left (signed is_same term) b
    (
    behind_reads (Behind (word subject) (IsComparison language)) (sign_of is_same) mid far left (signed is_same term) s
    (
    made_reads (IsSide language subject) (signed is_same) (Behind (sign_of is_same) (Behind (word subject) (IsComparison language))) far left term
    (compared_made language subject is_same) r
    )
    )

pub compared_lacks : (language : Language) (subject : List ℕ) (is_same : Bool) (text mid far : List ℕ) → Begins text (word subject) mid → Begins mid (sign_of is_same) far
    → Lacks (IsSide language subject) far → Lacks (IsComparison language) text
compared_lacks language subject is_same text mid far b s l =
    behind_lacks (IsComparison language) (word subject) text mid b
    (
    behind_lacks (Behind (word subject) (IsComparison language)) (sign_of is_same) mid far s
    (
    made_lacks (IsSide language subject) (signed is_same) (Behind (sign_of is_same) (Behind (word subject) (IsComparison language))) far
    (compared_made language subject is_same) l
    )
    )

sign_never : (language : Language) (subject : List ℕ) (mid : List ℕ) → BeginsNot mid same → BeginsNot mid differs → (tokens : List Token) (y : Term) (more : List Token) →
    HasTokens mid tokens
    → IsComparison language (word subject ∷ tokens) y more → ⊥
sign_never language subject mid n m tokens y more h (in_state o s l) = n (word s ∷ l) h
sign_never language subject mid n m tokens y more h (not_in_state o s l) = m (word s ∷ l) h
sign_never language subject mid n m tokens y more h (has f p r l u g v) = n r h
sign_never language subject mid n m tokens y more h (has_not f p r l u g v) = m r h

pub sign_lacks : (language : Language) (subject : List ℕ) (text mid : List ℕ) → Begins text (word subject) mid → BeginsNot mid same → BeginsNot mid differs → Lacks (IsComparison
    language) text
sign_lacks language subject text mid b n m =
    behind_lacks (IsComparison language) (word subject) text mid b (λ tokens y more h k. sign_never language subject mid n m tokens y more h k)

word_never : (language : Language) (text : List ℕ) → BeginsWithNoWord text → (tokens : List Token) (y : Term) (more : List Token) → HasTokens text tokens
    → IsComparison language tokens y more → ⊥
word_never language text n tokens y more h (in_state o s l) = n o (same ∷ word s ∷ l) h
word_never language text n tokens y more h (not_in_state o s l) = n o (differs ∷ word s ∷ l) h
word_never language text n tokens y more h (has f p r l u g v) = n f (same ∷ r) h
word_never language text n tokens y more h (has_not f p r l u g v) = n f (differs ∷ r) h

pub word_lacks : (language : Language) (text : List ℕ) → BeginsWithNoWord text → Lacks (IsComparison language) text
word_lacks language text n tokens y more h k = word_never language text n tokens y more h k

-- texts that are compared byte by byte
pub text_is : (a b : List ℕ) → bytes_eq a b ≡ true → a ≡ b
text_is a b e = (bytes_eq-Decides a b).0 e

pub text_is_not : (a b : List ℕ) → bytes_eq a b ≡ false → a ≡ b → ⊥
text_is_not a b e same_text = false≢true (sym e ∙ (bytes_eq-Decides a b).1 same_text)

-- the names of a state as they were copied
pub state_read : (object text bytes left o s : List ℕ) → o ≡ object → s ≡ bytes → Begins text (word bytes) left → Reads (IsSide logic object) text (Is o s) left
state_read object text bytes left o s e f b =
    subst (λ (n : List ℕ). Reads (IsSide logic object) text (Is n s) left) (sym e)
    (subst (λ (n : List ℕ). Reads (IsSide logic object) text (Is object n) left) (sym f) (state_reads object text bytes left b))
