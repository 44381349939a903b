-- A text has one list of words and marks.
use Rattle.std.proofs.Common.{◌≡◌, ℕ, zero, suc, Bool, true, false, not, ◌||◌, List, [], ◌∷◌, ◌++◌, ◌==◌, Option, Some, None, refl, ◌∙◌, ap, length, ◌<◌, ◌≤◌, arith}
use Rattle.std.proofs.lemmas.Bool.{false≢true}
use Rattle.std.specs.List.{list_all}
use Rattle.tcl_words.specs.Pieces.{is_white}
use Rattle.tcl_words.proofs.VariableNames.{and_first, and_second}
use Rattle.power_states.specs.ExpressionWords.{Token, word, opens, shuts, bang, both, either, same, differs, brace, unbrace, comma, quote, is_mark, is_word_byte, begins_with, HasTokens, none, white, a_word, an_opens, a_shuts, a_bang, a_differs, a_both, an_either, a_same, a_brace, an_unbrace, a_comma, a_quote}

-- the longest front of word bytes, and what is left behind it
abbrev pub word_front : List ℕ → List ℕ × List ℕ
word_front [] = ([], [])
word_front (b ∷ rest) = elim (is_word_byte b) [ true ↦ (b ∷ (word_front rest).0, (word_front rest).1) | false ↦ ([], b ∷ rest) ]

not_begun : (left : List ℕ) → begins_with is_word_byte left ≡ false → word_front left ≡ ([], left)
not_begun [] h = refl
not_begun (b ∷ rest) h = rw (h, word_front) refl

-- a word that no further byte of words follows is the longest front
pub front_is : (front left : List ℕ) → list_all is_word_byte front ≡ true → begins_with is_word_byte left ≡ false → word_front (front ++ left) ≡ (front, left)
front_is [] left each stop = not_begun left stop
front_is (b ∷ front) left each stop =
    let first : is_word_byte b ≡ true = and_first (is_word_byte b) (list_all is_word_byte front) each in
    rw (first, word_front) (ap (λ found. (b ∷ found.0, found.1)) (front_is front left (and_second (is_word_byte b) (list_all is_word_byte front) each) stop))

abbrev Found : Type 0
Found = Option (List Token)

abbrev with_token : Token → Found → Found
with_token t None = None
with_token t (Some tokens) = Some (t ∷ tokens)

-- a mark of two bytes
abbrev second : Token → ℕ → (List ℕ → Found) → List ℕ → Found
second t b later [] = None
second t b later (c ∷ rest) = elim (c == b) [ true ↦ with_token t (later rest) | false ↦ None ]

-- `!` or `!=`
abbrev read_bang : (List ℕ → Found) → List ℕ → Found
read_bang later [] = with_token bang (later [])
read_bang later (c ∷ rest) = elim (c == 61) [ true ↦ with_token differs (later rest) | false ↦ with_token bang (later (c ∷ rest)) ]

abbrev read_mark : (List ℕ → Found) → ℕ → List ℕ → Found
read_mark later b rest =
    elim (b == 40) [
      | true ↦ with_token opens (later rest)
      | false ↦
          elim (b == 41) [
            | true ↦ with_token shuts (later rest)
            | false ↦
                elim (b == 33) [
                  | true ↦ read_bang later rest
                  | false ↦
                      elim (b == 38) [
                        | true ↦ second both 38 later rest
                        | false ↦
                            elim (b == 124) [
                              | true ↦ second either 124 later rest
                              | false ↦
                                  elim (b == 61) [
                                    | true ↦ second same 61 later rest
                                    | false ↦
                                        elim (b == 123) [
                                          | true ↦ with_token brace (later rest)
                                          | false ↦
                                              elim (b == 125) [
                                                | true ↦ with_token unbrace (later rest)
                                                | false ↦
                                                    elim (b == 44) [ true ↦ with_token comma (later rest) | false ↦ with_token quote (later rest) ]
                                              ]
                                        ]
                                  ]
                            ]
                      ]
                ]
          ]
    ]

-- the words and marks of a text, with fuel for as many bytes
abbrev pub read_tokens : ℕ → List ℕ → Found
read_tokens zero text = None
read_tokens (suc n) [] = Some []
read_tokens (suc n) (b ∷ rest) =
    elim (is_white b) [
      | true ↦ read_tokens n rest
      | false ↦ elim (is_mark b)
          [ true ↦ read_mark (read_tokens n) b rest | false ↦ with_token (word (b ∷ (word_front rest).0)) (read_tokens n (word_front rest).1) ]
    ]

neither : (t u : Bool) → not (t || u) ≡ true → (t ≡ false) × (u ≡ false)
neither true u h = absurd (false≢true h)
neither false true h = absurd (false≢true h)
neither false false h = (refl, refl)

longer : (front left : List ℕ) → length left ≤ length (front ++ left)
longer [] left = omega arith
longer (b ∷ front) left = let less : length left ≤ length (front ++ left) = longer front left in omega arith

pub only_tokens : (text : List ℕ) (tokens : List Token) → HasTokens text tokens → (n : ℕ) → length text < n → read_tokens n text ≡ Some tokens
only_tokens text tokens h zero enough = absurd (omega arith)
only_tokens text tokens none (suc n) enough = refl
only_tokens text tokens (white b rest more e h) (suc n) enough = rw (e, read_tokens) (only_tokens rest more h n (omega arith))
only_tokens text tokens (a_word b front rest more each stop h) (suc n) enough =
    let plain = neither (is_white b) (is_mark b) (and_first (is_word_byte b) (list_all is_word_byte front) each) in
    let found : word_front (front ++ rest) ≡ (front, rest) = front_is front rest (and_second (is_word_byte b) (list_all is_word_byte front) each) stop in
    let less : length rest ≤ length (front ++ rest) = longer front rest in
    rw (plain.0, read_tokens, plain.1)
    (
    ap (λ (f : List ℕ × List ℕ). with_token (word (b ∷ f.0)) (read_tokens n f.1)) found
    ∙ ap (with_token (word (b ∷ front))) (only_tokens rest more h n (omega arith))
    )
only_tokens text tokens (an_opens rest more h) (suc n) enough = ap (with_token opens) (only_tokens rest more h n (omega arith))
only_tokens text tokens (a_shuts rest more h) (suc n) enough = ap (with_token shuts) (only_tokens rest more h n (omega arith))
only_tokens text tokens (a_bang [] more stop h) (suc n) enough = ap (with_token bang) (only_tokens [] more h n (omega arith))
only_tokens text tokens (a_bang (c ∷ rest) more stop h) (suc n) enough =
    rw (stop, read_bang) (ap (with_token bang) (only_tokens (c ∷ rest) more h n (omega arith)))
only_tokens text tokens (a_differs rest more h) (suc n) enough = ap (with_token differs) (only_tokens rest more h n (omega arith))
only_tokens text tokens (a_both rest more h) (suc n) enough = ap (with_token both) (only_tokens rest more h n (omega arith))
only_tokens text tokens (an_either rest more h) (suc n) enough = ap (with_token either) (only_tokens rest more h n (omega arith))
only_tokens text tokens (a_same rest more h) (suc n) enough = ap (with_token same) (only_tokens rest more h n (omega arith))
only_tokens text tokens (a_brace rest more h) (suc n) enough = ap (with_token brace) (only_tokens rest more h n (omega arith))
only_tokens text tokens (an_unbrace rest more h) (suc n) enough = ap (with_token unbrace) (only_tokens rest more h n (omega arith))
only_tokens text tokens (a_comma rest more h) (suc n) enough = ap (with_token comma) (only_tokens rest more h n (omega arith))
only_tokens text tokens (a_quote rest more h) (suc n) enough = ap (with_token quote) (only_tokens rest more h n (omega arith))

-- two readings of a text have the same words and marks
pub one_cut : (text : List ℕ) (tokens others : List Token) → HasTokens text tokens → HasTokens text others → tokens ≡ others
one_cut text tokens others h k =
    let here : read_tokens (suc (length text)) text ≡ Some tokens = only_tokens text tokens h (suc (length text)) (omega arith) in
    let there : read_tokens (suc (length text)) text ≡ Some others = only_tokens text others k (suc (length text)) (omega arith) in
    cc
