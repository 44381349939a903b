-- What is read is a phrase, and reading looks at no more than the next token behind it.
use Rattle.std.proofs.Common.{◌≡◌, Bool, true, false, List, [], ◌∷◌, ◌++◌, Option, Some, None, inl, inr, Result, Ok, Err, refl, sym, ap, ◌∙◌}
use Rattle.std.proofs.lemmas.List.{append_assoc}
use Rattle.text_defs.specs.Grammar.{Grammar, Reads, Reading, next, passes, and_then, taken_or, read_token, read}

pub record IsFound {K A : Type 0} (g : Grammar K A) (tokens : List K) (x : A) (rest : List K) : Type 0 where
  pub front : List K
  pub split : tokens ≡ front ++ rest
  pub reads : Reads g front x
  pub same : (other : List K) → next other ≡ next rest → read g (front ++ other) ≡ Ok (x, other)

-- two lists go on with one next token where what stands in front of them is the same
pub next-append : {K : Type 0} (front a b : List K) → next a ≡ next b → next (front ++ a) ≡ next (front ++ b)
next-append [] a b h = h
next-append (k ∷ front) a b h = refl

pub ok_same : {X Y : Type 0} (p q : X) → (let r : Result X Y = Ok p in r) ≡ Ok q → p ≡ q
ok_same {X} {Y} p q e = cc

pub err_same : {X Y : Type 0} (p q : Y) → (let r : Result X Y = Err p in r) ≡ Err q → p ≡ q
err_same p q e = cc

-- of two phrases by choice the one is read that the next token tells
pub read-where_yes : {K A : Type 0} (test : K → Bool) (this other : Grammar K A) (tokens : List K) → passes test (next tokens) ≡ true
    → read (Grammar.where_next test this other) tokens ≡ read this tokens
unfolding read
read-where_yes {K} {A} test this other tokens t =
    let chosen : Bool → Reading K A = λ b. elim b [ true ↦ read this tokens | false ↦ read other tokens ] in
    ap chosen t

pub read-where_no : {K A : Type 0} (test : K → Bool) (this other : Grammar K A) (tokens : List K) → passes test (next tokens) ≡ false
    → read (Grammar.where_next test this other) tokens ≡ read other tokens
unfolding read
read-where_no {K} {A} test this other tokens t =
    let chosen : Bool → Reading K A = λ b. elim b [ true ↦ read this tokens | false ↦ read other tokens ] in
    ap chosen t

found_token : {K A : Type 0} (taken : K → Option A) (tokens : List K) (x : A) (rest : List K) → read_token taken tokens ≡ Ok (x, rest)
    → IsFound (Grammar.token taken) tokens x rest
unfolding Reads read
found_token taken [] x rest e = cc
found_token {K} {A} taken (k ∷ tokens) x rest e = by (taken k) refl e
  where
    by : (o : Option A) → taken k ≡ o → taken_or k tokens o ≡ Ok (x, rest) → IsFound (Grammar.token taken) (k ∷ tokens) x rest
    by None t e = cc
    by (Some y) t e =
        let both : (y, tokens) ≡ (x, rest) = ok_same (y, tokens) (x, rest) e in
        let value : taken k ≡ Some x = t ∙ ap (λ p. Some p.0) both in
        record {
          front = k ∷ [];
          split = ap (λ p. k ∷ p.1) both;
          reads = (k, refl, value);
          same = λ other h. ap (taken_or k other) value;
        }

found_then : {K A B : Type 0} (first : Grammar K A) (second : A → Grammar K B) (tokens : List K) (y : B) (rest : List K)
    → ((x : A) (l : List K) → read first tokens ≡ Ok (x, l) → IsFound first tokens x l)
    → ((x : A) (ks : List K) → read (second x) ks ≡ Ok (y, rest) → IsFound (second x) ks y rest)
    → read (Grammar.◌>>=◌ first second) tokens ≡ Ok (y, rest) → IsFound (Grammar.◌>>=◌ first second) tokens y rest
unfolding Reads read
found_then {K} {A} {B} first second tokens y rest one two e = by (read first tokens) refl e
  where
    by : (r : Reading K A) → read first tokens ≡ r → and_then r (λ x l. read (second x) l) ≡ Ok (y, rest) → IsFound (Grammar.◌>>=◌ first second) tokens y rest
    by (Err l) t e = cc
    by (Ok p) t e =
        let a : IsFound first tokens p.0 p.1 = one p.0 p.1 t in
        let b : IsFound (second p.0) p.1 y rest = two p.0 p.1 e in
        record {
          front = a.front ++ b.front;
          split = a.split ∙ ap (λ l. a.front ++ l) b.split ∙ sym (append_assoc a.front b.front rest);
          reads = (p.0, a.front, b.front, refl, a.reads, b.reads);
          same = λ other h.
              let at : next (b.front ++ other) ≡ next p.1 = next-append b.front other rest h ∙ ap next (sym b.split) in
              rw (append_assoc a.front b.front other, a.same (b.front ++ other) at) (b.same other h);
        }

found_where : {K A : Type 0} (test : K → Bool) (this other : Grammar K A) (tokens : List K) (x : A) (rest : List K)
    → (read this tokens ≡ Ok (x, rest) → IsFound this tokens x rest)
    → (read other tokens ≡ Ok (x, rest) → IsFound other tokens x rest)
    → read (Grammar.where_next test this other) tokens ≡ Ok (x, rest) → IsFound (Grammar.where_next test this other) tokens x rest
unfolding Reads read
found_where {K} {A} test this other tokens x rest one two e = by (passes test (next tokens)) refl
  where
    g : Grammar K A
    g = Grammar.where_next test this other

    tested : (front l : List K) (b : Bool) → tokens ≡ front ++ rest → next l ≡ next rest → passes test (next tokens) ≡ b → passes test (next (front ++ l)) ≡ b
    tested front l b split h t = ap (passes test) (next-append front l rest h ∙ ap next (sym split)) ∙ t

    by : (b : Bool) → passes test (next tokens) ≡ b → IsFound g tokens x rest
    by true t =
        let a : IsFound this tokens x rest = one (sym (read-where_yes test this other tokens t) ∙ e) in
        record {
          front = a.front;
          split = a.split;
          reads = inl a.reads;
          same = λ l h. read-where_yes test this other (a.front ++ l) (tested a.front l true a.split h t) ∙ a.same l h;
        }
    by false t =
        let a : IsFound other tokens x rest = two (sym (read-where_no test this other tokens t) ∙ e) in
        record {
          front = a.front;
          split = a.split;
          reads = inr a.reads;
          same = λ l h. read-where_no test this other (a.front ++ l) (tested a.front l false a.split h t) ∙ a.same l h;
        }

found_gives : {K A : Type 0} (x : A) (tokens : List K) (y : A) (rest : List K) → read (Grammar.gives x) tokens ≡ Ok (y, rest)
    → IsFound (Grammar.gives x) tokens y rest
unfolding Reads read
found_gives x tokens y rest e =
    let both : (x, tokens) ≡ (y, rest) = ok_same (x, tokens) (y, rest) e in
    record {
      front = [];
      split = ap (λ p. p.1) both;
      reads = (refl, ap (λ p. p.0) both);
      same = λ l h. ap (λ p. Ok (p.0, l)) both;
    }

-- what was read is a phrase at the front
pub found : {K A : Type 0} (g : Grammar K A) (tokens : List K) (x : A) (rest : List K) → read g tokens ≡ Ok (x, rest) → IsFound g tokens x rest
unfolding read
found (Grammar.gives x) tokens y rest e = found_gives x tokens y rest e
found (Grammar.token taken) tokens x rest e = found_token taken tokens x rest e
found (Grammar.◌>>=◌ first second) tokens y rest e =
    found_then first second tokens y rest (λ x l h. found first tokens x l h) (λ x ks h. found (second x) ks y rest h) e
found (Grammar.where_next test this other) tokens x rest e =
    found_where test this other tokens x rest (λ h. found this tokens x rest h) (λ h. found other tokens x rest h) e
