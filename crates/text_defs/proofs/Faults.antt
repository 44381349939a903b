-- Where reading stops at a fault, what stands before it begins a phrase, and with the token at the fault it is never read.
use Rattle.std.proofs.Common.{◌≡◌, Bool, true, false, List, [], ◌∷◌, ◌++◌, Option, Some, None, inl, inr, Ok, Err, refl, sym, ap, ◌∙◌, subst}
use Rattle.std.proofs.lemmas.List.{append_assoc}
use Rattle.text_defs.specs.Grammar.{Grammar, Reads, IsPhrase, Reading, next, passes, and_then, taken_or, read_token, read, CanEnd}
use Rattle.text_defs.specs.FirstFault.{Begins}
use Rattle.text_defs.proofs.Found.{read-where_yes, read-where_no, IsFound, found, err_same, next-append}

pub record IsFault {K A : Type 0} (g : Grammar K A) (tokens left : List K) : Type 0 where
  pub front : List K
  pub split : tokens ≡ front ++ left
  pub begins : Begins (IsPhrase g) front
  pub stays : (k : K) (old more : List K) → left ≡ k ∷ old → read g (front ++ k ∷ more) ≡ Err (k ∷ more)

-- a phrase that can be ended is there
pub some_phrase : {K A : Type 0} (g : Grammar K A) → CanEnd g → (tokens : List K) × IsPhrase g tokens
unfolding Reads CanEnd
some_phrase (Grammar.gives x) c = ([], (x, (refl, refl)))
some_phrase (Grammar.token taken) c = (c.0 ∷ [], (c.1, (c.0, refl, c.2)))
some_phrase (Grammar.◌>>=◌ first second) c =
    let a = some_phrase first c.0 in
    let b = some_phrase (second a.1.0) (c.1 a.1.0) in
    (a.0 ++ b.0, (b.1.0, (a.1.0, a.0, b.0, refl, a.1.1, b.1.1)))
some_phrase (Grammar.where_next test this other) c = let a = some_phrase this c.0 in (a.0, (a.1.0, inl a.1.1))

fault_token : {K A : Type 0} (taken : K → Option A) (tokens left : List K) → CanEnd (Grammar.token taken) → read_token taken tokens ≡ Err left
    → IsFault (Grammar.token taken) tokens left
unfolding Reads read CanEnd
fault_token {K} {A} taken [] left c e =
    let here : [] ≡ left = err_same {X = A × List K} [] left e in
    record {
      front = [];
      split = here;
      begins = (c.0 ∷ [], (c.1, (c.0, refl, c.2)));
      stays = λ k old more h. absurd (let no : [] ≡ k ∷ old = here ∙ h in cc);
    }
fault_token {K} {A} taken (k ∷ tokens) left c e = by (taken k) refl e
  where
    by : (o : Option A) → taken k ≡ o → taken_or k tokens o ≡ Err left → IsFault (Grammar.token taken) (k ∷ tokens) left
    by (Some y) t e = cc
    by None t e =
        let here : k ∷ tokens ≡ left = err_same {X = A × List K} (k ∷ tokens) left e in
        record {
          front = [];
          split = here;
          begins = (c.0 ∷ [], (c.1, (c.0, refl, c.2)));
          stays = λ l old more h.
              let same : k ≡ l = (let both : k ∷ tokens ≡ l ∷ old = here ∙ h in cc) in
              let not_taken : taken l ≡ None = subst (λ z. taken z ≡ None) same t in
              ap (taken_or l more) not_taken;
        }

fault_then : {K A B : Type 0} (first : Grammar K A) (second : A → Grammar K B) (tokens left : List K) → CanEnd (Grammar.◌>>=◌ first second)
    → (read first tokens ≡ Err left → IsFault first tokens left)
    → ((x : A) (ks : List K) → read (second x) ks ≡ Err left → IsFault (second x) ks left)
    → read (Grammar.◌>>=◌ first second) tokens ≡ Err left → IsFault (Grammar.◌>>=◌ first second) tokens left
unfolding Reads read CanEnd
fault_then {K} {A} {B} first second tokens left c one two e = by (read first tokens) refl e
  where
    by : (r : Reading K A) → read first tokens ≡ r → and_then r (λ x l. read (second x) l) ≡ Err left → IsFault (Grammar.◌>>=◌ first second) tokens left
    by (Err l) t e =
        let here : l ≡ left = err_same {X = B × List K} l left e in
        let a : IsFault first tokens left = one (t ∙ ap Err here) in
        let x = a.begins.1.0 in
        let b = some_phrase (second x) (c.1 x) in
        record {
          front = a.front;
          split = a.split;
          begins = (a.begins.0 ++ b.0, (b.1.0, (x, a.front ++ a.begins.0, b.0, sym (append_assoc a.front a.begins.0 b.0), a.begins.1.1, b.1.1)));
          stays = λ k old more h. rw (a.stays k old more h);
        }
    by (Ok p) t e =
        let a : IsFound first tokens p.0 p.1 = found first tokens p.0 p.1 t in
        let b : IsFault (second p.0) p.1 left = two p.0 p.1 e in
        record {
          front = a.front ++ b.front;
          split = a.split ∙ ap (λ l. a.front ++ l) b.split ∙ sym (append_assoc a.front b.front left);
          begins = (b.begins.0, (b.begins.1.0, (p.0, a.front, b.front ++ b.begins.0, append_assoc a.front b.front b.begins.0, a.reads, b.begins.1.1)));
          stays = λ k old more h.
              let at : next (b.front ++ k ∷ more) ≡ next p.1 =
              next-append b.front (k ∷ more) left (sym (ap next h)) ∙ ap next (sym b.split) in
              rw (append_assoc a.front b.front (k ∷ more), a.same (b.front ++ k ∷ more) at) (b.stays k old more h);
        }

fault_where : {K A : Type 0} (test : K → Bool) (this other : Grammar K A) (tokens left : List K)
    → (read this tokens ≡ Err left → IsFault this tokens left)
    → (read other tokens ≡ Err left → IsFault other tokens left)
    → read (Grammar.where_next test this other) tokens ≡ Err left → IsFault (Grammar.where_next test this other) tokens left
unfolding Reads read
fault_where {K} {A} test this other tokens left one two e = by (passes test (next tokens)) refl
  where
    g : Grammar K A
    g = Grammar.where_next test this other

    tested : (front : List K) (k : K) (old more : List K) (b : Bool) → tokens ≡ front ++ left → left ≡ k ∷ old → passes test (next tokens) ≡ b
        → passes test (next (front ++ k ∷ more)) ≡ b
    tested front k old more b split h t = ap (passes test) (next-append front (k ∷ more) left (sym (ap next h)) ∙ ap next (sym split)) ∙ t

    by : (b : Bool) → passes test (next tokens) ≡ b → IsFault g tokens left
    by true t =
        let a : IsFault this tokens left = one (sym (read-where_yes test this other tokens t) ∙ e) in
        record {
          front = a.front;
          split = a.split;
          begins = (a.begins.0, (a.begins.1.0, inl a.begins.1.1));
          stays = λ k old more h. read-where_yes test this other (a.front ++ k ∷ more) (tested a.front k old more true a.split h t) ∙ a.stays k old more h;
        }
    by false t =
        let a : IsFault other tokens left = two (sym (read-where_no test this other tokens t) ∙ e) in
        record {
          front = a.front;
          split = a.split;
          begins = (a.begins.0, (a.begins.1.0, inr a.begins.1.1));
          stays = λ k old more h. read-where_no test this other (a.front ++ k ∷ more) (tested a.front k old more false a.split h t) ∙ a.stays k old more h;
        }

-- where reading stops stands the fault
pub fault : {K A : Type 0} (g : Grammar K A) (tokens left : List K) → CanEnd g → read g tokens ≡ Err left → IsFault g tokens left
unfolding CanEnd read
fault (Grammar.gives x) tokens left c e = cc
fault (Grammar.token taken) tokens left c e = fault_token taken tokens left c e
fault (Grammar.◌>>=◌ first second) tokens left c e =
    fault_then first second tokens left c (λ h. fault first tokens left c.0 h) (λ x ks h. fault (second x) ks left (c.1 x) h) e
fault (Grammar.where_next test this other) tokens left c e =
    fault_where test this other tokens left (λ h. fault this tokens left c.0 h) (λ h. fault other tokens left c.1 h) e
