-- What is read is spelled so, and what is spelled so is read: for each way to put readers together.
use Rattle.std.proofs.Common.{◌≡◌, ℕ, zero, suc, ◌≤◌, ◌<◌, Bool, true, false, cond, List, [], ◌∷◌, ◌++◌, length, Option, Some, None, Result, Ok, Err, Bor, ◌⊎◌, inl, inr, refl, sym, ap, subst, ◌∙◌, append_assoc, arith}
use Rattle.std.specs.Prelude.{IfOk}
use Rattle.std.specs.List.{flat_map, AllByRecursion}
use Rattle.std.proofs.lemmas.List.{length-append, append-nil}
use Rattle.line_forms.specs.declared.fault.ReadFault.{ReadFault}
use Rattle.line_forms.specs.declared.fault.ReadFault.TheVariants as faults
use Rattle.line_forms.specs.Reading.{Read, Gives, ◌>>=◌, behind, nothing_at, none_at, word_at, before_at, both_at, map_at, led, led_at, many_in, many_at, with_front, some_at, ended, whole, has_more}
use Rattle.line_forms.proofs.Words.{behind_found, behind_again}

-- what r reads is spelled by sp, and is a thing of the kind
pub record Finds {A : Type 0} (r : Read A) (sp : A → List ℕ) (Is : A → Type 0) : Type 0 where
  pub found : (text : List ℕ) (x : A) (rest : List ℕ) → r text ≡ Some (x, rest) → (text ≡ sp x ++ rest) × Is x

-- each thing of the kind is read where it is spelled, if what stands behind it may follow
pub record Again {A : Type 0} (r : Read A) (sp : A → List ℕ) (Is : A → Type 0) (Follows : List ℕ → Type 0) : Type 0 where
  pub again : (x : A) (rest : List ℕ) → Is x → Follows rest → r (sp x ++ rest) ≡ Some (x, rest)

abbrev pub Anything : List ℕ → Type 0
Anything rest = Unit {0}

abbrev pub Always : {A : Type 0} → A → Type 0
Always x = Unit {0}

pub some_is : {A : Type 0} (x y : A) → Some x ≡ Some y → x ≡ y
some_is x y e = cc

pub bind_some : {A B : Type 0} (o : Option A) (f : A → Option B) (y : B) → (o >>= f) ≡ Some y → (x : A) × (o ≡ Some x) × (f x ≡ Some y)
bind_some (Some x) f y e = (x, refl, e)
bind_some None f y e = absurd cc

-- ---- nothing, words

pub nothing_finds : {A : Type 0} (sp : A → List ℕ) (Is : A → Type 0) (x : A) → sp x ≡ [] → Is x → Finds (nothing_at x) sp Is
nothing_finds {A} sp Is x empty is = record {
  found = λ text y rest e. subst (λ (p : A × List ℕ). (text ≡ sp p.0 ++ p.1) × Is p.0) (some_is (x, text) (y, rest) e) (rw empty refl, is);
}

pub none_finds : {A : Type 0} (sp : A → List ℕ) (Is : A → Type 0) → Finds none_at sp Is
none_finds sp Is = record { found = λ text y rest e. absurd cc }

pub word_finds : {A : Type 0} {r : Read A} {sp : A → List ℕ} {Is : A → Type 0} (word : List ℕ) → Finds r sp Is → Finds (word_at word r) (λ x. word ++ sp x) Is
word_finds {A} {r} {sp} {Is} word finds = record {
  found = λ text x rest e.
      let b = bind_some (behind word text) r (x, rest) e in
      let f = finds.found b.0 x rest b.2 in
      (behind_found word text b.0 b.1 ∙ ap (λ (t : List ℕ). word ++ t) f.0 ∙ sym (append_assoc word (sp x) rest), f.1);
}

pub word_again : {A : Type 0} {r : Read A} {sp : A → List ℕ} {Is : A → Type 0} {Follows : List ℕ → Type 0} (word : List ℕ) → Again r sp Is Follows → Again (word_at word r) (λ x. word ++ sp x) Is Follows
word_again {A} {r} {sp} {Is} {Follows} word law = record {
  again = λ x rest is follows. ap (word_at word r) (append_assoc word (sp x) rest) ∙ ap (λ (o : Option (List ℕ)). o >>= r) (behind_again word (sp x ++ rest)) ∙ law.again x rest is follows;
}

pub before_finds : {A : Type 0} {r : Read A} {sp : A → List ℕ} {Is : A → Type 0} (word : List ℕ) → Finds r sp Is → Finds (before_at r word) (λ x. sp x ++ word) Is
before_finds {A} {r} {sp} {Is} word finds = record {
  found = λ text x rest e.
      let b = bind_some (r text) (λ y. behind word y.1 >>= λ left. Some (y.0, left)) (x, rest) e in
      let d = bind_some (behind word b.0.1) (λ left. Some (b.0.0, left)) (x, rest) b.2 in
      let f = finds.found text b.0.0 b.0.1 b.1 in
      let spelled : text ≡ (sp b.0.0 ++ word) ++ d.0 = f.0 ∙ ap (λ (t : List ℕ). sp b.0.0 ++ t) (behind_found word b.0.1 d.0 d.1) ∙ sym (append_assoc (sp b.0.0) word d.0) in
      subst (λ (p : A × List ℕ). (text ≡ (sp p.0 ++ word) ++ p.1) × Is p.0) (some_is (b.0.0, d.0) (x, rest) d.2) (spelled, f.1);
}

pub before_again : {A : Type 0} {r : Read A} {sp : A → List ℕ} {Is : A → Type 0} {Follows : List ℕ → Type 0} (word : List ℕ) → Again r sp Is Follows → ((rest : List ℕ) → Follows (word ++ rest))
    → Again (before_at r word) (λ x. sp x ++ word) Is Anything
before_again {A} {r} {sp} {Is} {Follows} word law glue = record {
  again = λ x rest is follows.
      ap (before_at r word) (append_assoc (sp x) word rest)
      ∙ ap (λ (o : Option (A × List ℕ)). o >>= λ y. behind word y.1 >>= λ left. Some (y.0, left)) (law.again x (word ++ rest) is (glue rest))
      ∙ ap (λ (o : Option (List ℕ)). o >>= λ left. Some (x, left)) (behind_again word rest);
}

-- ---- one thing and then another

pub both_finds : {A B : Type 0} {r : Read A} {q : Read B} {sp : A → List ℕ} {sq : B → List ℕ} {Is : A → Type 0} {Js : B → Type 0} → Finds r sp Is → Finds q sq Js
    → Finds (both_at r q) (λ p. sp p.0 ++ sq p.1) (λ p. Is p.0 × Js p.1)
both_finds {A} {B} {r} {q} {sp} {sq} {Is} {Js} first second = record {
  found = λ text p rest e.
      let b = bind_some (r text) (λ x. q x.1 >>= λ y. Some ((x.0, y.0), y.1)) (p, rest) e in
      let d = bind_some (q b.0.1) (λ y. Some ((b.0.0, y.0), y.1)) (p, rest) b.2 in
      let f = first.found text b.0.0 b.0.1 b.1 in
      let g = second.found b.0.1 d.0.0 d.0.1 d.1 in
      let spelled : text ≡ (sp b.0.0 ++ sq d.0.0) ++ d.0.1 = f.0 ∙ ap (λ (t : List ℕ). sp b.0.0 ++ t) g.0 ∙ sym (append_assoc (sp b.0.0) (sq d.0.0) d.0.1) in
      subst (λ (z : (A × B) × List ℕ). (text ≡ (sp z.0.0 ++ sq z.0.1) ++ z.1) × (Is z.0.0 × Js z.0.1)) (some_is ((b.0.0, d.0.0), d.0.1) (p, rest) d.2) (spelled, (f.1, g.1));
}

pub both_again : {A B : Type 0} {r : Read A} {q : Read B} {sp : A → List ℕ} {sq : B → List ℕ} {Is : A → Type 0} {Js : B → Type 0} {F G : List ℕ → Type 0} → Again r sp Is F → Again q sq Js G
    → ((y : B) (rest : List ℕ) → Js y → G rest → F (sq y ++ rest)) → Again (both_at r q) (λ p. sp p.0 ++ sq p.1) (λ p. Is p.0 × Js p.1) G
both_again {A} {B} {r} {q} {sp} {sq} {Is} {Js} {F} {G} first second glue = record {
  again = λ p rest is follows.
      ap (both_at r q) (append_assoc (sp p.0) (sq p.1) rest)
      ∙ ap (λ (o : Option (A × List ℕ)). o >>= λ x. q x.1 >>= λ y. Some ((x.0, y.0), y.1)) (first.again p.0 (sq p.1 ++ rest) is.0 (glue p.1 rest is.1 follows))
      ∙ ap (λ (o : Option (B × List ℕ)). o >>= λ y. Some ((p.0, y.0), y.1)) (second.again p.1 rest is.1 follows);
}

-- ---- another value for what is read

pub map_finds : {A B : Type 0} {r : Read A} {sp : A → List ℕ} {Is : A → Type 0} (f : A → B) (sq : B → List ℕ) (Js : B → Type 0) → Finds r sp Is → ((x : A) → sp x ≡ sq (f x)) → ((x : A) → Is x → Js (f x))
    → Finds (map_at f r) sq Js
map_finds {A} {B} {r} {sp} {Is} f sq Js finds same kept = record {
  found = λ text y rest e.
      let b = bind_some (r text) (λ x. Some (f x.0, x.1)) (y, rest) e in
      let g = finds.found text b.0.0 b.0.1 b.1 in
      subst (λ (z : B × List ℕ). (text ≡ sq z.0 ++ z.1) × Js z.0) (some_is (f b.0.0, b.0.1) (y, rest) b.2) (g.0 ∙ ap (λ (t : List ℕ). t ++ b.0.1) (same b.0.0), kept b.0.0 g.1);
}

pub map_again : {A B : Type 0} {r : Read A} {sp : A → List ℕ} {Is : A → Type 0} {F : List ℕ → Type 0} (f : A → B) (back : B → A) (sq : B → List ℕ) (Js : B → Type 0) → Again r sp Is F
    → ((y : B) → sq y ≡ sp (back y)) → ((y : B) → Js y → Is (back y)) → ((y : B) → f (back y) ≡ y) → Again (map_at f r) sq Js F
map_again {A} {B} {r} {sp} {Is} {F} f back sq Js law same kept round = record {
  again = λ y rest is follows.
      ap (λ (t : List ℕ). map_at f r (t ++ rest)) (same y)
      ∙ ap (λ (o : Option (A × List ℕ)). o >>= λ x. Some (f x.0, x.1)) (law.again (back y) rest (kept y is) follows)
      ∙ ap (λ (z : B). Some (z, rest)) (round y);
}

-- ---- one or another, by the word that stands there

led_cases : {A : Type 0} (o : Option (List ℕ)) (r : Read A) (other : Option (A × List ℕ)) (y : A × List ℕ) → led o r other ≡ Some y → ((o >>= r) ≡ Some y) ⊎ (other ≡ Some y)
led_cases (Some rest) r other y e = inl e
led_cases None r other y e = inr e

pub led_finds : {A : Type 0} {q : Read A} {sp : A → List ℕ} {Is : A → Type 0} (word : List ℕ) (r : Read A) → Finds (word_at word r) sp Is → Finds q sp Is → Finds (led_at word r q) sp Is
led_finds {A} {q} {sp} {Is} word r hit miss = record {
  found = λ text x rest e. elim (led_cases (behind word text) r (q text) (x, rest) e) [ inl h ↦ hit.found text x rest h | inr m ↦ miss.found text x rest m ];
}

pub led_hit : {A : Type 0} (word : List ℕ) (r q : Read A) (text : List ℕ) (y : A × List ℕ) → word_at word r text ≡ Some y → led_at word r q text ≡ Some y
led_hit word r q text y e =
    let b = bind_some (behind word text) r y e in
    rw b.1 b.2

pub led_miss : {A : Type 0} (word : List ℕ) (r q : Read A) (text : List ℕ) → behind word text ≡ None → led_at word r q text ≡ q text
led_miss word r q text e = rw e refl

-- a word that stands for x
pub choice_finds : {A : Type 0} {q : Read A} {sp : A → List ℕ} {Is : A → Type 0} (word : List ℕ) (x : A) → sp x ≡ word → Is x → Finds q sp Is → Finds (led_at word (nothing_at x) q) sp Is
choice_finds {A} {q} {sp} {Is} word x spelled is miss = led_finds word (nothing_at x) (record {
  found = λ text y rest e.
      let b = bind_some (behind word text) (nothing_at x) (y, rest) e in
      subst (λ (p : A × List ℕ). (text ≡ sp p.0 ++ p.1) × Is p.0) (some_is (x, b.0) (y, rest) b.2) (behind_found word text b.0 b.1 ∙ ap (λ (t : List ℕ). t ++ b.0) (sym spelled), is);
}) miss

-- a word, and another value for what is read behind it
pub word_map_finds : {A B : Type 0} {r : Read A} {sp : A → List ℕ} {Is : A → Type 0} {sq : B → List ℕ} {Js : B → Type 0} (word : List ℕ) (f : A → B) → Finds r sp Is → ((x : A) → word ++ sp x ≡ sq (f x))
    → ((x : A) → Is x → Js (f x)) → Finds (word_at word (map_at f r)) sq Js
word_map_finds {A} {B} {r} {sp} {Is} {sq} {Js} word f finds same kept = record {
  found = λ text y rest e.
      let b = bind_some (behind word text) (map_at f r) (y, rest) e in
      let d = bind_some (r b.0) (λ x. Some (f x.0, x.1)) (y, rest) b.2 in
      let g = finds.found b.0 d.0.0 d.0.1 d.1 in
      let spelled : text ≡ sq (f d.0.0) ++ d.0.1 =
      behind_found word text b.0 b.1 ∙ ap (λ (t : List ℕ). word ++ t) g.0 ∙ sym (append_assoc word (sp d.0.0) d.0.1) ∙ ap (λ (t : List ℕ). t ++ d.0.1) (same d.0.0) in
      subst (λ (z : B × List ℕ). (text ≡ sq z.0 ++ z.1) × Js z.0) (some_is (f d.0.0, d.0.1) (y, rest) d.2) (spelled, kept d.0.0 g.1);
}

pub led_map_finds : {A B : Type 0} {r : Read A} {q : Read B} {sp : A → List ℕ} {Is : A → Type 0} {sq : B → List ℕ} {Js : B → Type 0} (word : List ℕ) (f : A → B) → Finds r sp Is
    → ((x : A) → word ++ sp x ≡ sq (f x)) → ((x : A) → Is x → Js (f x)) → Finds q sq Js → Finds (led_at word (map_at f r) q) sq Js
led_map_finds {A} {B} {r} word f finds same kept miss = led_finds word (map_at f r) (word_map_finds word f finds same kept) miss

-- the same, of fewer things
pub weaker : {A : Type 0} {r : Read A} {sp : A → List ℕ} {Is Js : A → Type 0} → Finds r sp Is → ((x : A) → Is x → Js x) → Finds r sp Js
weaker finds kept = record { found = λ text x rest e. let f = finds.found text x rest e in (f.0, kept x f.1) }

-- ---- one after the other

pub chosen : {A : Type 0} (b : Bool) (x y z : A) → cond b x y ≡ z → ((b ≡ true) × (x ≡ z)) ⊎ ((b ≡ false) × (y ≡ z))
chosen true x y z e = inl (refl, e)
chosen false x y z e = inr (refl, e)

module _ {A : Type 0} (r : Read A) (sp : A → List ℕ) (Is : A → Type 0) (goes_on : List ℕ → Bool) where
  abbrev Ended : List ℕ → List A × List ℕ → Type 0
  Ended text p = (text ≡ flat_map sp p.0 ++ p.1) × AllByRecursion Is p.0 × (goes_on p.1 ≡ false)

  abbrev stop : List ℕ → Option (List A × List ℕ)
  stop text = Some ([], text)

  abbrev further : ℕ → A × List ℕ → Option (List A × List ℕ)
  further n x = many_in n goes_on r x.1 >>= λ xs. Some (x.0 ∷ xs.0, xs.1)

  stopped : (text : List ℕ) (p : List A × List ℕ) → goes_on text ≡ false → stop text ≡ Some p → Ended text p
  stopped text p over e = subst (Ended text) (some_is ([], text) p e) (refl, tt, over)

  many_in_finds : (n : ℕ) (text : List ℕ) (p : List A × List ℕ) → Finds r sp Is → many_in n goes_on r text ≡ Some p → Ended text p
  unfolding many_in
  many_in_finds zero text p finds e =
      elim (chosen (goes_on text) None (stop text) (Some p) e) [ inl h ↦ absurd (none_is_not p h.1) | inr m ↦ stopped text p m.0 m.1 ]
    where
      none_is_not : (p : List A × List ℕ) → None ≡ Some p → ⊥
      none_is_not p e = cc
  many_in_finds (suc n) text p finds e =
      elim (chosen (goes_on text) (r text >>= further n) (stop text) (Some p) e) [
        | inl h ↦
            let b = bind_some (r text) (further n) p h.1 in
            let d = bind_some (many_in n goes_on r b.0.1) (λ xs. Some (b.0.0 ∷ xs.0, xs.1)) p b.2 in
            let first = finds.found text b.0.0 b.0.1 b.1 in
            let others = many_in_finds n b.0.1 d.0 finds d.1 in
            let spelled : text ≡ (sp b.0.0 ++ flat_map sp d.0.0) ++ d.0.1 = first.0 ∙ ap (λ (t : List ℕ). sp b.0.0 ++ t) others.0 ∙ sym (append_assoc (sp b.0.0) (flat_map sp d.0.0) d.0.1) in
            subst (Ended text) (some_is (b.0.0 ∷ d.0.0, d.0.1) p d.2) (spelled, (first.1, others.1), others.2)
        | inr m ↦ stopped text p m.0 m.1
      ]

  pub many_over : Finds r sp Is → (text : List ℕ) (xs : List A) (rest : List ℕ) → many_at goes_on r text ≡ Some (xs, rest) → goes_on rest ≡ false
  unfolding many_at
  many_over finds text xs rest e = (many_in_finds (length text) text (xs, rest) finds e).2

  pub many_finds : Finds r sp Is → Finds (many_at goes_on r) (flat_map sp) (AllByRecursion Is)
  unfolding many_at
  many_finds finds = record {
    found = λ text xs rest e. let p = many_in_finds (length text) text (xs, rest) finds e in (p.0, p.1);
  }

  -- what has to hold of things in a row: one is not empty, it shows that the text goes on, and it may follow another
  pub record InARow (F : List ℕ → Type 0) : Type 0 where
    pub size : (x : A) → Is x → 0 < length (sp x)
    pub goes : (x : A) (rest : List ℕ) → Is x → goes_on (sp x ++ rest) ≡ true
    pub next : (x : A) (rest : List ℕ) → Is x → F (sp x ++ rest)

  module _ (F : List ℕ → Type 0) (law : Again r sp Is F) (row : InARow F) where
    pub may_follow : (xs : List A) (rest : List ℕ) → AllByRecursion Is xs → F rest → F (flat_map sp xs ++ rest)
    may_follow [] rest is follows = follows
    may_follow (x ∷ xs) rest is follows = subst F (sym (append_assoc (sp x) (flat_map sp xs) rest)) (row.next x (flat_map sp xs ++ rest) is.0)

    many_in_again : (n : ℕ) (xs : List A) (rest : List ℕ) → AllByRecursion Is xs → F rest → goes_on rest ≡ false → length xs ≤ n → many_in n goes_on r (flat_map sp xs ++ rest) ≡ Some (xs, rest)
    unfolding many_in
    many_in_again zero [] rest is follows over le = rw over refl
    many_in_again (suc n) [] rest is follows over le = rw over refl
    many_in_again zero (x ∷ xs) rest is follows over le = absurd (omega arith)
    many_in_again (suc n) (x ∷ xs) rest is follows over le =
        let others = many_in_again n xs rest is.1 follows over (omega arith) in
        rw (append_assoc (sp x) (flat_map sp xs) rest, row.goes x (flat_map sp xs ++ rest) is.0, law.again x (flat_map sp xs ++ rest) is.0 (may_follow xs rest is.1 follows), others) refl

    no_more : (xs : List A) → AllByRecursion Is xs → length xs ≤ length (flat_map sp xs)
    no_more [] is = omega arith
    no_more (x ∷ xs) is = let ih = no_more xs is.1 in let one = row.size x is.0 in omega (arith, length-append (sp x) (flat_map sp xs))

    pub many_again : Again (many_at goes_on r) (flat_map sp) (AllByRecursion Is) (λ rest. F rest × (goes_on rest ≡ false))
    unfolding many_at
    many_again = record {
      again = λ xs rest is follows.
          many_in_again (length (flat_map sp xs ++ rest)) xs rest is follows.0 follows.1 (let fits = no_more xs is in omega (arith, length-append (flat_map sp xs) rest));
    }

-- ---- one, and then further ones

module _ {A : Type 0} (r q : Read A) (sp sq : A → List ℕ) (spell : List A → List ℕ) (Is : A → Type 0) (goes_on : List ℕ → Bool) (spelled : (x : A) (xs : List A) → spell (x ∷ xs) ≡ sp x ++ flat_map sq xs) where
  abbrev pub AreSome : List A → Type 0
  AreSome xs = (0 < length xs) × AllByRecursion Is xs

  pub some_finds : Finds r sp Is → Finds q sq Is → Finds (some_at r goes_on q) spell AreSome
  unfolding some_at
  some_finds first further = record {
    found = λ text all rest e.
        let b = bind_some (r text) (λ x. with_front (x.0 ∷ []) (many_at goes_on q x.1)) (all, rest) e in
        let d = bind_some (many_at goes_on q b.0.1) (λ xs. Some (b.0.0 ∷ xs.0, xs.1)) (all, rest) b.2 in
        let f = first.found text b.0.0 b.0.1 b.1 in
        let g = (many_finds q sq Is goes_on further).found b.0.1 d.0.0 d.0.1 d.1 in
        let parts : text ≡ (sp b.0.0 ++ flat_map sq d.0.0) ++ d.0.1 = f.0 ∙ ap (λ (t : List ℕ). sp b.0.0 ++ t) g.0 ∙ sym (append_assoc (sp b.0.0) (flat_map sq d.0.0) d.0.1) in
        let one_or_more : 0 < length (b.0.0 ∷ d.0.0) = omega arith in
        subst (λ (p : List A × List ℕ). (text ≡ spell p.0 ++ p.1) × AreSome p.0) (some_is (b.0.0 ∷ d.0.0, d.0.1) (all, rest) d.2) (parts ∙ ap (λ (t : List ℕ). t ++ d.0.1) (sym (spelled b.0.0 d.0.0)), (one_or_more, (f.1, g.1)));
  }

  pub some_again : (F : List ℕ → Type 0) → Again r sp Is F → Again q sq Is F → InARow q sq Is goes_on F → Again (some_at r goes_on q) spell AreSome (λ rest. F rest × (goes_on rest ≡ false))
  unfolding some_at
  some_again F first further row = record {
    again = λ all rest is follows. read all rest is follows;
  }
    where
      read : (all : List A) (rest : List ℕ) → AreSome all → F rest × (goes_on rest ≡ false) → some_at r goes_on q (spell all ++ rest) ≡ Some (all, rest)
      read [] rest is follows = absurd (omega (arith, is.0))
      read (x ∷ xs) rest is follows =
          rw (
            spelled x xs,
            append_assoc (sp x) (flat_map sq xs) rest,
            first.again x (flat_map sq xs ++ rest) is.1.0 (may_follow q sq Is goes_on F further row xs rest is.1.1 follows.0),
            (many_again q sq Is goes_on F further row).again xs rest is.1.1 follows,
          )
          refl

-- ---- what is read takes a byte or more

pub shorter : {A : Type 0} {r : Read A} {sp : A → List ℕ} {Is : A → Type 0} → Finds r sp Is → ((x : A) → Is x → 0 < length (sp x)) → (text : List ℕ) (result : Result (A × Bor (List ℕ)) ReadFault)
    → Gives (λ x. (x.0, x.1.now)) result (r text) → IfOk result (λ x. length x.1.now < length text)
shorter {A} {r} {sp} {Is} finds size text (Ok x) gives =
    let f = finds.found text x.0 x.1.now gives in
    let one = size x.0 f.1 in
    let long : length text ≡ length (sp x.0 ++ x.1.now) = ap length f.0 in
    omega (arith, length-append (sp x.0) x.1.now)
shorter {A} {r} {sp} {Is} finds size text (Err fault) gives = tt

-- ---- all of a text

pub whole_found : {A : Type 0} {r : Read A} {sp : A → List ℕ} {Is : A → Type 0} → Finds r sp Is → (text : List ℕ) (x : A) → whole r text ≡ Some x → Is x × (text ≡ sp x)
whole_found {A} {r} {sp} {Is} finds text x e =
    let b = bind_some (r text) (λ y. ended y.0 y.1) x e in
    let p = at_end b.0.0 b.0.1 x b.2 in
    let f = finds.found text b.0.0 b.0.1 b.1 in
    subst (λ (y : A). Is y × (text ≡ sp y)) p.1 (f.1, f.0 ∙ ap (λ (t : List ℕ). sp b.0.0 ++ t) p.0 ∙ append-nil (sp b.0.0))
  where
    at_end : (y : A) (rest : List ℕ) (x : A) → ended y rest ≡ Some x → (rest ≡ []) × (y ≡ x)
    at_end y [] x e = (refl, some_is y x e)
    at_end y (c ∷ rest) x e = absurd cc

pub whole_again : {A : Type 0} {r : Read A} {sp : A → List ℕ} {Is : A → Type 0} {F : List ℕ → Type 0} → Again r sp Is F → F [] → (x : A) → Is x → whole r (sp x) ≡ Some x
whole_again {A} {r} {sp} {Is} {F} law follows x is =
    ap (whole r) (sym (append-nil (sp x))) ∙ ap (λ (o : Option (A × List ℕ)). o >>= λ y. ended y.0 y.1) (law.again x [] is follows)

-- what a reader of all of a text returned, where the text spells x
pub taken : {A : Type 0} (result : Result A ReadFault) (read : Option A) (x : A) → Gives (λ y. y) result read → read ≡ Some x → (result ≡ Ok x) ⊎ (result ≡ Err faults.Memory)
taken (Ok y) read x gives e = let same : y ≡ x = some_is y x (sym gives ∙ e) in inl (ap (λ z. Ok z) same)
taken (Err faults.OtherForm) read x gives e = absurd (none_some (sym gives ∙ e))
  where
    none_some : None ≡ Some x → ⊥
    none_some h = cc
taken (Err faults.Memory) read x gives e = inr refl

pub read_is : {A : Type 0} {r : Read A} {sp : A → List ℕ} {Is : A → Type 0} → Finds r sp Is → (text : List ℕ) (result : Result A ReadFault) → Gives (λ y. y) result (whole r text) → IfOk result (λ x. Is x × (text ≡ sp x))
read_is finds text (Ok x) gives = whole_found finds text x gives
read_is finds text (Err fault) gives = tt

-- things in a row up to the end of the text
pub whole_row : {A : Type 0} {r : Read A} {sp : A → List ℕ} {Is : A → Type 0} → Finds r sp Is → (text : List ℕ) (xs : List A) (rest : List ℕ) → many_at has_more r text ≡ Some (xs, rest) → whole (many_at has_more r) text ≡ Some xs
whole_row {A} {r} {sp} {Is} finds text xs rest e =
    rw e (at_end rest (many_over r sp Is has_more finds text xs rest e))
  where
    at_end : (rest : List ℕ) → has_more rest ≡ false → ended xs rest ≡ Some xs
    at_end [] over = refl
    at_end (b ∷ rest) over = absurd cc
