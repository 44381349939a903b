-- Parts of an expression with a mark between each two, read from the left.
use Rattle.std.proofs.Common.{◌≡◌, ℕ, ◌<◌, List, [], ◌∷◌, ◌++◌, length, refl, sym, ◌∙◌, ap, subst, append_assoc, arith}
use Rattle.pw_defs.specs.declared.terms.Term.{Term}
use Rattle.power_states.specs.ExpressionWords.{Token, HasTokens}
use Rattle.state_terms.specs.Readings.{Begins, BeginsNot, Reads, Lacks}
use Rattle.state_terms.proofs.Combining.{Grammar}

-- the mark isn't next
abbrev pub Stops : Token → List Token → Type 0
Stops mark left = (rest : List Token) → ¬ (left ≡ mark ∷ rest)

pub data AreParts (Part : Grammar Term) (mark : Token) : List Token → List Term → List Token → Type 0 where
  last : (text left : List Token) (term : Term) → Part text term left → Stops mark left → AreParts Part mark text (term ∷ []) left
  more : (text rest left : List Token) (term : Term) (parts : List Term) → Part text term (mark ∷ rest) → AreParts Part mark rest parts left
      → AreParts Part mark text (term ∷ parts) left

-- behind these terms the parts end, or go on
pub data Goes (Part : Grammar Term) (mark : Token) (terms : List Term) : List Token → List Term → List Token → Type 0 where
  stops : (left : List Token) → Stops mark left → Goes Part mark terms left terms left
  goes : (rest end : List Token) (others : List Term) → AreParts Part mark rest others end → Goes Part mark terms (mark ∷ rest) (terms ++ others) end

-- These terms were read, and the rest is left: all parts of the whole text begin so.
pub record SoFar (Part : Grammar Term) (mark : Token) (text : List ℕ) (terms : List Term) (rest : List ℕ) : Type 0 where
  pub shorter : length rest < length text
  pub on : (left : List Token) (all : List Term) (end : List Token) → HasTokens rest left → Goes Part mark terms left all end
      → (tokens : List Token) × HasTokens text tokens × AreParts Part mark tokens all end
  pub only : (tokens : List Token) (all : List Term) (end : List Token) → HasTokens text tokens → AreParts Part mark tokens all end
      → (left : List Token) × HasTokens rest left × Goes Part mark terms left all end

module _ (Part : Grammar Term) (mark : Token) where
  abbrev Front : List Term → List ℕ → List Term → List Token → Type 0
  Front terms rest all end = (left : List Token) × HasTokens rest left × Goes Part mark terms left all end

  -- the first part
  first_on : (tokens left : List Token) (term : Term) (all : List Term) (end : List Token) → Part tokens term left → Goes Part mark (term ∷ []) left all end
      → AreParts Part mark tokens all end
  first_on tokens left term all end part (stops l s) = last tokens l term part s
  first_on tokens left term all end part (goes r e others ps) = more tokens r e term others part ps

  first_only : (text rest : List ℕ) (term : Term) (tokens : List Token) (all : List Term) (end : List Token) → Reads Part text term rest
      → HasTokens text tokens → AreParts Part mark tokens all end → Front (term ∷ []) rest all end
  first_only text rest term tokens all end r h (last t l u part s) =
      let q = r.only t u l h part in
      subst (λ (v : Term). Front (term ∷ []) rest (v ∷ []) l) (sym q.0) (l, q.1, stops l s)
  first_only text rest term tokens all end r h (more t b l u us part ps) =
      let q = r.only t u (mark ∷ b) h part in
      subst (λ (v : Term). Front (term ∷ []) rest (v ∷ us) l) (sym q.0) (mark ∷ b, q.1, goes b l us ps)

  pub first_part : (text rest : List ℕ) (term : Term) → Reads Part text term rest → SoFar Part mark text (term ∷ []) rest
  first_part text rest term r =
      record {
        shorter = r.shorter;
        on = λ left all end h g. let p = r.on left h in (p.0, p.1, first_on p.0 left term all end p.2 g);
        only = λ tokens all end h k. first_only text rest term tokens all end r h k;
      }

  pub no_first : (text : List ℕ) → Lacks Part text → Lacks (AreParts Part mark) text
  no_first text l tokens all end h (last t e u part s) = l t u e h part
  no_first text l tokens all end h (more t b e u us part ps) = l t u (mark ∷ b) h part

  -- one more part
  next_on : (terms : List Term) (term : Term) (tokens left : List Token) (all : List Term) (end : List Token) → Part tokens term left
      → Goes Part mark (terms ++ term ∷ []) left all end → Goes Part mark terms (mark ∷ tokens) all end
  next_on terms term tokens left all end part (stops l s) = goes tokens l (term ∷ []) (last tokens l term part s)
  next_on terms term tokens left all end part (goes r e others ps) =
      subst (λ (us : List Term). Goes Part mark terms (mark ∷ tokens) us e) (sym (append_assoc terms (term ∷ []) others))
      (goes tokens e (term ∷ others) (more tokens r e term others part ps))

  next_part : (terms : List Term) (term : Term) (mid rest : List ℕ) (tokens : List Token) (others : List Term) (end : List Token) → Reads Part mid term rest
      → HasTokens mid tokens → AreParts Part mark tokens others end → Front (terms ++ term ∷ []) rest (terms ++ others) end
  next_part terms term mid rest tokens others end r h (last t l u part s) =
      let q = r.only t u l h part in
      subst (λ (v : Term). Front (terms ++ term ∷ []) rest (terms ++ v ∷ []) l) (sym q.0) (l, q.1, stops l s)
  next_part terms term mid rest tokens others end r h (more t b l u us part ps) =
      let q = r.only t u (mark ∷ b) h part in
      let there : Front (terms ++ term ∷ []) rest ((terms ++ term ∷ []) ++ us) l = (mark ∷ b, q.1, goes b l us ps) in
      let joined : (terms ++ term ∷ []) ++ us ≡ terms ++ (u ∷ us) = append_assoc terms (term ∷ []) us ∙ ap (λ (v : Term). terms ++ (v ∷ us)) (sym q.0) in
      subst (λ (vs : List Term). Front (terms ++ term ∷ []) rest vs l) joined there

  next_only : (terms : List Term) (term : Term) (mid rest : List ℕ) (left tokens : List Token) (all : List Term) (end : List Token) → left ≡ mark ∷ tokens
      → Reads Part mid term rest → HasTokens mid tokens → Goes Part mark terms left all end → Front (terms ++ term ∷ []) rest all end
  next_only terms term mid rest left tokens all end e r h (stops l s) = absurd (s tokens e)
  next_only terms term mid rest left tokens all end e r h (goes b l others ps) =
      let same : tokens ≡ b = cc in
      next_part terms term mid rest b others l r (subst (λ (ts : List Token). HasTokens mid ts) same h) ps

  pub one_more : (text : List ℕ) (terms : List Term) (rest mid left : List ℕ) (term : Term) → SoFar Part mark text terms rest → Begins rest mark mid
      → Reads Part mid term left → SoFar Part mark text (terms ++ term ∷ []) left
  one_more text terms rest mid left term so b r =
      record {
        shorter =
            (
            let first : length rest < length text = so.shorter in
            let second : length mid < length rest = b.shorter in
            let third : length left < length mid = r.shorter in
            omega arith
            );
        on = λ toks all end h g.
            let p = r.on toks h in
            so.on (mark ∷ p.0) all end (b.on p.0 p.1) (next_on terms term p.0 toks all end p.2 g);
        only = λ tokens all end h k.
            let p = so.only tokens all end h k in
            let q = b.back p.0 p.1 in
            next_only terms term mid left p.0 q.0 all end q.1 r q.2 p.2;
      }

  -- no part behind the mark
  part_lacks : (mid : List ℕ) (tokens left : List Token) (terms all : List Term) (end : List Token) → left ≡ mark ∷ tokens → Lacks Part mid → HasTokens mid tokens
      → Goes Part mark terms left all end → ⊥
  part_lacks mid tokens left terms all end e l h (stops b s) = s tokens e
  part_lacks mid tokens left terms all end e l h (goes b f others ps) =
      let same : tokens ≡ b = cc in
      no_first mid l b others f (subst (λ (ts : List Token). HasTokens mid ts) same h) ps

  pub no_more : (text : List ℕ) (terms : List Term) (rest mid : List ℕ) → SoFar Part mark text terms rest → Begins rest mark mid → Lacks Part mid
      → Lacks (AreParts Part mark) text
  no_more text terms rest mid so b l tokens all end h k =
      let p = so.only tokens all end h k in
      let q = b.back p.0 p.1 in
      part_lacks mid q.0 p.0 terms all end q.1 l q.2 p.2

  -- no mark: these are the parts
  all_only : (terms : List Term) (rest : List ℕ) (left : List Token) (all : List Term) (end : List Token) → BeginsNot rest mark → HasTokens rest left
      → Goes Part mark terms left all end → (all ≡ terms) × HasTokens rest end
  all_only terms rest left all end n h (stops l s) = (refl, h)
  all_only terms rest left all end n h (goes b l others ps) = absurd (n b h)

  pub all_read : (text : List ℕ) (terms : List Term) (rest : List ℕ) → SoFar Part mark text terms rest → BeginsNot rest mark
      → Reads (AreParts Part mark) text terms rest
  all_read text terms rest so n =
      record {
        shorter = so.shorter;
        on = λ left h. so.on left terms left h (stops left (λ b e. n b (subst (λ (ts : List Token). HasTokens rest ts) e h)));
        only = λ tokens all end h k. let p = so.only tokens all end h k in all_only terms rest p.0 all end n p.1 p.2;
      }
