-- Expressions, from their parts.
use Rattle.std.proofs.Common.{◌≡◌, ℕ, zero, suc, false, List, [], ◌∷◌, refl, sym, ◌∙◌, ap, subst}
use Rattle.std.proofs.lemmas.Bool.{false≢true}
use Rattle.pw_defs.specs.declared.faults.TermFault.{TermFault}
use Rattle.pw_defs.specs.declared.faults.TermFault.TheVariants.{U8, U9, Memory}
use Rattle.pw_defs.specs.declared.terms.Term.{Term}
use Rattle.pw_defs.specs.declared.terms.Term.TheVariants.{Not}
use Rattle.power_states.specs.ExpressionWords.{Token, word, opens, shuts, bang, both, either, same, differs, brace, unbrace, comma, quote, HasTokens}
use Rattle.power_states.specs.Expressions.{Language, IsComparison, is_both, is_either, all_of, any_of, IsOne, compared, negated, grouped, AreBoth, last_both, more_both, AreEither, last_either, more_either, ReadsAsTerm, HasNoTerm}
use Rattle.state_terms.specs.declared.terms.Join.{Join}
use Rattle.state_terms.specs.declared.terms.Join.TheVariants.{Both, Either}
use Rattle.state_terms.specs.Readings.{Begins, BeginsNot, Reads, Lacks, LacksBy, Behind, Before, IsTermFault}
use Rattle.state_terms.specs.Parts.{mark_of, joined, AreJoined, IsJoined, IsPart}
use Rattle.state_terms.proofs.Combining.{IsMade, before_reads, before_lacks, before_lacks_all, made_reads, made_lacks}
use Rattle.state_terms.proofs.PartsInOrder.{Stops, AreParts, last, more, SoFar, no_first, no_more, all_read}

-- what stands behind a part
stops_both : (left : List Token) → is_both left ≡ false → Stops both left
stops_both left e rest h = false≢true (sym e ∙ ap is_both h)

both_stops : (left : List Token) → Stops both left → is_both left ≡ false
both_stops [] s = refl
both_stops (word t ∷ rest) s = refl
both_stops (opens ∷ rest) s = refl
both_stops (shuts ∷ rest) s = refl
both_stops (bang ∷ rest) s = refl
both_stops (both ∷ rest) s = absurd (s rest refl)
both_stops (either ∷ rest) s = refl
both_stops (same ∷ rest) s = refl
both_stops (differs ∷ rest) s = refl
both_stops (brace ∷ rest) s = refl
both_stops (unbrace ∷ rest) s = refl
both_stops (comma ∷ rest) s = refl
both_stops (quote ∷ rest) s = refl

stops_either : (left : List Token) → is_either left ≡ false → Stops either left
stops_either left e rest h = false≢true (sym e ∙ ap is_either h)

either_stops : (left : List Token) → Stops either left → is_either left ≡ false
either_stops [] s = refl
either_stops (word t ∷ rest) s = refl
either_stops (opens ∷ rest) s = refl
either_stops (shuts ∷ rest) s = refl
either_stops (bang ∷ rest) s = refl
either_stops (both ∷ rest) s = refl
either_stops (either ∷ rest) s = absurd (s rest refl)
either_stops (same ∷ rest) s = refl
either_stops (differs ∷ rest) s = refl
either_stops (brace ∷ rest) s = refl
either_stops (unbrace ∷ rest) s = refl
either_stops (comma ∷ rest) s = refl
either_stops (quote ∷ rest) s = refl

no_bang : (language : Language) (text left : List Token) (term : Term) → IsComparison language (bang ∷ text) term left → ⊥
no_bang language text left term h = elim h [ ]

no_opens : (language : Language) (text left : List Token) (term : Term) → IsComparison language (opens ∷ text) term left → ⊥
no_opens language text left term h = elim h [ ]

module _ (language : Language) where
  -- parts in order are what the grammar says
  both_build : (depth : ℕ) (tokens : List Token) (terms : List Term) (left : List Token) → AreParts (IsOne language depth) both tokens terms left
      → AreBoth language depth tokens terms left
  both_build depth tokens terms left (last t l u part s) = last_both depth t l u part (both_stops l s)
  both_build depth tokens terms left (more t r l u us part ps) = more_both depth t r l u us part (both_build depth r us l ps)

  both_invert : (depth : ℕ) (tokens : List Token) (terms : List Term) (left : List Token) → AreBoth language depth tokens terms left
      → AreParts (IsOne language depth) both tokens terms left
  both_invert depth tokens terms left (last_both d t l u part s) = last t l u part (stops_both l s)
  both_invert depth tokens terms left (more_both d t r l u us part ps) = more t r l u us part (both_invert d r us l ps)

  either_build : (depth : ℕ) (tokens : List Token) (terms : List Term) (left : List Token) → AreParts (IsJoined language Both depth) either tokens terms left
      → AreEither language depth tokens terms left
  either_build depth tokens terms left (last t l u part s) =
      subst (λ (v : Term). AreEither language depth t (v ∷ []) l) (sym part.whole) (last_either depth t l part.parts part.are (either_stops l s))
  either_build depth tokens terms left (more t r l u us part ps) =
      subst (λ (v : Term). AreEither language depth t (v ∷ us) l) (sym part.whole) (more_either depth t r l part.parts us part.are (either_build depth r us l ps))

  either_invert : (depth : ℕ) (tokens : List Token) (terms : List Term) (left : List Token) → AreEither language depth tokens terms left
      → AreParts (IsJoined language Both depth) either tokens terms left
  either_invert depth tokens terms left (last_either d t l us part s) =
      last t l (all_of us) (record { parts = us; are = part; whole = refl }) (stops_either l s)
  either_invert depth tokens terms left (more_either d t r l us vs part ps) =
      more t r l (all_of us) vs (record { parts = us; are = part; whole = refl }) (either_invert d r vs l ps)

  joined_build : (join : Join) (depth : ℕ) (tokens : List Token) (terms : List Term) (left : List Token)
      → AreParts (IsPart language join depth) (mark_of join) tokens terms left → IsJoined language join depth tokens (joined join terms) left
  joined_build Both depth tokens terms left h = record { parts = terms; are = both_build depth tokens terms left h; whole = refl }
  joined_build Either depth tokens terms left h = record { parts = terms; are = either_build depth tokens terms left h; whole = refl }

  joined_invert : (join : Join) (depth : ℕ) (tokens : List Token) (terms : List Term) (left : List Token) → AreJoined language join depth tokens terms left
      → AreParts (IsPart language join depth) (mark_of join) tokens terms left
  joined_invert Both depth tokens terms left h = both_invert depth tokens terms left h
  joined_invert Either depth tokens terms left h = either_invert depth tokens terms left h

  joined_made : (join : Join) (depth : ℕ) → IsMade (AreParts (IsPart language join depth) (mark_of join)) (joined join) (IsJoined language join depth)
  joined_made join depth =
      record {
        build = λ tokens terms left h. joined_build join depth tokens terms left h;
        invert = λ tokens term left h. (h.parts, joined_invert join depth tokens h.parts left h.are, h.whole);
      }

  -- the parts of a text, one after the other
  pub all_joined : (join : Join) (depth : ℕ) (text : List ℕ) (terms : List Term) (rest : List ℕ) (term : Term)
      → SoFar (IsPart language join depth) (mark_of join) text terms rest → BeginsNot rest (mark_of join) → term ≡ joined join terms
      → Reads (IsJoined language join depth) text term rest
  all_joined join depth text terms rest term so n e =
      subst (λ (t : Term). Reads (IsJoined language join depth) text t rest) (sym e)
      (
      made_reads (AreParts (IsPart language join depth) (mark_of join)) (joined join) (IsJoined language join depth) text rest terms (joined_made join depth)
      (all_read (IsPart language join depth) (mark_of join) text terms rest so n)
      )

  pub no_part_joined : (join : Join) (depth : ℕ) (text : List ℕ) → Lacks (IsPart language join depth) text → Lacks (IsJoined language join depth) text
  no_part_joined join depth text l =
      made_lacks (AreParts (IsPart language join depth) (mark_of join)) (joined join) (IsJoined language join depth) text (joined_made join depth)
      (no_first (IsPart language join depth) (mark_of join) text l)

  pub no_further_joined : (join : Join) (depth : ℕ) (text : List ℕ) (terms : List Term) (rest mid : List ℕ)
      → SoFar (IsPart language join depth) (mark_of join) text terms rest → Begins rest (mark_of join) mid → Lacks (IsPart language join depth) mid
      → Lacks (IsJoined language join depth) text
  no_further_joined join depth text terms rest mid so b l =
      made_lacks (AreParts (IsPart language join depth) (mark_of join)) (joined join) (IsJoined language join depth) text (joined_made join depth)
      (no_more (IsPart language join depth) (mark_of join) text terms rest mid so b l)

  -- behind a `!`
  negated_made : (depth : ℕ) → IsMade (IsOne language depth) Not (Behind bang (IsOne language (suc depth)))
  negated_made depth =
      record {
        build = λ tokens term left h. negated depth tokens left term h;
        invert = λ tokens y left h. negated_invert depth tokens y left h;
      }
    where
      negated_invert : (depth : ℕ) (tokens : List Token) (y : Term) (left : List Token) → IsOne language (suc depth) (bang ∷ tokens) y left
          → (t : Term) × IsOne language depth tokens t left × (y ≡ Not t)
      negated_invert depth tokens y left (compared d t l u h) = absurd (no_bang language tokens l u h)
      negated_invert depth tokens y left (negated d t l u h) = (u, h, refl)

  pub negated_reads : (depth n : ℕ) (text left : List ℕ) (term y : Term) → depth ≡ suc n → Reads (IsOne language n) text term left → y ≡ Not term
      → Reads (Behind bang (IsOne language depth)) text y left
  negated_reads depth n text left term y e r f =
      subst (λ (d : ℕ). Reads (Behind bang (IsOne language d)) text y left) (sym e)
      (
      subst (λ (t : Term). Reads (Behind bang (IsOne language (suc n))) text t left) (sym f)
      (made_reads (IsOne language n) Not (Behind bang (IsOne language (suc n))) text left term (negated_made n) r)
      )

  pub negated_lacks : (depth n : ℕ) (text : List ℕ) → depth ≡ suc n → Lacks (IsOne language n) text → Lacks (Behind bang (IsOne language depth)) text
  negated_lacks depth n text e l =
      subst (λ (d : ℕ). Lacks (Behind bang (IsOne language d)) text) (sym e)
      (made_lacks (IsOne language n) Not (Behind bang (IsOne language (suc n))) text (negated_made n) l)

  too_deep_bang : (tokens : List Token) (y : Term) (left : List Token) → IsOne language zero (bang ∷ tokens) y left → ⊥
  too_deep_bang tokens y left (compared d t l u h) = no_bang language tokens l u h

  pub deep_bang_lacks : (depth : ℕ) (text : List ℕ) → depth ≡ zero → Lacks (Behind bang (IsOne language depth)) text
  deep_bang_lacks depth text e =
      subst (λ (d : ℕ). Lacks (Behind bang (IsOne language d)) text) (sym e) (λ tokens y left h k. too_deep_bang tokens y left k)

  -- in parentheses
  grouped_made : (depth : ℕ) → IsMade (Before shuts (IsJoined language Either depth)) (λ (t : Term). t) (Behind opens (IsOne language (suc depth)))
  grouped_made depth =
      record {
        build = λ tokens term left h.
            subst (λ (t : Term). IsOne language (suc depth) (opens ∷ tokens) t left) (sym h.whole) (grouped depth tokens left h.parts h.are);
        invert = λ tokens y left h. grouped_invert depth tokens y left h;
      }
    where
      grouped_invert : (depth : ℕ) (tokens : List Token) (y : Term) (left : List Token) → IsOne language (suc depth) (opens ∷ tokens) y left
          → (t : Term) × IsJoined language Either depth tokens t (shuts ∷ left) × (y ≡ t)
      grouped_invert depth tokens y left (compared d t l u h) = absurd (no_opens language tokens l u h)
      grouped_invert depth tokens y left (grouped d t l us h) = (any_of us, record { parts = us; are = h; whole = refl }, refl)

  pub grouped_reads : (depth n : ℕ) (text mid left : List ℕ) (term : Term) → depth ≡ suc n → Reads (IsJoined language Either n) text term mid
      → Begins mid shuts left → Reads (Behind opens (IsOne language depth)) text term left
  grouped_reads depth n text mid left term e r b =
      subst (λ (d : ℕ). Reads (Behind opens (IsOne language d)) text term left) (sym e)
      (
      made_reads (Before shuts (IsJoined language Either n)) (λ (t : Term). t) (Behind opens (IsOne language (suc n))) text left term (grouped_made n)
      (before_reads (IsJoined language Either n) shuts text mid left term r b)
      )

  pub open_lacks : (depth n : ℕ) (text mid : List ℕ) (term : Term) → depth ≡ suc n → Reads (IsJoined language Either n) text term mid → BeginsNot mid shuts
      → Lacks (Behind opens (IsOne language depth)) text
  open_lacks depth n text mid term e r b =
      subst (λ (d : ℕ). Lacks (Behind opens (IsOne language d)) text) (sym e)
      (
      made_lacks (Before shuts (IsJoined language Either n)) (λ (t : Term). t) (Behind opens (IsOne language (suc n))) text (grouped_made n)
      (before_lacks (IsJoined language Either n) shuts text mid term r b)
      )

  pub grouped_lacks : (depth n : ℕ) (text : List ℕ) → depth ≡ suc n → Lacks (IsJoined language Either n) text → Lacks (Behind opens (IsOne language depth)) text
  grouped_lacks depth n text e l =
      subst (λ (d : ℕ). Lacks (Behind opens (IsOne language d)) text) (sym e)
      (
      made_lacks (Before shuts (IsJoined language Either n)) (λ (t : Term). t) (Behind opens (IsOne language (suc n))) text (grouped_made n)
      (before_lacks_all (IsJoined language Either n) shuts text l)
      )

  too_deep_opens : (tokens : List Token) (y : Term) (left : List Token) → IsOne language zero (opens ∷ tokens) y left → ⊥
  too_deep_opens tokens y left (compared d t l u h) = no_opens language tokens l u h

  pub deep_opens_lacks : (depth : ℕ) (text : List ℕ) → depth ≡ zero → Lacks (Behind opens (IsOne language depth)) text
  deep_opens_lacks depth text e =
      subst (λ (d : ℕ). Lacks (Behind opens (IsOne language d)) text) (sym e) (λ tokens y left h k. too_deep_opens tokens y left k)

  -- neither
  one_invert : (depth : ℕ) (text : List ℕ) → BeginsNot text bang → BeginsNot text opens → (tokens : List Token) (y : Term) (left : List Token)
      → HasTokens text tokens → IsOne language depth tokens y left → IsComparison language tokens y left
  one_invert depth text n m tokens y left h (compared d t l u k) = k
  one_invert depth text n m tokens y left h (negated d t l u k) = absurd (n t h)
  one_invert depth text n m tokens y left h (grouped d t l us k) = absurd (m t h)

  pub one_reads : (depth : ℕ) (text left : List ℕ) (term : Term) → BeginsNot text bang → BeginsNot text opens → Reads (IsComparison language) text term left
      → Reads (IsOne language depth) text term left
  one_reads depth text left term n m r =
      record {
        shorter = r.shorter;
        on = λ rest h. let p = r.on rest h in (p.0, p.1, compared depth p.0 rest term p.2);
        only = λ tokens y rest h k. r.only tokens y rest h (one_invert depth text n m tokens y rest h k);
      }

  pub one_lacks : (depth : ℕ) (text : List ℕ) → BeginsNot text bang → BeginsNot text opens → Lacks (IsComparison language) text
      → Lacks (IsOne language depth) text
  one_lacks depth text n m l tokens y left h k = l tokens y left h (one_invert depth text n m tokens y left h k)

  -- the whole text
  pub whole_reads : (text rest : List ℕ) (term : Term) → Reads (IsJoined language Either 100) text term rest → HasTokens rest [] → ReadsAsTerm language text term
  whole_reads text rest term r h =
      let p = r.on [] h in
      record { tokens = p.0; cut = p.1; parts = p.2.parts; parts_are = p.2.are; joined = p.2.whole }

  pub more_behind : (text rest : List ℕ) (term : Term) → Reads (IsJoined language Either 100) text term rest → (HasTokens rest [] → ⊥) → HasNoTerm language text
  more_behind text rest term r n y h =
      let p = r.only h.tokens y [] h.cut (record { parts = h.parts; are = h.parts_are; whole = h.joined }) in n p.1

  pub whole_lacks : (text : List ℕ) (fault : TermFault) → LacksBy (IsJoined language Either 100) text fault → IsTermFault language text fault
  whole_lacks text U8 l = λ y h. l h.tokens y [] h.cut (record { parts = h.parts; are = h.parts_are; whole = h.joined })
  whole_lacks text (U9 name) l = l
  whole_lacks text Memory l = l
