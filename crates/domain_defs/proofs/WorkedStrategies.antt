-- Faces, candidates and choices at the port of the worked block.
use Rattle.std.proofs.Common.{◌≡◌, ◌≢◌, ℕ, zero, suc, ◌<◌, true, false, List, [], ◌∷◌, Some, None, slice_index_or, ◌+◌, inl, inr, refl, ap, subst, arith, Option, Bool}
use Rattle.std.specs.Ordering.{is_lt}
use Rattle.std.specs.declared.cmp.Ordering.TheVariants.{Less}
use Rattle.std.proofs.lemmas.List.Sorted.{IsPermutation-refl}
use Rattle.pw_defs.specs.declared.design.Named.{Named}
use Rattle.pw_defs.specs.declared.design.Named.TheVariants.{Instance, Port, PortBit as NamedBit}
use Rattle.pw_defs.specs.declared.design.PortBit.{PortBit}
use Rattle.pw_defs.specs.declared.intent.SupplySet.{SupplySet}
use Rattle.pw_defs.specs.declared.strategies.Act.TheVariants.{Iso}
use Rattle.pw_defs.specs.declared.strategies.Candidate.{Candidate}
use Rattle.pw_defs.specs.declared.strategies.Mode.TheVariants.{Plain}
use Rattle.pw_defs.specs.declared.strategies.Strategy.{Strategy}
use Rattle.pw_defs.specs.declared.strategies.Tool.TheVariants.{Iso as Isolation}
use Rattle.list_defs.specs.Orders.{IsPutInOrder}
use Rattle.domain_defs.specs.Candidates.{Contain, IsCandidate, AreCandidatesMade}
use Rattle.domain_defs.specs.Faces.{HasFaces, DomainsAgree, enters, inner_face, outer_face}
use Rattle.domain_defs.specs.Precedence.{IsChoice, Passes, passes, candidate_cmp}
use Rattle.domain_defs.proofs.Classes.{class_of_bit, class_of_port, class_both_ways, no_class}
use Rattle.domain_defs.proofs.WorkedDomains.{block, two_domains, block_intent, alone, left_bit, right_bit, by_bit, by_port, by_none}

-- a bit of the block's port has an outer face in the top's domain and an inner face in the block's
pub faces_of_block : HasFaces block block_intent left_bit (Some (outer_face left_bit 0)) (inner_face left_bit 1)
faces_of_block = HasFaces.between 0 0 1 refl refl refl (λ same. omega arith)

-- a bit of the top's port has an inner face alone
pub faces_of_top : HasFaces block block_intent (record { inst = 0; port = 0; place = 0 }) None (inner_face (record { inst = 0; port = 0; place = 0 }) 0)
faces_of_top = HasFaces.of_top 0 refl refl

-- a pin of the buffer has no face, since the buffer is in the block's domain
pub buffer_without_face : DomainsAgree block block_intent (record { inst = 2; port = 0; place = 0 })
buffer_without_face = record { parent = 1; above = refl; domain = 1; inside = refl; outside = refl }

-- the inner face of the input port is an input of the block's domain, its outer face is no input of the top's
pub inner_face_enters : enters block (inner_face left_bit 1) ≡ true
inner_face_enters = refl

pub outer_face_leaves : enters block (outer_face left_bit 0) ≡ false
outer_face_leaves = refl

-- the outer face of the output port is an input of the top's domain
pub outer_face_of_output_enters : enters block (outer_face (record { inst = 1; port = 1; place = 0 }) 0) ≡ true
outer_face_of_output_enters = refl

-- a strategy as a candidate of this class
abbrev at_class : ℕ → Strategy → Candidate
at_class class s = record { class = class; filter = s.filter; act = s.act }

nothing_named : (bit : PortBit) (class : ℕ) → ¬ Contain [] bit class
nothing_named bit _ (Contain.by_bit i) = i
nothing_named bit _ (Contain.by_port i) = i
nothing_named bit _ (Contain.by_instance i) = i

-- the candidates at the inner face of the right bit, in the order in which they were made: by the bit, by the port, without elements
candidate_by_bit : IsCandidate block two_domains (inner_face right_bit 1) Isolation by_bit (at_class 4 by_bit)
candidate_by_bit = record {
  tool_is = refl;
  domain_is = refl;
  admitted = refl;
  included = λ class c. nothing_named right_bit class c;
  class_is = class_of_bit by_bit right_bit (NamedBit right_bit ∷ []) refl (inl refl);
  filter_is = refl;
  act_is = refl;
}

-- a bit of the block's port a
abbrev bit_at : ℕ → PortBit
bit_at place = record { inst = 1; port = 0; place = place }

candidate_by_port : (place : ℕ)
    → IsCandidate block two_domains (inner_face (bit_at place) 1) Isolation by_port (at_class 3 by_port)
candidate_by_port place = record {
  tool_is = refl;
  domain_is = refl;
  admitted = refl;
  included = λ class c. nothing_named (bit_at place) class c;
  class_is = class_of_port by_port (bit_at place) (Port 1 0 ∷ []) refl (λ i. elim i [ inl e ↦ cc | inr none ↦ none ]) (inl refl);
  filter_is = refl;
  act_is = refl;
}

candidate_by_none : (place : ℕ)
    → IsCandidate block two_domains (inner_face (bit_at place) 1) Isolation by_none (at_class 0 by_none)
candidate_by_none place = record {
  tool_is = refl;
  domain_is = refl;
  admitted = refl;
  included = λ class c. nothing_named (bit_at place) class c;
  class_is = class_both_ways by_none (bit_at place) refl refl;
  filter_is = refl;
  act_is = refl;
}

abbrev named_place : Named → ℕ
named_place (Instance inst) = 0
named_place (Port inst port) = 0
named_place (NamedBit bit) = bit.place

-- the strategy that names the right bit is no candidate at the left one
other_bit : (c : Candidate) → ¬ IsCandidate block two_domains (inner_face left_bit 1) Isolation by_bit c
other_bit c is =
    no_class by_bit left_bit (NamedBit right_bit ∷ []) refl
    (λ i. elim i [ inl e ↦ omega (arith, ap named_place e) | inr none ↦ none ])
    (λ i. elim i [ inl e ↦ cc | inr none ↦ none ]) (λ i. elim i [ inl e ↦ cc | inr none ↦ none ]) c.class is.class_is.matches

-- the classes at the right bit are 4, 3, 0, with isolation forbidden, forced and plain; at the left bit 3, 0
pub three_at_right_bit : AreCandidatesMade block two_domains (inner_face right_bit 1) Isolation (by_bit ∷ by_port ∷ by_none ∷ [])
    (at_class 4 by_bit ∷ at_class 3 by_port ∷ at_class 0 by_none ∷ [])
three_at_right_bit =
    AreCandidatesMade.taken by_bit (at_class 4 by_bit) (by_port ∷ by_none ∷ []) (at_class 3 by_port ∷ at_class 0 by_none ∷ []) candidate_by_bit
    (AreCandidatesMade.taken by_port (at_class 3 by_port) (by_none ∷ []) (at_class 0 by_none ∷ []) (candidate_by_port 1)
    (AreCandidatesMade.taken by_none (at_class 0 by_none) [] [] (candidate_by_none 1) AreCandidatesMade.none))

pub two_at_left_bit : AreCandidatesMade block two_domains (inner_face left_bit 1) Isolation (by_bit ∷ by_port ∷ by_none ∷ [])
    (at_class 3 by_port ∷ at_class 0 by_none ∷ [])
two_at_left_bit =
    AreCandidatesMade.left by_bit (by_port ∷ by_none ∷ []) (at_class 3 by_port ∷ at_class 0 by_none ∷ []) other_bit
    (AreCandidatesMade.taken by_port (at_class 3 by_port) (by_none ∷ []) (at_class 0 by_none ∷ []) (candidate_by_port 0)
    (AreCandidatesMade.taken by_none (at_class 0 by_none) [] [] (candidate_by_none 0) AreCandidatesMade.none))

abbrev three : List Candidate
three = at_class 4 by_bit ∷ at_class 3 by_port ∷ at_class 0 by_none ∷ []

-- as they were made they stand best first
pub made_best_first : IsPutInOrder candidate_cmp three three
made_best_first = record {
  same = IsPermutation-refl three;
  sorted = λ k d low high. by k d high;
  stable = λ x. refl;
}
  where
    by : (k : ℕ) (d : Candidate) → k + 1 < 3
        → is_lt (candidate_cmp (slice_index_or three (k + 1) d) (slice_index_or three k d)) ≡ false
    by zero d high = refl
    by (suc zero) d high = refl
    by (suc (suc k)) d high = absurd (omega arith)

-- at the outer face, which is of the top's domain, none of them is a candidate
pub none_at_outer_face : (s : Strategy) (c : Candidate) → s.domain ≡ 1 → ¬ IsCandidate block two_domains (outer_face left_bit 0) Isolation s c
none_at_outer_face s c of_block is = omega (arith, of_block, is.domain_is)

-- a list whose first two candidates have one class and rank
abbrev twice : List Candidate
twice = at_class 0 by_none ∷ at_class 0 by_none ∷ []

pass_in_twice : (place : ℕ) (c : Candidate) → Passes twice (alone 0) (alone 1) place c → (c ≡ at_class 0 by_none) × (place < 2)
pass_in_twice zero c p = let there = p.there in (cc, omega arith)
pass_in_twice (suc zero) c p = let there = p.there in (cc, omega arith)
pass_in_twice (suc (suc n)) c p = let there = p.there in cc

-- of two equal candidates the first made is effective, and they tie
pub first_made_wins : IsChoice twice (alone 0) (alone 1) (record { first = Some 0; tie = true })
first_made_wins = IsChoice.tied 0 (at_class 0 by_none)
    (record {
      passing = record { there = refl; passing = refl };
      unexceeded = λ other o p. by o (pass_in_twice other o p).0;
      made_first = λ other o before p. absurd (omega (arith, before));
    })
    (record { other = 1; candidate = at_class 0 by_none; elsewhere = λ e. omega arith; passing = record { there = refl; passing = refl }; equal = refl })
  where
    by : (o : Candidate) → o ≡ at_class 0 by_none → candidate_cmp o (at_class 0 by_none) ≢ Less
    by o same less =
        let e : candidate_cmp (at_class 0 by_none) (at_class 0 by_none) ≡ Less = subst (λ x. candidate_cmp x (at_class 0 by_none) ≡ Less) same less in cc

-- a candidate with this filter
abbrev filtering : Option SupplySet → Bool → Candidate
filtering source diff = record { class = 0; filter = record { source = source; sink = None; diff = diff }; act = Iso Plain None }

-- a filter for another source lets nothing pass
pub other_source_passes_not : passes (alone 0) (alone 1) (filtering (Some (alone 1)) false) ≡ false
other_source_passes_not = refl

-- a filter that asks for different sets lets the same set not pass
pub same_set_passes_not : passes (alone 0) (alone 0) (filtering None true) ≡ false
same_set_passes_not = refl
