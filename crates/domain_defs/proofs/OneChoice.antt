-- A strategy has one class and is at most one candidate at a face, and a list of candidates has one choice.
use Rattle.std.proofs.Common.{◌≡◌, ℕ, ◌<◌, List, Some, slice_get, refl, sym, ap, ◌∙◌, subst, arith}
use Rattle.std.specs.Cmp.{IsTotalOrder}
use Rattle.std.specs.Ordering.{ordering_reverse}
use Rattle.std.specs.declared.cmp.Ordering.{Ordering}
use Rattle.std.specs.declared.cmp.Ordering.TheVariants.{Less, Equal, Greater}
use Rattle.std.proofs.lemmas.Cmp.{nat_cmp_total, on_total, then_total, back_total}
use Rattle.pw_defs.specs.declared.design.Design.{Design}
use Rattle.pw_defs.specs.declared.design.PortBit.{PortBit}
use Rattle.pw_defs.specs.declared.intent.Domain.{Domain}
use Rattle.pw_defs.specs.declared.intent.Face.{Face}
use Rattle.pw_defs.specs.declared.intent.SupplySet.{SupplySet}
use Rattle.pw_defs.specs.declared.strategies.Act.{Act}
use Rattle.pw_defs.specs.declared.strategies.Candidate.{Candidate}
use Rattle.pw_defs.specs.declared.strategies.Choice.{Choice}
use Rattle.pw_defs.specs.declared.strategies.Filter.{Filter}
use Rattle.pw_defs.specs.declared.strategies.Strategy.{Strategy}
use Rattle.pw_defs.specs.declared.strategies.Tool.{Tool}
use Rattle.domain_defs.specs.Candidates.{IsClass, IsCandidate, AreCandidatesMade}
use Rattle.domain_defs.specs.Precedence.{candidate_cmp, rank, IsEffective, IsTied, IsChoice}

-- a strategy has at most one class at a port bit
pub one_class : (s : Strategy) (bit : PortBit) (c d : ℕ) → IsClass s bit c → IsClass s bit d → c ≡ d
one_class s bit c d h k =
    let low = h.highest d k.matches in
    let high = k.highest c h.matches in
    omega arith

abbrev candidate : ℕ → Filter → Act → Candidate
candidate class filter act = record { class = class; filter = filter; act = act }

same_candidate : (c d : ℕ) (f g : Filter) (a b : Act) → c ≡ d → f ≡ g → a ≡ b → candidate c f a ≡ candidate d g b
same_candidate c d f g a b x y z = cc

-- a strategy is at most one candidate at a face
pub one_candidate : (design : Design) (domains : List Domain) (face : Face) (tool : Tool) (s : Strategy) (c d : Candidate)
    → IsCandidate design domains face tool s c → IsCandidate design domains face tool s d → c ≡ d
one_candidate design domains face tool s c d h k =
    same_candidate c.class d.class c.filter d.filter c.act d.act (one_class s face.bit c.class d.class h.class_is k.class_is)
    (h.filter_is ∙ sym k.filter_is) (h.act_is ∙ sym k.act_is)

same_candidates : (design : Design) (domains : List Domain) (face : Face) (tool : Tool) (ss ts : List Strategy) (cs ds : List Candidate) → ss ≡ ts
    → AreCandidatesMade design domains face tool ss cs → AreCandidatesMade design domains face tool ts ds → cs ≡ ds
same_candidates design domains face tool _ _ _ _ same AreCandidatesMade.none AreCandidatesMade.none = refl
same_candidates design domains face tool _ _ _ _ same AreCandidatesMade.none (AreCandidatesMade.taken t d ts ds is more) = cc
same_candidates design domains face tool _ _ _ _ same AreCandidatesMade.none (AreCandidatesMade.left t ts ds differs more) = cc
same_candidates design domains face tool _ _ _ _ same (AreCandidatesMade.taken s c ss cs is more) AreCandidatesMade.none = cc
same_candidates design domains face tool _ _ _ _ same (AreCandidatesMade.left s ss cs differs more) AreCandidatesMade.none = cc
same_candidates design domains face tool _ _ _ _ same (AreCandidatesMade.taken s c ss cs is more) (AreCandidatesMade.taken t d ts ds is' more') =
    let first : s ≡ t = cc in
    let rest : ss ≡ ts = cc in
    let C : Strategy → Type 0 = λ x. IsCandidate design domains face tool x c in
    let one : c ≡ d = one_candidate design domains face tool t c d (subst C first is) is' in
    let others : cs ≡ ds = same_candidates design domains face tool ss ts cs ds rest more more' in
    cc
same_candidates design domains face tool _ _ _ _ same (AreCandidatesMade.taken s c ss cs is more) (AreCandidatesMade.left t ts ds differs more') =
    let first : s ≡ t = cc in
    let C : Strategy → Type 0 = λ x. IsCandidate design domains face tool x c in
    absurd (differs c (subst C first is))
same_candidates design domains face tool _ _ _ _ same (AreCandidatesMade.left s ss cs differs more) (AreCandidatesMade.taken t d ts ds is more') =
    let first : t ≡ s = cc in
    let C : Strategy → Type 0 = λ x. IsCandidate design domains face tool x d in
    absurd (differs d (subst C first is))
same_candidates design domains face tool _ _ _ _ same (AreCandidatesMade.left s ss cs differs more) (AreCandidatesMade.left t ts ds differs' more') =
    let rest : ss ≡ ts = cc in
    same_candidates design domains face tool ss ts cs ds rest more more'

-- strategies make at most one list of candidates at a face
pub one_list_of_candidates : (design : Design) (domains : List Domain) (face : Face) (tool : Tool) (strategies : List Strategy) (cs ds : List Candidate)
    → AreCandidatesMade design domains face tool strategies cs → AreCandidatesMade design domains face tool strategies ds → cs ≡ ds
one_list_of_candidates design domains face tool strategies cs ds h k = same_candidates design domains face tool strategies strategies cs ds refl h k

pub candidate_cmp_total : IsTotalOrder candidate_cmp
candidate_cmp_total = then_total (back_total (on_total (λ (c : Candidate). c.class) nat_cmp_total)) (back_total (on_total rank nat_cmp_total))

-- of two effective candidates neither exceeds the other
equal_if_both : (list : List Candidate) (from to : SupplySet) (p q : ℕ) (c d : Candidate) → IsEffective list from to p c
    → IsEffective list from to q d → candidate_cmp c d ≡ Equal
equal_if_both list from to p q c d h k = by (candidate_cmp c d) refl
  where
    by : (o : Ordering) → candidate_cmp c d ≡ o → o ≡ Equal
    by Less is = absurd (k.unexceeded p c h.passing is)
    by Equal is = refl
    by Greater is = absurd (h.unexceeded q d k.passing (candidate_cmp_total.antisymm d c ∙ ap ordering_reverse is))

-- a list of candidates has at most one effective one
pub one_effective : (list : List Candidate) (from to : SupplySet) (p q : ℕ) (c d : Candidate) → IsEffective list from to p c
    → IsEffective list from to q d → p ≡ q
one_effective list from to p q c d h k = omega (arith, not_after, not_before)
  where
    equal : candidate_cmp c d ≡ Equal
    equal = equal_if_both list from to p q c d h k

    equal' : candidate_cmp d c ≡ Equal
    equal' = equal_if_both list from to q p d c k h

    not_after : ¬ (q < p)
    not_after less = h.made_first q d less k.passing equal'

    not_before : ¬ (p < q)
    not_before less = k.made_first p c less h.passing equal

one_at_place : (list : List Candidate) (p q : ℕ) (c d : Candidate) → p ≡ q → slice_get list p ≡ Some c → slice_get list q ≡ Some d → c ≡ d
one_at_place list p q c d same h k = cc

tied_here : (list : List Candidate) (from to : SupplySet) (p q : ℕ) (c d : Candidate) → p ≡ q → c ≡ d → IsTied list from to p c → IsTied list from to q d
tied_here list from to p q c d places same tied =
    let T : ℕ → Type 0 = λ n. IsTied list from to n c in
    let U : Candidate → Type 0 = λ x. IsTied list from to q x in
    subst U same (subst T places tied)

-- a list of candidates has at most one choice
pub one_choice : (list : List Candidate) (from to : SupplySet) (x y : Choice) → IsChoice list from to x → IsChoice list from to y → x ≡ y
one_choice list from to _ _ (IsChoice.none none) (IsChoice.none none') = refl
one_choice list from to _ _ (IsChoice.none none) (IsChoice.alone q d is only) = absurd (none q d is.passing)
one_choice list from to _ _ (IsChoice.none none) (IsChoice.tied q d is other) = absurd (none q d is.passing)
one_choice list from to _ _ (IsChoice.alone p c is only) (IsChoice.none none) = absurd (none p c is.passing)
one_choice list from to _ _ (IsChoice.tied p c is other) (IsChoice.none none) = absurd (none p c is.passing)
one_choice list from to _ _ (IsChoice.alone p c is only) (IsChoice.alone q d is' only') =
    let places : p ≡ q = one_effective list from to p q c d is is' in cc
one_choice list from to _ _ (IsChoice.tied p c is other) (IsChoice.tied q d is' other') =
    let places : p ≡ q = one_effective list from to p q c d is is' in cc
one_choice list from to _ _ (IsChoice.alone p c is only) (IsChoice.tied q d is' other) =
    let places : q ≡ p = one_effective list from to q p d c is' is in
    absurd (only (tied_here list from to q p d c places (one_at_place list q p d c places is'.passing.there is.passing.there) other))
one_choice list from to _ _ (IsChoice.tied p c is other) (IsChoice.alone q d is' only) =
    let places : p ≡ q = one_effective list from to p q c d is is' in
    absurd (only (tied_here list from to p q c d places (one_at_place list p q c d places is.passing.there is'.passing.there) other))
