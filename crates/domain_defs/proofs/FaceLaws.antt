-- A port bit has at most one pair of faces, and none where its domains agree.
use Rattle.std.proofs.Common.{◌≡◌, ℕ, Option, Some, slice_get, refl, sym, ap, ◌∙◌, subst}
use Rattle.pw_defs.specs.declared.design.Design.{Design}
use Rattle.pw_defs.specs.declared.design.PortBit.{PortBit}
use Rattle.pw_defs.specs.declared.intent.Face.{Face}
use Rattle.pw_defs.specs.declared.intent.Intent.{Intent}
use Rattle.design_defs.specs.Joined.{parent_of}
use Rattle.domain_defs.specs.Faces.{HasFaces, DomainsAgree, inner_face, outer_face}

-- an instance has one entry, and one parent
one_some : {X : Type 0} (o : Option X) (x y : X) → o ≡ Some x → o ≡ Some y → x ≡ y
one_some o x y h k = cc

inner_some : (x y : ℕ) → Some x ≡ Some y → x ≡ y
inner_some x y e = cc

pub one_pair_of_faces : (design : Design) (intent : Intent) (bit : PortBit) (o p : Option Face) (f g : Face)
    → HasFaces design intent bit o f → HasFaces design intent bit p g → (o ≡ p) × (f ≡ g)
one_pair_of_faces design intent bit _ _ _ _ (HasFaces.of_top d above here) (HasFaces.of_top e above' here') =
    (refl, ap (inner_face bit) (one_some (slice_get intent.domain_of bit.inst) d e here here'))
one_pair_of_faces design intent bit _ _ _ _ (HasFaces.of_top d above here) (HasFaces.between q out ins above' outside inside differ) = cc
one_pair_of_faces design intent bit _ _ _ _ (HasFaces.between q out ins above outside inside differ) (HasFaces.of_top d above' here') = cc
one_pair_of_faces design intent bit _ _ _ _ (HasFaces.between q out ins above outside inside differ)
    (HasFaces.between q' out' ins' above' outside' inside' differ') =
    let parents : q ≡ q' = inner_some q q' (one_some (parent_of design bit.inst) (Some q) (Some q') above above') in
    let D : ℕ → Type 0 = λ n. slice_get intent.domain_of n ≡ Some out in
    let outs : out ≡ out' = one_some (slice_get intent.domain_of q') out out' (subst D parents outside) outside' in
    let insides : ins ≡ ins' = one_some (slice_get intent.domain_of bit.inst) ins ins' inside inside' in
    (ap (λ d. Some (outer_face bit d)) outs, ap (inner_face bit) insides)

pub faces_or_agree : (design : Design) (intent : Intent) (bit : PortBit) (o : Option Face) (f : Face) → HasFaces design intent bit o f
    → ¬ DomainsAgree design intent bit
faces_or_agree design intent bit _ _ (HasFaces.of_top d above here) agree = let h = agree.above in cc
faces_or_agree design intent bit _ _ (HasFaces.between q out ins above outside inside differ) agree =
    let parents : q ≡ agree.parent = inner_some q agree.parent (one_some (parent_of design bit.inst) (Some q) (Some agree.parent) above agree.above) in
    let D : ℕ → Type 0 = λ n. slice_get intent.domain_of n ≡ Some out in
    let outs : out ≡ agree.domain = one_some (slice_get intent.domain_of agree.parent) out agree.domain (subst D parents outside) agree.outside in
    let insides : ins ≡ agree.domain = one_some (slice_get intent.domain_of bit.inst) ins agree.domain inside agree.inside in
    differ (outs ∙ sym insides)
