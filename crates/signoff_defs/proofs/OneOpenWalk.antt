-- An instance has one list of open walks.
use Rattle.std.proofs.Common.{◌≡◌, ℕ, List, [], ◌∷◌, ◌++◌, filter, sym, ap, subst, ◌∙◌, refl}
use Rattle.std.specs.Cmp.{IsTotalOrder}
use Rattle.std.specs.Ordering.{nat_cmp}
use Rattle.std.proofs.lemmas.Cmp.{nat_cmp_total, nat_list_cmp_total, on_total, then_total}
use Rattle.std.proofs.lemmas.Option.{same_Some}
use Rattle.pw_defs.specs.declared.chains.Element.{Element}
use Rattle.pw_defs.specs.declared.chains.Partial.{Partial}
use Rattle.pw_defs.specs.declared.design.Design.{Design}
use Rattle.pw_defs.specs.declared.design.Feeder.TheVariants.{Driver}
use Rattle.pw_defs.specs.declared.design.PortBit.{PortBit}
use Rattle.pw_defs.specs.declared.intent.Intent.{Intent}
use Rattle.list_defs.specs.Orders.{IsPutInOrder}
use Rattle.design_defs.specs.CutWalks.{IsWalkInside, WalkEnd, at_inputs}
use Rattle.design_defs.proofs.CutWalking.{one_cut_walk}
use Rattle.list_defs.proofs.OneList.{one_list}
use Rattle.signoff_defs.specs.Elements.{AreElements}
use Rattle.list_defs.specs.Found.{AreFound}
use Rattle.signoff_defs.specs.OpenWalks.{IsOutputBit, IsReceiverInside, IsOutputAt, IsReceiverAt, AreTold, IsUndriven, IsOpenWalk, HasNoOpenWalk, AreOpenWalks, says_something, place_cmp, taker, taker_cmp}
use Rattle.signoff_defs.specs.WalkParts.{walk_parts}
use Rattle.list_defs.proofs.InOrder.{put_once}
use Rattle.signoff_defs.proofs.OneChain.{set_once, same_driver}
use Rattle.signoff_defs.proofs.OneElement.{elements_once}
use Rattle.list_defs.proofs.OneFound.{found_once}

-- an output bit of an instance is no receiver inside it
no_receiver : (d : Design) (inst b c : ℕ) (p q : PortBit) → b ≡ c → IsOutputBit d inst b p → IsReceiverInside d inst c q → ⊥
no_receiver d inst b c p q same out in_receiver =
    let moved : IsOutputBit d inst c p = subst (λ (n : ℕ). IsOutputBit d inst n p) same out in
    let one : p ≡ q = same_Some p q (sym moved.there ∙ in_receiver.there) in
    in_receiver.inner (ap (λ (r : PortBit). r.inst) (sym one) ∙ moved.of_inst)

walk_once : (d : Design) (inst b c : ℕ) (xs ys : List ℕ) (e f : WalkEnd) → b ≡ c → IsWalkInside d inst b xs e → IsWalkInside d inst c ys f → (xs ≡ ys) × (e ≡ f)
walk_once d inst b c xs ys e f same p q = one_cut_walk d.bits (at_inputs d (inst ∷ [])) b c xs ys e f same p q

told_once : (d : Design) (i : Intent) (inst unit : ℕ) (bs cs : List ℕ) (xs ys : List Element) → bs ≡ cs → AreTold d i inst unit bs xs
    → AreTold d i inst unit cs ys → xs ≡ ys
told_once d i inst unit bs cs xs ys same p q =
    let elements : p.elements ≡ q.elements = elements_once d i unit (walk_parts d inst cs) p.elements q.elements
    (subst (λ (ns : List ℕ). AreElements d i unit (walk_parts d inst ns) p.elements) same p.are_elements) q.are_elements in
    p.kept ∙ ap (filter says_something) elements ∙ sym q.kept

no_end : (p : PortBit) (e : WalkEnd) → IsUndriven e → WalkEnd.by_feeder (Driver p) ≡ e → ⊥
no_end p _ IsUndriven.constant same = cc
no_end p _ IsUndriven.unfed same = cc

no_cut : (e : WalkEnd) → IsUndriven e → WalkEnd.at_cut ≡ e → ⊥
no_cut _ IsUndriven.constant same = cc
no_cut _ IsUndriven.unfed same = cc

by_driver : (p q : PortBit) → WalkEnd.by_feeder (Driver p) ≡ WalkEnd.by_feeder (Driver q) → p ≡ q
by_driver p q same = let drivers : Driver p ≡ Driver q = cc in same_driver p q drivers

-- the open walk from a bit of an instance is one
open_walk_once : (d : Design) (i : Intent) (inst unit b c : ℕ) (x y : Partial) → b ≡ c → IsOpenWalk d i inst unit b x → IsOpenWalk d i inst unit c y → x ≡ y
open_walk_once d i inst unit _ _ _ _ same (IsOpenWalk.drive b p driver bits set told out walk drives has are)
    (IsOpenWalk.drive c q driver' bits' set' told' out' walk' drives' has' are') =
    let one = walk_once d inst b c bits bits' _ _ same walk walk' in
    let passed : bits ≡ bits' = one.0 in
    let drivers : driver ≡ driver' = by_driver driver driver' one.1 in
    let sets : set ≡ set' = set_once d i unit unit driver driver' set set' refl drivers has has' in
    let tells : told ≡ told' = told_once d i inst unit bits bits' told told' passed are are' in
    cc
open_walk_once d i inst unit _ _ _ _ same (IsOpenWalk.drive b p driver bits set told out walk drives has are)
    (IsOpenWalk.feed c q bits' told' out' walk' are') =
    let one = walk_once d inst b c bits bits' _ _ same walk walk' in let ends : WalkEnd.by_feeder (Driver driver) ≡ WalkEnd.at_cut = one.1 in cc
open_walk_once d i inst unit _ _ _ _ same (IsOpenWalk.drive b p driver bits set told out walk drives has are) (IsOpenWalk.quiet c q bits' end out' walk' none) =
    absurd (no_end driver end none (walk_once d inst b c bits bits' _ _ same walk walk').1)
open_walk_once d i inst unit _ _ _ _ same (IsOpenWalk.drive b p driver bits set told out walk drives has are)
    (IsOpenWalk.take c q bits' set' told' receives walk' has' are') =
    absurd (no_receiver d inst b c p q same out receives)
open_walk_once d i inst unit _ _ _ _ same (IsOpenWalk.feed b p bits told out walk are)
    (IsOpenWalk.drive c q driver bits' set told' out' walk' drives has are') =
    let one = walk_once d inst b c bits bits' _ _ same walk walk' in let ends : WalkEnd.at_cut ≡ WalkEnd.by_feeder (Driver driver) = one.1 in cc
open_walk_once d i inst unit _ _ _ _ same (IsOpenWalk.feed b p bits told out walk are) (IsOpenWalk.feed c q bits' told' out' walk' are') =
    let one = walk_once d inst b c bits bits' _ _ same walk walk' in
    let passed : bits ≡ bits' = one.0 in
    let tells : told ≡ told' = told_once d i inst unit bits bits' told told' passed are are' in
    cc
open_walk_once d i inst unit _ _ _ _ same (IsOpenWalk.feed b p bits told out walk are) (IsOpenWalk.quiet c q bits' end out' walk' none) =
    absurd (no_cut end none (walk_once d inst b c bits bits' _ _ same walk walk').1)
open_walk_once d i inst unit _ _ _ _ same (IsOpenWalk.feed b p bits told out walk are) (IsOpenWalk.take c q bits' set' told' receives walk' has' are') =
    absurd (no_receiver d inst b c p q same out receives)
open_walk_once d i inst unit _ _ _ _ same (IsOpenWalk.quiet b p bits end out walk none)
    (IsOpenWalk.drive c q driver bits' set told' out' walk' drives has are') =
    absurd (no_end driver end none (sym (walk_once d inst b c bits bits' _ _ same walk walk').1))
open_walk_once d i inst unit _ _ _ _ same (IsOpenWalk.quiet b p bits end out walk none) (IsOpenWalk.feed c q bits' told' out' walk' are') =
    absurd (no_cut end none (sym (walk_once d inst b c bits bits' _ _ same walk walk').1))
open_walk_once d i inst unit _ _ _ _ same (IsOpenWalk.quiet b p bits end out walk none) (IsOpenWalk.quiet c q bits' end' out' walk' none') = cc
open_walk_once d i inst unit _ _ _ _ same (IsOpenWalk.quiet b p bits end out walk none) (IsOpenWalk.take c q bits' set' told' receives walk' has' are') =
    absurd (no_receiver d inst b c p q same out receives)
open_walk_once d i inst unit _ _ _ _ same (IsOpenWalk.take b p bits set told receives walk has are)
    (IsOpenWalk.drive c q driver bits' set' told' out' walk' drives has' are') =
    absurd (no_receiver d inst c b q p (sym same) out' receives)
open_walk_once d i inst unit _ _ _ _ same (IsOpenWalk.take b p bits set told receives walk has are) (IsOpenWalk.feed c q bits' told' out' walk' are') =
    absurd (no_receiver d inst c b q p (sym same) out' receives)
open_walk_once d i inst unit _ _ _ _ same (IsOpenWalk.take b p bits set told receives walk has are) (IsOpenWalk.quiet c q bits' end out' walk' none) =
    absurd (no_receiver d inst c b q p (sym same) out' receives)
open_walk_once d i inst unit _ _ _ _ same (IsOpenWalk.take b p bits set told receives walk has are)
    (IsOpenWalk.take c q bits' set' told' receives' walk' has' are') =
    let one = walk_once d inst b c bits bits' _ _ same walk walk' in
    let passed : bits ≡ bits' = one.0 in
    let moved : IsReceiverInside d inst c p = subst (λ (n : ℕ). IsReceiverInside d inst n p) same receives in
    let ports : p ≡ q = same_Some p q (sym moved.there ∙ receives'.there) in
    let sets : set ≡ set' = set_once d i unit unit p q set set' refl ports has has' in
    let tells : told ≡ told' = told_once d i inst unit bits bits' told told' passed are are' in
    cc

place_cmp_total : IsTotalOrder place_cmp
place_cmp_total = then_total (on_total (λ (a : ℕ × PortBit). a.1.port) nat_cmp_total) (on_total (λ (a : ℕ × PortBit). a.1.place) nat_cmp_total)

taker_cmp_total : IsTotalOrder taker_cmp
taker_cmp_total = on_total taker nat_list_cmp_total

-- an instance has one list of open walks
pub open_walks_once : (d : Design) (i : Intent) (inst unit : ℕ) (xs ys : List Partial) → AreOpenWalks d i inst unit xs → AreOpenWalks d i inst unit ys → xs ≡ ys
open_walks_once d i inst unit xs ys a b =
    let outputs : a.outputs ≡ b.outputs = one_list place_cmp place_cmp_total (IsOutputAt d inst) a.outputs b.outputs a.are_outputs b.are_outputs in
    let receivers : a.receivers ≡ b.receivers = one_list nat_cmp nat_cmp_total (IsReceiverAt d inst) a.receivers b.receivers a.are_receivers b.are_receivers in
    let given : a.given ≡ b.given = found_once (λ (at : ℕ × PortBit). IsOpenWalk d i inst unit at.0) (λ (at : ℕ × PortBit). HasNoOpenWalk d i inst unit at.0)
    (λ at x y p q. open_walk_once d i inst unit at.0 at.0 x y refl p q) (λ at x is none. none x is) b.outputs a.given b.given
    (subst (λ (os : List (ℕ × PortBit)). AreFound (λ (at : ℕ × PortBit). IsOpenWalk d i inst unit at.0)
    (λ (at : ℕ × PortBit). HasNoOpenWalk d i inst unit at.0) os a.given) outputs a.are_given)
    b.are_given in
    let taken : a.taken ≡ b.taken = found_once (IsOpenWalk d i inst unit) (HasNoOpenWalk d i inst unit)
    (λ bit x y p q. open_walk_once d i inst unit bit bit x y refl p q) (λ bit x is none. none x is) b.receivers a.taken b.taken
    (subst (λ (rs : List ℕ). AreFound (IsOpenWalk d i inst unit) (HasNoOpenWalk d i inst unit) rs a.taken) receivers a.are_taken) b.are_taken in
    let order : a.taken_in_order ≡ b.taken_in_order = put_once taker_cmp taker_cmp_total b.taken a.taken_in_order b.taken_in_order
    (subst (λ (ps : List Partial). IsPutInOrder taker_cmp ps a.taken_in_order) taken a.in_order) b.in_order in
    let both : a.given ++ a.taken_in_order ≡ b.given ++ b.taken_in_order = cc in
    a.all ∙ both ∙ sym b.all
