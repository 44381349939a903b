use Rattle.std.proofs.Common.{◌≡◌, ℕ, ◌<◌, ◌≤◌, length, sym, ap, subst, ◌∙◌, arith, slice_index, IfSome, sum_by}
use Rattle.std.specs.List.{AllByRecursion}
use Rattle.form_design.specs.declared.hierarchy.Held.{Held}
use Rattle.form_design.specs.Hierarchy.{size, links, links_with, own_bits, linked_bits}
use Rattle.form_design.specs.Fits.{feeds_once}
use Rattle.form_design.proofs.ListLemmas.{all_weaker}
use Rattle.form_design.proofs.HeldLemmas.{parents_in}
use Rattle.form_design.proofs.LinkLemmas.{length-starts_from, start_le, links_in}
use Rattle.form_design.proofs.design.linked_bits.Goals as goal

pub links-requires-clause-long : goal.links-requires-clause-long
links-requires-clause-long c = ap length c.requires.starts ∙ length-starts_from c.args.names.now 0 c.args.helds.now

pub links-requires-clause-parents : goal.links-requires-clause-parents
links-requires-clause-parents c =
    subst (λ (n : ℕ). AllByRecursion (λ (h : Held). IfSome h.parent (λ p. p < n)) c.args.helds.now)
    (sym (ap length c.requires.starts ∙ length-starts_from c.args.names.now 0 c.args.helds.now))
    (parents_in c.args.names.now c.args.helds.now c.requires.held)

pub links-requires-clause-few : goal.links-requires-clause-few
links-requires-clause-few c = λ k.
    let small : sum_by (size c.args.names.now) c.args.helds.now ≤ 8000000 = c.requires.small in
    omega (arith, start_le c.args.names.now 0 c.args.helds.now k, ap (λ s. slice_index s k) c.requires.starts)

pub connect-requires : goal.connect-requires
connect-requires c =
    let t = c.args.names.now in
    let hs = c.args.helds.now in
    let small : sum_by (size t) hs ≤ 8000000 = c.requires.small in
    let all : AllByRecursion (λ (l : ℕ × ℕ). l.1 < 4294967296) (links t hs) =
    all_weaker (λ (l : ℕ × ℕ). (l.0 < sum_by (size t) hs) × (l.1 < sum_by (size t) hs)) (λ (l : ℕ × ℕ). l.1 < 4294967296) (λ l is. omega (arith, is.1)) (links t hs) (links_in t hs c.requires.held) in
    subst (AllByRecursion (λ (l : ℕ × ℕ). l.1 < 4294967296))
    (sym (c.as_slice.ensures.value ∙ c.in_ok-links.ensures ∙ ap (λ s. links_with t s hs) c.requires.starts)) all

pub returns-then-connect : goal.returns-then-connect
returns-then-connect c =
    let t = c.args.names.now in
    let hs = c.args.helds.now in
    let made : c.as_slice.result.now ≡ links t hs = c.as_slice.ensures.value ∙ c.in_ok-links.ensures ∙ ap (λ s. links_with t s hs) c.requires.starts in
    let own : c.in_ok-bits.bits.items ≡ own_bits t hs = c.in_ok-bits.ensures in (
      c.if-connect.ensures.1 ∙ ap (λ ls. linked_bits ls c.in_ok-bits.bits.items) made ∙ ap (linked_bits (links t hs)) own,
      sym (ap (λ ls. feeds_once ls c.in_ok-bits.bits.items) made ∙ ap (feeds_once (links t hs)) own) ∙ c.if-connect.ensures.0,
    )
