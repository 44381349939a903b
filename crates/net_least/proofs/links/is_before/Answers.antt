use Rattle.std.proofs.Common.{◌≡◌, ◌≢◌, ◌⊎◌, sym, ◌∙◌, refl, inl, inr}
use Rattle.std.specs.declared.cmp.Ordering.{Ordering}
use Rattle.std.specs.declared.cmp.Ordering.TheVariants.{Less, Equal, Greater}
use Rattle.design_defs.specs.Hierarchy.{way_cmp}
use Rattle.net_least.proofs.Spelled.{order_of_texts}
use Rattle.net_least.proofs.links.is_before.Goals as goal

pub returns-in-Less : goal.returns-in-Less
returns-in-Less c v w is_v is_w =
    let same = order_of_texts c.args.modules.now.symbols c.args.links.now c.args.left c.args.right v w c.in_ok-first.first c.in_ok-second.second is_v is_w
    (c.in_ok-first.ensures v is_v) (c.in_ok-second.ensures w is_w) in
    let less : way_cmp v w ≡ Less = sym same ∙ sym c.text_order.ensures ∙ c.in-Less.is in
    (λ t. less, λ e. refl)

not_less : (o : Ordering) → (o ≡ Equal) ⊎ (o ≡ Greater) → o ≢ Less
not_less o is e = elim is [ inl equal ↦ (let never : Less ≡ Equal = sym e ∙ equal in cc) | inr greater ↦ (let never : Less ≡ Greater = sym e ∙ greater in cc) ]

pub returns-in-Equal : goal.returns-in-Equal
returns-in-Equal c v w is_v is_w =
    let same = order_of_texts c.args.modules.now.symbols c.args.links.now c.args.left c.args.right v w c.in_ok-first.first c.in_ok-second.second is_v is_w
    (c.in_ok-first.ensures v is_v) (c.in_ok-second.ensures w is_w) in (
      λ t. cc,
      λ less. absurd (not_less c.text_order.result c.in-Equal.is (c.text_order.ensures ∙ same ∙ less)),
    )
