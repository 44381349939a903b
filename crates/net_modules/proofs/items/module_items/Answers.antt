use Rattle.std.proofs.Common.{map, sym, ◌∙◌, arith}
use Rattle.std.proofs.lemmas.Result.{err_from_is_err_and}
use Rattle.text_defs.specs.Phrases.{many}
use Rattle.text_defs.specs.Tokens.{of_class}
use Rattle.net_text.specs.DeclarationViews.{declaration_view}
use Rattle.net_text.specs.NetlistClasses.{begins_item}
use Rattle.net_text.specs.NetlistGrammar.{item, most}
use Rattle.net_modules.proofs.ItemLaws.{items_end, items_fault, no_items, one_item_more}
use Rattle.net_modules.proofs.TookLaws.{stopped_as}
use Rattle.net_modules.proofs.items.module_items.Goals as goal

pub loop-alloc-init : goal.loop-alloc-init
loop-alloc-init c = no_items c.args.tokens.now c.args.builder.now (map declaration_view c.args.all.now)

pub returns-in_err-next_item-clause-took : goal.returns-in_err-next_item-clause-took
returns-in_err-next_item-clause-took c =
    let p = err_from_is_err_and c.from_residual.result c.from_residual.ensures.1 in
    rw (p.1, p.2)
    (stopped_as item (many most (of_class begins_item) item) c.args.tokens.now c.loop-alloc.tokens c.next_item.new.tokens c.in_err-next_item.field-0.0
    c.in_err-next_item.ensures.took
    (items_fault c.args.tokens.now c.loop-alloc.tokens c.args.builder.now c.loop-alloc.builder (map declaration_view c.args.all.now)
    (map declaration_view c.loop-alloc.all) c.loop-alloc.count c.loop-alloc.invariant c.next_item.new.tokens (omega (arith, c.if-count.false))
    (sym c.is_item_next.ensures ∙ c.loop-alloc-test.true)))

pub loop-alloc-preserved : goal.loop-alloc-preserved
loop-alloc-preserved c =
    let t = c.in_ok-next_item.ensures.took in
    one_item_more c.args.tokens.now c.loop-alloc.tokens c.args.builder.now c.loop-alloc.builder (map declaration_view c.args.all.now)
    (map declaration_view c.loop-alloc.all) c.loop-alloc.count c.loop-alloc.invariant c.next_item.new.tokens c.next_item.new.builder
    (map declaration_view c.next_item.new.all) t.0 (omega (arith, c.if-count.false)) (sym c.is_item_next.ensures ∙ c.loop-alloc-test.true) t.1 t.2.0 t.2.1
    c.in_ok-next_item.ensures.shorter

pub returns-clause-took : goal.returns-clause-took
returns-clause-took c =
    let so_far = c.loop-alloc.invariant in (
      so_far.items,
      items_end c.args.tokens.now c.loop-alloc.tokens c.args.builder.now c.loop-alloc.builder (map declaration_view c.args.all.now)
          (map declaration_view c.loop-alloc.all) c.loop-alloc.count so_far (sym c.is_item_next.ensures ∙ c.loop-alloc-test.false),
      (so_far.built, so_far.said),
    )
