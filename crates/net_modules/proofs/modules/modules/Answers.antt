use Rattle.std.proofs.Common.{sym, ◌∙◌, arith}
use Rattle.std.proofs.lemmas.Result.{err_from_is_err_and}
use Rattle.std.specs.Option.{option_map}
use Rattle.net_text.specs.CommaLists.{named_view}
use Rattle.net_text.specs.NetlistGrammar.{module_words, netlist}
use Rattle.net_modules.proofs.NetlistLoop.{modules_end, modules_fault, no_modules, one_module_more}
use Rattle.net_modules.proofs.TookLaws.{stopped_as}
use Rattle.net_modules.proofs.modules.modules.Goals as goal

pub loop-alloc-init : goal.loop-alloc-init
loop-alloc-init c = no_modules c.args.tokens.now c.args.builder.now c.requires

pub returns-in_err-refused : goal.returns-in_err-refused
returns-in_err-refused c =
    let p = err_from_is_err_and c.from_residual.result c.from_residual.ensures.1 in
    rw (p.1, p.2)
    (stopped_as module_words netlist c.args.tokens.now c.loop-alloc.tokens c.next_module.new.tokens c.in_err-refused.field-0.0 c.in_err-refused.ensures.took
    (modules_fault c.args.builder.now.modules c.args.tokens.now c.loop-alloc.tokens c.loop-alloc.builder (option_map named_view c.loop-alloc.second) c.loop-alloc.count c.loop-alloc.invariant
    c.next_module.new.tokens (omega (arith, c.if-count.false)) (sym c.is_next.ensures ∙ c.loop-alloc-test.true)))

pub loop-alloc-preserved : goal.loop-alloc-preserved
loop-alloc-preserved c =
    let t = c.in_ok-refused.ensures.took in
    one_module_more c.args.builder.now.modules c.args.tokens.now c.loop-alloc.tokens c.loop-alloc.builder (option_map named_view c.loop-alloc.second) c.loop-alloc.count c.loop-alloc.invariant
    c.next_module.new.tokens c.next_module.new.builder (option_map named_view c.in_ok-refused.refused) (option_map named_view c.first_of-second.result) t.0
    (omega (arith, c.if-count.false)) (sym c.is_next.ensures ∙ c.loop-alloc-test.true) t.1 t.2 c.first_of-second.ensures

pub returns : goal.returns
returns c =
    let so_far = c.loop-alloc.invariant in (
      so_far.words,
      modules_end c.args.builder.now.modules c.args.tokens.now c.loop-alloc.tokens c.loop-alloc.builder (option_map named_view c.loop-alloc.second) c.loop-alloc.count so_far
          (sym c.is_next.ensures ∙ c.loop-alloc-test.false),
      record { is = so_far.is; long = so_far.long },
    )
