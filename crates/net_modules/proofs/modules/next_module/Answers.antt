use Rattle.std.proofs.Common.{ap, map, ◌++◌, ◌∙◌}
use Rattle.std.proofs.lemmas.Result.{err_from_is_err_and}
use Rattle.std.specs.List.{flat_map}
use Rattle.std.specs.Option.{option_map}
use Rattle.net_text.specs.CommaLists.{named_view}
use Rattle.net_text.specs.DeclarationViews.{declaration_view}
use Rattle.text_defs.specs.Phrases.{many}
use Rattle.text_defs.specs.Tokens.{of_class, one_of}
use Rattle.net_text.specs.NetlistClasses.{begins_item, is_endmodule}
use Rattle.net_text.specs.NetlistGrammar.{item, module_words, most}
use Rattle.net_text.specs.HeaderViews.{header_view}
use Rattle.net_text.specs.SecondDeclarations.{header_ports, item_declarations}
use Rattle.net_modules.proofs.ModuleReads.{end_stops, items_stop, module_ended, module_read}
use Rattle.net_modules.proofs.TookLaws.{stopped_as}
use Rattle.net_modules.proofs.modules.next_module.Goals as goal

pub returns-clause-took : goal.returns-clause-took
returns-clause-took c =
    let items = c.in_ok-module_items.ensures.took in
    let header = header_view c.in_ok-header.header in (
      _,
      module_read c.args.tokens.now c.one.new.self c.name.new.tokens c.header.new.tokens c.one-2.new.self _ _ _ header
          c.in_ok-first.ensures.answers c.in_ok-name.ensures.answers c.in_ok-header.ensures.answers c.in_ok-one.ensures.answers items.0 c.module_items.new.tokens items.1 _
          c.one-3.new.self c.in_ok-one-2.ensures.answers,
      module_ended c.args.builder.now c.module_items.new.builder c.end_module.new.builder c.in_ok-name.name.text.now c.in_ok-first.first.line header items.0
          (map declaration_view c.as_slice.result.now) (option_map named_view c.in_ok-refused.refused) items.2.0
          (ap (map declaration_view) c.as_slice.ensures.items ∙ items.2.1
          ∙ ap (λ l. l ++ flat_map item_declarations items.0) (c.in_ok-add_header.ensures ∙ ap (λ l. map declaration_view l ++ header_ports header) c.new-all.ensures))
          c.in_ok-refused.ensures,
    )

pub returns-in_err-module_items-clause-took : goal.returns-in_err-module_items-clause-took
returns-in_err-module_items-clause-took c =
    let p = err_from_is_err_and c.from_residual-in_err-module_items.result c.from_residual-in_err-module_items.ensures.1 in
    rw (p.1, p.2)
    (stopped_as (many most (of_class begins_item) item) module_words c.args.tokens.now c.one-2.new.self c.module_items.new.tokens c.in_err-module_items.field-0.0
    c.in_err-module_items.ensures.took
    (items_stop c.args.tokens.now c.one.new.self c.name.new.tokens c.header.new.tokens c.one-2.new.self _ _ _ (header_view c.in_ok-header.header)
    c.in_ok-first.ensures.answers c.in_ok-name.ensures.answers c.in_ok-header.ensures.answers c.in_ok-one.ensures.answers c.module_items.new.tokens))

pub returns-in_err-one-2-clause-took : goal.returns-in_err-one-2-clause-took
returns-in_err-one-2-clause-took c =
    let items = c.in_ok-module_items.ensures.took in
    let p = err_from_is_err_and c.from_residual-in_err-one-2.result c.from_residual-in_err-one-2.ensures.1 in
    rw (p.1, p.2)
    (stopped_as (one_of is_endmodule) module_words c.args.tokens.now c.module_items.new.tokens c.one-3.new.self c.in_err-one-2.field-0.0 c.in_err-one-2.ensures.answers
    (end_stops c.args.tokens.now c.one.new.self c.name.new.tokens c.header.new.tokens c.one-2.new.self _ _ _ (header_view c.in_ok-header.header)
    c.in_ok-first.ensures.answers c.in_ok-name.ensures.answers c.in_ok-header.ensures.answers c.in_ok-one.ensures.answers items.0 c.module_items.new.tokens items.1
    c.one-3.new.self))
