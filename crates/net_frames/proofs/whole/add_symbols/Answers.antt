use Rattle.std.proofs.Common.{[], ap, ◌∙◌, arith}
use Rattle.std.proofs.lemmas.List.{take_all}
use Rattle.net_frames.specs.Places.{with_parts}
use Rattle.net_frames.proofs.Growing.{no_parts, symbol_more}
use Rattle.net_frames.proofs.whole.add_symbols.Goals as goal

pub loop-symbol-init : goal.loop-symbol-init
loop-symbol-init c = record { rows = c.requires; added = no_parts c.args.rows.now }

pub loop-symbol-preserved : goal.loop-symbol-preserved
loop-symbol-preserved c = record {
  rows = c.add_name.ensures.rows;
  added = symbol_more c.args.rows.now c.loop-symbol.rows c.add_name.new.self c.args.modules.now.symbols c.loop-symbol.symbol c.spelling.result.now c.loop-symbol.invariant.added
      c.spelling.ensures c.in_ok-add_name.ensures.added;
}

pub returns-clause-added : goal.returns-clause-added
returns-clause-added c =
    let symbols = c.args.modules.now.symbols in
    c.loop-symbol.invariant.added
    ∙ ap (λ names. with_parts c.args.rows.now names [] []) (take_all c.loop-symbol.symbol symbols (omega (arith, c.symbols-symbol-end.ensures.len)))
