use Rattle.std.proofs.Common.{◌≡◌, sym, ap, ◌∙◌}
use Rattle.text_defs.specs.Grammar.{read_whole}
use Rattle.text_streams.specs.declared.stops.Stop.TheVariants as stops
use Rattle.lib_cells.specs.Groups.{library_group}
use Rattle.lib_cells.proofs.LibraryLaws.{groups_read}
use Rattle.lib_cells.proofs.WholeLaws.{reads_cut, whole_fault}
use Rattle.lib_cells.proofs.libraries.placed_cells.Goals as goal

pub returns-in-Ok : goal.returns-in-Ok
returns-in-Ok c =
    let m = c.in-Ok.ensures in
    (m.0, groups_read c.args.text.now m.0 (ap (λ l. read_whole library_group l) (sym c.new-tokens.ensures) ∙ m.1), m.2)

pub returns-in-Err-Fault : goal.returns-in-Err-Fault
returns-in-Err-Fault c =
    let is : c.in-Err-Fault.field-0 ≡ stops.Fault = cc (c.in-Err-Fault.field-0-is) in
    reads_cut c.args.text.now c.whole_library.new.tokens c.line.result c.cut_short.result
    (ap (λ l. read_whole library_group l) (sym c.new-tokens.ensures)
    ∙ whole_fault c.new-tokens.result c.whole_library.new.tokens c.in-Err-Fault.field-0 is c.in-Err-Fault.ensures) c.line.ensures c.cut_short.ensures
