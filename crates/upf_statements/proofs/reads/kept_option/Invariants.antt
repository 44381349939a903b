use Rattle.std.proofs.Common.{◌≡◌, drop, find, map}
use Rattle.list_defs.specs.Members.{same_name}
use Rattle.upf_commands.specs.CommandRows.{OptionRow}
use Rattle.upf_reader.specs.Rows.{option_view}
use Rattle.upf_statements.proofs.reads.kept_option.Given as goal

abbrev pub invariant-loop-option : goal.invariant-loop-option
invariant-loop-option l =
    find (λ (o : OptionRow). same_name l.name o.kept) (map option_view (drop l.option-index l.option-items))
    ≡ find (λ (o : OptionRow). same_name l.name o.kept) (map option_view l.option-items)
