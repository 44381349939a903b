-- The lines of the worked scripts are their commands.
use Rattle.std.proofs.Common.{refl}
use Rattle.std.specs.List.{AllZip}
use Rattle.upf_commands.proofs.LineReading.{commands_so}
use Rattle.upf_commands.specs.CommandWords.{row_of}
use Rattle.upf_commands.specs.Commands.{IsCommand}
use Rattle.upf_commands.specs.CommandTable.{commands}
use Rattle.worked_jobs.specs.Commands.{pair_commands, bits_commands, macro_commands, chip_commands, switched_commands}
use Rattle.worked_jobs.specs.Lines.{pair_lines, bits_lines, macro_lines, chip_lines, switched_lines}

pub pair_lines_are_commands : AllZip IsCommand pair_lines pair_commands
unfolding row_of commands
pair_lines_are_commands = commands_so pair_lines pair_commands refl

pub bits_lines_are_commands : AllZip IsCommand bits_lines bits_commands
unfolding row_of commands
bits_lines_are_commands = commands_so bits_lines bits_commands refl

pub macro_lines_are_commands : AllZip IsCommand macro_lines macro_commands
unfolding row_of commands
macro_lines_are_commands = commands_so macro_lines macro_commands refl

pub chip_lines_are_commands : AllZip IsCommand chip_lines chip_commands
unfolding row_of commands lib.Utf8.encode
chip_lines_are_commands = commands_so chip_lines chip_commands refl

pub switched_lines_are_commands : AllZip IsCommand switched_lines switched_commands
unfolding row_of commands
switched_lines_are_commands = commands_so switched_lines switched_commands refl
