-- The lines of the chip's script and of its macro's are their statements.
use Rattle.std.proofs.Common.{◌≡◌, ℕ, Ok, true, List, [], ◌∷◌, ◌++◌, refl}
use Rattle.std.specs.Prelude.{codes}
use Rattle.std.specs.List.{AllZip}
use Rattle.pw_defs.specs.declared.script.Command.{Command}
use Rattle.pw_defs.specs.declared.script.Line.{Line}
use Rattle.pw_defs.specs.declared.values.Value.TheVariants.{Off, On}
use Rattle.tcl_words.proofs.ListLaws.{parting, parts_so}
use Rattle.upf_commands.proofs.WorkedScripts.{chip_lines_are_commands, macro_lines_are_commands}
use Rattle.upf_commands.proofs.WorkedValues.{state_on, state_off}
use Rattle.upf_commands.specs.CommandWords.{row_of}
use Rattle.upf_commands.specs.Commands.{IsCommand}
use Rattle.upf_commands.specs.CommandTable.{commands}
use Rattle.upf_commands.specs.Forms.{ListForm}
use Rattle.worked_jobs.specs.Commands.{chip_commands, macro_commands}
use Rattle.worked_jobs.specs.Lines.{chip_lines, macro_lines}
use Rattle.script_defs.specs.Statements.{Parts, Statement}
use Rattle.script_defs.specs.ReadStatements.{IsListSaid, IsStatementOf, IsStatement}
use Rattle.script_defs.specs.Worked.{chip_statements, chip_connections, macro_statements}
use Rattle.script_defs.proofs.Fields.{beside, clause_so, statement_so}

-- what a value of two words says, and one of one word
paired : (text first second : List ℕ) → parting text ≡ Ok (first ∷ second ∷ []) → IsListSaid ListForm.pair text (Parts.pair first second)
paired text first second e = (first, second, parts_so text (first ∷ second ∷ []) e, refl)

listed : (text word : List ℕ) → parting text ≡ Ok (word ∷ []) → IsListSaid ListForm.names text (Parts.names (word ∷ []))
listed text word e = (word ∷ [], parts_so text (word ∷ []) e, refl)

macro_commands_are_statements : AllZip IsStatementOf macro_commands macro_statements
unfolding row_of commands
macro_commands_are_statements =
    beside (statement_so _ _ refl refl refl refl (beside (clause_so _ _ _ _ refl refl refl (listed _ (codes ".") refl))
    (beside (clause_so _ _ _ _ refl refl refl (true, refl, refl)) tt)))
    (beside (statement_so _ _ refl refl refl refl tt)
    (beside (statement_so _ _ refl refl refl refl tt)
    (beside (statement_so _ _ refl refl refl refl (beside (clause_so _ _ _ _ refl refl refl (codes "off", Off, state_off, refl))
    (beside (clause_so _ _ _ _ refl refl refl (codes "on", On 800000, state_on, refl)) tt)))
    (beside (statement_so _ _ refl refl refl refl (beside (clause_so _ _ _ _ refl refl refl (codes "on", On 800000, state_on, refl)) tt))
    (beside (statement_so _ _ refl refl refl refl (beside (clause_so _ _ _ _ refl refl refl (paired _ (codes "power") (codes "VA") refl)) tt))
    (beside (statement_so _ _ refl refl refl refl (beside (clause_so _ _ _ _ refl refl refl (paired _ (codes "power") (codes "VB") refl)) tt))
    (beside (statement_so _ _ refl refl refl refl (beside (clause_so _ _ _ _ refl refl refl (listed _ (codes ".") refl))
    (beside (clause_so _ _ _ _ refl refl refl (paired _ (codes "primary") (codes "SB") refl)) tt)))
    (beside (statement_so _ _ refl refl refl refl (beside (clause_so _ _ _ _ refl refl refl (listed _ (codes "u_a") refl))
    (beside (clause_so _ _ _ _ refl refl refl (paired _ (codes "primary") (codes "SA") refl)) tt)))
    (beside (statement_so _ _ refl refl refl refl (beside (clause_so _ _ _ _ refl refl refl (listed _ (codes "u_b") refl))
    (beside (clause_so _ _ _ _ refl refl refl (paired _ (codes "primary") (codes "SB") refl)) tt))) tt)))))))))

chip_commands_are_statements : AllZip IsStatementOf chip_commands (chip_statements ++ chip_connections)
unfolding row_of commands
chip_commands_are_statements =
    beside (statement_so _ _ refl refl refl refl tt)
    (beside (statement_so _ _ refl refl refl refl tt)
    (beside (statement_so _ _ refl refl refl refl (beside (clause_so _ _ _ _ refl refl refl (codes "off", Off, state_off, refl))
    (beside (clause_so _ _ _ _ refl refl refl (codes "on", On 800000, state_on, refl)) tt)))
    (beside (statement_so _ _ refl refl refl refl (beside (clause_so _ _ _ _ refl refl refl (codes "on", On 800000, state_on, refl)) tt))
    (beside (statement_so _ _ refl refl refl refl (beside (clause_so _ _ _ _ refl refl refl (paired _ (codes "power") (codes "V2") refl)) tt))
    (beside (statement_so _ _ refl refl refl refl (beside (clause_so _ _ _ _ refl refl refl (listed _ (codes ".") refl))
    (beside (clause_so _ _ _ _ refl refl refl (paired _ (codes "primary") (codes "S2") refl)) tt)))
    (beside (statement_so _ _ refl refl refl refl (beside (clause_so _ _ _ _ refl refl refl refl) tt))
    (beside (statement_so _ _ refl refl refl refl (beside (clause_so _ _ _ _ refl refl refl (listed _ (codes "m/VA") refl)) tt))
    (beside (statement_so _ _ refl refl refl refl (beside (clause_so _ _ _ _ refl refl refl (listed _ (codes "m/VB") refl)) tt)) tt))))))))

statements_of : (lines : List Line) (cs : List Command) (ss : List Statement) → AllZip IsCommand lines cs → AllZip IsStatementOf cs ss
    → AllZip IsStatement lines ss
statements_of [] [] [] p q = tt
statements_of [] [] (s ∷ ss) p q = absurd q
statements_of [] (c ∷ cs) ss p q = absurd p
statements_of (l ∷ ls) [] ss p q = absurd p
statements_of (l ∷ ls) (c ∷ cs) [] p q = absurd q
statements_of (l ∷ ls) (c ∷ cs) (s ∷ ss) p q = (record { command = c; is_command = p.0; is_statement = q.0 }, statements_of ls cs ss p.1 q.1)

pub macro_lines_are_statements : AllZip IsStatement macro_lines macro_statements
macro_lines_are_statements = statements_of macro_lines macro_commands macro_statements macro_lines_are_commands macro_commands_are_statements

pub chip_lines_are_statements : AllZip IsStatement chip_lines (chip_statements ++ chip_connections)
chip_lines_are_statements =
    statements_of chip_lines chip_commands (chip_statements ++ chip_connections) chip_lines_are_commands chip_commands_are_statements
