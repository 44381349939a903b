-- The base script is read as its statements, and its lines take the fresh world to its world.
use Rattle.std.proofs.Common.{◌≡◌, ℕ, Ok, List, [], ◌∷◌, Option, refl, inl, inr, subst, sym, lit≤, lit<}
use Rattle.std.specs.Prelude.{codes}
use Rattle.std.specs.List.{AllZip, zip}
use Rattle.pw_defs.specs.declared.script.Command.{Command}
use Rattle.pw_defs.specs.declared.script.Line.{Line}
use Rattle.pw_defs.specs.declared.values.Value.TheVariants.{Off, On}
use Rattle.list_defs.specs.Members.{IsIn}
use Rattle.tcl_words.proofs.ListLaws.{parting, parts_so}
use Rattle.upf_commands.proofs.WorkedScripts.{pair_lines_are_commands}
use Rattle.upf_commands.proofs.WorkedValues.{state_on, state_off}
use Rattle.upf_commands.specs.CommandWords.{row_of}
use Rattle.upf_commands.specs.Commands.{IsCommand}
use Rattle.upf_commands.specs.CommandTable.{commands}
use Rattle.upf_commands.specs.Forms.{ListForm}
use Rattle.upf_commands.specs.Values.{IsSupplyState}
use Rattle.upf_commands.specs.Voltages.{one, on}
use Rattle.worked_jobs.specs.Commands.{pair_commands}
use Rattle.worked_jobs.specs.Designs.{pair}
use Rattle.worked_jobs.specs.Lines.{pair_lines}
use Rattle.script_defs.specs.Statements.{Parts, Statement}
use Rattle.script_defs.specs.ReadStatements.{IsListSaid, IsStatementOf, IsStatement, readers}
use Rattle.script_defs.specs.Runs.{RunsTo, fresh}
use Rattle.script_defs.specs.Worked.{pair_statements}
use Rattle.script_defs.proofs.Behind.{base, pair_world}
use Rattle.script_defs.proofs.Fields.{beside, clause_so, statement_so}
use Rattle.script_defs.proofs.WorkedRuns.{fine_lines_run, pair_is_fine}

-- what goes with each other item by item is in the list of pairs
each_pair : {X Y : Type 0} (R : X → Y → Type 0) (xs : List X) (ys : List Y) → AllZip R xs ys → (p : X × Y) → IsIn p (zip xs ys) → R p.0 p.1
each_pair R [] [] all p i = absurd i
each_pair R [] (y ∷ ys) all p i = absurd all
each_pair R (x ∷ xs) [] all p i = absurd all
each_pair {X} {Y} R (x ∷ xs) (y ∷ ys) all p (inl e) = let P : X × Y → Type 0 = λ q. R q.0 q.1 in subst P (sym e) all.0
each_pair R (x ∷ xs) (y ∷ ys) all p (inr i) = each_pair R xs ys all.1 p i

-- what a value of two words says, and one of one word
paired : (text first second : List ℕ) → parting text ≡ Ok (first ∷ second ∷ []) → IsListSaid ListForm.pair text (Parts.pair first second)
paired text first second e = (first, second, parts_so text (first ∷ second ∷ []) e, refl)

listed : (text word : List ℕ) → parting text ≡ Ok (word ∷ []) → IsListSaid ListForm.names text (Parts.names (word ∷ []))
listed text word e = (word ∷ [], parts_so text (word ∷ []) e, refl)

no_volts : IsSupplyState (codes "gnd 0") (codes "gnd") (On 0)
no_volts = record {
  voltage = codes "0" ∷ [];
  parted = parts_so (codes "gnd 0") (codes "gnd" ∷ codes "0" ∷ []) refl;
  simple = refl;
  meant = on _ 0 (one (codes "0") 0 (record { digits = (lit< tt, (lit< tt, tt)); decimals = lit≤ tt; value = refl; limit = lit≤ tt }));
}

pub pair_commands_are_statements : AllZip IsStatementOf pair_commands pair_statements
unfolding row_of commands
pair_commands_are_statements =
    beside (statement_so _ _ refl refl refl refl tt)
    (beside (statement_so _ _ refl refl refl refl tt)
    (beside (statement_so _ _ refl refl refl refl tt)
    (beside (statement_so _ _ refl refl refl refl (beside (clause_so _ _ _ _ refl refl refl (codes "off", Off, state_off, refl))
    (beside (clause_so _ _ _ _ refl refl refl (codes "on", On 800000, state_on, refl)) tt)))
    (beside (statement_so _ _ refl refl refl refl (beside (clause_so _ _ _ _ refl refl refl (codes "on", On 800000, state_on, refl)) tt))
    (beside (statement_so _ _ refl refl refl refl (beside (clause_so _ _ _ _ refl refl refl (codes "gnd", On 0, no_volts, refl)) tt))
    (beside (statement_so _ _ refl refl refl refl (beside (clause_so _ _ _ _ refl refl refl (paired _ (codes "power") (codes "VA") refl))
    (beside (clause_so _ _ _ _ refl refl refl (paired _ (codes "ground") (codes "VSS") refl)) tt)))
    (beside (statement_so _ _ refl refl refl refl (beside (clause_so _ _ _ _ refl refl refl (paired _ (codes "power") (codes "VB") refl))
    (beside (clause_so _ _ _ _ refl refl refl (paired _ (codes "ground") (codes "VSS") refl)) tt)))
    (beside (statement_so _ _ refl refl refl refl (beside (clause_so _ _ _ _ refl refl refl (listed _ (codes ".") refl))
    (beside (clause_so _ _ _ _ refl refl refl (paired _ (codes "primary") (codes "SB") refl)) tt)))
    (beside (statement_so _ _ refl refl refl refl (beside (clause_so _ _ _ _ refl refl refl (listed _ (codes "u_a") refl))
    (beside (clause_so _ _ _ _ refl refl refl (paired _ (codes "primary") (codes "SA") refl)) tt)))
    (beside (statement_so _ _ refl refl refl refl (beside (clause_so _ _ _ _ refl refl refl (listed _ (codes "u_b") refl))
    (beside (clause_so _ _ _ _ refl refl refl (paired _ (codes "primary") (codes "SB") refl)) tt))) tt))))))))))

statements_of : (lines : List Line) (cs : List Command) (ss : List Statement) → AllZip IsCommand lines cs → AllZip IsStatementOf cs ss
    → AllZip IsStatement lines ss
statements_of [] [] [] p q = tt
statements_of [] [] (s ∷ ss) p q = absurd q
statements_of [] (c ∷ cs) ss p q = absurd p
statements_of (l ∷ ls) [] ss p q = absurd p
statements_of (l ∷ ls) (c ∷ cs) [] p q = absurd q
statements_of (l ∷ ls) (c ∷ cs) (s ∷ ss) p q = (record { command = c; is_command = p.0; is_statement = q.0 }, statements_of ls cs ss p.1 q.1)

-- the lines of the base script are its statements
pub pair_lines_are_statements : AllZip IsStatement pair_lines pair_statements
pair_lines_are_statements = statements_of pair_lines pair_commands pair_statements pair_lines_are_commands pair_commands_are_statements

-- The base script, as it is read, takes the fresh world to its world, whatever the files.
pub base_script_runs : (held : List ℕ → Option (List ℕ)) → RunsTo readers held pair (codes "base.upf") pair_lines pair_world
base_script_runs held =
    fine_lines_run readers held pair base (fresh pair) (zip pair_lines pair_statements)
    (each_pair IsStatement pair_lines pair_statements pair_lines_are_statements) pair_is_fine
