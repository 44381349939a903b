-- The readers of scripts are exact: a text has one list of lines or one fault, and a line is one statement or has one fault.
use Rattle.std.proofs.Common.{◌≡◌, ℕ, List, ◌∷◌, Option, Some, None, refl, sym, ap, ◌∙◌, subst}
use Rattle.pw_defs.specs.declared.script.Command.{Command}
use Rattle.pw_defs.specs.declared.script.Given.{Given}
use Rattle.pw_defs.specs.declared.script.Line.{Line}
use Rattle.pw_defs.specs.declared.terms.Term.{Term}
use Rattle.tcl_words.proofs.ScriptLaws.{one_script, one_script_fault, lines_or_fault}
use Rattle.upf_commands.specs.CommandTable.{Arity, OptionRow}
use Rattle.upf_commands.specs.Forms.{Form, WordForm, ListForm}
use Rattle.upf_commands.specs.Values.{StateOption as OptionText}
use Rattle.upf_commands.proofs.CommandLaws.{one_command, one_command_fault, command_or_fault}
use Rattle.upf_commands.proofs.OneValue.{one_names, one_pair, one_pairs, one_on_state, one_supply_state, one_power_state}
use Rattle.upf_commands.proofs.OneVoltage.{one_volts}
use Rattle.power_states.specs.Expressions.{Language}
use Rattle.power_states.proofs.OneTerm.{one_term}
use Rattle.script_defs.specs.Statements.{Clause, Parts, Statement, StateOption}
use Rattle.script_defs.specs.ReadStatements.{IsTermOf, AreOptionsOf, IsWordSaid, IsListSaid, IsSaid, IsOptionSaid, IsClauseOf, IsStatementOf, IsStatement, readers}
use Rattle.script_defs.specs.Laws.{AreExact, HasOneLoad}
use Rattle.script_defs.proofs.OneClosing.{one_zip, one_some}
use Rattle.script_defs.proofs.OneLoad.{has_one_load}

one_reading : (language : Language) (text : List ℕ) (t u : Option Term) → IsTermOf language text t → IsTermOf language text u → t ≡ u
one_reading language text None None p q = refl
one_reading language text None (Some u) p q = absurd (p u q)
one_reading language text (Some t) None p q = absurd (q t p)
one_reading language text (Some t) (Some u) p q = ap Some (one_term language text t u p q)

one_options : (texts : List OptionText) (a b : List StateOption) → AreOptionsOf texts a → AreOptionsOf texts b → a ≡ b
one_options _ _ _ AreOptionsOf.none AreOptionsOf.none = refl
one_options _ _ _ (AreOptionsOf.on_supplies text t texts a p rest) (AreOptionsOf.on_supplies text' u texts' b q rest') =
    let first : t ≡ u = one_reading Language.supply text t u p q in
    let behind : a ≡ b = one_options texts a b rest rest' in
    cc
one_options _ _ _ (AreOptionsOf.on_states text t texts a p rest) (AreOptionsOf.on_states text' u texts' b q rest') =
    let first : t ≡ u = one_reading Language.logic text t u p q in
    let behind : a ≡ b = one_options texts a b rest rest' in
    cc
one_options _ _ _ (AreOptionsOf.unused word texts a rest) (AreOptionsOf.unused word' texts' b rest') = one_options texts a b rest rest'
one_options _ _ _ (AreOptionsOf.is_legal texts a rest) (AreOptionsOf.is_legal texts' b rest') = ap (λ os. StateOption.legal ∷ os)
    (one_options texts a b rest rest')
one_options _ _ _ (AreOptionsOf.is_illegal texts a rest) (AreOptionsOf.is_illegal texts' b rest') = ap (λ os. StateOption.illegal ∷ os)
    (one_options texts a b rest rest')

one_word : (form : WordForm) (value : List ℕ) (a b : Parts) → IsWordSaid form value a → IsWordSaid form value b → a ≡ b
one_word WordForm.volts value a b p q = let v = one_volts value p.0 q.0 p.1 q.1 in p.2 ∙ ap Parts.volts v ∙ sym q.2
one_word WordForm.any value a b p q = p ∙ sym q
one_word WordForm.simple value a b p q = p ∙ sym q
one_word WordForm.set_name value a b p q = p ∙ sym q
one_word WordForm.handle value a b p q = p ∙ sym q
one_word WordForm.file value a b p q = p ∙ sym q
one_word (WordForm.one_of words) value a b p q = p ∙ sym q

pair_said : (a b : Parts) (k l x y : List ℕ) → a ≡ Parts.pair k x → b ≡ Parts.pair l y → (k ≡ l) × (x ≡ y) → a ≡ b
pair_said a b k l x y p q both = p ∙ (λ i. Parts.pair (both.0 i) (both.1 i)) ∙ sym q

one_list : (form : ListForm) (value : List ℕ) (a b : Parts) → IsListSaid form value a → IsListSaid form value b → a ≡ b
one_list ListForm.names value a b p q = p.2 ∙ ap Parts.names (one_names value p.0 q.0 p.1 q.1) ∙ sym q.2
one_list ListForm.scope value a b p q = p.2 ∙ ap Parts.names (one_names value p.0 q.0 p.1 q.1) ∙ sym q.2
one_list ListForm.columns value a b p q = p.2 ∙ ap Parts.names (one_names value p.0 q.0 p.1 q.1) ∙ sym q.2
one_list (ListForm.keyed keys) value a b p q = pair_said a b p.0 q.0 p.1 q.1 p.3 q.3 (one_pair value p.0 p.1 q.0 q.1 p.2 q.2)
one_list ListForm.pair value a b p q = pair_said a b p.0 q.0 p.1 q.1 p.3 q.3 (one_pair value p.0 p.1 q.0 q.1 p.2 q.2)
one_list ListForm.attribute value a b p q = pair_said a b p.0 q.0 p.1 q.1 p.3 q.3 (one_pair value p.0 p.1 q.0 q.1 p.2 q.2)
one_list ListForm.switch_port value a b p q = pair_said a b p.0 q.0 p.1 q.1 p.3 q.3 (one_pair value p.0 p.1 q.0 q.1 p.2 q.2)
one_list ListForm.on_state value a b p q = pair_said a b p.0 q.0 p.1 q.1 p.3 q.3 (one_on_state value p.0 p.1 q.0 q.1 p.2 q.2)
one_list ListForm.supply_state value a b p q =
    let both = one_supply_state value p.0 q.0 p.1 q.1 p.2 q.2 in
    p.3 ∙ (λ i. Parts.valued (both.0 i) (both.1 i)) ∙ sym q.3
one_list ListForm.power_state value a b p q =
    let both = one_power_state value p.0 q.0 p.2.texts q.2.texts p.2.parted q.2.parted in
    let P : List OptionText → Type 0 = λ ts. AreOptionsOf ts q.1 in
    let options : p.1 ≡ q.1 = one_options p.2.texts p.1 q.1 p.2.read (subst P (sym both.1) q.2.read) in
    p.3 ∙ (λ i. Parts.described (both.0 i) (options i)) ∙ sym q.3

one_said : (form : Form) (value : List ℕ) (a b : Parts) → IsSaid form value a → IsSaid form value b → a ≡ b
one_said (Form.word form) value a b p q = one_word form value a b p q
one_said (Form.list form) value a b p q = one_list form value a b p q
one_said Form.pairs value a b p q = p.2 ∙ ap Parts.pairs (one_pairs value p.0 q.0 p.1 q.1) ∙ sym q.2

one_option : (arity : Arity) (form : Form) (value : List ℕ) (a b : Parts) → IsOptionSaid arity form value a → IsOptionSaid arity form value b → a ≡ b
one_option Arity.flag form value a b p q = p ∙ sym q
one_option Arity.truth form value a b p q = p.2 ∙ ap Parts.truth (one_some p.0 q.0 (sym p.1 ∙ q.1)) ∙ sym q.2
one_option Arity.value form value a b p q = one_said form value a b p q
one_option (Arity.means text) form value a b p q = one_said form value a b p q
one_option Arity.state form value a b p q = one_said form value a b p q

one_clause : (command : List ℕ) (g : Given) (x y : Clause) → IsClauseOf command g x → IsClauseOf command g y → x ≡ y
one_clause command g x y p q =
    let rows : q.row ≡ p.row = one_some q.row p.row (sym q.row_is ∙ p.row_is) in
    let P : OptionRow → Type 0 = λ r. IsOptionSaid r.arity r.form g.value y.parts in
    let parts : x.parts ≡ y.parts = one_option p.row.arity p.row.form g.value x.parts y.parts p.said (subst P rows q.said) in
    let option : x.option ≡ y.option = p.option_is ∙ sym q.option_is in
    let bytes : x.bytes ≡ y.bytes = p.bytes_are ∙ sym q.bytes_are in
    λ i. record { option = option i; bytes = bytes i; parts = parts i }

one_of_command : (c : Command) (s t : Statement) → IsStatementOf c s → IsStatementOf c t → s ≡ t
one_of_command c s t p q =
    let name : s.name ≡ t.name = p.name_is ∙ sym q.name_is in
    let args : s.args ≡ t.args = p.args_are ∙ sym q.args_are in
    let line : s.line ≡ t.line = p.line_is ∙ sym q.line_is in
    let passed : s.passed ≡ t.passed = p.passed_is ∙ sym q.passed_is in
    let clauses : s.clauses ≡ t.clauses = one_zip (IsClauseOf c.name) (one_clause c.name) c.options.given s.clauses t.clauses p.clauses_are q.clauses_are in
    λ i. record { name = name i; args = args i; clauses = clauses i; line = line i; passed = passed i }

one_statement : (line : Line) (s t : Statement) → IsStatement line s → IsStatement line t → s ≡ t
one_statement line s t p q =
    let P : Command → Type 0 = λ c. IsStatementOf c t in
    one_of_command p.command s t p.is_statement (subst P (one_command line q.command p.command q.is_command p.is_command) q.is_statement)

pub readers_are_exact : AreExact readers
readers_are_exact = record {
  one_script = one_script;
  one_script_fault = one_script_fault;
  script_or_fault = lines_or_fault;
  one_statement = one_statement;
  one_form_fault = one_command_fault;
  statement_or_fault = λ line s fault is has. command_or_fault line is.command fault is.is_command has;
}

-- Loading a script has one outcome.
pub scripts_load_in_one_way : HasOneLoad readers
scripts_load_in_one_way = has_one_load readers readers_are_exact
