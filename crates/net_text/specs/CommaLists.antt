-- Names as the grammar sees them, and lists with commas between their things.
use Rattle.std.specs.Prelude.{List}
use Rattle.text_defs.specs.Grammar.{◌>>◌}
use Rattle.text_defs.specs.Phrases.{many}
use Rattle.text_defs.specs.Tokens.{one_of, of_class}
use Rattle.net_text.specs.NetlistClasses.{is_comma}
use Rattle.net_text.specs.NetlistGrammar.{NetlistGrammar, Named, most}
use Rattle.net_text.specs.declared.tokens.NameAt.{NameAt}

abbrev pub named_view : NameAt → Named
named_view n = record { text = n.text.now; line = n.line }

-- a thing behind a comma
abbrev pub comma_then : {A : Type 0} → NetlistGrammar A → NetlistGrammar A
comma_then thing = one_of is_comma >> thing

-- further things, each behind a comma
abbrev pub further : {A : Type 0} → NetlistGrammar A → NetlistGrammar (List A)
further thing = many most (of_class is_comma) (comma_then thing)
