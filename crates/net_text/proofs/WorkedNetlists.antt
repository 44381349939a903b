-- What small netlists are read as, and their faults.
use Rattle.std.proofs.Common.{ℕ, List, [], Ok, Err, codes, drop, refl}
use Rattle.pw_defs.specs.declared.faults.NetFault.TheVariants.{N1, N2, N3, N4}
use Rattle.text_defs.specs.Lines.{line_at}
use Rattle.text_defs.specs.Pieces.{pieces_from, closed_by}
use Rattle.text_defs.specs.Grammar.{read, read_whole}
use Rattle.text_defs.specs.Phrases.{many}
use Rattle.net_text.specs.NetlistTokens.{netlist_tokens, netlist_piece, word_class, left_out_words}
use Rattle.net_text.specs.NetlistGrammar.{ModuleWords, netlist, nested}
use Rattle.net_text.specs.SecondDeclarations.{declarations}
use Rattle.net_text.specs.ModulesMeant.{module_of}
use Rattle.net_text.specs.NetlistFaults.{ReadsAsModules, HasNetlistFault}
use Rattle.net_text.specs.Worked.{small_text, listed_text, cut_text, inout_text, left_out_text, constant_left_text, wide_text, second_wire_text, bare_port_text, small, listed}
use Rattle.net_text.proofs.NetlistLaws.{words_read, fault_read}
use Rattle.net_text.proofs.RefusedTold.{once_where, second_where, telling}

-- all that reading a netlist computes with
unfoldable pub computing : Unit {0}
unfolding line_at pieces_from closed_by netlist_piece word_class left_out_words netlist nested read many declarations module_of telling
computing = tt

-- the words that are read of a text
abbrev pub words_of : List ℕ → List ModuleWords
words_of text = elim (read_whole netlist (netlist_tokens text)) [ Ok words ↦ words | Err left ↦ [] ]

-- a header's direction and range pass on, an escaped name is the name behind the backslash, a back quote's line is skipped
pub small_netlist_is_read : ReadsAsModules small_text small
unfolding computing
small_netlist_is_read =
    record {
      words = words_of small_text;
      reads = words_read small_text (words_of small_text) refl;
      once = once_where (words_of small_text) refl;
      value = refl;
    }

-- ports stand in the order of the header, and a wire may repeat a port's name
pub listed_netlist_is_read : ReadsAsModules listed_text listed
unfolding computing
listed_netlist_is_read =
    record {
      words = words_of listed_text;
      reads = words_read listed_text (words_of listed_text) refl;
      once = once_where (words_of listed_text) refl;
      value = refl;
    }

pub cut_netlist_ends_too_soon : HasNetlistFault cut_text (N1 (record { line = 2; name = codes "-" }))
unfolding computing
cut_netlist_ends_too_soon = record { left = []; fault = fault_read cut_text [] refl; of_class = ((λ e. cc), (λ e. cc)); place = refl }

pub inout_is_named : HasNetlistFault inout_text (N2 (record { line = 2; name = codes "inout" }))
unfolding computing
inout_is_named =
    record {
      left = drop 6 (netlist_tokens inout_text);
      fault = fault_read inout_text (drop 6 (netlist_tokens inout_text)) refl;
      of_class = refl;
      place = refl;
    }

pub a_word_that_is_left_out_is_named : HasNetlistFault left_out_text (N3 (record { line = 2; name = codes "reg" }))
unfolding computing
a_word_that_is_left_out_is_named =
    record {
      left = drop 3 (netlist_tokens left_out_text);
      fault = fault_read left_out_text (drop 3 (netlist_tokens left_out_text)) refl;
      of_class = refl;
      place = refl;
    }

-- no constant stands on the left
pub a_constant_on_the_left_is_refused : HasNetlistFault constant_left_text (N1 (record { line = 3; name = codes "1'b0" }))
unfolding computing
a_constant_on_the_left_is_refused =
    record {
      left = drop 7 (netlist_tokens constant_left_text);
      fault = fault_read constant_left_text (drop 7 (netlist_tokens constant_left_text)) refl;
      of_class = ((λ e. cc), (λ e. cc));
      place = refl;
    }

-- no number of a range is above 65,535
pub a_wide_range_is_refused : HasNetlistFault wide_text (N1 (record { line = 2; name = codes "65536" }))
unfolding computing
a_wide_range_is_refused =
    record {
      left = drop 5 (netlist_tokens wide_text);
      fault = fault_read wide_text (drop 5 (netlist_tokens wide_text)) refl;
      of_class = ((λ e. cc), (λ e. cc));
      place = refl;
    }

-- a second wire of one name is refused at its line
pub a_second_wire_is_refused : HasNetlistFault second_wire_text (N4 (record { line = 3; name = codes "a" }))
unfolding computing
a_second_wire_is_refused = second_where second_wire_text (words_of second_wire_text) _ (words_read second_wire_text (words_of second_wire_text) refl) refl

-- a port without direction is refused at its line in the header
pub a_bare_port_is_refused : HasNetlistFault bare_port_text (N4 (record { line = 2; name = codes "b" }))
unfolding computing
a_bare_port_is_refused = second_where bare_port_text (words_of bare_port_text) _ (words_read bare_port_text (words_of bare_port_text) refl) refl
