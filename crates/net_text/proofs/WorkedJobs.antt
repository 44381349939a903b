-- The netlists of the worked jobs are read as their modules.
use Rattle.std.proofs.Common.{[], codes, refl}
use Rattle.pw_defs.specs.declared.faults.NetFault.TheVariants.{N1}
use Rattle.worked_jobs.specs.Texts.{pair_text, isolated_text, vector_text, twice_text, cut_text}
use Rattle.worked_jobs.specs.Netlists.{pair, isolated, vector, twice}
use Rattle.net_text.specs.NetlistFaults.{ReadsAsModules, HasNetlistFault}
use Rattle.net_text.proofs.NetlistLaws.{words_read, fault_read}
use Rattle.net_text.proofs.RefusedTold.{once_where}
use Rattle.net_text.proofs.WorkedNetlists.{computing, words_of}

-- two blocks and their top
pub the_pair_is_read : ReadsAsModules pair_text pair
unfolding computing
the_pair_is_read =
    record { words = words_of pair_text; reads = words_read pair_text (words_of pair_text) refl; once = once_where (words_of pair_text) refl; value = refl }

-- an isolation cell whose enable is a constant
pub the_isolated_pair_is_read : ReadsAsModules isolated_text isolated
unfolding computing
the_isolated_pair_is_read =
    record { words = words_of isolated_text; reads = words_read isolated_text (words_of isolated_text) refl; once = once_where (words_of isolated_text) refl; value = refl }

-- vectors, selects, a concatenation and a constant
pub the_vectors_are_read : ReadsAsModules vector_text vector
unfolding computing
the_vectors_are_read =
    record { words = words_of vector_text; reads = words_read vector_text (words_of vector_text) refl; once = once_where (words_of vector_text) refl; value = refl }

-- that a wire is fed twice is no fault of the text
pub a_wire_that_is_fed_twice_is_read : ReadsAsModules twice_text twice
unfolding computing
a_wire_that_is_fed_twice_is_read =
    record { words = words_of twice_text; reads = words_read twice_text (words_of twice_text) refl; once = once_where (words_of twice_text) refl; value = refl }

pub the_cut_netlist_ends_too_soon : HasNetlistFault cut_text (N1 (record { line = 2; name = codes "-" }))
unfolding computing
the_cut_netlist_ends_too_soon = record { left = []; fault = fault_read cut_text [] refl; of_class = ((λ e. cc), (λ e. cc)); place = refl }
