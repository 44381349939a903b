use Rattle.read_laws.proofs.GivenCells.{libraries_give_cells}
use Rattle.read_laws.proofs.GivenModules.{full_names_are_given, netlists_give_modules}
use Rattle.read_laws.proofs.ReadSources.{read_sources_fit}
use Rattle.read_laws.proofs.laws.what_is_read_fits.Goals as goal

pub returns : goal.returns
returns c = record { cells = libraries_give_cells; modules = netlists_give_modules; full = full_names_are_given; sources = read_sources_fit }
