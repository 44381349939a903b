-- The library and the netlists of the worked jobs are such as are read; a level shifter without a through pin isn't.
use Rattle.std.proofs.Common.{[], None, inl, inr, refl, sym, subst, arith}
use Rattle.std.specs.Prelude.{codes}
use Rattle.pw_defs.specs.declared.cells.Cell.{Cell}
use Rattle.pw_defs.specs.declared.netlist.Module.{Module}
use Rattle.worked_jobs.specs.Libraries.{buffer, isolation, library, shifter}
use Rattle.worked_jobs.specs.Netlists.{pair}
use Rattle.list_defs.specs.Members.{IsIn}
use Rattle.design_defs.specs.DesignFaults.{sources}
use Rattle.design_defs.specs.Inputs.{AreReadSources, HasItsRoles, IsReadCell, IsReadModule}

good_buffer : IsReadCell buffer
good_buffer = record {
  pin_names = refl;
  pins = record { through_in = tt; enable_in = tt };
  roles = record { through = λ e. cc; one_output = λ e. refl };
}

good_isolation : IsReadCell isolation
good_isolation = record {
  pin_names = refl;
  pins = record { through_in = omega arith; enable_in = omega arith };
  roles = record { through = λ e. refl; one_output = λ e. refl };
}

good_shifter : IsReadCell shifter
good_shifter = record {
  pin_names = refl;
  pins = record { through_in = omega arith; enable_in = tt };
  roles = record { through = λ e. refl; one_output = λ e. refl };
}

good_cells : (c : Cell) → IsIn c library.cells → IsReadCell c
good_cells c (inl e) = subst IsReadCell (sym e) good_buffer
good_cells c (inr (inl e)) = subst IsReadCell (sym e) good_isolation
good_cells c (inr (inr (inl e))) = subst IsReadCell (sym e) good_shifter
good_cells c (inr (inr (inr never))) = absurd never

good_modules : (m : Module) → IsIn m pair → IsReadModule m
good_modules m (inl e) = subst IsReadModule (sym e) (record { own_names = refl; no_constant = λ a never. absurd never })
good_modules m (inr (inl e)) = subst IsReadModule (sym e) (record { own_names = refl; no_constant = λ a never. absurd never })
good_modules m (inr (inr (inl e))) = subst IsReadModule (sym e) (record { own_names = refl; no_constant = λ a never. absurd never })
good_modules m (inr (inr (inr never))) = absurd never

-- the netlist of the two blocks with the library
pub pair_is_read : AreReadSources (sources pair library [] (codes "top"))
pair_is_read = record { each_cell = good_cells; each_module = good_modules; each_model = λ m never. absurd never; cell_names = refl; model_names = refl }

-- a level shifter that has no through pin
pub shifter_needs_through : HasItsRoles (record shifter { through = None }) → ⊥
shifter_needs_through roles = let none = roles.through refl in cc
