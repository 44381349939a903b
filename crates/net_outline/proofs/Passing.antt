-- Errors that are passed on, and what the tables of names say of the sources.
use Rattle.std.proofs.Common.{◌≡◌, List, Result, Ok, Err, sym, subst}
use Rattle.std.specs.Prelude.{IfErr}
use Rattle.std.specs.Result.{IsErrAnd}
use Rattle.pw_defs.specs.declared.cells.Cells.{Cells}
use Rattle.pw_defs.specs.declared.model.Model.{Model}
use Rattle.pw_defs.specs.declared.netlist.Module.{Module}
use Rattle.design_defs.specs.Hierarchy.{Sources}
use Rattle.module_rows.specs.declared.plain.Netlist.{Netlist}
use Rattle.net_hierarchy.specs.declared.kinds.Kinds.{Kinds}
use Rattle.net_hierarchy.specs.Kinds.{AreKinds}
use Rattle.net_places.specs.Plans.{IsOf}

-- what holds of an error holds where it is passed on
pub passed_on : {T E : Type 0} (r : Result T E) (fault : E) (P : E → Type 0) → IsErrAnd r (λ e. e ≡ fault) → P fault → IfErr r P
passed_on (Ok x) fault P is holds = tt
passed_on (Err e) fault P is holds = subst P (sym is) holds

-- tables of modules, cells and models are tables of the sources
pub kinds_of_sources : (n : Netlist) (cells : Cells) (models : List Model) (s : Sources) → IsOf n cells models s → (k : Kinds) → AreKinds n.modules cells models k
    → AreKinds s.modules s.cells s.models k
kinds_of_sources n cells models s of k is =
    subst (λ (ms : List Module). AreKinds ms s.cells s.models k) (sym of.0)
    (subst (λ (cs : Cells). AreKinds n.modules cs s.models k) (sym of.1) (subst (λ (xs : List Model). AreKinds n.modules cells xs k) (sym of.2) is))
