-- Names of a module that go on behind none that is marked are apart, and so are all joined names then.
use Rattle.std.proofs.Common.{◌≡◌, ◌<◌, ℕ, List, [], Some, length, slice_get, refl, sym, ap, ◌∙◌, subst}
use Rattle.std.proofs.lemmas.Option.{get_or_from_slice_get, slice_get_within}
use Rattle.pw_defs.specs.declared.model.Model.{Model}
use Rattle.pw_defs.specs.declared.netlist.Module.{Module}
use Rattle.list_defs.specs.Members.{IsIn}
use Rattle.design_defs.specs.DesignFaults.{FaultKind}
use Rattle.design_defs.specs.Hierarchy.{Sources, AreNamedInsts}
use Rattle.design_defs.specs.Inputs.{AreReadSources, IsReadModule}
use Rattle.design_defs.specs.Models.{HasWellFormedFields}
use Rattle.module_rows.specs.Growth.{no_module}
use Rattle.module_rows.specs.Reads.{module_at}
use Rattle.module_rows.specs.declared.plain.Netlist.{Netlist}
use Rattle.net_hierarchy.specs.Ordered.{HasNoneOf}
use Rattle.net_names.specs.Apart.{AreApart, IsNameApart, inst_names, port_names}
use Rattle.net_names.specs.Bodies.{AreFree}
use Rattle.net_names.specs.Marks.{AreMarked, AreVectorsMarked}
use Rattle.net_names.specs.declared.bodies.Marks.{Marks}
use Rattle.net_names.proofs.EachBody.{all_apart, module_apart, none_twice}
use Rattle.net_names.proofs.Law.{apart_named}

name_apart : (symbols : List (List ℕ)) (marks : Marks) (stamp : ℕ) (m : Module) (name : List ℕ)
    → AreMarked symbols marks.insts.items stamp (λ n. IsIn n (inst_names m)) → AreVectorsMarked symbols marks.vectors.items stamp m.ports
    → AreFree symbols marks stamp name → IsNameApart (inst_names m) m.ports name
name_apart symbols marks stamp m name insts vectors free = record {
  slash = λ inst one on. free.slash inst on (insts.each inst one);
  bracket = λ p r one ranged on. free.bracket p.name on (vectors.marked.each p.name (record { p = p; range = r; one = one; ranged = ranged; same = refl }));
}

-- a module of which each name was looked at
pub module_looked : (symbols : List (List ℕ)) (marks : Marks) (stamp : ℕ) (m : Module) → AreMarked symbols marks.insts.items stamp (λ n. IsIn n (inst_names m))
    → AreVectorsMarked symbols marks.vectors.items stamp m.ports → ((name : List ℕ) → IsIn name (inst_names m) → AreFree symbols marks stamp name)
    → ((name : List ℕ) → IsIn name (port_names m.ports) → AreFree symbols marks stamp name) → IsReadModule m → AreApart (inst_names m) m.ports
module_looked symbols marks stamp m insts vectors free_insts free_ports read =
    module_apart m read vectors.small (λ name one. name_apart symbols marks stamp m name insts vectors (free_insts name one))
    (λ name one. name_apart symbols marks stamp m name insts vectors (free_ports name one))

-- where each module and each model was looked at, no joined name stands twice
pub none_clash : (s : Sources) (n : Netlist) (models : List Model) → s.modules ≡ n.modules → s.models ≡ models → AreReadSources s → AreNamedInsts s
    → ((k : ℕ) → k < length n.modules → IsReadModule (module_at n k) → AreApart (inst_names (module_at n k)) (module_at n k).ports)
    → ((m : Model) → IsIn m models → HasWellFormedFields m → AreApart [] m.ports) → HasNoneOf s FaultKind.path_twice
none_clash s n models modules_same models_same read named of_modules of_models =
    none_twice s (apart_named s (all_apart s read modules (λ m there. of_models m (subst (λ (ms : List Model). IsIn m ms) models_same there))) named)
  where
    modules : (k : ℕ) (m : Module) → slice_get s.modules k ≡ Some m → IsReadModule m → AreApart (inst_names m) m.ports
    modules k m is read_so =
        let there : slice_get n.modules k ≡ Some m = ap (λ (ms : List Module). slice_get ms k) (sym modules_same) ∙ is in
        let same : m ≡ module_at n k = sym (get_or_from_slice_get n.modules k m no_module there) in
        subst (λ x. AreApart (inst_names x) x.ports) (sym same) (of_modules k (slice_get_within n.modules k m there) (subst IsReadModule same read_so))
