-- Marks of the instances and the vector ports of a module.
use Rattle.std.specs.Prelude.{◌≡◌, ℕ, true, List, length}
use Rattle.list_defs.specs.Members.{IsIn, all_differ, same_name}
use Rattle.module_rows.specs.Reads.{module_at}
use Rattle.module_rows.specs.declared.plain.Netlist.{Netlist}
use Rattle.net_names.specs.Apart.{inst_names}
use Rattle.net_names.specs.Marks.{AreMarked, AreVectorsMarked, IsFree}
use Rattle.net_names.specs.declared.bodies.Marks.{Marks}

-- no two symbols are spelled the same, and each has both marks
pub record HasMarks (symbols : List (List ℕ)) (marks : Marks) : Type 0 where
  pub differ : all_differ same_name symbols ≡ true
  pub insts : length marks.insts.items ≡ length symbols
  pub vectors : length marks.vectors.items ≡ length symbols

-- the name goes on behind no name of an instance with a slash, and behind no name of a vector port with an opening bracket
pub record AreFree (symbols : List (List ℕ)) (marks : Marks) (stamp : ℕ) (name : List ℕ) : Type 0 where
  pub slash : IsFree symbols marks.insts.items stamp 47 name
  pub bracket : IsFree symbols marks.vectors.items stamp 91 name

-- the names of the instances and the vector ports of a module bear this mark
pub record IsMarkedFor (n : Netlist) (holder stamp : ℕ) (marks : Marks) : Type 0 where
  pub still : HasMarks n.symbols marks
  pub insts : AreMarked n.symbols marks.insts.items stamp (λ name. IsIn name (inst_names (module_at n holder)))
  pub vectors : AreVectorsMarked n.symbols marks.vectors.items stamp (module_at n holder).ports
