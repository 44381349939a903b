-- Ports by their names.
use Rattle.std.specs.Prelude.{ℕ, Bool, List}
use Rattle.std.specs.Str.{bytes_eq}
use Rattle.pw_defs.specs.declared.netlist.Port.{Port}

-- whether a port has this name
abbrev pub has_name : List ℕ → Port → Bool
has_name name p = bytes_eq p.name name
