-- Worked examples of links.
use Rattle.std.proofs.Common.{◌≡◌, [], ◌∷◌, Some, option_map}
use Rattle.std.specs.Prelude.{codes}
use Rattle.std.specs.List.{slice_get}
use Rattle.worked_jobs.specs.Libraries.{library}
use Rattle.worked_jobs.specs.Netlists.{pair, pair_top, vector}
use Rattle.design_defs.specs.DesignFaults.{sources}
use Rattle.design_defs.specs.Links.{End, links_in}
use Rattle.design_defs.proofs.Expressions.{of_expressions}

-- the top of the two blocks: its input feeds the first block, whose output feeds the wire, which feeds the second block;
-- the output that isn't connected makes no link
pub links_of_pair : links_in (sources pair library [] (codes "top")) pair_top
    ≡ record { fed = End.child (codes "u_a") (codes "x") 0; source = End.inner (codes "x") 0; line = 9 }
    ∷ record { fed = End.inner (codes "n") 0; source = End.child (codes "u_a") (codes "y") 0; line = 9 }
    ∷ record { fed = End.child (codes "u_b") (codes "a") 0; source = End.inner (codes "n") 0; line = 10 }
    ∷ []
links_of_pair = simp of_expressions

-- the top of the netlist with vectors: a concatenation feeds a wire of two bits, and this wire with two constants feeds
-- the four bits of the port, from the left
pub links_of_vector : option_map (links_in (sources vector library [] (codes "top"))) (slice_get vector 1)
    ≡ Some (record { fed = End.child (codes "u_b") (codes "a") 0; source = End.inner (codes "n") 0; line = 7 }
    ∷ record { fed = End.child (codes "u_b") (codes "a") 1; source = End.inner (codes "n") 1; line = 7 }
    ∷ record { fed = End.child (codes "u_b") (codes "a") 2; source = End.constant; line = 7 }
    ∷ record { fed = End.child (codes "u_b") (codes "a") 3; source = End.constant; line = 7 }
    ∷ record { fed = End.inner (codes "n") 0; source = End.inner (codes "x") 0; line = 6 }
    ∷ record { fed = End.inner (codes "n") 1; source = End.inner (codes "x") 0; line = 6 }
    ∷ [])
links_of_vector = simp of_expressions
