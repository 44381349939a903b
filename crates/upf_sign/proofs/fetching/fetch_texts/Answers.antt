use Rattle.std.proofs.Common.{refl}
use Rattle.upf_sign.specs.Fetching.{IsFaultAt, IsFirstFault}
use Rattle.upf_sign.specs.Jobs.{job_in}
use Rattle.upf_sign.proofs.Fetched.{err_is, first_at_library, first_at_netlist, held_at, same_counts, stops_after}
use Rattle.upf_sign.proofs.fetching.fetch_texts.Goals as goal

pub returns-in_err-library-clause-stop : goal.returns-in_err-library-clause-stop
returns-in_err-library-clause-stop g c =
    err_is c.from_residual.result c.in_err-library.field-0.0 _ c.from_residual.ensures.1
    (stops_after _ _ (IsFaultAt c.args.job.now.library.now) (IsFirstFault (job_in c.args.job.now)) _ _ _ c.in_err-library.field-0.0 refl (same_counts (g.S.Shelf.counts c.args.shelf.now))
    (λ files is. first_at_library files (job_in c.args.job.now)) c.in_err-library.ensures.stop)

pub returns-in_err-netlist-clause-stop : goal.returns-in_err-netlist-clause-stop
returns-in_err-netlist-clause-stop g c =
    err_is c.from_residual-in_err-netlist.result c.in_err-netlist.field-0.0 _ c.from_residual-in_err-netlist.ensures.1
    (stops_after _ _ (IsFaultAt c.args.job.now.netlist.now) (IsFirstFault (job_in c.args.job.now)) _ _ _ c.in_err-netlist.field-0.0 c.in_ok-library.ensures.same c.in_ok-library.ensures.counts
    (λ files is. first_at_netlist files (job_in c.args.job.now) c.in_ok-library.library.items (held_at _ files _ is c.in_ok-library.ensures.text)) c.in_err-netlist.ensures.stop)
