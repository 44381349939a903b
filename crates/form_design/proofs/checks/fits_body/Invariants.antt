use Rattle.std.proofs.Common.{◌≡◌, drop}
use Rattle.std.specs.List.{list_all}
use Rattle.form_design.specs.Fits.{is_connected}
use Rattle.form_design.proofs.checks.fits_body.Given as goal

-- all pass where those that are left do
abbrev pub invariant-loop-conn : goal.invariant-loop-conn
invariant-loop-conn l = list_all (is_connected l.names l.holder l.body) (drop l.conn-index l.conns) ≡ list_all (is_connected l.names l.holder l.body) l.conns
