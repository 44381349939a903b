use Rattle.std.proofs.Common.{◌≡◌, ◌+◌, ℕ, length, refl, sym, ap, ◌∙◌, subst, arith}
use Rattle.std.specs.Prelude.{slice_get}
use Rattle.pw_defs.specs.declared.design.Body.TheVariants.{Module as ModuleBody}
use Rattle.net_places.specs.Plans.{rows_at}
use Rattle.net_runs.specs.Known.{AreKnown, HasKnown}
use Rattle.net_runs.proofs.KnownLemmas.{noted_known, noted_length, noted_more}
use Rattle.net_runs.proofs.known.note_nets.Goals as goal

pub loop-net-init : goal.loop-net-init
loop-net-init c = record { count = refl; known = λ are. are; all = λ i row under at within. absurd (omega arith) }

pub loop-net-preserved : goal.loop-net-preserved
loop-net-preserved c =
    let p = c.args.plans.now in
    let holder = c.args.holder in
    let rows = rows_at p (ModuleBody holder) in
    let net = c.loop-net.net in
    let old = c.loop-net.known.items in
    let row = slice_get rows net in
    record {
      count = ap length c.note_net.ensures ∙ noted_length old holder net row ∙ c.loop-net.invariant.count;
      known = λ are. subst (AreKnown p) (sym c.note_net.ensures) (noted_known p old holder net row refl (c.loop-net.invariant.known are));
      all = subst (HasKnown holder rows (net + 1)) (sym c.note_net.ensures) (noted_more rows old holder net row refl c.loop-net.invariant.all);
    }

pub returns : goal.returns
returns c =
    let rows = rows_at c.args.plans.now (ModuleBody c.args.holder) in
    let end : c.loop-net.net ≡ length rows = omega (arith, c.nets-net-end.ensures, c.loop-net-test.false) in
    record {
      count = c.loop-net.invariant.count;
      known = c.loop-net.invariant.known;
      all = subst (λ (n : ℕ). HasKnown c.args.holder rows n c.loop-net.known.items) end c.loop-net.invariant.all;
    }
