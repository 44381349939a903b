use Rattle.std.proofs.Common.{◌≡◌, ◌≢◌, ◌≤◌, sym, ap, ◌∙◌, subst}
use Rattle.std.specs.Prelude.{IfSome, MatchOption, Option, None, slice_get}
use Rattle.pw_defs.specs.declared.design.Body.TheVariants.{Module as ModuleBody}
use Rattle.module_rows.specs.View.{name_at}
use Rattle.net_places.specs.declared.rows.NetRow.{NetRow}
use Rattle.net_places.specs.Nets.{own_net}
use Rattle.net_places.specs.Plans.{rows_at}
use Rattle.net_places.specs.Tables.{bits_in}
use Rattle.net_runs.specs.declared.plain.Opened.{Opened}
use Rattle.net_runs.specs.Known.{AreAllKnown, IsNetRow, known_in}
use Rattle.net_runs.proofs.KnownLemmas.{here_net, missing_net, other_net}
use Rattle.net_runs.proofs.lookups.Lookup.net.Goals as goal

pub returns-in_err-known : goal.returns-in_err-known
returns-in_err-known c s m is =
    let o = c.args.self.now in
    let known = c.self.inside.known.items in
    let are = subst (λ (x : Opened). AreAllKnown x.netlist.symbols x.plans x.holder known) c.self.view_is c.self.invariant in
    let name = name_at o.netlist.symbols c.args.symbol in
    let none = missing_net s o m is known are c.args.symbol c.requires (ap (λ xs. known_in xs c.args.symbol) (sym c.as_slice.ensures.value) ∙ sym c.in_err-known.ensures) in
    subst (λ (r : Option NetRow). MatchOption r (own_net s (ModuleBody o.holder) name ≡ None) (IsNetRow s (ModuleBody o.holder) name)) (sym c.from_residual.ensures) none

pub returns-then-known-self : goal.returns-then-known-self
returns-then-known-self c s m is =
    let o = c.args.self.now in
    let known = c.self.inside.known.items in
    let are = subst (λ (x : Opened). AreAllKnown x.netlist.symbols x.plans x.holder known) c.self.view_is c.self.invariant in
    let here : c.in_ok-known.known.holder ≡ o.holder = c.if-known-self.true ∙ ap (λ (x : Opened). x.holder) c.self.view_is in
    let row = c.net.result in
    let gives = subst (λ (x : Opened). row ≡ slice_get (rows_at x.plans (ModuleBody x.holder)) c.in_ok-known.known.net) c.self.view_is c.net.ensures.net in
    let few = subst (λ (x : Opened). IfSome row (λ _. bits_in (rows_at x.plans (ModuleBody x.holder)) ≤ 18446744073709551615)) c.self.view_is c.net.ensures.bits in
    here_net s o m is known are c.args.symbol c.requires c.in_ok-known.known row (ap (λ xs. known_in xs c.args.symbol) (sym c.as_slice.ensures.value) ∙ sym c.in_ok-known.ensures) here gives few

pub returns-else-known-self : goal.returns-else-known-self
returns-else-known-self c s m is =
    let o = c.args.self.now in
    let known = c.self.inside.known.items in
    let are = subst (λ (x : Opened). AreAllKnown x.netlist.symbols x.plans x.holder known) c.self.view_is c.self.invariant in
    let other : c.in_ok-known.known.holder ≢ o.holder = λ here. c.if-known-self.false (here ∙ sym (ap (λ (x : Opened). x.holder) c.self.view_is)) in
    other_net s o m is known are c.args.symbol c.requires c.in_ok-known.known (ap (λ xs. known_in xs c.args.symbol) (sym c.as_slice.ensures.value) ∙ sym c.in_ok-known.ensures) other
