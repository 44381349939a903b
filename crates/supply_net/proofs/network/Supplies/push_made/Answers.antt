use Rattle.std.proofs.Common.{◌≡◌, ℕ, List, [], ◌∷◌, ◌++◌, refl, sym, ap, ◌∙◌, subst}
use Rattle.std.specs.Option.{unwrap_or}
use Rattle.pw_defs.specs.declared.supplies.Supply.{Supply}
use Rattle.supply_net.specs.Feeders.{IsFitting}
use Rattle.supply_net.specs.Parts.{Held, network_of}
use Rattle.supply_net.proofs.HeldLemmas.{pushed_held}
use Rattle.supply_net.proofs.NetworkLemmas.{popped, same_network}
use Rattle.supply_net.proofs.network.Supplies.push_made.Goals as goal
use Rattle.supply_net.proofs.network.Supplies.push_made.Goals.{in-Some-1, in-None-1}

pub invariant_of-self-in-Ok : goal.invariant_of-self-in-Ok
invariant_of-self-in-Ok c =
    pushed_held c.self.inside.supplies c.push.new.self c.self.inside.above.items c.push_reserved.new.self.items c.args.supply c.unwrap_or-above.result
    c.self.invariant c.in_ok-push.ensures.ok
    (c.push_reserved.ensures.items ∙ ap (λ (xs : List ℕ). xs ++ c.unwrap_or-above.result ∷ []) c.reserve.ensures.items)
    (subst (λ (xs : List Supply). IsFitting xs c.args.supply.feeder) (sym (ap (λ (h : Held). h.supplies) c.self.view_is)) c.requires)
    (c.unwrap_or-above.ensures ∙ ap (unwrap_or c.args.supply.feeder) c.len-number.ensures)

pub returns-clause-err : goal.returns-clause-err
returns-clause-err c =
    let back : c.pop-last.new.self ≡ c.self.inside.supplies =
    popped c.self.inside.supplies c.push.new.self c.pop-last.new.self c.args.supply c.pop-last.result c.in_ok-push.ensures.ok c.pop-last.ensures in
    let mid : Held = record { supplies = c.pop-last.new.self; sets = c.self.inside.sets; names = c.put.new.self } in
    let old : Held = record { supplies = c.self.inside.supplies; sets = c.self.inside.sets; names = c.self.inside.names } in
    let same : network_of mid ≡ network_of c.args.self.now =
    same_network (network_of mid) (network_of old) back refl c.in-Err.ensures.err ∙ ap network_of c.self.view_is in
    elim c.match-last.branch [ in-Some-1 w ↦ ap network_of w.self-is ∙ same | in-None-1 w ↦ ap network_of w.self-is ∙ same ]
