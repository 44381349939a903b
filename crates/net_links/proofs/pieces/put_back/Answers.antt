use Rattle.std.proofs.Common.{◌≡◌, ℕ, ◌≤◌, ◌++◌, List, drop, arith, sym, subst}
use Rattle.net_runs.specs.declared.runs.Run.{Run}
use Rattle.net_runs.specs.LocalNumbers.{run_bits, count_of}
use Rattle.net_links.specs.RunLinks.{AreFew, bits_back}
use Rattle.net_links.proofs.SideLemmas.{bits_put_back, constants_put_back, none_put_back}
use Rattle.net_links.proofs.pieces.put_back.Goals as goal

-- what is behind the bits that are used stands in front of what was there
abbrev IsPutBack : ℕ → List Run → List Run → Run → Type 0
IsPutBack used old new run = AreFew (run_bits run) → used ≤ count_of run → bits_back new ≡ drop used (run_bits run) ++ bits_back old

pub returns-in_ok-push-in-Bits-clause-rest : goal.returns-in_ok-push-in-Bits-clause-rest
returns-in_ok-push-in-Bits-clause-rest c =
    let used = c.args.used in
    let old = c.args.runs.now.items in
    let new = c.push.new.self.items in
    subst (IsPutBack used old new) (sym c.in-Bits.is) (λ few within.
    bits_put_back c.in-Bits.first c.in-Bits.count used c.saturating_add.result old new c.in_ok-push-in-Bits.ensures.items c.saturating_add.ensures
    (omega (arith, c.if-used-count.true)) few)

pub returns-else-used-count-clause-rest : goal.returns-else-used-count-clause-rest
returns-else-used-count-clause-rest c few within =
    let all : c.in-Bits.count ≤ c.args.used = omega (arith, c.if-used-count.false) in
    none_put_back c.args.run c.args.used c.args.runs.now.items (subst (λ run. count_of run ≤ c.args.used) (sym c.in-Bits.is) all)

pub returns-in_ok-push-in-Constants-clause-rest : goal.returns-in_ok-push-in-Constants-clause-rest
returns-in_ok-push-in-Constants-clause-rest c =
    let used = c.args.used in
    let old = c.args.runs.now.items in
    let new = c.push-then-used-count-2.new.self.items in
    subst (IsPutBack used old new) (sym c.in-Constants.is) (λ few within.
    constants_put_back c.in-Constants.count used old new c.in_ok-push-in-Constants.ensures.items (omega (arith, c.if-used-count-2.true)))

pub returns-else-used-count-2-clause-rest : goal.returns-else-used-count-2-clause-rest
returns-else-used-count-2-clause-rest c few within =
    let all : c.in-Constants.count ≤ c.args.used = omega (arith, c.if-used-count-2.false) in
    none_put_back c.args.run c.args.used c.args.runs.now.items (subst (λ run. count_of run ≤ c.args.used) (sym c.in-Constants.is) all)
