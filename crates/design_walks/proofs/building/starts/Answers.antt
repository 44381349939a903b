use Rattle.std.proofs.Common.{◌≡◌, ◌∙◌, ℕ, Vec, Global, ◌<◌, ◌++◌, ◌+◌, ◌∷◌, [], List, None, Option, Some, option_map, length, map, ap, arith, subst, sym}
use Rattle.std.proofs.lemmas.List.{map-append, with_items_is}
use Rattle.pw_defs.specs.declared.chains.Walk.{Walk}
use Rattle.pw_defs.specs.declared.design.PortBit.{PortBit}
use Rattle.design_defs.specs.Walks.{start_at}
use Rattle.chains.proofs.Steps.{AreFirstWalks, walks_all, walks_more, walks_same}
use Rattle.design_walks.specs.Ends.{AreEnds}
use Rattle.design_walks.specs.Trails.{next_bits, walk_of}
use Rattle.design_walks.proofs.EndLemmas.{port_read}
use Rattle.design_walks.proofs.building.starts.Goals as goal
use Rattle.design_walks.proofs.building.starts.Goals.{in-Some+in_ok-push, in_default}

pub loop-n-preserved : goal.loop-n-preserved
loop-n-preserved c =
    let d = c.args.design.now in
    let n = c.loop-n.n in
    let within : n < length d.bits = omega (arith, c.loop-n-test.true, c.len_bits-n-end.ensures) in
    let bit = port_read d.bits n c.port.result within c.port.ensures in
    let nexts = next_bits d.bits in
    elim c.match-start_of.branch [
      | in-Some+in_ok-push w ↦
          (let to = w.in-Some.to in
          let row = w.start_row.result in
          let port : bit.0.port ≡ c.port.result = bit.2 in
          let some : start_at d n bit.0.port ≡ Some (n, to) = ap (start_at d n) port ∙ c.start_of.ensures n ∙ ap (option_map (λ (p : PortBit). (n, p))) w.in-Some.is in
          let more = walks_more d n bit.0 to (map (walk_of nexts) c.loop-n.starts) (walk_of nexts row) within bit.1 some w.start_row.ensures.row.to_port w.start_row.ensures.row.walk c.loop-n.invariant.walks in
          let P : List Walk → Type 0 = AreFirstWalks d (n + 1) in
          let pushed : map (walk_of nexts) (c.loop-n.starts ++ row ∷ []) ≡ map (walk_of nexts) c.loop-n.starts ++ walk_of nexts row ∷ [] =
          map-append (walk_of nexts) c.loop-n.starts (row ∷ []) in
          let before = c.loop-n.ends in
          let after = w.start_row.new.ends in
          let known : AreEnds d.bits after = w.start_row.ensures.ends in
          let Known : List (Option ℕ) → Type 0 = AreEnds d.bits in
          let whole : length after ≡ before.len = omega (arith, known.all, c.loop-n.invariant.ends.all, before.ok.0) in
          record { walks = rw (w.starts-is, w.in_ok-push.ensures.ok) (subst P (sym pushed) more); ends = subst Known (sym (ap (λ (v : Vec (Option ℕ) Global). v.items) w.ends-is ∙ with_items_is before after whole)) known })
      | in_default w ↦
          (let none : start_at d n bit.0.port ≡ None = ap (start_at d n) bit.2 ∙ c.start_of.ensures n ∙ ap (option_map (λ (to : PortBit). (n, to))) w.in_default.is in
          let so_far = walks_same d n bit.0 (map (walk_of nexts) c.loop-n.starts) within bit.1 none c.loop-n.invariant.walks in
          record { walks = rw w.starts-is so_far; ends = rw w.ends-is c.loop-n.invariant.ends })
    ]

pub returns : goal.returns
returns c =
    let d = c.args.design.now in
    walks_all d c.loop-n.n (map (walk_of (next_bits d.bits)) c.loop-n.starts) (omega (arith, c.loop-n-test.false, c.len_bits-n-end.ensures)) c.loop-n.invariant.walks
