-- One end more, which is the new end of the row, is one name more.
use Rattle.std.proofs.Common.{◌≡◌, ℕ, subst, ◌+◌, ◌∷◌, [], ◌++◌, arith, length, length-append}
use Rattle.std.proofs.lemmas.List.{length_push}
use Rattle.name_rows.specs.Cuts.{AreCuts}
use Rattle.name_rows.proofs.CutLemmas.{cut_more, cuts_more}
use Rattle.name_rows.proofs.rows.Names.push.Goals as goal

pub invariant_of-self-2 : goal.invariant_of-self-2
invariant_of-self-2 c =
    let bytes = c.self.inside.bytes.items in
    let ends = c.self.inside.ends.items in
    let end = c.len-length.result + length c.args.name.now in
    let is : end ≡ length (bytes ++ c.args.name.now) = omega (arith, length-append bytes c.args.name.now) in
    let P : ℕ → Type 0 = λ n. AreCuts 0 (ends ++ end ∷ []) n in
    rw (c.push_reserved.ensures.items, c.reserve.ensures.items, c.in_ok-extend_from_slice.ensures.items)
    (record {
      cut = subst P is (cut_more 0 ends (length bytes) end c.self.invariant.cut (omega arith));
      few = omega (arith, length_push ends end);
      short = omega (arith, is);
    })

pub returns-clause-ok : goal.returns-clause-ok
returns-clause-ok c =
    let bytes = c.self.inside.bytes.items in
    let ends = c.self.inside.ends.items in
    let end = c.len-length.result + length c.args.name.now in
    rw (c.push_reserved.ensures.items, c.reserve.ensures.items, c.in_ok-extend_from_slice.ensures.items, ← c.self.view_is)
    (cuts_more bytes c.args.name.now 0 ends end c.self.invariant.cut (omega arith))
