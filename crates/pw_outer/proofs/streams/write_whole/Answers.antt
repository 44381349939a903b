-- What is written so far is a front of the bytes, and a write takes a front of the rest.
use Rattle.std.proofs.Common.{◌≡◌, ◌∙◌, ℕ, List, ◌++◌, Option, length, take, drop, refl, sym, ap, subst, append_assoc, take-append-drop}
use Rattle.std.proofs.lemmas.List.{take_at, take_rest}
use Rattle.std.specs.Io.KnownBytes.{Appends}
use Rattle.std.proofs.KnownBytes.{Appends-trans, Appends-kept}
use Rattle.pw_outer.specs.Puts.{AppendsFront}
use Rattle.pw_outer.proofs.streams.write_whole.Goals as goal

moved_front : (all done rest : List ℕ) (n : ℕ) → all ≡ done ++ rest → all ≡ (done ++ take n rest) ++ drop n rest
moved_front all done rest n split = split ∙ ap (λ l. done ++ l) (sym (take-append-drop n rest)) ∙ sym (append_assoc done (take n rest) (drop n rest))

AppendsFront-split : (old new : Option (List ℕ)) (all done rest : List ℕ) → all ≡ done ++ rest → Appends old new done → AppendsFront old new all
AppendsFront-split old new all done rest split grown = (length done, subst (Appends old new) (sym (ap (take (length done)) split ∙ take_at done rest (length done) refl)) grown)

pub returns-in-Ok-eq0-clause-begun : goal.returns-in-Ok-eq0-clause-begun
returns-in-Ok-eq0-clause-begun g c =
    let (done, split, grown) = c.loop-rest.invariant in
    AppendsFront-split _ _ _ _ _ (moved_front _ done c.loop-rest.rest.now c.in-Ok-eq0.field-0 split) (Appends-trans _ _ _ _ _ grown c.in-Ok-eq0.ensures.bytes)

pub loop-rest-preserved : goal.loop-rest-preserved
loop-rest-preserved g c =
    let (done, split, grown) = c.loop-rest.invariant in
    let rest = c.loop-rest.rest.now in
    let n = c.in-Ok.count in
    (done ++ take n rest, moved_front _ done rest n split ∙ ap (λ l. (done ++ take n rest) ++ l) (sym (take_rest rest n)), Appends-trans _ _ _ _ _ grown c.in-Ok.ensures.bytes)

pub returns-in-Err-clause-begun : goal.returns-in-Err-clause-begun
returns-in-Err-clause-begun g c =
    let (done, split, grown) = c.loop-rest.invariant in
    AppendsFront-split _ _ _ done c.loop-rest.rest.now split (Appends-kept _ _ _ done grown c.in-Err.ensures.bytes)

pub returns-clause-begun : goal.returns-clause-begun
returns-clause-begun g c =
    let (done, split, grown) = c.loop-rest.invariant in
    AppendsFront-split _ _ _ done c.loop-rest.rest.now split grown
