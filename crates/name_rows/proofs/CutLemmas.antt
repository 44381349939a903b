-- The parts of a row that is cut, by place, and one part more.
use Rattle.std.proofs.Common.{◌≡◌, ℕ, suc, zero, ◌+◌, ◌-◌, ◌<◌, ◌≤◌, List, [], ◌∷◌, ◌++◌, length, get_or, Some, slice_get, refl, ap, ◌∙◌, subst, arith}
use Rattle.std.proofs.lemmas.Grind.{get_or_tail}
use Rattle.std.specs.List.{slice_range}
use Rattle.list_defs.proofs.Longer.{early_part, last_part}
use Rattle.name_rows.specs.Cuts.{AreCuts, cuts}

pub length-cuts : {X : Type 0} (row : List X) (from : ℕ) (ends : List ℕ) → length (cuts row from ends) ≡ length ends
length-cuts row from [] = refl
length-cuts row from (e ∷ ends) = ap suc (length-cuts row e ends)

-- a part goes from the end of the one before it to its own
pub slice_get-cuts : {X : Type 0} (row : List X) (from : ℕ) (ends : List ℕ) (n : ℕ) → n < length ends
    → slice_get (cuts row from ends) n ≡ Some (slice_range row (get_or (from ∷ ends) n 0) (get_or ends n 0))
slice_get-cuts row from [] n within = absurd (omega arith)
slice_get-cuts row from (e ∷ ends) zero within = refl
slice_get-cuts row from (e ∷ ends) (suc n) within = slice_get-cuts row e ends n (omega arith)

pub cuts_rise : (from : ℕ) (ends : List ℕ) (end : ℕ) → AreCuts from ends end → from ≤ end
cuts_rise from [] end cut = omega (arith, cut)
cuts_rise from (e ∷ ends) end cut = omega (arith, cut.0, cuts_rise e ends end cut.1)

-- a part starts no later than it ends, and ends in the row
pub part_within : (from : ℕ) (ends : List ℕ) (end n : ℕ) → AreCuts from ends end → n < length ends
    → (get_or (from ∷ ends) n 0 ≤ get_or ends n 0) × (get_or ends n 0 ≤ end)
part_within from [] end n cut within = absurd (omega arith)
part_within from (e ∷ ends) end zero cut within = (cut.0, cuts_rise e ends end cut.1)
part_within from (e ∷ ends) end (suc n) cut within = part_within e ends end n cut.1 (omega arith)

pub cut_more : (from : ℕ) (ends : List ℕ) (end more : ℕ) → AreCuts from ends end → end ≤ more → AreCuts from (ends ++ more ∷ []) more
cut_more from [] end more cut rises = (omega (arith, cut), refl)
cut_more from (e ∷ ends) end more cut rises = (cut.0, cut_more e ends end more cut.1 rises)

-- what is added at the end of the row is one part more
pub cuts_more : {X : Type 0} (row more : List X) (from : ℕ) (ends : List ℕ) (end : ℕ) → AreCuts from ends (length row) → end ≡ length row + length more
    → cuts (row ++ more) from (ends ++ end ∷ []) ≡ cuts row from ends ++ more ∷ []
cuts_more row more from [] end cut ends = ap (λ part. part ∷ []) (last_part row more from end cut ends)
cuts_more row more from (e ∷ ends) end cut is =
    let early = early_part row more from e cut.0 (cuts_rise e ends (length row) cut.1) in
    let rest = cuts_more row more e ends end cut.1 is in
    ap (λ part. part ∷ cuts (row ++ more) e (ends ++ end ∷ [])) early ∙ ap (λ parts. slice_range row from e ∷ parts) rest

pub ruleset parts = (slice_get-cuts, length-cuts)

-- a part that isn't the first starts where the one before it ends
pub part_rises : (ends : List ℕ) (end at : ℕ) → AreCuts 0 ends end → at < length ends → 0 < at → get_or ends (at - 1) 0 ≤ get_or ends at 0
part_rises ends end at cut within later =
    let P : ℕ → Type 0 = λ start. start ≤ get_or ends at 0 in
    subst P (get_or_tail 0 ends at 0 later) (part_within 0 ends end at cut within).0
