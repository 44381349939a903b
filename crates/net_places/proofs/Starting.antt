-- Gatherings at their start and at their end.
use Rattle.std.proofs.Common.{◌≡◌, ℕ, ◌+◌, ◌<◌, ◌≤◌, ◌==◌, Bool, true, false, zero, suc, List, [], length, replicate, refl, sym, ap, ◌∙◌, subst, arith}
use Rattle.std.specs.Prelude.{slice_index}
use Rattle.std.proofs.lemmas.Bool.{eqb-true}
use Rattle.list_defs.specs.Members.{all_differ, same_name}
use Rattle.net_places.specs.declared.rows.NamedRow.{NamedRow}
use Rattle.net_places.specs.declared.gathering.Gathering.{Gathering}
use Rattle.net_places.specs.Gathered.{AreGathered, HasGathered, IsReady}

-- nothing is gathered
pub gathered_nothing : (names : List (List ℕ)) → AreGathered names [] []
gathered_nothing names = record {
  spelled = λ i d within. absurd (omega arith);
  each = λ n there. absurd there;
  all = λ name n h. cc;
  once = λ name. omega arith;
}

not_marked : (mark k : ℕ) → k < mark → (k == mark) ≡ false
not_marked mark k below = by (k == mark) refl
  where
    by : (b : Bool) → (k == mark) ≡ b → (k == mark) ≡ false
    by false e = e
    by true e = let same : k ≡ mark = eqb-true k mark e in absurd (omega arith)

-- a gathering that is ready has gathered nothing for its mark
pub ready_gathers : (names : List (List ℕ)) (mark : ℕ) (old new : Gathering) → IsReady names mark old → new.marks.items ≡ old.marks.items → new.nets.items ≡ []
    → HasGathered names mark new []
ready_gathers names mark old new ready marks nets = record {
  differ = ready.differ;
  count = ap length marks ∙ ready.count;
  marked = λ symbol within. ap (λ (m : List ℕ). slice_index m symbol == mark) marks ∙ not_marked mark (slice_index old.marks.items symbol) (ready.earlier symbol);
  latest = λ symbol. let same = ap (λ (m : List ℕ). slice_index m symbol) marks in omega (arith, same, ready.earlier symbol);
  rows = subst (λ (rows : List NamedRow). AreGathered names rows []) (sym nets) (gathered_nothing names);
}

-- and is ready for the next mark
pub ready_again : (names : List (List ℕ)) (mark : ℕ) (g : Gathering) (marks : List ℕ) → length marks ≡ length names → all_differ same_name names ≡ true
    → ((symbol : ℕ) → slice_index marks symbol ≤ mark) → g.marks.items ≡ marks → IsReady names (mark + 1) g
ready_again names mark g marks count differ latest same = record {
  differ = differ;
  count = ap length same ∙ count;
  earlier = λ symbol. let here = ap (λ (m : List ℕ). slice_index m symbol) same in omega (arith, here, latest symbol);
}

-- marks at the start
pub no_mark : (n symbol : ℕ) → slice_index (replicate n 0) symbol ≡ 0
no_mark zero symbol = refl
no_mark (suc n) zero = refl
no_mark (suc n) (suc symbol) = no_mark n symbol
