-- What is taken up, one after the other, is in the end all that comes to views.
use Rattle.std.proofs.Common.{◌≡◌, List, [], ◌∷◌, ◌++◌, map, ◌⊎◌, inl, inr, refl, sym, ap, subst, ◌↔◌}
use Rattle.pw_defs.specs.declared.values.Value.{Value}
use Rattle.list_defs.specs.Members.{IsIn}
use Rattle.list_defs.proofs.Members.{IsIn-append_left, IsIn-append_right, IsIn-append_cases, IsIn-map, IsIn-map_from}
use Rattle.unit_lists.specs.Flow.{IsFlow, Reaches}
use Rattle.unit_lists.specs.Kept.{Gains}
use Rattle.unit_lists.specs.declared.views.View.{View}

abbrev Pair : Type 0
Pair = View × Value

-- at first all that begins is to be taken up
pub flow_begins : (begins : List Pair) (links : List (View × View)) (work reached : List Pair) → work ≡ begins → reached ≡ [] → IsFlow begins links work reached
flow_begins begins links work reached e none = record {
  to_come = λ a v there. Reaches.begun a v (let W : List Pair → Type 0 = λ xs. IsIn (a, v) xs in subst W e there);
  come = λ a v there. absurd (gone (a, v) there);
  begun = λ a v there. inl (let W : List Pair → Type 0 = λ xs. IsIn (a, v) xs in subst W (sym e) there);
  onward = λ a b v there link. absurd (gone (a, v) there);
}
  where
    gone : (p : Pair) → IsIn p reached → ⊥
    gone p there = let R : List Pair → Type 0 = λ xs. IsIn p xs in subst R none there

-- what was taken up before needs no further look
pub flow_known : (begins : List Pair) (links : List (View × View)) (work reached now : List Pair) (p : Pair) → IsIn p reached → now ≡ reached
    → IsFlow begins links (work ++ p ∷ []) reached → IsFlow begins links work now
flow_known begins links work reached now p known e h = let R : List Pair → Type 0 = λ xs. IsFlow begins links work xs in subst R (sym e) (record {
  to_come = λ a v there. h.to_come a v (IsIn-append_left (a, v) work (p ∷ []) there);
  come = h.come;
  begun = λ a v there. without (a, v) (h.begun a v there);
  onward = λ a b v there link. without (b, v) (h.onward a b v there link);
})
  where
    without : (q : Pair) → IsIn q (work ++ p ∷ []) ⊎ IsIn q reached → IsIn q work ⊎ IsIn q reached
    without q (inr there) = inr there
    without q (inl there) = elim (IsIn-append_cases q work (p ∷ []) there) [
      | inl was ↦ inl was
      | inr new ↦ elim new [
        | inl same ↦ inr (let R : Pair → Type 0 = λ x. IsIn x reached in subst R (sym same) known)
        | inr none ↦ absurd none
      ]
    ]

-- a value of a view is taken up: it goes on to each view to which a link goes from there
pub flow_on : (begins : List Pair) (links : List (View × View)) (work reached more now : List Pair) (a : View) (v : Value) (nexts : List View)
    → Gains reached now (a, v) → ((b : View) → IsIn b nexts → IsIn (a, b) links) → ((b : View) → IsIn (a, b) links → IsIn b nexts)
    → more ≡ work ++ map (λ b. (b, v)) nexts → IsFlow begins links (work ++ (a, v) ∷ []) reached → IsFlow begins links more now
flow_on begins links work reached more now a v nexts gains each all e h = let W : List Pair → Type 0 = λ xs. IsFlow begins links xs now in subst W (sym e) (record {
  to_come = λ b w there. elim (IsIn-append_cases (b, w) work row there) [
    | inl was ↦ h.to_come b w (IsIn-append_left (b, w) work ((a, v) ∷ []) was)
    | inr new ↦ (let from = IsIn-map_from (λ (c : View). (c, v)) (b, w) nexts new in next b w from.0 from.1 from.2)
  ];
  come = λ b w there. elim (gains.only (b, w) there) [
    | inl was ↦ h.come b w was
    | inr same ↦ (let R : Pair → Type 0 = λ p. Reaches begins links p.0 p.1 in subst R (sym same) here)
  ];
  begun = λ b w there. on (b, w) (h.begun b w there);
  onward = λ b c w there link. elim (gains.only (b, w) there) [
    | inl was ↦ on (c, w) (h.onward b c w was link)
    | inr same ↦ inl (IsIn-append_right (c, w) work row (sent b c w same link))
  ];
})
  where
    row : List Pair
    row = map (λ (c : View). (c, v)) nexts

    here : Reaches begins links a v
    here = h.to_come a v (IsIn-append_right (a, v) work ((a, v) ∷ []) (inl refl))

    next : (b : View) (w : Value) (c : View) → IsIn c nexts → (let p : Pair = (b, w) in let q : Pair = (c, v) in p ≡ q) → Reaches begins links b w
    next b w c there same =
        let R : Pair → Type 0 = λ p. Reaches begins links p.0 p.1 in
        subst R (sym same) (Reaches.along a c v (each c there) here)

    on : (q : Pair) → IsIn q (work ++ (a, v) ∷ []) ⊎ IsIn q reached → IsIn q (work ++ row) ⊎ IsIn q now
    on q (inr there) = inr (gains.kept q there)
    on q (inl there) = elim (IsIn-append_cases q work ((a, v) ∷ []) there) [
      | inl was ↦ inl (IsIn-append_left q work row was)
      | inr new ↦ elim new [
        | inl same ↦ inr (let R : Pair → Type 0 = λ x. IsIn x now in subst R (sym same) gains.there)
        | inr none ↦ absurd none
      ]
    ]

    sent : (b c : View) (w : Value) → (let p : Pair = (b, w) in let q : Pair = (a, v) in p ≡ q) → IsIn (b, c) links → IsIn (c, w) row
    sent b c w same link =
        let view : b ≡ a = ap (λ (p : Pair). p.0) same in
        let value : w ≡ v = ap (λ (p : Pair). p.1) same in
        let L : View → Type 0 = λ x. IsIn (x, c) links in
        let R : Value → Type 0 = λ x. IsIn (c, x) row in
        subst R (sym value) (IsIn-map (λ (x : View). (x, v)) c nexts (all c (subst L view link)))

-- where nothing is left to be taken up, all that comes to views was
pub flow_ends : (begins : List Pair) (links : List (View × View)) (work reached : List Pair) → work ≡ [] → IsFlow begins links work reached
    → (a : View) (v : Value) → IsIn (a, v) reached ↔ Reaches begins links a v
flow_ends begins links work reached none h a v = (h.come a v, λ reach. all a v reach)
  where
    there : (p : Pair) → IsIn p work ⊎ IsIn p reached → IsIn p reached
    there p (inl left) = absurd (let W : List Pair → Type 0 = λ xs. IsIn p xs in subst W none left)
    there p (inr was) = was

    all : (b : View) (w : Value) → Reaches begins links b w → IsIn (b, w) reached
    all _ _ (Reaches.begun b w first) = there (b, w) (h.begun b w first)
    all _ _ (Reaches.along b c w link reach) = there (c, w) (h.onward b c w (all b w reach) link)

pub same_flow : (begins : List Pair) (links : List (View × View)) (work more reached : List Pair) → work ≡ more → IsFlow begins links work reached
    → IsFlow begins links more reached
same_flow begins links work more reached e h = let W : List Pair → Type 0 = λ xs. IsFlow begins links xs reached in subst W e h
