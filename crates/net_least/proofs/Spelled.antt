-- The text of a way is spelled from one link to the next.
use Rattle.std.proofs.Common.{◌≡◌, ◌≢◌, ℕ, List, [], ◌∷◌, ◌++◌, Option, None, Some, length, reverse, slice_get, refl, sym, ap, ◌∙◌, subst}
use Rattle.std.proofs.lemmas.List.{reverse-append, reverse-reverse}
use Rattle.std.proofs.lemmas.Option.{same_Some}
use Rattle.list_defs.proofs.Longer.{slice_get-append}
use Rattle.design_defs.specs.Hierarchy.{Way, way_cmp}
use Rattle.net_least.specs.Links.{AreNamed, IsLonger, IsSpelled, IsWalked, IsWay, by_text, ends, slashed}
use Rattle.net_least.specs.declared.links.Link.{Link}
use Rattle.net_least.specs.declared.links.Text.{Text}
use Rattle.net_least.proofs.Fronts.{append_all, append_same, slashed_more, way_by_text}

pub walk_from : (symbols : List (List ℕ)) (links : List Link) (at : Option ℕ) (way : Way) (t : Text) → IsWay symbols links at way → t.bytes.items ≡ [] → t.ends.items ≡ [] → IsWalked symbols links way at t
walk_from symbols links at way t is bytes places =
    record { left = way; done = []; goes = is; whole = sym (append_all way); named = tt; spelled = record { bytes = bytes; places = places } }

module _ (symbols : List (List ℕ)) (links : List Link) where
  spelled_more : (name : List ℕ) (done : Way) (t new : Text) → AreNamed done → IsSpelled t done → IsLonger t new name → IsSpelled new (name ∷ done)
  spelled_more name done t new named is longer = record { bytes = text; places = rest }
    where
      text : new.bytes.items ≡ slashed (name ∷ done)
      text = longer.bytes ∙ ap (λ b. (b ++ 47 ∷ []) ++ name) is.bytes ∙ append_same (slashed done) (47 ∷ []) name ∙ slashed_more name done named

      rest : new.ends.items ≡ reverse (ends (name ∷ done))
      rest =
          longer.ends ∙ (λ i. is.places i ++ length (text i) ∷ [])
          ∙ sym (reverse-append (length (slashed (name ∷ done)) ∷ []) (ends done))

  pub walk_on : (way : Way) (k : ℕ) (l : Link) (t new : Text) → slice_get links k ≡ Some l
      → ((name : List ℕ) → slice_get symbols l.name ≡ Some name → IsLonger t new name) → IsWalked symbols links way (Some k) t → IsWalked symbols links way l.next new
  walk_on way k l t new at longer walked = by (Some k) walked.left refl walked.whole walked.goes
    where
      by : (o : Option ℕ) (left : Way) → o ≡ Some k → way ≡ left ++ walked.done → IsWay symbols links o left → IsWalked symbols links way l.next new
      by o left is whole (IsWay.end _ _ none empty) = let never : None ≡ Some k = sym none ∙ is in cc
      by o left is whole (IsWay.link _ _ place other name inner there found spelling some goes is_way) =
          let same_place : place ≡ k = same_Some place k (sym there ∙ is) in
          let same : l ≡ other = same_Some l other (sym at ∙ ap (slice_get links) (sym same_place) ∙ found) in
          let here : slice_get symbols l.name ≡ Some name = ap (λ (x : Link). slice_get symbols x.name) same ∙ spelling in
          subst (λ (x : Link). IsWalked symbols links way x.next new) (sym same) (record {
            left = inner;
            done = name ∷ walked.done;
            goes = goes;
            whole = whole ∙ ap (λ x. x ++ walked.done) is_way ∙ append_same inner (name ∷ []) walked.done;
            named = (some, walked.named);
            spelled = spelled_more name walked.done t new walked.named walked.spelled (longer name here);
          })

  pub walk_stuck : (way : Way) (k : ℕ) (t : Text) → slice_get links k ≡ None → IsWalked symbols links way (Some k) t → ⊥
  walk_stuck way k t at walked = by (Some k) walked.left refl walked.goes
    where
      by : (o : Option ℕ) (left : Way) → o ≡ Some k → IsWay symbols links o left → ⊥
      by o left is (IsWay.end _ _ none empty) = let never : None ≡ Some k = sym none ∙ is in cc
      by o left is (IsWay.link _ _ place other name inner there found spelling some goes is_way) =
          let same_place : place ≡ k = same_Some place k (sym there ∙ is) in
          let never : None ≡ Some other = sym at ∙ ap (slice_get links) (sym same_place) ∙ found in
          cc

  pub walk_end : (way : Way) (t : Text) → IsWalked symbols links way None t → IsSpelled t way
  walk_end way t walked = by None walked.left refl walked.whole walked.goes
    where
      by : (o : Option ℕ) (left : Way) → o ≡ None → way ≡ left ++ walked.done → IsWay symbols links o left → IsSpelled t way
      by o left is whole (IsWay.end _ _ none empty) = subst (IsSpelled t) (sym (whole ∙ ap (λ x. x ++ walked.done) empty)) walked.spelled
      by o left is whole (IsWay.link _ _ place other name inner there found spelling some goes is_way) = let never : None ≡ Some place = sym is ∙ there in cc

named_more : (way : Way) (name : List ℕ) → AreNamed way → name ≢ [] → AreNamed (way ++ name ∷ [])
named_more [] name named some = (some, tt)
named_more (x ∷ way) name named some = (named.0, named_more way name named.1 some)

pub named_of_way : (symbols : List (List ℕ)) (links : List Link) (at : Option ℕ) (way : Way) → IsWay symbols links at way → AreNamed way
named_of_way symbols links at way (IsWay.end _ _ none empty) = subst AreNamed (sym empty) tt
named_of_way symbols links at way (IsWay.link _ _ place l name inner there found spelling some goes is_way) =
    subst AreNamed (sym is_way) (named_more inner name (named_of_way symbols links l.next inner goes) some)

pub way_grows : (symbols : List (List ℕ)) (links more : List Link) (at : Option ℕ) (way : Way) → IsWay symbols links at way → IsWay symbols (links ++ more) at way
way_grows symbols links more at way (IsWay.end _ _ none empty) = IsWay.end at way none empty
way_grows symbols links more at way (IsWay.link _ _ place l name inner there found spelling some goes is_way) =
    IsWay.link at way place l name inner there (slice_get-append links more place l found) spelling some (way_grows symbols links more l.next inner goes) is_way

-- the order of two texts is that of their ways
pub order_of_texts : (symbols : List (List ℕ)) (links : List Link) (left right : Option ℕ) (v w : Way) (t u : Text) → IsWay symbols links left v → IsWay symbols links right w → IsSpelled t v → IsSpelled u w
    → by_text t.bytes.items u.bytes.items (reverse t.ends.items) (reverse u.ends.items) ≡ way_cmp v w
order_of_texts symbols links left right v w t u is_v is_w spelled_v spelled_w =
    let places_v : reverse t.ends.items ≡ ends v = ap reverse spelled_v.places ∙ reverse-reverse (ends v) in
    let places_w : reverse u.ends.items ≡ ends w = ap reverse spelled_w.places ∙ reverse-reverse (ends w) in
    (λ i. by_text (spelled_v.bytes i) (spelled_w.bytes i) (places_v i) (places_w i)) ∙ sym (way_by_text v w (named_of_way symbols links left v is_v) (named_of_way symbols links right w is_w))
