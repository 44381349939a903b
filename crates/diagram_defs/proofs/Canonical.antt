-- In a table where no node is empty and no two are equal, each set of rests of a level has one number.
use Rattle.std.proofs.Common.{◌≡◌, ◌≢◌, ℕ, zero, suc, ◌+◌, ◌<◌, true, false, List, [], ◌∷◌, Some, length, get_or, sym, ap, ◌∙◌, inl, inr, arith}
use Rattle.std.specs.List.{slice_get}
use Rattle.std.proofs.lemmas.List.{ext_get_or}
use Rattle.std.proofs.lemmas.Bool.{cases_eq, eq-eqb, false≢true}
use Rattle.diagram_defs.specs.Diagrams.{Shape, kid, member, IsKid, AreKids, AreNodes, AreSharp}
use Rattle.diagram_defs.specs.Diagrams.IsKid.{empty, whole, node}
use Rattle.diagram_defs.specs.Sets.{case_set}
use Rattle.diagram_defs.proofs.Meaning.{kid-node, member-empty, same_shapes, IsKid-kid}

module _ (arities : List ℕ) (nodes : List Shape) (sound : AreNodes arities nodes) (sharp : AreSharp nodes) where
  -- only 0 is empty
  pub inhabited : (k places level n : ℕ) → level + k ≡ length arities → IsKid arities nodes places level n → n ≢ 0 → (rest : List ℕ) × (member nodes n rest ≡ true)
  inhabited k places level n fits (empty z) ne = absurd (ne z)
  inhabited k places level n fits (whole w at) ne = ([], eq-eqb n 1 w)
  inhabited zero places level n fits (node at shape is below there same) ne = let inside = (sound.each at shape there).level_in in absurd (omega arith)
  inhabited (suc k) places level n fits (node at shape is below there same) ne =
      let some = sharp.nonempty at shape there in
      let at_kid = kid-node nodes n at shape some.0 is there in
      let kid_is = IsKid-kid arities nodes sound places level n (node at shape is below there same) some.0 in
      let more : level + 1 + k ≡ length arities = omega arith in
      let further = inhabited k places (level + 1) (kid nodes n some.0) more kid_is (λ z. some.1 (sym at_kid ∙ z)) in
      (some.0 ∷ further.0, further.1)

  pub empty_alone : (k places level n : ℕ) → level + k ≡ length arities → IsKid arities nodes places level n → ((rest : List ℕ) → member nodes n rest ≡ false) → n ≡ 0
  empty_alone k places level n fits is none =
      elim (cases_eq n 0) [
        | inl z ↦ z
        | inr ne ↦ let some = inhabited k places level n fits is ne in absurd (false≢true (sym (none some.0) ∙ some.1))
      ]

  -- two numbers of a level that mean the same are equal
  pub canonical : (k places level a b : ℕ) → level + k ≡ length arities → IsKid arities nodes places level a → IsKid arities nodes places level b → ((rest : List ℕ) → member nodes a rest ≡ member nodes b rest) → a ≡ b
  canonical k places level a b fits (empty z) other agree =
      z ∙ sym (empty_alone k places level b fits other (λ rest. sym (agree rest) ∙ ap (λ (n : ℕ). member nodes n rest) z ∙ member-empty nodes rest))
  canonical k places level a b fits (whole w at) (empty z) agree =
      empty_alone k places level a fits (whole w at) (λ rest. agree rest ∙ ap (λ (n : ℕ). member nodes n rest) z ∙ member-empty nodes rest) ∙ sym z
  canonical k places level a b fits (whole w at) (whole w' at') agree = w ∙ sym w'
  canonical k places level a b fits (whole w at) (node at' shape' is' below' there' same') agree =
      let inside = (sound.each at' shape' there').level_in in absurd (omega arith)
  canonical k places level a b fits (node at shape is below there same) (empty z) agree =
      empty_alone k places level a fits (node at shape is below there same) (λ rest. agree rest ∙ ap (λ (n : ℕ). member nodes n rest) z ∙ member-empty nodes rest) ∙ sym z
  canonical k places level a b fits (node at shape is below there same) (whole w' at') agree =
      let inside = (sound.each at shape there).level_in in absurd (omega arith)
  canonical zero places level a b fits (node at shape is below there same) (node at' shape' is' below' there' same') agree =
      let inside = (sound.each at shape there).level_in in absurd (omega arith)
  canonical (suc k) places level a b fits (node at shape is below there same) (node at' shape' is' below' there' same') agree =
      let a_is : IsKid arities nodes places level a = node at shape is below there same in
      let b_is : IsKid arities nodes places level b = node at' shape' is' below' there' same' in
      let more : level + 1 + k ≡ length arities = omega arith in
      let one_kid : (v : ℕ) → kid nodes a v ≡ kid nodes b v = λ v. canonical k places (level + 1) (kid nodes a v) (kid nodes b v) more (IsKid-kid arities nodes sound places level a a_is v) (IsKid-kid arities nodes sound places level b b_is v) (λ rest. agree (v ∷ rest)) in
      let levels : shape.level ≡ shape'.level = same ∙ sym same' in
      let wide = (sound.each at shape there).arity in
      let wide' = (sound.each at' shape' there').arity in
      let lengths : length shape.kids ≡ length shape'.kids = wide ∙ ap (λ (l : ℕ). get_or arities l 0) levels ∙ sym wide' in
      let kids : shape.kids ≡ shape'.kids = ext_get_or 0 _ _ lengths (λ v inside. sym (kid-node nodes a at shape v is there) ∙ one_kid v ∙ kid-node nodes b at' shape' v is' there') in
      let one = same_shapes shape shape' levels kids in
      let place = sharp.distinct at at' shape there (there' ∙ ap Some (sym one)) in
      omega arith

  -- a number that means what a shape means has that shape
  pub has_shape : (k places level n : ℕ) (kids : List ℕ) → level + 1 + k ≡ length arities → length kids ≡ get_or arities level 0 → AreKids arities nodes places (level + 1) kids → IsKid arities nodes places level n → n ≢ 0
      → ((rest : List ℕ) → member nodes n rest ≡ case_set nodes kids rest) → (at : ℕ) × (n ≡ at + 2) × (slice_get nodes at ≡ Some (record { level = level; kids = kids }))
  has_shape k places level n kids fits wide below (empty z) ne agree = absurd (ne z)
  has_shape k places level n kids fits wide below (whole w at) ne agree = absurd (omega arith)
  has_shape k places level n kids fits wide below (node at shape is under there same) ne agree =
      let n_is : IsKid arities nodes places level n = node at shape is under there same in
      let one_kid : (v : ℕ) → v < length kids → kid nodes n v ≡ get_or kids v 0 = λ v inside. canonical k places (level + 1) (kid nodes n v) (get_or kids v 0) fits (IsKid-kid arities nodes sound places level n n_is v) (below.each v inside) (λ rest. agree (v ∷ rest)) in
      let lengths : length shape.kids ≡ length kids = (sound.each at shape there).arity ∙ ap (λ (l : ℕ). get_or arities l 0) same ∙ sym wide in
      let same_kids : shape.kids ≡ kids = ext_get_or 0 _ _ lengths (λ v inside. sym (kid-node nodes n at shape v is there) ∙ one_kid v (omega arith)) in
      (at, is, there ∙ ap Some (same_shapes shape (record { level = level; kids = kids }) same same_kids))
