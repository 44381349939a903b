-- The set that has behind each value of a level the set of a number.
use Rattle.std.proofs.Common.{◌≡◌, ◌≢◌, ℕ, ◌+◌, ◌-◌, ◌<◌, Bool, true, List, [], ◌∷◌, Option, Some, None, MatchOption, length, get_or, refl, sym, ap, ◌∙◌, subst, inl, inr, arith, Result, Ok, Err, IfOk, IfErr, OnErr}
use Rattle.std.specs.List.{slice_get}
use Rattle.std.specs.Option.{IfSome}
use Rattle.std.proofs.lemmas.List.{get_or_past}
use Rattle.std.proofs.lemmas.Bool.{cases_lt, ne_eqb, false≢true}
use Rattle.std.proofs.lemmas.Option.{slice_get_within}
use Rattle.plain_lists.specs.declared.faults.DiagFault.{DiagFault}
use Rattle.plain_lists.specs.declared.faults.DiagFault.TheVariants.{Bound, Memory}
use Rattle.diagram_defs.specs.Diagrams.{Shape, Diagram, member, HasKid, AreKids, IsPool, IsSet, IsNumberFor, Grows}
use Rattle.diagram_defs.specs.Diagrams.IsKid.{empty, node}
use Rattle.diagram_defs.specs.Sets.{case_set}
use Rattle.diagram_defs.specs.Parts.{AddsParts, IsPartOf}
use Rattle.diagram_defs.specs.Answers.{IsCause, MakesSet}
use Rattle.diagram_defs.proofs.Meaning.{kid-node, member-empty}
use Rattle.diagram_defs.proofs.Growth.{member_grows, Grows_refl}
use Rattle.diagram_defs.proofs.Canonical.{inhabited, has_shape}
use Rattle.diagram_defs.proofs.PartLemmas.{IsPartOf_itself, AddsParts_none}
use Rattle.state_diagrams.specs.Nodes.{IsAbsent, IsNumberOf, IsPut, IsRefusal, HasNoKid}
use Rattle.state_diagrams.proofs.Additions.{late}

-- a number of the children, also past the last
pub kid_is : (d : Diagram) (level : ℕ) (kids : List ℕ) → AreKids d.arities d.nodes (length d.nodes) level kids → (v : ℕ) → IsSet d level (get_or kids v 0)
kid_is d level kids below v =
    elim (cases_lt v (length kids)) [ inl inside ↦ below.each v inside | inr past ↦ empty (get_or_past kids v 0 past) ]

pub case_empty : (d : Diagram) (level : ℕ) (kids : List ℕ) → HasNoKid kids → IsNumberFor d level (case_set d.nodes kids) 0
case_empty d level kids none = record { in_level = empty refl; same = same }
  where
    same : (rest : List ℕ) → member d.nodes 0 rest ≡ case_set d.nodes kids rest
    same [] = refl
    same (v ∷ rest) = ap (λ (k : ℕ). member d.nodes k rest) (sym (none v))

module _ (old : Diagram) (pool : IsPool old) (level : ℕ) (kids : List ℕ) (inside : level < length old.arities) (below : AreKids old.arities old.nodes (length old.nodes) (level + 1) kids) where
  case_some : HasKid kids → (rest : List ℕ) × (case_set old.nodes kids rest ≡ true)
  case_some some =
      let k = length old.arities - (level + 1) in
      let fits : level + 1 + k ≡ length old.arities = omega arith in
      let further = inhabited old.arities old.nodes pool.nodes pool.sharp k (length old.nodes) (level + 1) (get_or kids some.0 0) fits (kid_is old (level + 1) kids below some.0) some.1 in
      (some.0 ∷ further.0, further.1)

  case_part : HasKid kids → (part : List ℕ → Bool) → ((rest : List ℕ) → part rest ≡ case_set old.nodes kids rest) → IsPartOf (length old.arities) level (case_set old.nodes kids) level part
  case_part some part same =
      let one = case_some some in
      IsPartOf_itself (length old.arities) level (case_set old.nodes kids) part inside same (one.0, same one.0 ∙ one.1)

  case_cause : length kids ≡ get_or old.arities level 0 → HasKid kids → (fault : DiagFault) → IsRefusal old (record { level = level; kids = kids }) fault → IsCause old (IsPartOf (length old.arities) level (case_set old.nodes kids)) fault
  case_cause wide some Memory why = tt
  case_cause wide some (Bound nodes) why = record {
    counted = why.0;
    full = why.1;
    missing = record {
      level = level;
      part = case_set old.nodes kids;
      allowed = case_part some (case_set old.nodes kids) (λ rest. refl);
      absent = λ n is.
          let k = length old.arities - (level + 1) in
          let fits : level + 1 + k ≡ length old.arities = omega arith in
          let one = case_some some in
          let nonempty : n ≢ 0 = λ z. false≢true (sym (member-empty old.nodes one.0) ∙ ap (λ (m : ℕ). member old.nodes m one.0) (sym z) ∙ is.same one.0 ∙ one.1) in
          let there = has_shape old.arities old.nodes pool.nodes pool.sharp k (length old.nodes) level n kids fits wide below is.in_level nonempty is.same in
          why.2 there.0 there.2;
    };
  }

  module _ (new : Diagram) (g : Grows old new) where
    case_number : (at : ℕ) → slice_get new.nodes at ≡ Some (record { level = level; kids = kids }) → IsNumberFor new level (case_set old.nodes kids) (at + 2)
    case_number at there = record {
      in_level = node at (record { level = level; kids = kids }) refl (slice_get_within new.nodes at (record { level = level; kids = kids }) there) there refl;
      same = same;
    }
      where
        same : (rest : List ℕ) → member new.nodes (at + 2) rest ≡ case_set old.nodes kids rest
        same [] = ne_eqb (at + 2) 1 (λ e. omega arith)
        same (v ∷ rest) =
            ap (λ (k : ℕ). member new.nodes k rest) (kid-node new.nodes (at + 2) at (record { level = level; kids = kids }) v refl there) ∙ member_grows old new (level + 1) (get_or kids v 0) rest g (kid_is old (level + 1) kids below v)

    case_is : (n : ℕ) → IsPut old.nodes new.nodes (record { level = level; kids = kids }) n → IsNumberFor new level (case_set old.nodes kids) n
    case_is n put = subst (IsNumberFor new level (case_set old.nodes kids)) (sym put.0.1) (case_number put.0.0 put.0.2)

    case_adds : HasKid kids → (n : ℕ) → IsPut old.nodes new.nodes (record { level = level; kids = kids }) n → AddsParts old new (IsPartOf (length old.arities) level (case_set old.nodes kids))
    case_adds some n put = record {
      each = λ at shape there past. elim put.1 [
        | inl same ↦ let within = slice_get_within new.nodes at shape there in let size = ap length same in absurd (omega arith)
        | inr fresh ↦
            let last = late old.nodes (record { level = level; kids = kids }) at shape past (ap (λ (ns : List Shape). slice_get ns at) (sym fresh.1) ∙ there) in
            let is = case_number at (there ∙ ap Some (sym last.1)) in
            subst (λ (s : Shape). IsPartOf (length old.arities) level (case_set old.nodes kids) s.level (member new.nodes (at + 2))) last.1 (case_part some (member new.nodes (at + 2)) is.same)
      ];
    }

    -- what an attempt to put the node leaves
    pub case_makes : length kids ≡ get_or old.arities level 0 → HasKid kids → (r : Result ℕ DiagFault) → IfOk r (IsPut old.nodes new.nodes (record { level = level; kids = kids })) → OnErr r (new ≡ old)
        → IfErr r (IsRefusal old (record { level = level; kids = kids })) → MakesSet level (case_set old.nodes kids) old new r
    case_makes wide some (Ok n) put same why = (record { grows = g; adds = case_adds some n put }, case_is n put)
    case_makes wide some (Err e) put same why =
        let Allowed : ℕ → (List ℕ → Bool) → Type 0 = IsPartOf (length old.arities) level (case_set old.nodes kids) in
        let none = subst (λ (d : Diagram). AddsParts old d Allowed) (sym same) (AddsParts_none Allowed old) in
        (record { grows = g; adds = none }, subst (λ (d : Diagram). IsCause d Allowed e) (sym same) (case_cause wide some e why))

-- a number that was looked up
pub case_found : (d : Diagram) → IsPool d → (level : ℕ) (kids : List ℕ) → level < length d.arities → AreKids d.arities d.nodes (length d.nodes) (level + 1) kids → {nodes : List Shape} → nodes ≡ d.nodes → (found : Option ℕ)
    → MatchOption found (IsAbsent nodes (record { level = level; kids = kids })) (IsNumberOf nodes (record { level = level; kids = kids })) → IfSome found (IsNumberFor d level (case_set d.nodes kids))
case_found d pool level kids inside below same None absent = tt
case_found d pool level kids inside below same (Some n) number =
    let there = subst (λ (ns : List Shape). IsNumberOf ns (record { level = level; kids = kids }) n) same number in
    case_is d pool level kids inside below d (Grows_refl d pool) n (there, inl refl)
