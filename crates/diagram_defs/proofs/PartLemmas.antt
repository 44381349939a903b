-- Parts of sets, and the nodes that a row of operations adds.
use Rattle.std.proofs.Common.{◌≡◌, ℕ, ◌+◌, ◌<◌, Bool, true, List, [], ◌++◌, length, refl, sym, ap, ◌∙◌, subst, inl, inr, arith, append_assoc, length-append, Result, Ok, Err, IfOk, IfErr, IsErrAnd}
use Rattle.std.specs.List.{slice_get}
use Rattle.std.proofs.lemmas.Bool.{cases_lt}
use Rattle.std.proofs.lemmas.Option.{slice_get_within}
use Rattle.plain_lists.specs.declared.faults.DiagFault.{DiagFault}
use Rattle.plain_lists.specs.declared.faults.DiagFault.TheVariants.{Bound, Memory}
use Rattle.diagram_defs.specs.Diagrams.{Shape, Diagram, member, IsPool, IsSet, IsNumberFor, Grows}
use Rattle.diagram_defs.specs.Diagrams.IsKid.{node}
use Rattle.diagram_defs.specs.Parts.{IsPartOf, AddsParts, GrowsBy}
use Rattle.diagram_defs.specs.Answers.{IsCause}
use Rattle.diagram_defs.proofs.Meaning.{same_tests}
use Rattle.list_defs.proofs.Longer.{slice_get_front}
use Rattle.diagram_defs.proofs.Growth.{member_grows, Grows_refl, Grows_trans, IsNumberFor_same}

-- a nonempty set is a part of itself
pub IsPartOf_itself : (levels base : ℕ) (set part : List ℕ → Bool) → base < levels → ((rest : List ℕ) → part rest ≡ set rest) → (rest : List ℕ) × (part rest ≡ true) → IsPartOf levels base set base part
IsPartOf_itself levels base set part inside same some = record { front = []; at = omega arith; level_in = inside; same = same; some = some }

-- a part of what stands behind a front is a part of the whole
pub IsPartOf_behind : (levels base low : ℕ) (set under : List ℕ → Bool) (front : List ℕ) (level : ℕ) (part : List ℕ → Bool) → low ≡ base + length front → ((rest : List ℕ) → under rest ≡ set (front ++ rest)) → IsPartOf levels low under level part → IsPartOf levels base set level part
IsPartOf_behind levels base low set under front level part at is p = record {
  front = front ++ p.front;
  at = let e = p.at in omega (arith, length-append front p.front);
  level_in = p.level_in;
  same = λ rest. p.same rest ∙ is (p.front ++ rest) ∙ ap set (sym (append_assoc front p.front rest));
  some = p.some;
}

-- equal sets have equal parts
pub IsPartOf_same : (levels base : ℕ) (set other : List ℕ → Bool) (level : ℕ) (part : List ℕ → Bool) → ((rest : List ℕ) → set rest ≡ other rest) → IsPartOf levels base set level part → IsPartOf levels base other level part
IsPartOf_same levels base set other level part agree p =
    record { front = p.front; at = p.at; level_in = p.level_in; same = λ rest. p.same rest ∙ agree (p.front ++ rest); some = p.some }

module _ (Allowed : ℕ → (List ℕ → Bool) → Type 0) where
  pub AddsParts_none : (d : Diagram) → AddsParts d d Allowed
  AddsParts_none d = record { each = λ at shape there new. let inside = slice_get_within d.nodes at shape there in absurd (omega arith) }

  -- one operation after another
  pub AddsParts_trans : (old mid new : Diagram) → AddsParts old mid Allowed → Grows mid new → AddsParts mid new Allowed → AddsParts old new Allowed
  AddsParts_trans old mid new first grows second = record {
    each = λ at shape there late. elim (cases_lt at (length mid.nodes)) [
      | inl early ↦ let was = slice_get_front mid.nodes grows.more.0 at shape early (ap (λ (ns : List Shape). slice_get ns at) (sym grows.more.1) ∙ there) in
          let is : IsSet mid shape.level (at + 2) = node at shape refl early was refl in
          subst (Allowed shape.level) (sym (same_tests (member new.nodes (at + 2)) (member mid.nodes (at + 2)) (λ rest. member_grows mid new shape.level (at + 2) rest grows is))) (first.each at shape was late)
      | inr later ↦ second.each at shape there later
    ];
  }

  pub GrowsBy_none : (d : Diagram) → IsPool d → GrowsBy Allowed d d
  GrowsBy_none d pool = record { grows = Grows_refl d pool; adds = AddsParts_none d }

  module _ (Wider : ℕ → (List ℕ → Bool) → Type 0) (wider : (level : ℕ) (part : List ℕ → Bool) → Allowed level part → Wider level part) where
    pub AddsParts_wider : (old new : Diagram) → AddsParts old new Allowed → AddsParts old new Wider
    AddsParts_wider old new adds = record { each = λ at shape there late. wider _ _ (adds.each at shape there late) }

    pub IsCause_wider : (d : Diagram) (fault : DiagFault) → IsCause d Allowed fault → IsCause d Wider fault
    IsCause_wider d (Bound nodes) why = record {
      counted = why.counted;
      full = why.full;
      missing = record { level = why.missing.level; part = why.missing.part; allowed = wider _ _ why.missing.allowed; absent = why.missing.absent };
    }
    IsCause_wider d Memory why = tt

-- an operation after others, whose parts are allowed too
pub GrowsBy_step : (Allowed Smaller : ℕ → (List ℕ → Bool) → Type 0) (old mid new : Diagram) → GrowsBy Allowed old mid → ((level : ℕ) (part : List ℕ → Bool) → Smaller level part → Allowed level part) → GrowsBy Smaller mid new → GrowsBy Allowed old new
GrowsBy_step Allowed Smaller old mid new first wider second = record {
  grows = Grows_trans old mid new first.grows second.grows;
  adds = AddsParts_trans Allowed old mid new first.adds second.grows (AddsParts_wider Smaller Allowed wider mid new second.adds);
}

pub GrowsBy_wider : (Allowed Smaller : ℕ → (List ℕ → Bool) → Type 0) (old new : Diagram) → ((level : ℕ) (part : List ℕ → Bool) → Smaller level part → Allowed level part) → GrowsBy Smaller old new → GrowsBy Allowed old new
GrowsBy_wider Allowed Smaller old new wider is = record { grows = is.grows; adds = AddsParts_wider Smaller Allowed wider old new is.adds }

-- a fault that is passed on
pub passed_cause : {T : Type 0} (Allowed Smaller : ℕ → (List ℕ → Bool) → Type 0) (d : Diagram) (r : Result T DiagFault) (fault : DiagFault) → IsErrAnd r (λ e. e ≡ fault) → ((level : ℕ) (part : List ℕ → Bool) → Smaller level part → Allowed level part) → IsCause d Smaller fault → IfErr r (IsCause d Allowed)
passed_cause Allowed Smaller d (Ok x) fault is wider why = tt
passed_cause Allowed Smaller d (Err e) fault is wider why =
    subst (IsCause d Allowed) (sym is) (IsCause_wider Smaller Allowed wider d fault why)

-- the same table under another name
pub GrowsBy_same : (Allowed : ℕ → (List ℕ → Bool) → Type 0) (old new other : Diagram) → other ≡ new → GrowsBy Allowed old new → GrowsBy Allowed old other
GrowsBy_same Allowed old new other same is = subst (λ (d : Diagram). GrowsBy Allowed old d) (sym same) is

-- an answer whose parts are allowed too
pub refused_wider : {T : Type 0} (Allowed Smaller : ℕ → (List ℕ → Bool) → Type 0) (d : Diagram) (r : Result T DiagFault) → ((level : ℕ) (part : List ℕ → Bool) → Smaller level part → Allowed level part) → IfErr r (IsCause d Smaller) → IfErr r (IsCause d Allowed)
refused_wider Allowed Smaller d (Ok x) wider why = tt
refused_wider Allowed Smaller d (Err e) wider why = IsCause_wider Smaller Allowed wider d e why

-- the answers of an operation, for a set that has the same rests
module _ (old new : Diagram) (level : ℕ) (set other : List ℕ → Bool) (agree : (rest : List ℕ) → set rest ≡ other rest) where
  pub same_made : (r : Result ℕ DiagFault) → IfOk r (IsNumberFor new level set) → IfOk r (IsNumberFor new level other)
  same_made (Ok n) is = IsNumberFor_same new level set other n agree is
  same_made (Err e) is = tt

  pub same_grown : GrowsBy (IsPartOf (length old.arities) level set) old new → GrowsBy (IsPartOf (length old.arities) level other) old new
  same_grown is = GrowsBy_wider _ _ old new (λ l part p. IsPartOf_same (length old.arities) level set other l part agree p) is

  pub same_refused : (r : Result ℕ DiagFault) → IfErr r (IsCause new (IsPartOf (length old.arities) level set)) → IfErr r (IsCause new (IsPartOf (length old.arities) level other))
  same_refused r why = refused_wider _ _ new r (λ l part p. IsPartOf_same (length old.arities) level set other l part agree p) why

-- a part of a set in a table that has grown
pub IsPartOf_grown : (old mid : Diagram) (level : ℕ) (set other : List ℕ → Bool) → Grows old mid → ((rest : List ℕ) → set rest ≡ other rest) → (l : ℕ) (part : List ℕ → Bool) → IsPartOf (length mid.arities) level set l part → IsPartOf (length old.arities) level other l part
IsPartOf_grown old mid level set other g agree l part p =
    subst (λ (n : ℕ). IsPartOf n level other l part) (ap (λ (arities : List ℕ). length arities) g.arities) (IsPartOf_same (length mid.arities) level set other l part agree p)
