-- The tasks of a frame end in one way.
use Rattle.std.proofs.Common.{◌≡◌, ℕ, ◌+◌, ◌≤◌, Bool, true, false, List, [], ◌∷◌, length, Option, Some, None, slice_get, refl, sym, ap, ◌∙◌, subst, arith}
use Rattle.pw_defs.specs.declared.design.Design.{Design}
use Rattle.pw_defs.specs.declared.faults.Refusal.{Refusal}
use Rattle.pw_defs.specs.declared.script.Line.{Line}
use Rattle.script_defs.specs.Statements.{Statement}
use Rattle.script_defs.specs.World.{Frame, World}
use Rattle.script_defs.specs.Scopes.{is_modelled}
use Rattle.script_defs.specs.Blocks.{Block}
use Rattle.script_defs.specs.LineFaults.{line_faults, map_faults}
use Rattle.script_defs.specs.Refused.{Readers, IsFine, IsRefused}
use Rattle.script_defs.specs.Steps.{world_after}
use Rattle.script_defs.specs.UnitSteps.{Source, Opening, frame_after, frame_inside, after_map}
use Rattle.script_defs.specs.Runs.{Task, End, Ends, Opens, OpensLines, AreSourceLines, IsFileRefused, IsSourceRefused, longest_file, source_file, tasks_behind, tasks_of}
use Rattle.script_defs.specs.Laws.{AreExact, HasOneEnd}

-- a list with a first item isn't empty
nothing_first : {X : Type 0} (xs : List X) (x : X) → xs ≡ [] → slice_get xs 0 ≡ Some x → ⊥
nothing_first [] x none first = cc
nothing_first (y ∷ ys) x none first = cc

-- two firsts of one list are one
one_first : {X : Type 0} (xs : List X) (x y : X) → slice_get xs 0 ≡ Some x → slice_get xs 0 ≡ Some y → x ≡ y
one_first xs x y a b = cc

-- the world of an end, or another one
world_or : World → End → World
world_or w (End.ran v) = v
world_or w (End.stopped r) = w

pub ran_once : (u v : World) → End.ran u ≡ End.ran v → u ≡ v
unfolding world_or
ran_once u v e = ap (world_or u) e

-- the refusal of an end, or another one
refusal_or : Refusal → End → Refusal
refusal_or r (End.ran v) = r
refusal_or r (End.stopped q) = q

pub stopped_once : (p q : Refusal) → End.stopped p ≡ End.stopped q → p ≡ q
unfolding refusal_or
stopped_once p q e = ap (refusal_or p) e

pub ran_or_stopped : (u : World) (r : Refusal) → End.ran u ≡ End.stopped r → ⊥
ran_or_stopped u r e = cc

module _ (readers : Readers) (exact : AreExact readers) (limit : ℕ) (d : Design) where
  -- a line has one refusal
  one_refusal : (f : Frame) (w : World) (b : Block) (p q : Refusal) → IsRefused readers limit d f w b p → IsRefused readers limit d f w b q → p ≡ q
  one_refusal f w b p q (IsRefused.early x first is) (IsRefused.early y first' is') =
      let same : x ≡ y = one_first _ x y first first' in cc
  one_refusal f w b p q (IsRefused.early x first is) (IsRefused.form fault none has goes shown) = absurd (nothing_first _ x none first)
  one_refusal f w b p q (IsRefused.early x first is) (IsRefused.body_before_form fault y none has goes first' shown) = absurd (nothing_first _ x none first)
  one_refusal f w b p q (IsRefused.early x first is) (IsRefused.body s y none read first' shown) = absurd (nothing_first _ x none first)
  one_refusal f w b p q (IsRefused.early x first is) (IsRefused.late s y none read ends first' shown) = absurd (nothing_first _ x none first)
  one_refusal f w b p q (IsRefused.form fault none has goes shown) (IsRefused.early y first' is') = absurd (nothing_first _ y none first')
  one_refusal f w b p q (IsRefused.form fault none has goes shown) (IsRefused.form fault' none' has' goes' shown') =
      let same : fault ≡ fault' = exact.one_form_fault b.head fault fault' has has' in cc
  one_refusal f w b p q (IsRefused.form fault none has goes shown) (IsRefused.body_before_form fault' y none' has' goes' first' shown') =
      let same : fault ≡ fault' = exact.one_form_fault b.head fault fault' has has' in cc
  one_refusal f w b p q (IsRefused.form fault none has goes shown) (IsRefused.body s y none' read first' shown') = absurd
      (exact.statement_or_fault b.head s fault read has)
  one_refusal f w b p q (IsRefused.form fault none has goes shown) (IsRefused.late s y none' read ends first' shown') = absurd
      (exact.statement_or_fault b.head s fault read has)
  one_refusal f w b p q (IsRefused.body_before_form fault x none has goes first shown) (IsRefused.early y first' is') = absurd (nothing_first _ y none first')
  one_refusal f w b p q (IsRefused.body_before_form fault x none has goes first shown) (IsRefused.form fault' none' has' goes' shown') =
      let same : fault ≡ fault' = exact.one_form_fault b.head fault fault' has has' in cc
  one_refusal f w b p q (IsRefused.body_before_form fault x none has goes first shown) (IsRefused.body_before_form fault' y none' has' goes' first' shown') =
      let same : x ≡ y = one_first _ x y first first' in cc
  one_refusal f w b p q (IsRefused.body_before_form fault x none has goes first shown) (IsRefused.body s y none' read first' shown') =
      absurd (exact.statement_or_fault b.head s fault read has)
  one_refusal f w b p q (IsRefused.body_before_form fault x none has goes first shown) (IsRefused.late s y none' read ends first' shown') =
      absurd (exact.statement_or_fault b.head s fault read has)
  one_refusal f w b p q (IsRefused.body s x none read first shown) (IsRefused.early y first' is') = absurd (nothing_first _ y none first')
  one_refusal f w b p q (IsRefused.body s x none read first shown) (IsRefused.form fault none' has goes shown') = absurd
      (exact.statement_or_fault b.head s fault read has)
  one_refusal f w b p q (IsRefused.body s x none read first shown) (IsRefused.body_before_form fault y none' has goes first' shown') =
      absurd (exact.statement_or_fault b.head s fault read has)
  one_refusal f w b p q (IsRefused.body s x none read first shown) (IsRefused.body s' y none' read' first' shown') =
      let same : x ≡ y = one_first _ x y first first' in cc
  one_refusal f w b p q (IsRefused.body s x none read first shown) (IsRefused.late s' y none' read' ends first' shown') = absurd (nothing_first _ x ends first)
  one_refusal f w b p q (IsRefused.late s x none read ends first shown) (IsRefused.early y first' is') = absurd (nothing_first _ y none first')
  one_refusal f w b p q (IsRefused.late s x none read ends first shown) (IsRefused.form fault none' has goes shown') = absurd
      (exact.statement_or_fault b.head s fault read has)
  one_refusal f w b p q (IsRefused.late s x none read ends first shown) (IsRefused.body_before_form fault y none' has goes first' shown') =
      absurd (exact.statement_or_fault b.head s fault read has)
  one_refusal f w b p q (IsRefused.late s x none read ends first shown) (IsRefused.body s' y none' read' first' shown') = absurd (nothing_first _ y ends first')
  one_refusal f w b p q (IsRefused.late s x none read ends first shown) (IsRefused.late s' y none' read' ends' first' shown') =
      let P : Statement → Type 0 = λ t. slice_get (line_faults d f w t) 0 ≡ Some y in
      let same : x ≡ y = one_first _ x y first (subst P (exact.one_statement b.head s' s read' read) first') in
      cc

  -- a line that is refused isn't fine
  fine_or_refused : (f : Frame) (w : World) (b : Block) (s : Statement) (r : Refusal) → IsFine readers limit d f w b s → IsRefused readers limit d f w b r → ⊥
  fine_or_refused f w b s r fine (IsRefused.early x first is) = nothing_first _ x fine.early first
  fine_or_refused f w b s r fine (IsRefused.form fault none has goes shown) = exact.statement_or_fault b.head s fault fine.read has
  fine_or_refused f w b s r fine (IsRefused.body_before_form fault x none has goes first shown) = exact.statement_or_fault b.head s fault fine.read has
  fine_or_refused f w b s r fine (IsRefused.body s' x none read first shown) = nothing_first _ x fine.body first
  fine_or_refused f w b s r fine (IsRefused.late s' x none read ends first shown) =
      let P : Statement → Type 0 = λ t. slice_get (line_faults d f w t) 0 ≡ Some x in
      nothing_first _ x fine.fine (subst P (exact.one_statement b.head s' s read fine.read) first)

  -- a line that is fine is one command
  one_fine : (f : Frame) (w : World) (b : Block) (s t : Statement) → IsFine readers limit d f w b s → IsFine readers limit d f w b t → s ≡ t
  one_fine f w b s t fine fine' = exact.one_statement b.head s t fine.read fine'.read

  module _ (held : List ℕ → Option (List ℕ)) where
    -- a source has one list of lines
    one_source : (source : Source) (modelled : Bool) (a b : List Line) → OpensLines readers held source modelled a
        → OpensLines readers held source modelled b → a ≡ b
    one_source source true a b p q = cc
    one_source (Source.body name body) false a b p q = cc
    one_source (Source.file name) false a b p q =
        let P : List ℕ → Type 0 = λ text. readers.IsScript text b in
        let same : q.0 ≡ p.0 = of_some q.0 p.0 (sym q.1 ∙ p.1) in
        exact.one_script p.0 a b p.3 (subst P same q.3)
      where
        of_some : (x y : List ℕ) → Some x ≡ Some y → x ≡ y
        of_some x y e = cc

    -- a file is refused in one way
    one_file_refusal : (name : List ℕ) (p q : Refusal) → IsFileRefused readers held name p → IsFileRefused readers held name q → p ≡ q
    one_file_refusal name p q (IsFileRefused.absent none is) (IsFileRefused.absent none' is') = cc
    one_file_refusal name p q (IsFileRefused.absent none is) (IsFileRefused.too_long text there long is') = cc
    one_file_refusal name p q (IsFileRefused.absent none is) (IsFileRefused.unreadable text fault there fits has shown) = cc
    one_file_refusal name p q (IsFileRefused.too_long text there long is) (IsFileRefused.absent none is') = cc
    one_file_refusal name p q (IsFileRefused.too_long text there long is) (IsFileRefused.too_long text' there' long' is') = cc
    one_file_refusal name p q (IsFileRefused.too_long text there long is) (IsFileRefused.unreadable text' fault there' fits has shown) =
        let same : text ≡ text' = cc in
        let as_long : length text ≡ length text' = ap length same in
        absurd (omega arith)
    one_file_refusal name p q (IsFileRefused.unreadable text fault there fits has shown) (IsFileRefused.absent none is') = cc
    one_file_refusal name p q (IsFileRefused.unreadable text fault there fits has shown) (IsFileRefused.too_long text' there' long is') =
        let same : text ≡ text' = cc in
        let as_long : length text ≡ length text' = ap length same in
        absurd (omega arith)
    one_file_refusal name p q (IsFileRefused.unreadable text fault there fits has shown) (IsFileRefused.unreadable text' fault' there' fits' has' shown') =
        let P : List ℕ → Type 0 = λ t. readers.HasScriptFault t fault' in
        let back : text' ≡ text = cc in
        let same : fault ≡ fault' = exact.one_script_fault text fault fault' has (subst P back has') in
        cc

    one_unopened : (source : Source) (modelled : Bool) (p q : Refusal) → IsSourceRefused readers held source modelled p
        → IsSourceRefused readers held source modelled q → p ≡ q
    one_unopened (Source.file name) false p q a b = one_file_refusal name p q a b
    one_unopened (Source.file name) true p q a b = absurd a
    one_unopened (Source.body name lines) false p q a b = absurd a
    one_unopened (Source.body name lines) true p q a b = absurd a

    -- a file that is refused has no lines
    file_or_refused : (name : List ℕ) (lines : List Line) (r : Refusal) → AreSourceLines readers held (Source.file name) lines
        → IsFileRefused readers held name r → ⊥
    file_or_refused name lines r p (IsFileRefused.absent none is) = let clash : None ≡ Some p.0 = sym none ∙ p.1 in cc
    file_or_refused name lines r p (IsFileRefused.too_long text there long is) =
        let both : Some text ≡ Some p.0 = sym there ∙ p.1 in
        let same : text ≡ p.0 = cc in
        let as_long : length text ≡ length p.0 = ap length same in
        let fits : length p.0 ≤ longest_file = p.2 in
        omega arith
    file_or_refused name lines r p (IsFileRefused.unreadable text fault there fits has shown) =
        let both : Some p.0 ≡ Some text = sym p.1 ∙ there in
        let same : p.0 ≡ text = cc in
        let P : List ℕ → Type 0 = λ t. readers.IsScript t lines in
        exact.script_or_fault text lines fault (subst P same p.3) has

    opens_or_not : (source : Source) (modelled : Bool) (lines : List Line) (r : Refusal) → OpensLines readers held source modelled lines
        → IsSourceRefused readers held source modelled r → ⊥
    opens_or_not (Source.file name) false lines r p q = file_or_refused name lines r p q
    opens_or_not (Source.file name) true lines r p q = q
    opens_or_not (Source.body name body) false lines r p q = q
    opens_or_not (Source.body name body) true lines r p q = q

    -- the lines of the second run of an opened frame, put in the place of those of the first
    same_inside : (f : Frame) (w : World) (o : Opening) (lines lines' : List Line) (left left' : ℕ) (e : End) → f.left ≡ left + 1 → f.left ≡ left' + 1
        → Opens readers held d o lines → Opens readers held d o lines'
        → Ends readers held limit d (frame_inside f o (source_file o.source) left') w (tasks_of lines') e
        → Ends readers held limit d (frame_inside f o (source_file o.source) left) w (tasks_of lines) e
    same_inside f w o lines lines' left left' e l l' opens opens' ends =
        let P : List Line → Type 0 = λ ls. Ends readers held limit d (frame_inside f o (source_file o.source) left) w (tasks_of ls) e in
        let Q : ℕ → Type 0 = λ n. Ends readers held limit d (frame_inside f o (source_file o.source) n) w (tasks_of lines') e in
        let lefts : left' ≡ left = omega arith in
        subst P (one_source o.source (is_modelled d o.home) lines' lines opens' opens) (subst Q lefts ends)

    one_end : (f : Frame) (w : World) (tasks : List Task) (a b : End) → Ends readers held limit d f w tasks a → Ends readers held limit d f w tasks b → a ≡ b
    one_end _ _ _ _ _ (Ends.done f w) (Ends.done f' w') = refl
    one_end _ _ _ _ _ (Ends.refused f w b tasks p is) (Ends.refused f' w' b' tasks' q is') = ap End.stopped (one_refusal f w b p q is is')
    one_end _ _ _ _ _ (Ends.refused f w b tasks p is) (Ends.runs f' w' b' tasks' e s fine rest) = absurd (fine_or_refused f w b s p fine is)
    one_end _ _ _ _ _ (Ends.runs f w b tasks e s fine rest) (Ends.refused f' w' b' tasks' q is) = absurd (fine_or_refused f w b s q fine is)
    one_end _ _ _ _ _ (Ends.runs f w b tasks e s fine rest) (Ends.runs f' w' b' tasks' e' s' fine' rest') =
        let P : Statement → Type 0 = λ t. Ends readers held limit d (frame_after f t) (world_after d w f t b.body) (tasks_behind w f t tasks) e' in
        one_end _ _ _ e e' rest (subst P (one_fine f w b s' s fine' fine) rest')
    one_end _ _ _ _ _ (Ends.unopened f w o tasks p is) (Ends.unopened f' w' o' tasks' q is') = ap End.stopped (one_unopened o.source
        (is_modelled d o.home) p q is is')
    one_end _ _ _ _ _ (Ends.unopened f w o tasks p is) (Ends.within f' w' o' tasks' q lines left l opens inside) = absurd (opens_or_not o.source
        (is_modelled d o.home) lines p opens is)
    one_end _ _ _ _ _ (Ends.unopened f w o tasks p is) (Ends.unmapped f' w' o' tasks' q lines left u x l opens inside first shown) =
        absurd (opens_or_not o.source (is_modelled d o.home) lines p opens is)
    one_end _ _ _ _ _ (Ends.unopened f w o tasks p is) (Ends.mapped f' w' o' tasks' e lines left u l opens inside fine rest) =
        absurd (opens_or_not o.source (is_modelled d o.home) lines p opens is)
    one_end _ _ _ _ _ (Ends.within f w o tasks p lines left l opens inside) (Ends.unopened f' w' o' tasks' q is) = absurd (opens_or_not o.source
        (is_modelled d o.home) lines q opens is)
    one_end _ _ _ _ _ (Ends.within f w o tasks p lines left l opens inside) (Ends.within f' w' o' tasks' q lines' left' l' opens' inside') =
        one_end _ _ _ (End.stopped p) (End.stopped q) inside (same_inside f w o lines lines' left left' (End.stopped q) l l' opens opens' inside')
    one_end _ _ _ _ _ (Ends.within f w o tasks p lines left l opens inside) (Ends.unmapped f' w' o' tasks' q lines' left' u x l' opens' inside' first shown) =
        absurd (ran_or_stopped u p (sym (one_end _ _ _ (End.stopped p) (End.ran u) inside (same_inside f w o lines lines' left left'
        (End.ran u) l l' opens opens' inside'))))
    one_end _ _ _ _ _ (Ends.within f w o tasks p lines left l opens inside) (Ends.mapped f' w' o' tasks' e lines' left' u l' opens' inside' fine rest) =
        absurd (ran_or_stopped u p (sym (one_end _ _ _ (End.stopped p) (End.ran u) inside (same_inside f w o lines lines' left left'
        (End.ran u) l l' opens opens' inside'))))
    one_end _ _ _ _ _ (Ends.unmapped f w o tasks p lines left u x l opens inside first shown) (Ends.unopened f' w' o' tasks' q is) =
        absurd (opens_or_not o.source (is_modelled d o.home) lines q opens is)
    one_end _ _ _ _ _ (Ends.unmapped f w o tasks p lines left u x l opens inside first shown) (Ends.within f' w' o' tasks' q lines' left' l' opens' inside') =
        absurd (ran_or_stopped u q (one_end _ _ _ (End.ran u) (End.stopped q) inside (same_inside f w o lines lines' left left'
        (End.stopped q) l l' opens opens' inside')))
    one_end _ _ _ _ _ (Ends.unmapped f w o tasks p lines left u x l opens inside first shown)
        (Ends.unmapped f' w' o' tasks' q lines' left' u' x' l' opens' inside' first' shown') =
        let same : u' ≡ u =
        sym (ran_once u u' (one_end _ _ _ (End.ran u) (End.ran u') inside (same_inside f w o lines lines' left left'
        (End.ran u') l l' opens opens' inside'))) in
        let P : World → Type 0 = λ v. slice_get (map_faults d v f o) 0 ≡ Some x' in
        let first_is : x ≡ x' = one_first _ x x' first (subst P same first') in
        cc
    one_end _ _ _ _ _ (Ends.unmapped f w o tasks p lines left u x l opens inside first shown)
        (Ends.mapped f' w' o' tasks' e lines' left' u' l' opens' inside' fine rest) =
        let same : u' ≡ u =
        sym (ran_once u u' (one_end _ _ _ (End.ran u) (End.ran u') inside (same_inside f w o lines lines' left left'
        (End.ran u') l l' opens opens' inside'))) in
        let P : World → Type 0 = λ v. map_faults d v f o ≡ [] in
        absurd (nothing_first _ x (subst P same fine) first)
    one_end _ _ _ _ _ (Ends.mapped f w o tasks e lines left u l opens inside fine rest) (Ends.unopened f' w' o' tasks' q is) =
        absurd (opens_or_not o.source (is_modelled d o.home) lines q opens is)
    one_end _ _ _ _ _ (Ends.mapped f w o tasks e lines left u l opens inside fine rest) (Ends.within f' w' o' tasks' q lines' left' l' opens' inside') =
        absurd (ran_or_stopped u q (one_end _ _ _ (End.ran u) (End.stopped q) inside (same_inside f w o lines lines' left left'
        (End.stopped q) l l' opens opens' inside')))
    one_end _ _ _ _ _ (Ends.mapped f w o tasks e lines left u l opens inside fine rest)
        (Ends.unmapped f' w' o' tasks' q lines' left' u' x l' opens' inside' first shown) =
        let same : u' ≡ u =
        sym (ran_once u u' (one_end _ _ _ (End.ran u) (End.ran u') inside (same_inside f w o lines lines' left left'
        (End.ran u') l l' opens opens' inside'))) in
        let P : World → Type 0 = λ v. slice_get (map_faults d v f o) 0 ≡ Some x in
        absurd (nothing_first _ x fine (subst P same first))
    one_end _ _ _ _ _ (Ends.mapped f w o tasks e lines left u l opens inside fine rest)
        (Ends.mapped f' w' o' tasks' e' lines' left' u' l' opens' inside' fine' rest') =
        let same : u' ≡ u =
        sym (ran_once u u' (one_end _ _ _ (End.ran u) (End.ran u') inside (same_inside f w o lines lines' left left'
        (End.ran u') l l' opens opens' inside'))) in
        let P : World → Type 0 = λ v. Ends readers held limit d f (after_map d v f o) tasks e' in
        one_end _ _ _ e e' rest (subst P same rest')

pub has_one_end : HasOneEnd
has_one_end readers exact held limit d f w tasks a b p q = one_end readers exact limit d held f w tasks a b p q
