-- The lines of a frame end in some way, whatever the files.
use Rattle.std.proofs.Common.{◌≡◌, ◌≢◌, ℕ, zero, suc, ◌+◌, ◌<◌, ◌≤◌, ◌||◌, ◌&&◌, Bool, true, false, List, [], ◌∷◌, ◌++◌, map, length, Option, Some, None, slice_get, ◌⊎◌, inl, inr, refl, sym, ap, ◌∙◌, subst, arith, cond}
use Rattle.std.proofs.lemmas.Bool.{false≢true}
use Rattle.std.specs.Prelude.{codes, nat_eq}
use Rattle.pw_defs.specs.declared.design.Design.{Design}
use Rattle.pw_defs.specs.declared.faults.Code.{Code}
use Rattle.pw_defs.specs.declared.faults.CmdFault.{CmdFault}
use Rattle.pw_defs.specs.declared.faults.TclFault.{TclFault}
use Rattle.pw_defs.specs.declared.faults.Refusal.{Refusal}
use Rattle.pw_defs.specs.declared.script.Line.{Line}
use Rattle.list_defs.specs.Members.{same_name}
use Rattle.list_defs.proofs.NameLemmas.{same_name-equal}
use Rattle.script_defs.specs.Statements.{Statement, is_command}
use Rattle.script_defs.specs.World.{Frame, World}
use Rattle.script_defs.specs.Scopes.{is_modelled}
use Rattle.script_defs.specs.Blocks.{Block, blocks_of, has_first_word, is_line_of}
use Rattle.script_defs.specs.LineFaults.{LineFault, early_faults, late_lines, line_faults, map_faults, no_name, shown_if, with_code}
use Rattle.script_defs.specs.Refused.{Readers, BodyFault, IsFine, IsRefused, body_faults, body_goes_first, body_refusal, form_refusal, line_refusal, text_refusal}
use Rattle.script_defs.specs.Steps.{world_after}
use Rattle.script_defs.specs.UnitSteps.{Source, Opening, frame_after, frame_inside, after_map, openings_of}
use Rattle.script_defs.specs.Runs.{Task, End, Ends, Opens, OpensLines, IsFileRefused, IsSourceRefused, longest_file, source_file, tasks_behind, tasks_of}
use Rattle.script_defs.specs.Laws.{AreWhole, HasSomeEnd}

-- a fault of form is shown by some refusal
form_shown : (file : List ℕ) (fault : CmdFault) → fault ≢ CmdFault.Memory → (r : Refusal) × (form_refusal file fault ≡ Some r)
form_shown file (CmdFault.U1 at) known = (_, refl)
form_shown file (CmdFault.U2 at) known = (_, refl)
form_shown file (CmdFault.U3 at) known = (_, refl)
form_shown file (CmdFault.U4 at) known = (_, refl)
form_shown file (CmdFault.T1 at) known = (_, refl)
form_shown file (CmdFault.T2 at) known = (_, refl)
form_shown file CmdFault.Memory known = absurd (known refl)

text_shown : (file : List ℕ) (fault : TclFault) → fault ≢ TclFault.Memory → (r : Refusal) × (text_refusal file fault ≡ Some r)
text_shown file (TclFault.T1 at) known = (_, refl)
text_shown file (TclFault.T2 at) known = (_, refl)
text_shown file (TclFault.T3 at) known = (_, refl)
text_shown file (TclFault.T4 at) known = (_, refl)
text_shown file TclFault.Memory known = absurd (known refl)

-- a list is empty or has a first item
first_or_none : {X : Type 0} (xs : List X) → (xs ≡ []) ⊎ ((x : X) × (slice_get xs 0 ≡ Some x))
first_or_none [] = inl refl
first_or_none (x ∷ xs) = inr (x, refl)

-- a command has the name of its line
name_of_line : (name : List ℕ) (line : Line) (s : Statement) → has_first_word s.name line.words ≡ true → is_line_of name line ≡ is_command name s
name_of_line name line s h = by line.words h
  where
    by : (words : List (List ℕ)) → has_first_word s.name words ≡ true → has_first_word name words ≡ same_name name s.name
    by [] h = absurd (false≢true h)
    by (word ∷ words) h = ap (same_name name) (sym (same_name-equal s.name word h))

-- the scope alone changes behind a line
left_after : (f : Frame) (s : Statement) → (frame_after f s).left ≡ f.left
left_after f s = by (is_command (codes "set_scope") s) _
  where
    by : (b : Bool) (scope : List ℕ) → (cond b (record f { scope = scope }) f).left ≡ f.left
    by true scope = refl
    by false scope = refl

-- where no frame may be opened any more, a line without early faults opens none
no_openings : (limit : ℕ) (f : Frame) (w : World) (line : Line) (s : Statement) → has_first_word s.name line.words ≡ true → f.left ≡ 0
    → early_faults limit f w line ≡ [] → openings_of w f s ≡ []
no_openings limit f w line s named last none =
    by (is_command (codes "load_upf") s) (is_command (codes "apply_power_model") s) f.left last (with_code Code.X5 (late_lines limit w)) _ _
    (subst P (name_of_line (codes "load_upf") line s named) (subst Q (name_of_line (codes "apply_power_model") line s named) none))
  where
    P : Bool → Type 0
    P a = with_code Code.X4 (shown_if (nat_eq f.left 0 && (a || is_command (codes "apply_power_model") s)) no_name) ++ with_code Code.X5
        (late_lines limit w) ≡ []

    Q : Bool → Type 0
    Q b = with_code Code.X4 (shown_if (nat_eq f.left 0 && (is_line_of (codes "load_upf") line || b)) no_name) ++ with_code Code.X5 (late_lines limit w) ≡ []

    by : (a b : Bool) (left : ℕ) → left ≡ 0 → (rest : List LineFault) (x y : List Opening)
        → with_code Code.X4 (shown_if (nat_eq left 0 && (a || b)) no_name) ++ rest ≡ [] → cond a x (cond b y []) ≡ []
    by true b left e rest x y h = let R : ℕ → Type 0 = λ n. with_code Code.X4 (shown_if (nat_eq n 0 && true) no_name) ++ rest
        ≡ [] in let clash = subst R e h in cc
    by false true left e rest x y h = let R : ℕ → Type 0 = λ n. with_code Code.X4 (shown_if (nat_eq n 0 && true) no_name) ++ rest
        ≡ [] in let clash = subst R e h in cc
    by false false left e rest x y h = refl

module _ (readers : Readers) (whole : AreWhole readers) (held : List ℕ → Option (List ℕ)) (limit : ℕ) (d : Design) where
  SomeEnd : Frame → World → List Task → Type 0
  SomeEnd f w tasks = (e : End) × Ends readers held limit d f w tasks e

  stops : (f : Frame) (w : World) (b : Block) (tasks : List Task) (r : Refusal) → IsRefused readers limit d f w b r → SomeEnd f w (Task.command b ∷ tasks)
  unfolding SomeEnd
  stops f w b tasks r is = (End.stopped r, Ends.refused f w b tasks r is)

  -- a line stops, or goes on as what stands behind it
  line_end : (f : Frame) (w : World) (b : Block) (tasks : List Task)
      → ((s : Statement) → IsFine readers limit d f w b s → SomeEnd (frame_after f s) (world_after d w f s b.body) (tasks_behind w f s tasks))
      → SomeEnd f w (Task.command b ∷ tasks)
  unfolding SomeEnd
  line_end f w b tasks next = early (first_or_none (early_faults limit f w b.head))
    where
      late : (s : Statement) → readers.IsStatement b.head s → early_faults limit f w b.head ≡ [] → body_faults b ≡ []
          → (line_faults d f w s ≡ []) ⊎ ((x : LineFault) × (slice_get (line_faults d f w s) 0 ≡ Some x))
          → SomeEnd f w (Task.command b ∷ tasks)
      late s read none body (inr first) = stops f w b tasks (line_refusal f b.head.number first.0) (IsRefused.late s first.0 none read body first.1 refl)
      late s read none body (inl fine) =
          let is_fine : IsFine readers limit d f w b s = record { early = none; read = read; body = body; fine = fine } in
          let ends = next s is_fine in
          (ends.0, Ends.runs f w b tasks ends.0 s is_fine ends.1)

      of_body : (s : Statement) → readers.IsStatement b.head s → early_faults limit f w b.head ≡ []
          → (body_faults b ≡ []) ⊎ ((x : BodyFault) × (slice_get (body_faults b) 0 ≡ Some x))
          → SomeEnd f w (Task.command b ∷ tasks)
      of_body s read none (inr first) = stops f w b tasks (body_refusal f.file first.0) (IsRefused.body s first.0 none read first.1 refl)
      of_body s read none (inl body) = late s read none body (first_or_none (line_faults d f w s))

      before : (faults : List BodyFault) (fault : CmdFault) → body_goes_first faults fault ≡ true → (x : BodyFault) × (slice_get faults 0 ≡ Some x)
      before [] fault h = absurd (false≢true h)
      before (x ∷ xs) fault h = (x, refl)

      of_form : (fault : CmdFault) → readers.HasFormFault b.head fault → early_faults limit f w b.head ≡ [] → (first : Bool)
          → body_goes_first (body_faults b) fault ≡ first → SomeEnd f w (Task.command b ∷ tasks)
      of_form fault has none true goes =
          let x = before (body_faults b) fault goes in
          stops f w b tasks (body_refusal f.file x.0) (IsRefused.body_before_form fault x.0 none has goes x.1 refl)
      of_form fault has none false goes =
          let shown = form_shown f.file fault (whole.form_fault b.head fault has) in
          stops f w b tasks shown.0 (IsRefused.form fault none has goes shown.1)

      read_or_not : early_faults limit f w b.head ≡ [] → ((s : Statement) × readers.IsStatement b.head s) ⊎ ((fault : CmdFault)
          × readers.HasFormFault b.head fault) → SomeEnd f w (Task.command b ∷ tasks)
      read_or_not none (inl s) = of_body s.0 s.1 none (first_or_none (body_faults b))
      read_or_not none (inr x) = of_form x.0 x.1 none (body_goes_first (body_faults b) x.0) refl

      early : (early_faults limit f w b.head ≡ []) ⊎ ((x : LineFault) × (slice_get (early_faults limit f w b.head) 0 ≡ Some x))
          → SomeEnd f w (Task.command b ∷ tasks)
      early (inr first) = stops f w b tasks (line_refusal f b.head.number first.0) (IsRefused.early first.0 first.1 refl)
      early (inl none) = read_or_not none (whole.statement b.head)

  -- a file has lines or is refused
  file_lines : (name : List ℕ) → ((lines : List Line) × OpensLines readers held (Source.file name) false lines) ⊎ ((r : Refusal)
      × IsFileRefused readers held name r)
  file_lines name = by (held name) refl
    where
      fits_or_not : (n m : ℕ) → (n ≤ m) ⊎ (m < n)
      fits_or_not n m = grind arith

      read_or_not : (text : List ℕ) → held name ≡ Some text → length text ≤ longest_file
          → ((lines : List Line) × readers.IsScript text lines) ⊎ ((fault : TclFault) × readers.HasScriptFault text fault)
          → ((lines : List Line) × OpensLines readers held (Source.file name) false lines) ⊎ ((r : Refusal) × IsFileRefused readers held name r)
      read_or_not text is fits (inl lines) = inl (lines.0, (text, is, fits, lines.1))
      read_or_not text is fits (inr x) =
          let shown = text_shown name x.0 (whole.script_fault text x.0 x.1) in
          inr (shown.0, IsFileRefused.unreadable text x.0 is fits x.1 shown.1)

      sized : (text : List ℕ) → held name ≡ Some text → (length text ≤ longest_file) ⊎ (longest_file < length text)
          → ((lines : List Line) × OpensLines readers held (Source.file name) false lines) ⊎ ((r : Refusal) × IsFileRefused readers held name r)
      sized text is (inl fits) = read_or_not text is fits (whole.script text)
      sized text is (inr long) = inr (_, IsFileRefused.too_long text is long refl)

      by : (o : Option (List ℕ)) → held name ≡ o → ((lines : List Line) × OpensLines readers held (Source.file name) false lines) ⊎ ((r : Refusal)
          × IsFileRefused readers held name r)
      by None is = inr (_, IsFileRefused.absent is refl)
      by (Some text) is = sized text is (fits_or_not (length text) longest_file)

  -- an opened frame has lines or can't be begun
  opened : (source : Source) (modelled : Bool) → ((lines : List Line) × OpensLines readers held source modelled lines) ⊎ ((r : Refusal)
      × IsSourceRefused readers held source modelled r)
  opened source true = inl ([], refl)
  opened (Source.body name lines) false = inl (lines, refl)
  opened (Source.file name) false = file_lines name

  -- what the frames that may be opened from one with so many left end in
  Inner : ℕ → Type 0
  Inner zero = Unit {0}
  Inner (suc n) = (f : Frame) (w : World) (lines : List Line) → f.left ≡ n → SomeEnd f w (tasks_of lines)

  -- frames that a line opened end, and then what stands behind them does
  openings_end : (n : ℕ) → ((f : Frame) (w : World) (lines : List Line) → f.left ≡ n → SomeEnd f w (tasks_of lines)) → (f : Frame) → f.left ≡ n + 1
      → (w : World) (tasks : List Task)
      → ((u : World) → SomeEnd f u tasks) → (os : List Opening) → SomeEnd f w (map Task.opening os ++ tasks)
  unfolding SomeEnd
  openings_end n inner f left w tasks next [] = next w
  openings_end n inner f left w tasks next (o ∷ os) = begun (opened o.source (is_modelled d o.home)) (λ u. openings_end n inner f left u tasks next os)
    where
      mapped : (lines : List Line) → Opens readers held d o lines → (u : World)
          → Ends readers held limit d (frame_inside f o (source_file o.source) n) w (tasks_of lines) (End.ran u)
          → (map_faults d u f o ≡ []) ⊎ ((x : LineFault) × (slice_get (map_faults d u f o) 0 ≡ Some x)) → ((v : World)
          → SomeEnd f v (map Task.opening os ++ tasks))
          → SomeEnd f w (Task.opening o ∷ (map Task.opening os ++ tasks))
      mapped lines opens u ran (inr x) behind = (_, Ends.unmapped f w o (map Task.opening os ++ tasks) _ lines n u x.0 left opens ran x.1 refl)
      mapped lines opens u ran (inl fine) behind =
          let ends = behind (after_map d u f o) in
          (ends.0, Ends.mapped f w o (map Task.opening os ++ tasks) ends.0 lines n u left opens ran fine ends.1)

      ended : (lines : List Line) → Opens readers held d o lines → (e : End)
          → Ends readers held limit d (frame_inside f o (source_file o.source) n) w (tasks_of lines) e
          → ((v : World) → SomeEnd f v (map Task.opening os ++ tasks)) → SomeEnd f w (Task.opening o ∷ (map Task.opening os ++ tasks))
      ended lines opens (End.stopped r) ends behind = (End.stopped r, Ends.within f w o (map Task.opening os ++ tasks) r lines n left opens ends)
      ended lines opens (End.ran u) ends behind = mapped lines opens u ends (first_or_none (map_faults d u f o)) behind

      begun : ((lines : List Line) × OpensLines readers held o.source (is_modelled d o.home) lines) ⊎ ((r : Refusal)
          × IsSourceRefused readers held o.source (is_modelled d o.home) r)
          → ((v : World) → SomeEnd f v (map Task.opening os ++ tasks)) → SomeEnd f w (Task.opening o ∷ (map Task.opening os ++ tasks))
      begun (inr r) behind = (End.stopped r.0, Ends.unopened f w o (map Task.opening os ++ tasks) r.0 r.1)
      begun (inl lines) behind =
          let inside = inner (frame_inside f o (source_file o.source) n) w lines.0 refl in
          ended lines.0 lines.1 inside.0 inside.1 behind

  -- the same for the frames that a fine line opens
  behind_end : (n : ℕ) → Inner n → (f : Frame) (w : World) (b : Block) (s : Statement) → IsFine readers limit d f w b s → f.left ≡ n → (tasks : List Task)
      → ((u : World) → SomeEnd (frame_after f s) u tasks) → SomeEnd (frame_after f s) (world_after d w f s b.body) (tasks_behind w f s tasks)
  unfolding Inner
  behind_end zero inner f w b s fine left tasks next =
      let P : List Opening → Type 0 = λ os. SomeEnd (frame_after f s) (world_after d w f s b.body) (map Task.opening os ++ tasks) in
      subst P (sym (no_openings limit f w b.head s (whole.named b.head s fine.read) left fine.early)) (next (world_after d w f s b.body))
  behind_end (suc n) inner f w b s fine left tasks next =
      openings_end n inner (frame_after f s) (left_after f s ∙ left ∙ omega arith) (world_after d w f s b.body) tasks next (openings_of w f s)

  blocks_end : (n : ℕ) → Inner n → (f : Frame) → f.left ≡ n → (w : World) (blocks : List Block) → SomeEnd f w (map Task.command blocks)
  unfolding SomeEnd
  blocks_end n inner f left w [] = (End.ran w, Ends.done f w)
  blocks_end n inner f left w (b ∷ blocks) =
      line_end f w b (map Task.command blocks)
      (λ s fine. behind_end n inner f w b s fine left (map Task.command blocks) (λ u. blocks_end n inner (frame_after f s) (left_after f s ∙ left) u blocks))

  frame_end : (n : ℕ) (f : Frame) (w : World) (lines : List Line) → f.left ≡ n → SomeEnd f w (tasks_of lines)
  unfolding Inner
  frame_end zero f w lines left = blocks_end zero tt f left w (blocks_of lines)
  frame_end (suc n) f w lines left = blocks_end (suc n) (frame_end n) f left w (blocks_of lines)

pub has_some_end : HasSomeEnd
unfolding SomeEnd
has_some_end readers whole held limit d f w lines = frame_end readers whole held limit d f.left f w lines refl
