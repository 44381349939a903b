-- The files that lines open have names in UTF-8.
use Rattle.std.proofs.Common.{◌≡◌, ℕ, Bool, true, false, List, [], ◌∷◌, ◌++◌, Option, Some, None, refl, sym, ap, ◌∙◌, subst, cond}
use Rattle.std.specs.Prelude.{codes, IsUtf8, map, unwrap_or}
use Rattle.std.specs.List.{AllByRecursion, filter_map, flat_map}
use Rattle.pw_defs.specs.declared.script.Command.{Command}
use Rattle.pw_defs.specs.declared.script.Line.{Line}
use Rattle.list_defs.proofs.NameLemmas.{same_name-equal, same_name-itself}
use Rattle.upf_commands.specs.CommandRows.{CommandRow}
use Rattle.upf_commands.specs.CommandTable.{commands}
use Rattle.upf_commands.specs.CommandWords.{Item, row_of, own, given, unknown, lacking}
use Rattle.upf_commands.specs.Commands.{IsCommand, IsGood, IsWhole, own_word}
use Rattle.upf_commands.specs.Forms.{WordForm, IsWordOf}
use Rattle.script_defs.specs.Statements.{Statement, first_of, is_command, names_of, pairs_of, subject_of}
use Rattle.script_defs.specs.World.{Body, Frame, Object, World}
use Rattle.script_defs.specs.Blocks.{has_first_word}
use Rattle.script_defs.specs.ReadStatements.{IsStatement}
use Rattle.script_defs.specs.UnitSteps.{Opening, Source, file_opening, body_openings, body_source, openings_of}
use Rattle.script_defs.specs.Scopes.{path_from}
use Rattle.script_defs.specs.LookUps.{object_at}
use Rattle.script_defs.specs.SupplySteps.{target_of}
use Rattle.script_runs.specs.Views.{HasText}

-- a statement has the name of its line
pub named_by_line : (line : Line) (s : Statement) → IsStatement line s → has_first_word s.name line.words ≡ true
named_by_line line s is = by is.command is.is_command is.is_statement.name_is
  where
    said : (words more : List (List ℕ)) (name : List ℕ) → words ≡ name ∷ more → s.name ≡ name → has_first_word s.name words ≡ true
    said words more name split e =
        let P : List ℕ → Type 0 = λ n. has_first_word n (name ∷ more) ≡ true in
        let Q : List (List ℕ) → Type 0 = λ ws. has_first_word s.name ws ≡ true in
        subst Q (sym split) (subst P (sym e) (same_name-itself name))

    by : (c : Command) → IsCommand line c → s.name ≡ c.name → has_first_word s.name line.words ≡ true
    by _ (IsCommand.runs row items h w) e = said line.words h.words row.name h.split e
    by _ (IsCommand.passes row words split is passed) e = said line.words words row.name split e

-- the first own word among items stands as an item behind others
first_own : (items : List Item) (text : List ℕ) (more : List (List ℕ)) → filter_map own_word items ≡ text ∷ more
    → (before : List Item) × (after : List Item) × (items ≡ before ++ own text ∷ after)
first_own [] text more e = cc
first_own (own word ∷ items) text more e = let same : word ≡ text = cc in ([], items, ap (λ w. own w ∷ items) same)
first_own (given o word ∷ items) text more e = let rest = first_own items text more e in (given o word ∷ rest.0, rest.1, ap (λ is. given o word ∷ is) rest.2)
first_own (unknown word ∷ items) text more e = let rest = first_own items text more e in (unknown word ∷ rest.0, rest.1, ap (λ is. unknown word ∷ is) rest.2)
first_own (lacking o ∷ items) text more e = let rest = first_own items text more e in (lacking o ∷ rest.0, rest.1, ap (λ is. lacking o ∷ is) rest.2)

own_form : Option CommandRow → Option WordForm
own_form None = None
own_form (Some row) = row.own

-- the own word of `load_upf` is a file's name
load_form : own_form (row_of (codes "load_upf")) ≡ Some WordForm.file
unfolding own_form row_of commands
load_form = refl

good_form : (row : CommandRow) (before : List Item) (text : List ℕ) → IsGood row before (own text) → row.own ≡ Some WordForm.file → IsUtf8 text
good_form row before text (IsGood.good_own t form may is fits) e =
    let same : form ≡ WordForm.file = of_some form WordForm.file (sym is ∙ e) in
    subst (λ f. IsWordOf f text) same fits
  where
    of_some : (x y : WordForm) → Some x ≡ Some y → x ≡ y
    of_some x y e = cc

-- the file that a line loads
file_name : (line : Line) (s : Statement) → IsStatement line s → is_command (codes "load_upf") s ≡ true → IsUtf8 (subject_of s)
unfolding own_form
file_name line s is load = by is.command is.is_command is.is_statement.name_is is.is_statement.args_are
  where
    loads : s.name ≡ codes "load_upf"
    loads = sym (same_name-equal (codes "load_upf") s.name load)

    found : (row : CommandRow) (items : List Item) → IsWhole row items → row.own ≡ Some WordForm.file → (args : List (List ℕ)) → filter_map own_word items ≡ args
        → IsUtf8 (unwrap_or (first_of args) [])
    found row items w form [] e = ([], (refl, refl))
    found row items w form (text ∷ more) e =
        let at = first_own items text more e in
        good_form row at.0 text (w.good at.0 (own text) at.1 at.2) form

    by : (c : Command) → IsCommand line c → s.name ≡ c.name → s.args ≡ c.args → IsUtf8 (unwrap_or (first_of s.args) [])
    by _ (IsCommand.runs row items h w) name args =
        let rows : row_of (codes "load_upf") ≡ Some row = ap row_of (sym loads ∙ name) ∙ h.row_is in
        let form : row.own ≡ Some WordForm.file = sym (ap own_form rows) ∙ load_form in
        found row items w form s.args (sym args)
    by _ (IsCommand.passes row words split is passed) name args =
        let P : List (List ℕ) → Type 0 = λ words. IsUtf8 (unwrap_or (first_of words) []) in
        subst P (sym args) ([], (refl, refl))

-- all of a list that is joined from lists
pub all_joined : {X : Type 0} (P : X → Type 0) (xs ys : List X) → AllByRecursion P xs → AllByRecursion P ys → AllByRecursion P (xs ++ ys)
all_joined P [] ys p q = q
all_joined P (x ∷ xs) ys p q = (p.0, all_joined P xs ys p.1 q)

-- a body has no name to be fetched
one_body : (source : Source) (homes : List ℕ → List ℕ) (pairs : List (List ℕ × List ℕ)) (line : ℕ) → HasText source → (words : List (List ℕ))
    → AllByRecursion (λ (o : Opening). HasText o.source) (map (λ word. record { source = source; home = homes word; pairs = pairs; line = line }) words)
one_body source homes pairs line text [] = tt
one_body source homes pairs line text (word ∷ words) = (text, one_body source homes pairs line text words)

all_bodies : (homes : List ℕ → List ℕ) (pairs : List (List ℕ × List ℕ)) (line : ℕ) (words : List (List ℕ)) (sources : List Source) → AllByRecursion HasText sources
    → AllByRecursion (λ (o : Opening). HasText o.source)
    (flat_map (λ source. map (λ word. record { source = source; home = homes word; pairs = pairs; line = line }) words) sources)
all_bodies homes pairs line words [] text = tt
all_bodies homes pairs line words (source ∷ sources) text = all_joined (λ (o : Opening). HasText o.source) _ _ (one_body source homes pairs line text.0 words) (all_bodies homes pairs line words sources text.1)

-- the source of the lines of a body
abbrev source_of : List ℕ → Body → List Source
source_of file b = elim b as (λ x. List Source) [ Body.power_model modules lines ↦ Source.body file lines ∷ [] | _ ↦ [] ]

body_has_text : (file : List ℕ) (b : Body) → AllByRecursion HasText (source_of file b)
body_has_text file (Body.power_model modules lines) = (tt, tt)
body_has_text file _ = tt

bodies_have_text : (o : Option Object) → AllByRecursion HasText (body_source o)
bodies_have_text None = tt
bodies_have_text (Some o) = body_has_text o.origin.file o.body

-- each frame that a line opens has a name that can be fetched
pub opened_have_text : (w : World) (f : Frame) (line : Line) (s : Statement) → IsStatement line s
    → AllByRecursion (λ (o : Opening). HasText o.source) (openings_of w f s)
opened_have_text w f line s is =
    by (is_command (codes "load_upf") s) (is_command (codes "apply_power_model") s) (file_name line s is)
  where
    by : (load apply : Bool) → (load ≡ true → IsUtf8 (subject_of s))
        → AllByRecursion (λ (o : Opening). HasText o.source) (cond load (file_opening f s ∷ []) (cond apply (body_openings w f s) []))
    by true apply text = (text refl, tt)
    by false true text = all_bodies (path_from f.scope) (pairs_of (codes "-supply_map") s.clauses) s.line (names_of (codes "-elements") s.clauses)
        (body_source (object_at w (target_of f s))) (bodies_have_text (object_at w (target_of f s)))
    by false false text = tt
