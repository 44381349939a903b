-- How lines are put together, line by line.
use Rattle.std.proofs.Common.{◌≡◌, ℕ, suc, ◌+◌, ◌-◌, ◌<◌, true, false, cond, List, [], ◌∷◌, ◌++◌, Option, Some, None, length, get_or, take, drop, slice_get, slice_range, refl, sym, ap, ◌∙◌, subst, arith, append_assoc, add-one, drop-cons, length-drop}
use Rattle.std.proofs.Math.Seq.{drop-length}
use Rattle.std.proofs.lemmas.List.{take_more, get_or-drop}
use Rattle.std.proofs.lemmas.Option.{slice_get-get_or}
use Rattle.std.specs.List.{AllZip}
use Rattle.pw_defs.specs.declared.script.Line.{Line}
use Rattle.script_defs.specs.Blocks.{Block as PlainBlock, begins_model, ends_model, blocks_behind, blocks_of}
use Rattle.upf_statements.specs.Blocks.{IsBlockAt, IsOpen, IsOpenAt, AreBlocksSoFar}
use Rattle.upf_statements.specs.declared.blocks.Block.{Block}
use Rattle.upf_statements.proofs.ZipLemmas.{zip_push}

-- what stands at a place
line_there : (lines : List Line) (at : ℕ) (line : Line) → at < length lines → line ≡ get_or lines at line → slice_get lines at ≡ Some line
line_there lines at line within is = slice_get-get_or lines at line within ∙ ap (λ (l : Line). Some l) (sym is)

lines_left : (lines : List Line) (at : ℕ) (line : Line) → at < length lines → line ≡ get_or lines at line → drop at lines ≡ line ∷ drop (at + 1) lines
lines_left lines at line within is =
    drop-cons lines at line within ∙ ap (λ l. l ∷ drop (suc at) lines) (sym is) ∙ ap (λ n. line ∷ drop n lines) (sym (add-one at))

no_lines : (lines : List Line) (at : ℕ) → [] ≡ slice_range lines (at + 1) (at + 1)
no_lines lines at =
    let none : at + 1 - (at + 1) ≡ 0 = omega arith in
    ap (λ n. take n (drop (at + 1) lines)) (sym none)

one_line_more : (lines : List Line) (at head : ℕ) (line : Line) → at < length lines → line ≡ get_or lines at line → head < at
    → slice_range lines (head + 1) at ++ line ∷ [] ≡ slice_range lines (head + 1) (at + 1)
one_line_more lines at head line within is inside =
    let rest = drop (head + 1) lines in
    let count : at + 1 - (head + 1) ≡ at - (head + 1) + 1 = omega arith in
    let place : head + 1 + (at - (head + 1)) ≡ at = omega arith in
    let there : at - (head + 1) < length rest = omega (arith, length-drop (head + 1) lines) in
    let last : get_or rest (at - (head + 1)) line ≡ line =
    get_or-drop (head + 1) lines (at - (head + 1)) line ∙ ap (λ n. get_or lines n line) place ∙ sym is in
    ap (λ (l : Line). take (at - (head + 1)) rest ++ l ∷ []) (sym last) ∙ sym (take_more rest (at - (head + 1)) line there) ∙ ap (λ n. take n rest) (sym count)

-- one line more
plain_step : (line : Line) (rest : List Line) → begins_model line ≡ false
    → blocks_behind None (line ∷ rest) ≡ record { head = line; body = []; ended = true } ∷ blocks_behind None rest
plain_step line rest e =
    ap (λ t. cond t (blocks_behind (Some (line, [])) rest) (record { head = line; body = []; ended = true } ∷ blocks_behind None rest)) e

begin_step : (line : Line) (rest : List Line) → begins_model line ≡ true → blocks_behind None (line ∷ rest) ≡ blocks_behind (Some (line, [])) rest
begin_step line rest e =
    ap (λ t. cond t (blocks_behind (Some (line, [])) rest) (record { head = line; body = []; ended = true } ∷ blocks_behind None rest)) e

inner_step : (model : Line × List Line) (line : Line) (rest : List Line) → ends_model line ≡ false
    → blocks_behind (Some model) (line ∷ rest) ≡ blocks_behind (Some (model.0, model.1 ++ line ∷ [])) rest
inner_step model line rest e =
    ap
    (λ t. cond t (record { head = model.0; body = model.1; ended = true } ∷ blocks_behind None rest) (blocks_behind (Some (model.0, model.1 ++ line ∷ [])) rest))
    e

end_step : (model : Line × List Line) (line : Line) (rest : List Line) → ends_model line ≡ true
    → blocks_behind (Some model) (line ∷ rest) ≡ record { head = model.0; body = model.1; ended = true } ∷ blocks_behind None rest
end_step model line rest e =
    ap
    (λ t. cond t (record { head = model.0; body = model.1; ended = true } ∷ blocks_behind None rest) (blocks_behind (Some (model.0, model.1 ++ line ∷ [])) rest))
    e

-- no line was looked at
pub none_yet : (lines : List Line) → AreBlocksSoFar lines 0 None []
none_yet lines = record { made = []; model = None; places = tt; is_open = tt; whole = refl }

-- where no model is open
pub closed : (lines : List Line) (at : ℕ) (blocks : List Block) → AreBlocksSoFar lines at None blocks → (made : List PlainBlock) × AllZip (IsBlockAt lines) blocks made
    × (blocks_of lines ≡ made ++ blocks_behind None (drop at lines))
closed lines at blocks h = by h.model h.is_open h.whole
  where
    by : (model : Option (Line × List Line)) → IsOpen lines at None model → blocks_of lines ≡ h.made ++ blocks_behind model (drop at lines)
        → (made : List PlainBlock) × AllZip (IsBlockAt lines) blocks made × (blocks_of lines ≡ made ++ blocks_behind None (drop at lines))
    by None is whole = (h.made, h.places, whole)
    by (Some model) is whole = absurd is

-- where one is
pub opened : (lines : List Line) (at head : ℕ) (blocks : List Block) → AreBlocksSoFar lines at (Some head) blocks → (made : List PlainBlock)
    × (model : Line × List Line) × AllZip (IsBlockAt lines) blocks made × IsOpenAt lines at head model
    × (blocks_of lines ≡ made ++ blocks_behind (Some model) (drop at lines))
opened lines at head blocks h = by h.model h.is_open h.whole
  where
    by : (model : Option (Line × List Line)) → IsOpen lines at (Some head) model → blocks_of lines ≡ h.made ++ blocks_behind model (drop at lines)
        → (made : List PlainBlock) × (model : Line × List Line) × AllZip (IsBlockAt lines) blocks made × IsOpenAt lines at head model
        × (blocks_of lines ≡ made ++ blocks_behind (Some model) (drop at lines))
    by None is whole = absurd is
    by (Some model) is whole = (h.made, model, h.places, is, whole)

-- one block more
put : (lines : List Line) (at : ℕ) (blocks new : List Block) (b : Block) (made : List PlainBlock) (block : PlainBlock) → AllZip (IsBlockAt lines) blocks made
    → IsBlockAt lines b block → new ≡ blocks ++ b ∷ [] → blocks_of lines ≡ made ++ block ∷ blocks_behind None (drop at lines) → AreBlocksSoFar lines at None new
put lines at blocks new b made block places is grown whole =
    record {
      made = made ++ block ∷ [];
      model = None;
      places = subst (λ (bs : List Block). AllZip (IsBlockAt lines) bs (made ++ block ∷ [])) (sym grown) (zip_push (IsBlockAt lines) blocks made b block places is);
      is_open = tt;
      whole = whole ∙ sym (append_assoc made (block ∷ []) (blocks_behind None (drop at lines)));
    }

pub plain_line : (lines : List Line) (at : ℕ) (blocks new : List Block) (line : Line) → at < length lines → line ≡ get_or lines at line → begins_model line ≡ false
    → AreBlocksSoFar lines at None blocks → new ≡ blocks ++ record { at = at; end = at + 1; ended = true } ∷ [] → AreBlocksSoFar lines (at + 1) None new
plain_line lines at blocks new line within is begins h grown =
    let was = closed lines at blocks h in
    put lines (at + 1) blocks new (record { at = at; end = at + 1; ended = true }) was.0 (record { head = line; body = []; ended = true }) was.1
    (record { head = line_there lines at line within is; inside = omega arith; within = omega arith; body = no_lines lines at; ended = refl }) grown
    (was.2 ∙ ap (λ bs. was.0 ++ bs) (ap (blocks_behind None) (lines_left lines at line within is) ∙ plain_step line (drop (at + 1) lines) begins))

pub first_line : (lines : List Line) (at : ℕ) (blocks : List Block) (line : Line) → at < length lines → line ≡ get_or lines at line → begins_model line ≡ true
    → AreBlocksSoFar lines at None blocks → AreBlocksSoFar lines (at + 1) (Some at) blocks
first_line lines at blocks line within is begins h =
    let was = closed lines at blocks h in
    record {
      made = was.0;
      model = Some (line, []);
      places = was.1;
      is_open = record { inside = omega arith; head_is = line_there lines at line within is; body = no_lines lines at };
      whole = was.2 ∙ ap (λ bs. was.0 ++ bs) (ap (blocks_behind None) (lines_left lines at line within is) ∙ begin_step line (drop (at + 1) lines) begins);
    }

pub inner_line : (lines : List Line) (at head : ℕ) (blocks : List Block) (line : Line) → at < length lines → line ≡ get_or lines at line → ends_model line ≡ false
    → AreBlocksSoFar lines at (Some head) blocks → AreBlocksSoFar lines (at + 1) (Some head) blocks
inner_line lines at head blocks line within is ends h =
    let was = opened lines at head blocks h in
    let inside : head < at = was.3.inside in
    record {
      made = was.0;
      model = Some (was.1.0, was.1.1 ++ line ∷ []);
      places = was.2;
      is_open = record {
        inside = omega arith;
        head_is = was.3.head_is;
        body = ap (λ ls. ls ++ line ∷ []) was.3.body ∙ one_line_more lines at head line within is inside;
      };
      whole = was.4 ∙ ap (λ bs. was.0 ++ bs) (ap (blocks_behind (Some was.1)) (lines_left lines at line within is) ∙ inner_step was.1 line (drop (at + 1) lines) ends);
    }

pub last_line : (lines : List Line) (at head : ℕ) (blocks new : List Block) (line : Line) → at < length lines → line ≡ get_or lines at line
    → ends_model line ≡ true → AreBlocksSoFar lines at (Some head) blocks → new ≡ blocks ++ record { at = head; end = at; ended = true } ∷ []
    → AreBlocksSoFar lines (at + 1) None new
last_line lines at head blocks new line within is ends h grown =
    let was = opened lines at head blocks h in
    put lines (at + 1) blocks new (record { at = head; end = at; ended = true }) was.0 (record { head = was.1.0; body = was.1.1; ended = true }) was.2
    (record { head = was.3.head_is; inside = was.3.inside; within = omega arith; body = was.3.body; ended = refl }) grown
    (was.4 ∙ ap (λ bs. was.0 ++ bs) (ap (blocks_behind (Some was.1)) (lines_left lines at line within is) ∙ end_step was.1 line (drop (at + 1) lines) ends))

-- all lines were looked at, and a model is open
pub all_opened : (lines : List Line) (head : ℕ) (blocks new : List Block) → AreBlocksSoFar lines (length lines) (Some head) blocks
    → new ≡ blocks ++ record { at = head; end = length lines; ended = false } ∷ [] → AllZip (IsBlockAt lines) new (blocks_of lines)
all_opened lines head blocks new h grown =
    let was = opened lines (length lines) head blocks h in
    let b : Block = record { at = head; end = length lines; ended = false } in
    let block : PlainBlock = record { head = was.1.0; body = was.1.1; ended = false } in
    let whole : blocks_of lines ≡ was.0 ++ block ∷ [] = was.4 ∙ ap (λ ls. was.0 ++ blocks_behind (Some was.1) ls) (drop-length lines) in
    let is : IsBlockAt lines b block = record { head = was.3.head_is; inside = was.3.inside; within = omega arith; body = was.3.body; ended = refl } in
    let places = zip_push (IsBlockAt lines) blocks was.0 b block was.2 is in
    subst (λ (bs : List PlainBlock). AllZip (IsBlockAt lines) new bs) (sym whole)
    (subst (λ (bs : List Block). AllZip (IsBlockAt lines) bs (was.0 ++ block ∷ [])) (sym grown) places)
