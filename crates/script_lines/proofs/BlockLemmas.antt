-- Lines put together, at the front of what is left.
use Rattle.std.proofs.Common.{◌≡◌, ℕ, ◌+◌, ◌-◌, ◌<◌, ◌≤◌, true, false, List, [], ◌∷◌, ◌++◌, Some, None, cond, get_or, length, sym, ap, ◌∙◌, arith}
use Rattle.std.specs.Prelude.{slice_range, take, drop}
use Rattle.std.proofs.lemmas.List.{drop_more, drop_all, take_more, length-drop, get_or-drop}
use Rattle.pw_defs.specs.declared.script.Line.{Line}
use Rattle.script_defs.specs.Blocks.{blocks_of, blocks_behind, begins_model, ends_model}
use Rattle.script_lines.specs.Taken.{IsTaken, IsBodyOf}

-- a range that ends one place later
pub range_more : {X : Type 0} (xs : List X) (i j : ℕ) (d : X) → i ≤ j → j < length xs → slice_range xs i (j + 1) ≡ slice_range xs i j ++ get_or xs j d ∷ []
range_more xs i j d order within =
    let count : j + 1 - i ≡ j - i + 1 = omega arith in
    let place : i + (j - i) ≡ j = omega arith in
    ap (λ n. take n (drop i xs)) count ∙ take_more (drop i xs) (j - i) d (omega (arith, length-drop i xs))
    ∙ ap (λ x. slice_range xs i j ++ x ∷ []) (get_or-drop i xs (j - i) d ∙ ap (λ n. get_or xs n d) place)

-- a line that doesn't end a model is one more of its body
pub body_goes_on : (head line : Line) (body rest : List Line) → ends_model line ≡ false
    → blocks_behind (Some (head, body)) (line ∷ rest) ≡ blocks_behind (Some (head, body ++ line ∷ [])) rest
body_goes_on head line body rest isnt = ap (λ b. cond b (record { head = head; body = body; ended = true } ∷ blocks_behind None rest) (blocks_behind (Some (head, body ++ line ∷ [])) rest)) isnt

-- a line that ends a model ends its body
pub body_ends : (head line : Line) (body rest : List Line) → ends_model line ≡ true
    → blocks_behind (Some (head, body)) (line ∷ rest) ≡ record { head = head; body = body; ended = true } ∷ blocks_of rest
body_ends head line body rest is = ap (λ b. cond b (record { head = head; body = body; ended = true } ∷ blocks_behind None rest) (blocks_behind (Some (head, body ++ line ∷ [])) rest)) is

-- a line that begins a model, and one that doesn't
pub model_begins : (line : Line) (rest : List Line) → begins_model line ≡ true → blocks_of (line ∷ rest) ≡ blocks_behind (Some (line, [])) rest
model_begins line rest is = ap (λ b. cond b (blocks_behind (Some (line, [])) rest) (record { head = line; body = []; ended = true } ∷ blocks_of rest)) is

pub plain_begins : (line : Line) (rest : List Line) → begins_model line ≡ false
    → blocks_of (line ∷ rest) ≡ record { head = line; body = []; ended = true } ∷ blocks_of rest
plain_begins line rest isnt = ap (λ b. cond b (blocks_behind (Some (line, [])) rest) (record { head = line; body = []; ended = true } ∷ blocks_of rest)) isnt

-- what is known of the lines of a body so far
pub record IsBodySoFar (lines : List Line) (from to : ℕ) : Type 0 where
  pub order : from ≤ to
  pub within : to ≤ length lines
  pub goes_on : (head : Line) → blocks_behind (Some (head, [])) (drop from lines) ≡ blocks_behind (Some (head, slice_range lines from to)) (drop to lines)

pub no_body_yet : (lines : List Line) (from : ℕ) → from ≤ length lines → IsBodySoFar lines from from
no_body_yet lines from within = record {
  order = omega arith;
  within = within;
  goes_on = λ head. let none : from - from ≡ 0 = omega arith in ap (λ n. blocks_behind (Some (head, take n (drop from lines))) (drop from lines)) (sym none);
}

pub body_more : (lines : List Line) (from to : ℕ) (line : Line) → to < length lines → get_or lines to line ≡ line → ends_model line ≡ false → IsBodySoFar lines from to
    → IsBodySoFar lines from (to + 1)
body_more lines from to line here is isnt so_far = record {
  order = let order = so_far.order in omega arith;
  within = omega arith;
  goes_on = λ head.
      let body : List Line = slice_range lines from to in
      let rest : drop to lines ≡ line ∷ drop (to + 1) lines = drop_more lines to line here ∙ ap (λ x. x ∷ drop (to + 1) lines) is in
      let longer : body ++ line ∷ [] ≡ slice_range lines from (to + 1) = ap (λ x. body ++ x ∷ []) (sym is) ∙ sym (range_more lines from to line so_far.order here) in
      so_far.goes_on head ∙ ap (blocks_behind (Some (head, body))) rest ∙ body_goes_on head line body (drop (to + 1) lines) isnt
      ∙ ap (λ b. blocks_behind (Some (head, b)) (drop (to + 1) lines)) longer;
}

pub body_over : (lines : List Line) (from to : ℕ) → IsBodySoFar lines from to → ((line : Line) (rest : List Line) → drop to lines ≡ line ∷ rest → ends_model line ≡ true)
    → IsBodyOf lines from to
body_over lines from to so_far ends = record { order = so_far.order; within = so_far.within; goes_on = so_far.goes_on; ends = ends }

-- a plain line is taken
pub plain_taken : (lines : List Line) (at : ℕ) (head : Line) → at < length lines → get_or lines at head ≡ head → begins_model head ≡ false
    → IsTaken lines at (record { head = head; body = slice_range lines (at + 1) (at + 1); ended = true }) (at + 1)
plain_taken lines at head here is isnt = record {
  first =
      let none : at + 1 - (at + 1) ≡ 0 = omega arith in
      ap blocks_of (drop_more lines at head here ∙ ap (λ x. x ∷ drop (at + 1) lines) is) ∙ plain_begins head (drop (at + 1) lines) isnt
      ∙ ap (λ n. record { head = head; body = take n (drop (at + 1) lines); ended = true } ∷ blocks_of (drop (at + 1) lines)) (sym none);
  onward = omega arith;
  within = omega arith;
}

-- a model is taken with its body and its end
pub model_taken : (lines : List Line) (at to : ℕ) (head : Line) → at < length lines → get_or lines at head ≡ head → begins_model head ≡ true
    → IsBodyOf lines (at + 1) to → to < length lines
    → IsTaken lines at (record { head = head; body = slice_range lines (at + 1) to; ended = true }) (to + 1)
model_taken lines at to head here is begins body there = record {
  first =
      let line : Line = get_or lines to head in
      let rest : drop to lines ≡ line ∷ drop (to + 1) lines = drop_more lines to head there in
      ap blocks_of (drop_more lines at head here ∙ ap (λ x. x ∷ drop (at + 1) lines) is) ∙ model_begins head (drop (at + 1) lines) begins ∙ body.goes_on head
      ∙ ap (blocks_behind (Some (head, slice_range lines (at + 1) to))) rest
      ∙ body_ends head line (slice_range lines (at + 1) to) (drop (to + 1) lines) (body.ends line (drop (to + 1) lines) rest);
  onward = let order = body.order in omega arith;
  within = omega arith;
}

-- a model that the lines don't end is taken with all that is left
pub open_model_taken : (lines : List Line) (at to : ℕ) (head : Line) → at < length lines → get_or lines at head ≡ head → begins_model head ≡ true
    → IsBodyOf lines (at + 1) to → length lines ≤ to
    → IsTaken lines at (record { head = head; body = slice_range lines (at + 1) to; ended = false }) to
open_model_taken lines at to head here is begins body over = record {
  first =
      let none : drop to lines ≡ [] = drop_all to lines over in
      ap blocks_of (drop_more lines at head here ∙ ap (λ x. x ∷ drop (at + 1) lines) is) ∙ model_begins head (drop (at + 1) lines) begins ∙ body.goes_on head
      ∙ ap (blocks_behind (Some (head, slice_range lines (at + 1) to))) none
      ∙ ap (λ rest. record { head = head; body = slice_range lines (at + 1) to; ended = false } ∷ blocks_of rest) (sym none);
  onward = let order = body.order in omega arith;
  within = body.within;
}
