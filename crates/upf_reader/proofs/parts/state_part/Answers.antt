use Rattle.std.proofs.Common.{◌≡◌, ◌-◌, ◌∷◌, ◌++◌, inr, List, ℕ, Option, length, take, drop, ap, subst, sym, ◌∙◌, option_map, Bor}
use Rattle.upf_commands.specs.CommandWords.{given}
use Rattle.upf_reader.specs.Parts.{part_view, GoesOn}
use Rattle.upf_reader.specs.Rows.{command_view, option_view}
use Rattle.upf_reader.proofs.ListLemmas.{front_item}
use Rattle.upf_reader.proofs.PartLemmas.{moved, lacks_so, stated_so, apart_so}
use Rattle.upf_reader.proofs.parts.state_part.Goals as goal

pub returns-in_default : goal.returns-in_default
returns-in_default c =
    lacks_so (command_view c.args.row.now) (option_view c.args.option.now) c.args.rest.now c.in_default.len_below (inr c.requires)

pub returns-in_ok-given_apart-in-Some : goal.returns-in_ok-given_apart-in-Some
returns-in_ok-given_apart-in-Some c =
    let rest = c.args.rest.now in
    let row = command_view c.args.row.now in
    let o = option_view c.args.option.now in
    let first = c.as_slice-first.result.now in
    let behind = take (length rest - 1) (drop 1 rest) in
    let split : rest ≡ first ∷ behind =
    front_item rest c.next-item.result c.in-len1-up.len_at_least ∙ ap (λ w. w ∷ behind) (sym c.next-item.is ∙ sym c.as_slice-first.ensures.bytes) in
    let goes = subst (λ (r : Option (Bor (List ℕ) × Bor (List (List ℕ)))). GoesOn row first behind (option_map (λ p. (p.0.now, p.1.now)) r)) c.in-Some.is c.in_ok-second.ensures in
    moved row o rest (first ∷ behind) (part_view c.in_ok-given_apart-in-Some.field-0) (given o (first ++ 32 ∷ c.in-Some.second.now)) c.in-Some.left.now split
    c.in_ok-given_apart-in-Some.ensures (apart_so row o first c.in-Some.second.now behind c.in-Some.left.now c.requires goes.0 goes.1 goes.2)

pub returns-in_ok-given-in-None : goal.returns-in_ok-given-in-None
returns-in_ok-given-in-None c =
    let rest = c.args.rest.now in
    let row = command_view c.args.row.now in
    let o = option_view c.args.option.now in
    let first = c.as_slice-first.result.now in
    let behind = take (length rest - 1) (drop 1 rest) in
    let split : rest ≡ first ∷ behind =
    front_item rest c.next-item.result c.in-len1-up.len_at_least ∙ ap (λ w. w ∷ behind) (sym c.next-item.is ∙ sym c.as_slice-first.ensures.bytes) in
    let stays = subst (λ (r : Option (Bor (List ℕ) × Bor (List (List ℕ)))). GoesOn row first behind (option_map (λ p. (p.0.now, p.1.now)) r)) c.in-None.is c.in_ok-second.ensures in
    moved row o rest (first ∷ behind) (part_view c.in_ok-given-in-None.field-0) (given o first) behind split
    c.in_ok-given-in-None.ensures (stated_so row o first behind c.requires stays)
