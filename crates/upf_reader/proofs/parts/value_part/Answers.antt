use Rattle.std.proofs.Common.{◌≡◌, ◌-◌, ◌∷◌, inl, length, take, drop, ap, sym, ◌∙◌}
use Rattle.upf_commands.specs.CommandWords.{given}
use Rattle.upf_reader.specs.Parts.{part_view}
use Rattle.upf_reader.specs.Rows.{option_view}
use Rattle.upf_reader.proofs.ListLemmas.{front_item}
use Rattle.upf_reader.proofs.PartLemmas.{moved, lacks_so, value_so}
use Rattle.upf_reader.proofs.parts.value_part.Goals as goal

pub returns-in-empty : goal.returns-in-empty
returns-in-empty c = λ row. lacks_so row (option_view c.args.option.now) c.args.rest.now c.in-empty.len_below (inl c.requires)

pub returns-in_ok-given-in-len1-up : goal.returns-in_ok-given-in-len1-up
returns-in_ok-given-in-len1-up c = λ row.
    let rest = c.args.rest.now in
    let o = option_view c.args.option.now in
    let left = take (length rest - 1) (drop 1 rest) in
    let split : rest ≡ c.as_slice.result.now ∷ left =
    front_item rest c.next-item.result c.in-len1-up.len_at_least ∙ ap (λ w. w ∷ left) (sym c.next-item.is ∙ sym c.as_slice.ensures.bytes) in
    moved row o rest (c.as_slice.result.now ∷ left) (part_view c.in_ok-given-in-len1-up.field-0) (given o c.as_slice.result.now) left split
    c.in_ok-given-in-len1-up.ensures (value_so row o c.as_slice.result.now left c.requires)
