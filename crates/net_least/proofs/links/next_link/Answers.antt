use Rattle.std.proofs.Common.{◌≡◌, Some, slice_get, sym, ap, ◌∙◌}
use Rattle.std.proofs.lemmas.Option.{slice_get-get_or, slice_get_past}
use Rattle.net_least.proofs.Spelled.{walk_on, walk_stuck}
use Rattle.net_least.proofs.links.next_link.Goals as goal

pub returns-in_ok-write_name-in-Some : goal.returns-in_ok-write_name-in-Some
returns-in_ok-write_name-in-Some c way walked =
    let l = c.in-Some.link.now in
    let at : slice_get c.args.links.now c.args.place ≡ Some l =
    slice_get-get_or c.args.links.now c.args.place l c.in-Some.ensures.lookup.3.0 ∙ ap Some (sym c.in-Some.ensures.lookup.1) in
    walk_on c.args.modules.now.symbols c.args.links.now way c.args.place l c.args.text.now _ at c.in_ok-write_name-in-Some.ensures walked

pub returns-in-None : goal.returns-in-None
returns-in-None c way walked =
    absurd (walk_stuck c.args.modules.now.symbols c.args.links.now way c.args.place c.args.text.now (slice_get_past c.args.links.now c.args.place c.in-None.ensures.lookup.3) walked)
