use Rattle.std.proofs.Common.{◌≡◌, Some, sym, ap, ◌∙◌}
use Rattle.std.specs.Option.{option_copied}
use Rattle.list_defs.specs.Members.{place_of, same_name}
use Rattle.cell_joins.specs.Unions.{names_of}
use Rattle.cell_joins.proofs.UnionLaws.{new_by_name, some_there, stands_as}
use Rattle.cell_joins.proofs.unions.Union.standing.Goals as goal

pub returns-in-None : goal.returns-in-None
returns-in-None c =
    let u = c.args.self.now in
    new_by_name u c.args.cell.now c.requires
    (ap (λ name. place_of (same_name name) u.names) (sym c.as_slice.ensures.bytes) ∙ sym c.find.ensures ∙ c.in-None.is)

pub returns-in-Some-get : goal.returns-in-Some-get
returns-in-Some-get c =
    let u = c.args.self.now in
    let found : place_of (same_name c.args.cell.now.name) (names_of u.cells) ≡ Some c.in-Some.at =
    ap (place_of (same_name c.args.cell.now.name)) (sym c.requires)
    ∙ ap (λ name. place_of (same_name name) u.names) (sym c.as_slice.ensures.bytes) ∙ sym c.find.ensures ∙ c.in-Some.is in
    stands_as u.cells c.args.cell.now c.in-Some.at found c.in-Some-get.known.now c.standing_to.result
    (sym c.get.ensures ∙ ap option_copied c.in-Some-get.is) c.standing_to.ensures

pub returns-in-None-get : goal.returns-in-None-get
returns-in-None-get c =
    let u = c.args.self.now in
    let found : place_of (same_name c.args.cell.now.name) (names_of u.cells) ≡ Some c.in-Some.at =
    ap (place_of (same_name c.args.cell.now.name)) (sym c.requires)
    ∙ ap (λ name. place_of (same_name name) u.names) (sym c.as_slice.ensures.bytes) ∙ sym c.find.ensures ∙ c.in-Some.is in
    absurd (some_there u.cells c.args.cell.now c.in-Some.at found (sym c.get.ensures ∙ ap option_copied c.in-None-get.is))
