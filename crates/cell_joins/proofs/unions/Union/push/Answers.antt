use Rattle.std.proofs.Common.{◌++◌, [], ◌∷◌, sym, ap, ◌∙◌, subst}
use Rattle.list_defs.specs.Members.{IsIn}
use Rattle.cell_joins.specs.Unions.{names_of}
use Rattle.cell_joins.proofs.UnionLaws.{name_added, names_more}
use Rattle.cell_joins.proofs.unions.Union.push.Goals as goal

pub returns-clause-names : goal.returns-clause-names
returns-clause-names c =
    let u = c.args.self.now in
    let name = c.as_slice.result.now in
    let absent : ¬ IsIn name u.names =
    subst (λ n. ¬ IsIn n u.names) (sym c.as_slice.ensures.bytes) (subst (λ l. ¬ IsIn c.args.cell.now.name l) (sym c.requires.names) c.requires.new) in
    name_added u.names c.add.new.self name c.in_ok-add.field-0 absent c.in_ok-add.ensures.new c.in_ok-add.ensures.names
    ∙ ap (λ n. u.names ++ n ∷ []) c.as_slice.ensures.bytes
    ∙ names_more u.names u.cells c.args.cell.now c.requires.names
    ∙ ap (λ x. names_of (u.cells ++ x ∷ [])) (sym c.in_ok-copy.ensures)
    ∙ ap names_of (sym c.in_ok-push.ensures.ok)
