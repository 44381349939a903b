-- The name has the next number, by the tree or by a link, and all other names are still found.
use Rattle.std.proofs.Common.{List, inl, inr, sym, subst}
use Rattle.name_index.specs.declared.table.Link.{Link}
use Rattle.name_index.specs.Tables.{Leads, head_of, nowhere, tag_of}
use Rattle.name_index.proofs.Links.{leads_still, new_found, old_found, kept_smooth}
use Rattle.name_index.proofs.table.commit.Goals as goal

pub returns-then-has_number-clause-others : goal.returns-then-has_number-clause-others
returns-then-has_number-clause-others c = λ other n apart found.
    elim found [
      | inl leads ↦
          (let P : List Link → Type 0 = λ ls. Leads (tag_of other) ls (head_of c.args.table.now other) n in
          inl (subst P (sym c.push_reserved.ensures.items) (leads_still (tag_of other) c.args.table.now.links.items nowhere (head_of c.args.table.now other) n leads)))
      | inr there ↦ inr there
    ]

pub returns-clause-smooth : goal.returns-clause-smooth
returns-clause-smooth c = kept_smooth c.args.table.now c.add_link.new.table c.args.name.now c.requires.places c.add_link.ensures c.requires.smooth

pub returns-clause-found : goal.returns-clause-found
returns-clause-found c = new_found c.args.table.now c.add_link.new.table c.args.name.now c.requires.places c.add_link.ensures

pub returns-clause-others : goal.returns-clause-others
returns-clause-others c = λ other n apart found. old_found c.args.table.now c.add_link.new.table c.args.name.now c.requires.places c.add_link.ensures other n found
