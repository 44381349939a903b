use Rattle.std.proofs.Common.{◌≡◌, ◌-◌, ◌%◌, ◌<◌, List, true, Some, slice_get, length, get_or, ap, sym, ◌∙◌, subst, arith}
use Rattle.std.proofs.lemmas.Option.{slice_get-get_or}
use Rattle.name_index.specs.declared.table.Link.{Link}
use Rattle.name_index.specs.Tables.{Leads, head_of, nowhere, place_in, tag_of}
use Rattle.name_index.proofs.Links.{leads_nowhere, leads_on}
use Rattle.name_index.proofs.table.linked_number.Goals as goal
use Rattle.name_index.proofs.table.linked_number.Goals.{else-link-tag-via-then-link-tag+else-is_name, else-link-tag-via-else-link-tag}

pub loop-link-init : goal.loop-link-init
loop-link-init c =
    let own = c.head-link.ensures in
    record {
      within = omega (arith, ap (λ (l : Link). l.behind) own, c.requires.table.smooth.heads (place_in c.args.hash (length c.args.table.now.heads.items)), ap length c.as_slice-links.ensures.value);
      rest = λ n leads named.
          let P : Link → Type 0 = λ h. Leads (tag_of c.args.name.now) c.as_slice-links.result.now h n in
          let same = ap (λ h. get_or c.args.table.now.heads.items (place_in h (length c.args.table.now.heads.items)) nowhere) c.requires.hash in
          subst P (sym (own ∙ same)) leads;
    }

pub bounds-links-number : goal.bounds-links-number
bounds-links-number c = omega (arith, c.loop-link.invariant.within)

pub loop-link-preserved : goal.loop-link-preserved
loop-link-preserved c =
    let links = c.as_slice-links.result.now in
    let at = c.loop-link.link.behind - 1 in
    let within : at < length links = omega (arith, c.loop-link.invariant.within) in
    let same = ap (λ (ls : List Link). (get_or ls at nowhere).behind) c.as_slice-links.ensures.value in
    record {
      within = omega (arith, same, c.requires.table.smooth.links at, within);
      rest = λ n leads named.
          leads_on (tag_of c.args.name.now) links c.loop-link.link (get_or links at nowhere) n c.loop-link-test.true (slice_get-get_or links at nowhere within)
          (λ tag here. let is : slice_get c.args.names.now at ≡ Some c.args.name.now = cc in elim c.else-link-tag.branch [
            | else-link-tag-via-then-link-tag+else-is_name w ↦ (let yes : w.is_name.result ≡ true = w.is_name.ensures.1 is in cc)
            | else-link-tag-via-else-link-tag w ↦ omega (arith, tag, c.tag-tag.ensures, ap (λ h. h % 4294967296) c.requires.hash, w.if-link-tag.false)
          ])
          (c.loop-link.invariant.rest n leads named);
    }

pub returns-clause-none : goal.returns-clause-none
returns-clause-none c = λ n leads named.
    let P : List Link → Type 0 = λ ls. Leads (tag_of c.args.name.now) ls (head_of c.args.table.now c.args.name.now) n in
    leads_nowhere (tag_of c.args.name.now) c.as_slice-links.result.now c.loop-link.link n (omega arith) (c.loop-link.invariant.rest n (subst P (sym c.as_slice-links.ensures.value) leads) named)
