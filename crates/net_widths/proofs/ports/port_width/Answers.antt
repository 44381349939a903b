use Rattle.std.proofs.Common.{◌≡◌, Some, sym, ◌∙◌, subst}
use Rattle.std.proofs.lemmas.Option.{same_Some}
use Rattle.net_places.specs.Nets.{own_net}
use Rattle.net_widths.proofs.PortLemmas.{net_port_width}
use Rattle.net_widths.proofs.ports.port_width.Goals as goal
use Rattle.design_defs.proofs.BodiesThere.{type_there}

pub returns : goal.returns
returns c = λ s kind spelling seen type named.
    let row = c.in_ok-row.row in
    let spelled : c.spelling.result.now ≡ spelling = same_Some c.spelling.result.now spelling (sym c.spelling.ensures ∙ named) in
    let found = c.in_ok-row.ensures s seen.is_of seen.plans_are (type_there s kind c.args.body type) in
    let owned = subst (λ x. own_net s c.args.body x ≡ Some (record { name = x; range = row.range; port = row.port })) spelled found.owned in
    c.row_width.ensures ∙ sym (net_port_width s kind spelling c.args.body type row.port row.range owned)
