use Rattle.std.proofs.Common.{◌≡◌, ℕ, ◌++◌, ap, ◌∙◌, sym}
use Rattle.std.proofs.lemmas.Option.{same_Some}
use Rattle.std.specs.Option.{option_and_then}
use Rattle.design_defs.specs.Bits.{range_in}
use Rattle.design_defs.specs.Hierarchy.{path}
use Rattle.design_defs.specs.Names.{joined}
use Rattle.design_defs.specs.Ranges.{bit_name}
use Rattle.net_bits.proofs.names.put_bit_name.Goals as goal

pub returns : goal.returns
returns c s there spots all x at_x name named =
    let at = c.in-Some.at in
    let is = c.in-Some.ensures s there spots all x at_x in
    let out = c.args.out.now in
    let path_put = c.in_ok-put_path.ensures s there.bits there.instances x.way is.way in
    let local = c.in_ok-put_local_name.ensures s there.of_sources x.net is.net in
    let slash = c.in_ok-put_slash.ensures out (path x.way) (bit_name x.net at.range at.place) path_put (sym c.len-from.ensures) in
    let ranges : named.0 ≡ at.range = same_Some named.0 at.range (sym named.1 ∙ ap (option_and_then (λ b. range_in s b x.net)) is.body ∙ is.range) in
    let same : joined (path x.way) (bit_name x.net at.range at.place) ≡ name =
    sym (named.2 ∙ ap (λ r. joined (path x.way) (bit_name x.net r x.place)) ranges ∙ ap (λ (k : ℕ). joined (path x.way) (bit_name x.net at.range k)) is.place) in
    local ∙ slash ∙ ap (λ n. out ++ n) same
