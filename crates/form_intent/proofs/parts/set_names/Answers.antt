-- The names of the lines, and the count of the nets.
use Rattle.std.proofs.Common.{◌≡◌, ◌∙◌, true, nat_le, ◌&&◌, length, sym, ap, arith}
use Rattle.std.proofs.lemmas.Bool.{le-leb, lt-leb}
use Rattle.list_defs.specs.Members.{all_differ, same_name}
use Rattle.form_intent.specs.Script.{nets_made}
use Rattle.form_intent.specs.Fits.{names_fit}
use Rattle.form_intent.proofs.ListLemmas.{and_false}
use Rattle.form_intent.proofs.parts.set_names.Goals as goal

pub returns-then-len-gt-MAX_NETS : goal.returns-then-len-gt-MAX_NETS
returns-then-len-gt-MAX_NETS c =
    let made = rw c.in-Some.is at c.in_ok-made.ensures in
    and_false (names_fit c.args.instances.now c.args.commands.now) _ (lt-leb (length (nets_made c.args.commands.now)) 1024 (omega (arith, c.len.ensures.len, ap length made.1.nets, c.if-len-gt-MAX_NETS.true)))

pub returns-in-None : goal.returns-in-None
returns-in-None c =
    ap (λ b. b && nat_le (length (nets_made c.args.commands.now)) 1024) (rw c.in-None.is at c.in_ok-made.ensures)

pub returns-else-len-gt-MAX_NETS : goal.returns-else-len-gt-MAX_NETS
returns-else-len-gt-MAX_NETS c =
    let made = rw c.in-Some.is at c.in_ok-made.ensures in
    let few : nat_le (length (nets_made c.args.commands.now)) 1024 ≡ true =
    le-leb (length (nets_made c.args.commands.now)) 1024 (omega (arith, c.len.ensures.len, ap length made.1.nets, c.if-len-gt-MAX_NETS.false)) in
    (made.0, few, made.1.sets, ap (all_differ same_name) (sym made.1.nets) ∙ c.len.ensures.differ)
