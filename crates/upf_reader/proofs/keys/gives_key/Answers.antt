use Rattle.std.proofs.Common.{◌↔◌, IsTrue, List, ℕ, ap, subst}
use Rattle.std.proofs.lemmas.Result.{IfOk-weaker}
use Rattle.upf_commands.specs.Commands.{HasKey}
use Rattle.upf_reader.specs.Faults.{GivesKey}
use Rattle.upf_reader.specs.Parts.{part_view}
use Rattle.upf_reader.specs.Rows.{option_view}
use Rattle.upf_reader.proofs.KeyLemmas.{gives_so, equal_names}
use Rattle.upf_reader.proofs.keys.gives_key.Goals as goal

pub returns-then-eq : goal.returns-then-eq
returns-then-eq c =
    let o = option_view c.args.option.now in
    let p = option_view c.in-Given.other.now in
    IfOk-weaker c.has_key.result (λ b. IsTrue b ↔ HasKey c.as_slice.result.now c.args.key.now) (λ b. IsTrue b ↔ GivesKey o c.args.key.now (part_view c.args.part.now))
    (λ b h.
    gives_so o p c.args.key.now c.in-Given.value (part_view c.args.part.now) b (ap part_view c.in-Given.is) (equal_names p.kept o.kept c.eq.result c.eq.ensures c.if-eq.true)
    (subst (λ (v : List ℕ). IsTrue b ↔ HasKey v c.args.key.now) c.as_slice.ensures.bytes h)) c.has_key.ensures
