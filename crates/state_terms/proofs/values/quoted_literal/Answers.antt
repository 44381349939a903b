use Rattle.state_terms.specs.Parts.{IsLiteral, IsQuoted}
use Rattle.state_terms.proofs.Comparisons.{bare_reads, bare_lacks, quoted_reads, quoted_lacks}
use Rattle.state_terms.proofs.Passing.{passed_option}
use Rattle.state_terms.proofs.values.quoted_literal.Goals as goal

pub returns-in-Some : goal.returns-in-Some
returns-in-Some c =
    passed_option IsLiteral IsQuoted c.in-Some.rest.now c.args.text.now c.literal.result (quoted_lacks c.args.text.now c.in-Some.rest.now c.in-Some.ensures)
    (λ v left h. quoted_reads c.args.text.now c.in-Some.rest.now left v c.in-Some.ensures h) c.literal.ensures

pub returns-in-None : goal.returns-in-None
returns-in-None c =
    passed_option IsLiteral IsQuoted c.args.text.now c.args.text.now c.literal-in-None.result (bare_lacks c.args.text.now c.in-None.ensures)
    (λ v left h. bare_reads c.args.text.now left v c.in-None.ensures h) c.literal-in-None.ensures
