use Rattle.text_designs.proofs.MoreTexts.{reads_more}
use Rattle.text_designs.proofs.netlists.add_text.Goals as goal

pub returns-in-Ok-clause-read : goal.returns-in-Ok-clause-read
returns-in-Ok-clause-read c =
    reads_more c.args.text.now c.args.builder.now c.add_modules.new.builder c.args.counts.now c.push.new.self c.in_ok-count.count
    c.in_ok-count.ensures.modules c.in_ok-count.ensures.count c.in-Ok.ensures.ok
