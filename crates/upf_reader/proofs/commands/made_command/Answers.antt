use Rattle.upf_commands.specs.Commands.{own_word, given_option}
use Rattle.upf_reader.proofs.CommandLemmas.{gathered}
use Rattle.upf_reader.proofs.commands.made_command.Goals as goal

pub loop-part-preserved : goal.loop-part-preserved
loop-part-preserved c = (
  gathered own_word c.loop-part.yielded c.in-Some.part c.loop-part.args c.put_part.new.args c.loop-part.invariant.0 c.in_ok-put_part.ensures.args,
  gathered (given_option c.args.line.now) c.loop-part.yielded c.in-Some.part c.loop-part.given c.put_part.new.options c.loop-part.invariant.1
      c.in_ok-put_part.ensures.options,
)
