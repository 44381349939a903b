use Rattle.net_names.proofs.Answered.{first_answered, none_answered}
use Rattle.net_names.proofs.paths.path_fault.Goals as goal

pub returns-in-Some : goal.returns-in-Some
returns-in-Some c s bits modules cells models read named are =
    first_answered s c.args.modules.now bits c.args.instances.now are c.in_ok-meeting.meeting (c.in_ok-meeting.ensures s bits modules cells models read named are) c.in-Some.at
    c.in_ok-found-in-Some.found c.in-Some.is c.in_ok-found-in-Some.ensures

pub returns : goal.returns
returns c s bits modules cells models read named are =
    none_answered s c.args.modules.now bits c.args.instances.now are c.in_ok-meeting.meeting (c.in_ok-meeting.ensures s bits modules cells models read named are) c.in-None.is
