use Rattle.std.proofs.Common.{refl}
use Rattle.net_loops.proofs.loops.fault_at.Goals as goal

pub returns : goal.returns
returns c = record {
  row = c.in-Some.row.now;
  at_row = (let there = c.in-Some.ensures in cc);
  body = c.in-Module.is;
  on_line = refl;
  named = λ s there spots rising x at name is.
      let spelled = c.in_ok-put_bit_name.ensures s there spots rising x at name is in
      let empty = c.new-name.ensures in
      let bytes = c.as_slice.ensures.bytes in
      let made = c.in_ok-name.ensures in
      cc;
}
