use Rattle.std.proofs.Common.{◌∙◌, Some, ap, set, sym, arith}
use Rattle.std.proofs.lemmas.Option.{slice_get-get_or}
use Rattle.net_feeds.proofs.seconds.see_bit.Goals as goal

pub returns : goal.returns
returns c = record {
  low = c.index-low.result.now;
  known = slice_get-get_or c.args.seen.now.lows.items c.args.bit c.index-low.result.now (omega (arith, c.if-at-len.false, c.len.ensures)) ∙ ap Some (sym c.index-low.ensures);
  lows = ap (λ line. set c.args.seen.now.lows.items c.args.bit (Some line)) c.earlier_line.ensures;
  between = c.find_marked.new.found;
  marked = c.in_ok-find_marked.ensures;
  again = c.in_ok-find_again.ensures;
}
