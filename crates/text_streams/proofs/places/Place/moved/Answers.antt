use Rattle.std.proofs.Common.{ap, ◌∙◌, List, ℕ, take}
use Rattle.text_streams.proofs.PlaceLaws.{at_behind, long_behind, on_line}
use Rattle.text_streams.proofs.places.Place.moved.Goals as goal

pub front-bytes-requires : goal.front-bytes-requires
front-bytes-requires c = long_behind _ _ _ _ c.requires.size c.behind.ensures

pub returns-clause-at : goal.returns-clause-at
returns-clause-at c = record {
  within = c.requires.size;
  line =
      at_behind c.args.self.text.now c.front-bytes.result.now c.args.self.at c.args.size c.line_after.result c.requires.size
      (c.front-bytes.ensures ∙ ap (λ (l : List ℕ). take c.args.size l) c.behind.ensures)
      (c.line_after.ensures ∙ on_line _ _ c.front-bytes.result.now c.requires.at.line);
}
