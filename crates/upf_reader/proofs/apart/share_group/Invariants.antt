use Rattle.std.proofs.Common.{◌≡◌, ◌&&◌, drop, map, bytes_eq}
use Rattle.std.specs.List.{list_any}
use Rattle.upf_reader.specs.Rows.{texts_view}
use Rattle.upf_reader.proofs.apart.share_group.Given as goal

abbrev pub invariant-loop-group : goal.invariant-loop-group
invariant-loop-group l =
    list_any (λ group. list_any (bytes_eq l.name) group && list_any (bytes_eq l.other) group) (map (λ g. texts_view g.now) (drop l.group-index l.group-items))
    ≡ list_any (λ group. list_any (bytes_eq l.name) group && list_any (bytes_eq l.other) group) (map (λ g. texts_view g.now) l.row.apart.now)
