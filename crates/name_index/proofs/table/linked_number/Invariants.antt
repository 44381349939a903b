use Rattle.std.proofs.Common.{◌≡◌, ℕ, ◌≤◌, Some, length, slice_get}
use Rattle.name_index.specs.Tables.{Leads, head_of, tag_of}
use Rattle.name_index.proofs.table.linked_number.Given as goal

-- the number is behind the link that is reached if it is behind the head
abbrev pub invariant-loop-link : goal.invariant-loop-link
invariant-loop-link l = record {
  within : l.link.behind ≤ length l.links;
  rest : (n : ℕ) → Leads (tag_of l.name) l.links (head_of l.table l.name) n → slice_get l.names n ≡ Some l.name → Leads (tag_of l.name) l.links l.link n;
}

abbrev pub decreases-loop-link : goal.decreases-loop-link
decreases-loop-link l = l.link.behind
