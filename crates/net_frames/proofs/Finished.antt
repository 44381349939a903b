-- Rows whose bits are fed last.
use Rattle.std.proofs.Common.{◌≡◌, ℕ, ◌<◌, List, [], length, map, sym, ap, ◌∙◌, subst, arith}
use Rattle.std.specs.Global.{Vec}
use Rattle.pw_defs.specs.declared.cells.Cells.{Cells}
use Rattle.pw_defs.specs.declared.model.Model.{Model}
use Rattle.pw_defs.specs.declared.netlist.Module.{Module}
use Rattle.list_defs.specs.Orders.{AreAllRising}
use Rattle.design_defs.specs.Bits.{IsSpot, Spot, spot_cmp}
use Rattle.design_defs.specs.Designs.{IsMadeFrom, head_of}
use Rattle.design_defs.specs.Hierarchy.{Sources, AreNamedInsts}
use Rattle.design_rows.specs.declared.tables.Feed.{Feed}
use Rattle.design_rows.specs.declared.tables.Rows.{Rows}
use Rattle.design_rows.specs.Children.{HasNames}
use Rattle.design_rows.specs.Sound.{AreRows}
use Rattle.design_rows.specs.View.{design_of, feed_at}
use Rattle.module_rows.specs.declared.plain.Netlist.{Netlist}
use Rattle.net_instances.specs.declared.numbering.InstanceRow.{InstanceRow}
use Rattle.net_feeds.specs.Feeds.{AreFedSo}
use Rattle.net_instances.specs.declared.numbering.Instances.{Instances}
use Rattle.net_instances.specs.Instances.{AreInstances}
use Rattle.net_places.specs.declared.plans.Plans.{Plans}
use Rattle.net_places.specs.Plans.{ArePlans, IsOf}
use Rattle.net_sizes.specs.declared.sizes.Counts.{Counts}
use Rattle.net_frames.specs.Feeding.{AreFedBetween, IsBitFeed, IsFeed, feed_of}
use Rattle.design_rows.specs.Growth.{IsEmpty}
use Rattle.net_frames.specs.Framed.{AreFramed, HaveSameParts, IsRowOf}
use Rattle.net_frames.specs.Places.{with_parts}
use Rattle.net_frames.proofs.AddedKinds.{framed_empty}
use Rattle.net_frames.proofs.ListLemmas.{zip_kept}
use Rattle.net_frames.proofs.Made.{made_from, names_are}
use Rattle.net_frames.proofs.Standing.{IsWhole}

-- rows that grow have the parts that they began with
pub parts_kept : (cells : Cells) (modules : List Module) (models : List Model) (a b c : Rows) (names : List (List ℕ)) → IsEmpty cells modules models a
    → b ≡ with_parts a names [] [] → HaveSameParts b c → (c.cells ≡ cells) × (c.modules ≡ modules) × (c.models ≡ models)
parts_kept cells modules models a b c names empty added same = (
  same.cells ∙ ap (λ (r : Rows). r.cells) added ∙ empty.same_cells,
  same.modules ∙ ap (λ (r : Rows). r.modules) added ∙ empty.same_modules,
  same.models ∙ ap (λ (r : Rows). r.models) added ∙ empty.same_models,
)

module _ (r : Rows) (feeds : Vec Feed) where
  abbrev whole : Rows
  whole = record r { feeds = feeds }

  -- what feeds a bit doesn't depend on what other bits are fed with
  feed_moved : (inst at : ℕ) (linked made : Feed) → IsFeed r inst at linked made → IsFeed whole inst at linked made
  feed_moved inst at linked made (IsFeed.begins q is begins) = IsFeed.begins q is begins
  feed_moved inst at linked made (IsFeed.passes q other is passes pin) =
      IsFeed.passes q other is passes (record {
        pin = pin.pin;
        has = record { number = pin.has.number; cell = pin.has.cell; is_body = pin.has.is_body; is_cell = pin.has.is_cell; is_through = pin.has.is_through };
        within = pin.within;
        of_pin = pin.of_pin;
      })
  feed_moved inst at linked made (IsFeed.by_link plain) =
      IsFeed.by_link (λ q is. let port = plain q is in record { no_signal = port.no_signal; not_passing = port.not_passing })

  bit_moved : (k : ℕ) (linked made : Feed) → IsBitFeed r k linked made → IsBitFeed whole k linked made
  bit_moved k linked made is = record {
    inst = is.inst;
    at = is.at;
    there = is.there;
    within = is.within;
    number = is.number;
    fed = feed_moved is.inst is.at linked made is.fed;
  }

  pub fed_is : (linked : List Feed) → length feeds.items ≡ length r.feeds.items → AreFedBetween r 0 (length r.feeds.items) linked feeds.items
      → (k : ℕ) → k < length feeds.items → IsBitFeed whole k (feed_of linked k) (feed_at whole k)
  fed_is linked count fed k within = bit_moved k (feed_of linked k) (feed_of feeds.items k) (fed.inside k (omega arith) (omega (arith, count)))

  pub whole_is : (n : Netlist) (p : Plans) (instances : List InstanceRow) → AreRows whole → r.modules ≡ map head_of n.modules → AreFramed n p instances r
      → IsWhole n p instances whole
  whole_is n p instances rows heads framed = record {
    rows = rows;
    heads = heads;
    framed = record {
      kinds = record { symbols = framed.kinds.symbols; each = framed.kinds.each };
      rows = zip_kept (IsRowOf r) (IsRowOf whole) instances r.insts (λ instance row is. record { inside = is.inside; name = is.name; kind = is.kind }) framed.rows;
    };
  }

-- ALL STEPS: from rows of the parts alone by the names of symbols, by instances, and by feeds
module _ (n : Netlist) (p : Plans) (made : Instances) (cells : Cells) (heads : List Module) (models : List Model) (a b c d : Rows) (feeds : Vec Feed) (empty : IsEmpty cells heads models a)
    (named : b ≡ with_parts a n.symbols [] []) (same : HaveSameParts b c) (framed : AreFramed n p [] b → AreFramed n p made.rows c) (is_heads : heads ≡ map head_of n.modules)
    (rows : AreRows d) (is_whole : d ≡ record c { feeds = feeds }) where
  kept : (c.cells ≡ cells) × (c.modules ≡ heads) × (c.models ≡ models)
  kept = parts_kept cells heads models a b c n.symbols empty named same

  is_made : IsWhole n p made.rows (record c { feeds = feeds })
  is_made = whole_is c feeds n p made.rows (subst AreRows is_whole rows) (kept.1 ∙ is_heads) (framed (framed_empty n p cells heads models a b empty named))

  is_of : (s : Sources) → IsOf n cells models s → IsOf n c.cells c.models s
  is_of s same_parts = (same_parts.0, same_parts.1 ∙ sym kept.0, same_parts.2 ∙ sym kept.2)

  pub finished_made : (linked : List Feed) → length feeds.items ≡ length c.feeds.items → AreFedBetween c 0 (length c.feeds.items) linked feeds.items
      → (s : Sources) (counts : Counts) (spots : List Spot) → IsOf n cells models s → ArePlans s n.symbols p → AreInstances s n counts made
      → AreAllRising spot_cmp (IsSpot s) spots → AreFedSo s spots linked → IsMadeFrom s (design_of d)
  finished_made linked count fed s counts spots same_parts plans insts all links =
      subst (λ (r : Rows). IsMadeFrom s (design_of r)) (sym is_whole)
      (made_from s n p made counts (record c { feeds = feeds }) is_made (is_of s same_parts) insts plans spots all linked links (sym fed.count) (fed_is c feeds linked count fed))

  pub finished_names : (s : Sources) (counts : Counts) → IsOf n cells models s → AreInstances s n counts made → AreNamedInsts s → HasNames d
  finished_names s counts same_parts insts names =
      subst HasNames (sym is_whole) (names_are s n p made counts (record c { feeds = feeds }) is_made (is_of s same_parts) insts names)
