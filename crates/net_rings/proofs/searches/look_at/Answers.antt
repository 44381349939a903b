use Rattle.std.proofs.Common.{◌≢◌, ◌++◌, ◌∷◌, [], rules, sym, subst}
use Rattle.net_rings.specs.Fed.{IsThere}
use Rattle.net_rings.specs.Search.{IsLooking}
use Rattle.net_rings.proofs.SearchLemmas.{looking_absent, looking_back, looking_known, looking_new}
use Rattle.net_rings.proofs.searches.look_at.Goals as goal

pub returns-then-not-is_there-clause-at : goal.returns-then-not-is_there-clause-at
returns-then-not-is_there-clause-at c bit done seen feeds looking =
    looking_absent c.args.rows.now c.args.from c.args.mark bit c.args.marks.now c.args.row.now.items seen done c.args.source looking (λ there. search rules)

pub returns-then-source-from-clause-at : goal.returns-then-source-from-clause-at
returns-then-source-from-clause-at c bit done seen feeds looking =
    looking_back c.args.rows.now c.args.from c.args.mark bit c.args.marks.now c.args.row.now.items seen done c.args.source looking feeds (search rules) (search rules)

pub returns-in_ok-push-clause-at : goal.returns-in_ok-push-clause-at
returns-in_ok-push-clause-at c bit done seen feeds looking =
    let there : IsThere c.args.rows.now.bits.items c.args.source = search rules in
    let other : c.args.source ≢ c.args.from = search rules in
    let new = looking_new c.args.rows.now c.args.from c.args.mark bit c.args.marks.now c.args.row.now.items seen done c.args.source looking
    c.mark_bit.new.marks feeds there other (c.mark_bit.ensures.new c.if-mark_bit.true) in
    subst (λ row. IsLooking c.args.rows.now c.args.from c.args.mark bit c.mark_bit.new.marks row (seen ++ c.args.source ∷ []) done) (sym c.in_ok-push.ensures.items) new

pub returns-else-mark_bit-clause-at : goal.returns-else-mark_bit-clause-at
returns-else-mark_bit-clause-at c bit done seen feeds looking =
    let known = c.mark_bit.ensures.known c.if-mark_bit.false in
    let other : c.args.source ≢ c.args.from = search rules in
    let same = looking_known c.args.rows.now c.args.from c.args.mark bit c.args.marks.now c.args.row.now.items seen done c.args.source looking other known.1 in
    subst (λ marks. IsLooking c.args.rows.now c.args.from c.args.mark bit marks c.args.row.now.items (seen ++ c.args.source ∷ []) done) (sym known.0) same
