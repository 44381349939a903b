use Rattle.std.proofs.Common.{◌≡◌, ◌<◌, List, ℕ, Some, length, refl, ap, sym, ◌∙◌, arith}
use Rattle.std.specs.Vec.{with_item}
use Rattle.list_defs.specs.Members.{place_of, same_name}
use Rattle.net_text.specs.DeclarationViews.{declaration_view}
use Rattle.net_text.specs.NetlistGrammar.{Named}
use Rattle.net_text.specs.SecondDeclarations.{named_in}
use Rattle.net_modules.specs.Sayings.{Saying, said_with}
use Rattle.net_modules.specs.declared.tables.SaidTable.{SaidTable}
use Rattle.net_modules.proofs.TableLaws.{more_after, there_said, there_within, written}
use Rattle.net_modules.proofs.tables.SaidTable.note.Goals as goal

pub index-before-requires : goal.index-before-requires
index-before-requires c =
    let within : c.in_ok-place.place < length c.place.new.self.said.items =
    there_within c.place.new.self c.name_in-name.result.text.now c.in_ok-place.place c.in_ok-place.ensures.tells.places c.in_ok-place.ensures.place in
    omega (arith, within)

pub index_mut-requires : goal.index_mut-requires
index_mut-requires c =
    let within : c.in_ok-place.place < length c.place.new.self.said.items =
    there_within c.place.new.self c.name_in-name.result.text.now c.in_ok-place.place c.in_ok-place.ensures.tells.places c.in_ok-place.ensures.place in
    omega (arith, within)

pub returns-clause-before : goal.returns-clause-before
returns-clause-before c =
    let mid = c.place.new.self in
    let d = declaration_view c.args.declaration.now in
    let name : c.name_in-name.result.text.now ≡ (named_in d).text = ap (λ (n : Named). n.text) c.name_in-name.ensures in
    let at : place_of (same_name (named_in d).text) mid.names ≡ Some c.in_ok-place.place =
    ap (λ (m : List ℕ). place_of (same_name m) mid.names) (sym name) ∙ c.in_ok-place.ensures.place in
    there_said mid (named_in d).text c.in_ok-place.place c.in_ok-place.ensures.tells.places at c.index-before.result.now _ c.index-before.ensures
    ∙ c.in_ok-place.ensures.tells.tells (named_in d).text

pub returns-clause-more : goal.returns-clause-more
returns-clause-more c =
    let old = c.args.self.now in
    let mid = c.place.new.self in
    let new : SaidTable = record { names = mid.names; said = with_item mid.said c.in_ok-place.place c.said_with.result } in
    let d = declaration_view c.args.declaration.now in
    let name : c.name_in-name.result.text.now ≡ (named_in d).text = ap (λ (n : Named). n.text) c.name_in-name.ensures in
    let at : place_of (same_name (named_in d).text) mid.names ≡ Some c.in_ok-place.place =
    ap (λ (m : List ℕ). place_of (same_name m) mid.names) (sym name) ∙ c.in_ok-place.ensures.place in
    let places = c.in_ok-place.ensures.tells.places in
    more_after old mid new d c.in_ok-place.ensures.tells
    (written mid new d c.in_ok-place.place c.said_with.result places at refl refl
    (c.said_with.ensures
    ∙ ap (λ (s : Saying). said_with s d) (there_said mid (named_in d).text c.in_ok-place.place places at c.index-before.result.now _ c.index-before.ensures)))
