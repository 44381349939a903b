-- Libraries and netlists, one more at a time.
use Rattle.std.proofs.Common.{◌≡◌, ℕ, ◌+◌, ◌<◌, List, [], ◌∷◌, ◌++◌, Some, get_or, length, take, refl, sym, ap, ◌∙◌, subst, arith}
use Rattle.std.specs.Prelude.{slice_get}
use Rattle.std.proofs.lemmas.Grind.{flat_map-append}
use Rattle.std.proofs.lemmas.List.{append-nil, length-append, map-append, take_more}
use Rattle.std.proofs.lemmas.Option.{slice_get-get_or}
use Rattle.pw_defs.specs.declared.cells.Cells.{Cells}
use Rattle.pw_defs.specs.declared.faults.NetFault.{NetFault}
use Rattle.pw_defs.specs.declared.netlist.Module.{Module}
use Rattle.module_rows.specs.declared.plain.Draft.{Draft}
use Rattle.module_rows.specs.Growth.{no_module}
use Rattle.net_modules.specs.Drafts.{AreAdded}
use Rattle.net_text.specs.NetlistFaults.{ReadsAsModules}
use Rattle.net_text.specs.Stopped.{IsToldFault}
use Rattle.read_laws.specs.Laws.{AreJoinedCells}
use Rattle.text_designs.specs.Texts.{AreNetlists, AreReadEach, IsFirstNetlistAtFault, JoinsText, ReadsMore, all_of, no_cells}

pub joined_more : (before : Cells) (texts : List (List ℕ)) (cells : Cells) (text : List ℕ) (joined : Cells) → AreJoinedCells before texts cells
    → JoinsText cells text joined → AreJoinedCells before (texts ++ text ∷ []) joined
joined_more before [] cells text joined are more =
    let same : JoinsText before text joined = subst (λ (c : Cells). JoinsText c text joined) are more in
    (same.0, joined, same.1, same.2, refl)
joined_more before (first ∷ texts) cells text joined are more =
    (are.0, are.1, are.2, are.3, joined_more are.1 texts cells text joined are.4 more)

each_more : (texts : List (List ℕ)) (lists : List (List Module)) (text : List ℕ) (more : List Module) → AreReadEach texts lists
    → ReadsAsModules text more → AreReadEach (texts ++ text ∷ []) (lists ++ more ∷ [])
each_more [] [] text more are read = (read, tt)
each_more [] (modules ∷ lists) text more are read = absurd are
each_more (first ∷ texts) [] text more are read = absurd are
each_more (first ∷ texts) (modules ∷ lists) text more are read = (are.0, each_more texts lists text more are.1 read)

pub no_netlists : AreNetlists [] [] []
no_netlists = record { lists = []; read = tt; all = refl; counted = refl }

pub netlists_more : (texts : List (List ℕ)) (text : List ℕ) (old new : Draft) (old_counts new_counts : List ℕ) → AreNetlists texts old.modules old_counts
    → ReadsMore text old new old_counts new_counts → AreNetlists (texts ++ text ∷ []) new.modules new_counts
netlists_more texts text old new old_counts new_counts are more = record {
  lists = are.lists ++ more.added.modules ∷ [];
  read = each_more texts are.lists text more.added.modules are.read more.added.reads;
  all = ap (λ (d : Draft). d.modules) more.added.behind ∙ ap (λ (ms : List Module). ms ++ more.added.modules) are.all
      ∙ ap (λ (ms : List Module). all_of are.lists ++ ms) (sym (append-nil more.added.modules))
      ∙ sym (flat_map-append (λ (modules : List Module). modules) are.lists (more.added.modules ∷ []));
  counted = more.counted ∙ ap (λ (ns : List ℕ). ns ++ length more.added.modules ∷ []) are.counted ∙ sym (map-append length are.lists (more.added.modules ∷ []));
}

-- ---- one more text of a list

next_texts : (texts : List (List ℕ)) (i : ℕ) (text : List ℕ) → i < length texts → text ≡ get_or texts i text → take (i + 1) texts ≡ take i texts ++ text ∷ []
next_texts texts i text within item = take_more texts i text within ∙ ap (λ (t : List ℕ). take i texts ++ t ∷ []) (sym item)

text_there : (texts : List (List ℕ)) (i number : ℕ) (text : List ℕ) → i < length texts → text ≡ get_or texts i text → number ≡ i → slice_get texts number ≡ Some text
text_there texts i number text within item same =
    ap (slice_get texts) same ∙ slice_get-get_or texts i text within ∙ ap Some (sym item)

module _ (libraries : List (List ℕ)) (i : ℕ) (text : List ℕ) (before : Cells)
    (within : i < length libraries) (item : text ≡ get_or libraries i text) (joined : AreJoinedCells no_cells (take i libraries) before) where
  pub next_joined : (cells : Cells) → JoinsText before text cells → AreJoinedCells no_cells (take (i + 1) libraries) cells
  next_joined cells more =
      subst (λ (ts : List (List ℕ)). AreJoinedCells no_cells ts cells) (sym (next_texts libraries i text within item))
      (joined_more no_cells (take i libraries) before text cells joined more)

module _ (netlists : List (List ℕ)) (i : ℕ) (text : List ℕ) (old : Draft) (old_counts : List ℕ)
    (within : i < length netlists) (item : text ≡ get_or netlists i text) (are : AreNetlists (take i netlists) old.modules old_counts) where
  pub next_netlists : (new : Draft) (new_counts : List ℕ) → ReadsMore text old new old_counts new_counts → AreNetlists (take (i + 1) netlists) new.modules new_counts
  next_netlists new new_counts more =
      subst (λ (ts : List (List ℕ)). AreNetlists ts new.modules new_counts) (sym (next_texts netlists i text within item))
      (netlists_more (take i netlists) text old new old_counts new_counts are more)

  pub netlist_at_fault : (number : ℕ) (fault : NetFault) → number ≡ i → IsToldFault text fault → IsFirstNetlistAtFault netlists number fault
  netlist_at_fault number fault same is = record {
    before = are.lists;
    text = text;
    read = subst (λ (n : ℕ). AreReadEach (take n netlists) are.lists) (sym same) are.read;
    there = text_there netlists i number text within item same;
    told = is;
  }

-- none is open once more are read
pub none_open : (text : List ℕ) (old new : Draft) (old_counts new_counts : List ℕ) → ReadsMore text old new old_counts new_counts → new.current ≡ no_module
none_open text old new old_counts new_counts more = ap (λ (d : Draft). d.current) more.added.behind

-- the number that was added is that of the modules
pub reads_more : (text : List ℕ) (old new : Draft) (old_counts new_counts : List ℕ) (count : ℕ) → AreAdded text old new
    → length new.modules ≡ length old.modules + count → new_counts ≡ old_counts ++ count ∷ [] → ReadsMore text old new old_counts new_counts
reads_more text old new old_counts new_counts count added long put =
    let all : length new.modules ≡ length old.modules + length added.modules =
    ap (λ (d : Draft). length d.modules) added.behind ∙ length-append old.modules added.modules in
    let same : count ≡ length added.modules = omega (arith, long, all) in
    record { added = added; counted = put ∙ ap (λ (n : ℕ). old_counts ++ n ∷ []) same }
