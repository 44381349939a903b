-- What is gathered as names are mentioned one after the other.
use Rattle.std.proofs.Common.{◌≡◌, ℕ, ◌+◌, ◌<◌, ◌≤◌, ◌==◌, Bool, true, false, not, cond, ◌||◌, ◌⊎◌, List, [], ◌∷◌, ◌++◌, length, map, set, refl, sym, ap, ◌∙◌, subst, arith, inl, inr, append_assoc, append-nil, get_or-set_other, get_or-set_same}
use Rattle.std.specs.Prelude.{Option, Some, None, option_and_then, slice_get, slice_index}
use Rattle.std.specs.Option.{option_or}
use Rattle.std.specs.List.{count_by, find, list_any}
use Rattle.std.proofs.lemmas.Bool.{false≢true, eqb-false, eqb-true}
use Rattle.std.proofs.lemmas.List.{length-set, map_push}
use Rattle.std.proofs.lemmas.List.Elements.{All-push}
use Rattle.std.proofs.lemmas.List.Folds.{find-append, list_any-append}
use Rattle.std.proofs.lemmas.List.Sums.{sum_by-append, sum_by-cons}
use Rattle.std.proofs.lemmas.Option.{get_or_from_slice_get, slice_get-get_or}
use Rattle.list_defs.specs.Members.{IsIn, all_differ, place_of, same_name}
use Rattle.list_defs.proofs.Members.{IsIn-append_cases, IsIn-append_left, IsIn-append_right}
use Rattle.list_defs.proofs.NameLemmas.{place_of-own, same_name-equal, same_name-itself}
use Rattle.module_rows.specs.View.{name_at}
use Rattle.net_places.specs.declared.rows.NamedRow.{NamedRow}
use Rattle.net_places.specs.declared.rows.NetRow.{NetRow}
use Rattle.net_places.specs.declared.gathering.Gathering.{Gathering}
use Rattle.net_places.specs.Nets.{OwnNet}
use Rattle.net_places.specs.Mentions.{Mention, is_mentioned, net_mentioned}
use Rattle.net_places.specs.Gathered.{AreGathered, Gathers, HasGathered, IsSpelled, is_named, mention_by, net_of, no_net}

true_eqb : (n : ℕ) → (n == n) ≡ true
true_eqb n = by (n == n) refl
  where
    by : (b : Bool) → (n == n) ≡ b → (n == n) ≡ true
    by true e = e
    by false e = absurd (eqb-false n n e refl)

-- what a test finds
none_found : {X : Type 0} (p : X → Bool) (xs : List X) → list_any p xs ≡ false → find p xs ≡ None
none_found p [] h = refl
none_found {X} p (x ∷ xs) h = by (p x) (none_found p xs) h
  where
    by : (b : Bool) → (list_any p xs ≡ false → find p xs ≡ None) → (b || list_any p xs) ≡ false → cond b (Some x) (find p xs) ≡ None
    by true rest h = cc
    by false rest h = rest h

some_found : {X : Type 0} (p : X → Bool) (xs : List X) → list_any p xs ≡ true → (x : X) × (find p xs ≡ Some x)
some_found p [] h = absurd (false≢true h)
some_found {X} p (x ∷ xs) h = by (p x) (some_found p xs) h
  where
    by : (b : Bool) → (list_any p xs ≡ true → (y : X) × (find p xs ≡ Some y)) → (b || list_any p xs) ≡ true → (y : X) × (cond b (Some x) (find p xs) ≡ Some y)
    by true rest h = (x, refl)
    by false rest h = rest h

-- and the other way round
pub any_if_found : {X : Type 0} (p : X → Bool) (xs : List X) (x : X) → find p xs ≡ Some x → list_any p xs ≡ true
any_if_found p xs x h = by (list_any p xs) refl
  where
    by : (b : Bool) → list_any p xs ≡ b → list_any p xs ≡ true
    by true e = e
    by false e = let none : find p xs ≡ None = none_found p xs e in cc

pub none_if_not_found : {X : Type 0} (p : X → Bool) (xs : List X) → find p xs ≡ None → list_any p xs ≡ false
none_if_not_found p xs h = by (list_any p xs) refl
  where
    by : (b : Bool) → list_any p xs ≡ b → list_any p xs ≡ false
    by false e = e
    by true e = let some = some_found p xs e in let there : find p xs ≡ Some some.0 = some.1 in cc

abbrev pub says : List ℕ → Mention → Bool
says name x = same_name name x.name

abbrev pub net_found : Option Mention → Option OwnNet
net_found = option_and_then (λ (x : Mention). x.net)

-- a name that was mentioned keeps its net, and one that was not has what is said of it next
pub kept : (vs ws : List Mention) (name : List ℕ) → is_mentioned vs name ≡ true → net_mentioned (vs ++ ws) name ≡ net_mentioned vs name
kept vs ws name h =
    let x = some_found (says name) vs h in
    ap net_found (find-append (says name) vs ws ∙ ap (λ o. option_or o (find (says name) ws)) x.1) ∙ sym (ap net_found x.1)

pub fresh : (vs ws : List Mention) (name : List ℕ) → is_mentioned vs name ≡ false → net_mentioned (vs ++ ws) name ≡ net_mentioned ws name
fresh vs ws name h = ap net_found (find-append (says name) vs ws ∙ ap (λ o. option_or o (find (says name) ws)) (none_found (says name) vs h))

pub unknown : (vs : List Mention) (name : List ℕ) → is_mentioned vs name ≡ false → net_mentioned vs name ≡ None
unknown vs name h = ap net_found (none_found (says name) vs h)

-- a net is of a name that was mentioned
pub known : (vs : List Mention) (name : List ℕ) (n : OwnNet) → net_mentioned vs name ≡ Some n → is_mentioned vs name ≡ true
known vs name n h = by (is_mentioned vs name) refl
  where
    by : (b : Bool) → is_mentioned vs name ≡ b → is_mentioned vs name ≡ true
    by true e = e
    by false e = let none : net_mentioned vs name ≡ None = unknown vs name e in cc

-- a last mention
abbrev last_net : Mention → List ℕ → Option OwnNet
last_net v name = net_found (cond (same_name name v.name) (Some v) None)

own_last : (v : Mention) → net_mentioned (v ∷ []) v.name ≡ v.net
own_last v = rw (same_name-itself v.name) refl

same_net_if : (vs : List Mention) (v : Mention) → ((name : List ℕ) → is_mentioned vs name ≡ false → last_net v name ≡ None) → (name : List ℕ)
    → net_mentioned (vs ++ v ∷ []) name ≡ net_mentioned vs name
same_net_if vs v none name = by (is_mentioned vs name) refl
  where
    by : (b : Bool) → is_mentioned vs name ≡ b → net_mentioned (vs ++ v ∷ []) name ≡ net_mentioned vs name
    by true e = kept vs (v ∷ []) name e
    by false e = fresh vs (v ∷ []) name e ∙ none name e ∙ sym (unknown vs name e)

gathered_same : (names : List (List ℕ)) (rows : List NamedRow) (vs ws : List Mention) → ((name : List ℕ) → net_mentioned ws name ≡ net_mentioned vs name)
    → AreGathered names rows vs → AreGathered names rows ws
gathered_same names rows vs ws same g = record {
  spelled = g.spelled;
  each = λ n there. same n.name ∙ g.each n there;
  all = λ name n h. g.all name n (sym (same name) ∙ h);
  once = g.once;
}

-- what is said again of a name counts nothing
again_none : (vs : List Mention) (v : Mention) → is_mentioned vs v.name ≡ true → (name : List ℕ) → is_mentioned vs name ≡ false → last_net v name ≡ None
again_none vs v again name new = by (same_name name v.name) refl
  where
    by : (b : Bool) → same_name name v.name ≡ b → net_found (cond b (Some v) None) ≡ None
    by true e =
        let there : is_mentioned vs name ≡ true = subst (λ (x : List ℕ). is_mentioned vs x ≡ true) (sym (same_name-equal name v.name e)) again in
        absurd (false≢true (sym new ∙ there))
    by false e = refl

pub gathered_again : (names : List (List ℕ)) (rows : List NamedRow) (vs : List Mention) (v : Mention) → is_mentioned vs v.name ≡ true
    → AreGathered names rows vs → AreGathered names rows (vs ++ v ∷ [])
gathered_again names rows vs v again = gathered_same names rows vs (vs ++ v ∷ []) (same_net_if vs v (again_none vs v again))

-- a name that is no net
abbrev nothing : List ℕ → Mention
nothing name = record { name = name; net = None }

nothing_none : (name other : List ℕ) → last_net (nothing name) other ≡ None
nothing_none name other = by (same_name other name)
  where
    by : (b : Bool) → net_found (cond b (Some (nothing name)) None) ≡ None
    by true = refl
    by false = refl

pub gathered_none : (names : List (List ℕ)) (rows : List NamedRow) (vs : List Mention) (name : List ℕ)
    → AreGathered names rows vs → AreGathered names rows (vs ++ record { name = name; net = None } ∷ [])
gathered_none names rows vs name = gathered_same names rows vs (vs ++ nothing name ∷ []) (same_net_if vs (nothing name) (λ other new. nothing_none name other))

count_none : {X : Type 0} (p : X → Bool) (xs : List X) → ((x : X) → IsIn x xs → p x ≡ false) → count_by p xs ≡ 0
count_none p [] h = refl
count_none p (x ∷ xs) h =
    let here : p x ≡ false = h x (inl refl) in
    let first : cond {A = ℕ} (p x) 1 0 ≡ 0 = ap (λ (b : Bool). cond {A = ℕ} b 1 0) here in
    let rest : count_by p xs ≡ 0 = count_none p xs (λ y there. h y (inr there)) in
    let both : cond {A = ℕ} (p x) 1 0 + count_by p xs ≡ 0 = omega arith in
    sum_by-cons (λ y. cond {A = ℕ} (p y) 1 0) x xs ∙ both

-- a net that is mentioned first
module _ (names : List (List ℕ)) (rows : List NamedRow) (vs : List Mention) (v : Mention) (row : NamedRow)
    (new : is_mentioned vs v.name ≡ false) (is_net : v.net ≡ Some (net_of row)) (is_name : row.name.now ≡ v.name)
    (fits : IsSpelled names row) (g : AreGathered names rows vs) where
  more_nets : map net_of (rows ++ row ∷ []) ≡ map net_of rows ++ net_of row ∷ []
  more_nets = map_push net_of rows row

  last_is : net_mentioned (vs ++ v ∷ []) row.name.now ≡ Some (net_of row)
  last_is = ap (net_mentioned (vs ++ v ∷ [])) is_name ∙ fresh vs (v ∷ []) v.name new ∙ own_last v ∙ is_net

  each_net : (n : OwnNet) → IsIn n (map net_of rows) ⊎ IsIn n (net_of row ∷ []) → net_mentioned (vs ++ v ∷ []) n.name ≡ Some n
  each_net n (inl there) = let was = g.each n there in kept vs (v ∷ []) n.name (known vs n.name n was) ∙ was
  each_net n (inr (inl is)) = ap (λ (x : OwnNet). net_mentioned (vs ++ v ∷ []) x.name) is ∙ last_is ∙ ap Some (sym is)
  each_net n (inr (inr absent)) = absurd absent

  all_nets : (name : List ℕ) (n : OwnNet) → net_mentioned (vs ++ v ∷ []) name ≡ Some n → IsIn n (map net_of rows ++ net_of row ∷ [])
  all_nets name n h = by (is_mentioned vs name) refl
    where
      last : (b : Bool) → net_found (cond b (Some v) None) ≡ Some n → IsIn n (map net_of rows ++ net_of row ∷ [])
      last true e = let same : n ≡ net_of row = cc in IsIn-append_right n (map net_of rows) (net_of row ∷ []) (inl same)
      last false e = cc

      by : (b : Bool) → is_mentioned vs name ≡ b → IsIn n (map net_of rows ++ net_of row ∷ [])
      by true e = IsIn-append_left n (map net_of rows) (net_of row ∷ []) (g.all name n (sym (kept vs (v ∷ []) name e) ∙ h))
      by false e = last (same_name name v.name) (sym (fresh vs (v ∷ []) name e) ∙ h)

  each_once : (name : List ℕ) → count_by (is_named name) (map net_of rows ++ net_of row ∷ []) ≤ 1
  each_once name = by (same_name name row.name.now) refl
    where
      last : count_by (is_named name) (net_of row ∷ []) ≡ cond {A = ℕ} (same_name name row.name.now) 1 0
      last = let same : cond {A = ℕ} (same_name name row.name.now) 1 0 + 0 ≡ cond {A = ℕ} (same_name name row.name.now) 1 0 = omega arith in sum_by-cons (λ (n : OwnNet). cond {A = ℕ} (is_named name n) 1 0) (net_of row) [] ∙ same

      all : count_by (is_named name) (map net_of rows ++ net_of row ∷ []) ≡ count_by (is_named name) (map net_of rows) + cond {A = ℕ} (same_name name row.name.now) 1 0
      all = sum_by-append (λ (n : OwnNet). cond {A = ℕ} (is_named name n) 1 0) (map net_of rows) (net_of row ∷ []) ∙ ap (λ (n : ℕ). count_by (is_named name) (map net_of rows) + n) last

      other : same_name name row.name.now ≡ true → (n : OwnNet) → IsIn n (map net_of rows) → (b : Bool) → same_name name n.name ≡ b → same_name name n.name ≡ false
      other same n there false e = e
      other same n there true e =
          let one : n.name ≡ v.name = sym (same_name-equal name n.name e) ∙ same_name-equal name row.name.now same ∙ is_name in
          absurd (false≢true (sym new ∙ subst (λ (x : List ℕ). is_mentioned vs x ≡ true) one (known vs n.name n (g.each n there))))

      by : (b : Bool) → same_name name row.name.now ≡ b → count_by (is_named name) (map net_of rows ++ net_of row ∷ []) ≤ 1
      by true e =
          let none : count_by (is_named name) (map net_of rows) ≡ 0 = count_none (is_named name) (map net_of rows) (λ n there. other e n there (same_name name n.name) refl) in
          let one : cond {A = ℕ} (same_name name row.name.now) 1 0 ≡ 1 = ap (λ (b : Bool). cond {A = ℕ} b 1 0) e in
          let few : count_by (is_named name) (map net_of rows) + cond {A = ℕ} (same_name name row.name.now) 1 0 ≤ 1 = omega arith in
          subst (λ (n : ℕ). n ≤ 1) (sym all) few
      by false e =
          let none : cond {A = ℕ} (same_name name row.name.now) 1 0 ≡ 0 = ap (λ (b : Bool). cond {A = ℕ} b 1 0) e in
          let few : count_by (is_named name) (map net_of rows) + cond {A = ℕ} (same_name name row.name.now) 1 0 ≤ 1 = omega (arith, g.once name) in
          subst (λ (n : ℕ). n ≤ 1) (sym all) few

  pub gathered_more : AreGathered names (rows ++ row ∷ []) (vs ++ v ∷ [])
  gathered_more = record {
    spelled = All-push (IsSpelled names) rows row g.spelled fits;
    each = λ n there. each_net n (IsIn-append_cases n (map net_of rows) (net_of row ∷ []) (subst (IsIn n) more_nets there));
    all = λ name n h. subst (IsIn n) (sym more_nets) (all_nets name n h);
    once = λ name. subst (λ nets. count_by (is_named name) nets ≤ 1) (sym more_nets) (each_once name);
  }

-- one more symbol that is marked
module _ (names : List (List ℕ)) (marks : List ℕ) (mark t : ℕ) (vs : List Mention) (v : Mention) (differ : all_differ same_name names ≡ true)
    (count : length marks ≡ length names) (within : t < length names) (is_name : v.name ≡ name_at names t)
    (marked : (s : ℕ) → s < length names → (slice_index marks s == mark) ≡ is_mentioned vs (name_at names s)) where
  -- the two symbols of one spelling are one
  one_symbol : (s : ℕ) → s < length names → same_name (name_at names s) v.name ≡ true → s ≡ t
  one_symbol s there same =
      let spelled : name_at names s ≡ name_at names t = same_name-equal (name_at names s) v.name same ∙ is_name in
      let place_s : place_of (same_name (name_at names s)) names ≡ Some s = place_of-own (name_at names s) names s differ (slice_get-get_or names s [] there) in
      let place_t : place_of (same_name (name_at names t)) names ≡ Some t = place_of-own (name_at names t) names t differ (slice_get-get_or names t [] within) in
      let both : Some s ≡ Some t = sym place_s ∙ ap (λ name. place_of (same_name name) names) spelled ∙ place_t in
      cc

  mentioned_more : (name : List ℕ) → is_mentioned (vs ++ v ∷ []) name ≡ (is_mentioned vs name || (same_name name v.name || false))
  mentioned_more name = list_any-append (says name) vs (v ∷ [])

  pub marked_more : (s : ℕ) → s < length names → (slice_index (set marks t mark) s == mark) ≡ is_mentioned (vs ++ v ∷ []) (name_at names s)
  marked_more s there = by (s == t) refl
    where
      or_true : (a : Bool) → (a || (true || false)) ≡ true
      or_true true = refl
      or_true false = refl

      or_no : (a : Bool) → (a || (false || false)) ≡ a
      or_no true = refl
      or_no false = refl

      not_same : (s ≡ t → ⊥) → (b : Bool) → same_name (name_at names s) v.name ≡ b → same_name (name_at names s) v.name ≡ false
      not_same apart true e = absurd (apart (one_symbol s there e))
      not_same apart false e = e

      by : (b : Bool) → (s == t) ≡ b → (slice_index (set marks t mark) s == mark) ≡ is_mentioned (vs ++ v ∷ []) (name_at names s)
      by true e =
          let same : s ≡ t = eqb-true s t e in
          let new : slice_index (set marks t mark) t ≡ mark = get_or-set_same marks t mark 0 (omega (arith, within, count)) in
          let here : same_name (name_at names t) v.name ≡ true = ap (same_name (name_at names t)) is_name ∙ same_name-itself (name_at names t) in
          let right : is_mentioned (vs ++ v ∷ []) (name_at names t) ≡ true =
          mentioned_more (name_at names t) ∙ ap (λ (b : Bool). is_mentioned vs (name_at names t) || (b || false)) here ∙ or_true (is_mentioned vs (name_at names t)) in
          subst (λ (k : ℕ). (slice_index (set marks t mark) k == mark) ≡ is_mentioned (vs ++ v ∷ []) (name_at names k)) (sym same)
          (ap (λ (k : ℕ). k == mark) new ∙ true_eqb mark ∙ sym right)
      by false e =
          let apart = eqb-false s t e in
          let old : slice_index (set marks t mark) s ≡ slice_index marks s = get_or-set_other marks t s mark 0 apart in
          let no = not_same apart (same_name (name_at names s) v.name) refl in
          ap (λ (k : ℕ). k == mark) old ∙ marked s there
          ∙ sym (mentioned_more (name_at names s) ∙ ap (λ (b : Bool). is_mentioned vs (name_at names s) || (b || false)) no ∙ or_no (is_mentioned vs (name_at names s)))

  pub latest_more : ((s : ℕ) → slice_index marks s ≤ mark) → (s : ℕ) → slice_index (set marks t mark) s ≤ mark
  latest_more latest s = by (s == t) refl
    where
      by : (b : Bool) → (s == t) ≡ b → slice_index (set marks t mark) s ≤ mark
      by true e =
          let same : s ≡ t = eqb-true s t e in
          let new : slice_index (set marks t mark) t ≡ mark = get_or-set_same marks t mark 0 (omega (arith, within, count)) in
          let P : ℕ → Type 0 = λ k. slice_index (set marks t mark) k ≤ mark in
          subst P (sym same) (omega arith)
      by false e =
          let old : slice_index (set marks t mark) s ≡ slice_index marks s = get_or-set_other marks t s mark 0 (eqb-false s t e) in
          omega (arith, latest s)

-- what the calls of a gathering do
pub net_again : (names : List (List ℕ)) (mark : ℕ) (old new : Gathering) (row : NetRow) → row.name < length names
    → (slice_index old.marks.items row.name == mark) ≡ true → new.marks.items ≡ set old.marks.items row.name mark → new.nets.items ≡ old.nets.items
    → Gathers names mark old new (mention_by names row ∷ [])
net_again names mark old new row within again marks nets vs g =
    let v = mention_by names row in
    let there : is_mentioned vs v.name ≡ true = sym (g.marked row.name within) ∙ again in
    record {
      differ = g.differ;
      count = ap length marks ∙ length-set old.marks.items row.name mark ∙ g.count;
      marked = λ s below. ap (λ (m : List ℕ). slice_index m s == mark) marks ∙ marked_more names old.marks.items mark row.name vs v g.differ g.count within refl g.marked s below;
      latest = λ s. subst (λ (m : List ℕ). slice_index m s ≤ mark) (sym marks) (latest_more names old.marks.items mark row.name vs v g.differ g.count within refl g.marked g.latest s);
      rows = subst (λ rows. AreGathered names rows (vs ++ v ∷ [])) (sym nets) (gathered_again names old.nets.items vs v there g.rows);
    }

pub net_first : (names : List (List ℕ)) (mark : ℕ) (old new : Gathering) (row : NetRow) (name : List ℕ) (named : NamedRow) → row.name < length names
    → (slice_index old.marks.items row.name == mark) ≡ false → slice_get names row.name ≡ Some name → named.name.now ≡ name → named.row ≡ row
    → new.marks.items ≡ set old.marks.items row.name mark → new.nets.items ≡ old.nets.items ++ named ∷ []
    → Gathers names mark old new (mention_by names row ∷ [])
net_first names mark old new row name named within first spelled is_name is_row marks nets vs g =
    let v = mention_by names row in
    let absent : is_mentioned vs v.name ≡ false = sym (g.marked row.name within) ∙ first in
    let same : name_at names row.name ≡ name = get_or_from_slice_get names row.name name [] spelled in
    let own : named.name.now ≡ v.name = is_name ∙ sym same in
    let P : NetRow → Type 0 = λ r. v.net ≡ Some (record { name = named.name.now; range = r.range; port = r.port }) in
    let is_net : v.net ≡ Some (net_of named) = subst P (sym is_row) (ap (λ (n : List ℕ). Some (record { name = n; range = row.range; port = row.port })) (sym own)) in
    let fits : IsSpelled names named = ap (λ (r : NetRow). slice_get names r.name) is_row ∙ spelled ∙ ap Some (sym is_name) in
    record {
      differ = g.differ;
      count = ap length marks ∙ length-set old.marks.items row.name mark ∙ g.count;
      marked = λ s below. ap (λ (m : List ℕ). slice_index m s == mark) marks ∙ marked_more names old.marks.items mark row.name vs v g.differ g.count within refl g.marked s below;
      latest = λ s. subst (λ (m : List ℕ). slice_index m s ≤ mark) (sym marks) (latest_more names old.marks.items mark row.name vs v g.differ g.count within refl g.marked g.latest s);
      rows = subst (λ rows. AreGathered names rows (vs ++ v ∷ [])) (sym nets) (gathered_more names old.nets.items vs v named absent is_net own fits g.rows);
    }

pub inst_more : (names : List (List ℕ)) (mark : ℕ) (old new : Gathering) (symbol : ℕ) → symbol < length names
    → new.marks.items ≡ set old.marks.items symbol mark → new.nets.items ≡ old.nets.items → Gathers names mark old new (no_net names symbol ∷ [])
inst_more names mark old new symbol within marks nets vs g =
    let v = no_net names symbol in
    record {
      differ = g.differ;
      count = ap length marks ∙ length-set old.marks.items symbol mark ∙ g.count;
      marked = λ s below. ap (λ (m : List ℕ). slice_index m s == mark) marks ∙ marked_more names old.marks.items mark symbol vs v g.differ g.count within refl g.marked s below;
      latest = λ s. subst (λ (m : List ℕ). slice_index m s ≤ mark) (sym marks) (latest_more names old.marks.items mark symbol vs v g.differ g.count within refl g.marked g.latest s);
      rows = subst (λ rows. AreGathered names rows (vs ++ v ∷ [])) (sym nets) (gathered_none names old.nets.items vs (name_at names symbol) g.rows);
    }

-- one gathering after the other
pub gathers_none : (names : List (List ℕ)) (mark : ℕ) (g : Gathering) → Gathers names mark g g []
gathers_none names mark g vs has = subst (HasGathered names mark g) (sym (append-nil vs)) has

pub gathers_also : (names : List (List ℕ)) (mark : ℕ) (a b c : Gathering) (xs ys zs : List Mention) → Gathers names mark a b xs → Gathers names mark b c ys
    → zs ≡ xs ++ ys → Gathers names mark a c zs
gathers_also names mark a b c xs ys zs first second joined vs has =
    subst (HasGathered names mark c) (append_assoc vs xs ys ∙ ap (λ more. vs ++ more) (sym joined)) (second (vs ++ xs) (first vs has))

pub gathers_nothing : (names : List (List ℕ)) (mark : ℕ) (g : Gathering) (more : List Mention) → more ≡ [] → Gathers names mark g g more
gathers_nothing names mark g more none = let P : List Mention → Type 0 = λ xs. Gathers names mark g g xs in subst P (sym none) (gathers_none names mark g)

-- a test that was turned round
pub not_false : (b : Bool) → not b ≡ false → b ≡ true
not_false true h = refl
not_false false h = cc

pub not_true : (b : Bool) → not b ≡ true → b ≡ false
not_true false h = refl
not_true true h = cc
