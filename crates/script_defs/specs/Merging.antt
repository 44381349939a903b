-- Updates: options joined to those given before, or the first of them that says otherwise.
use Rattle.std.specs.Prelude.{ℕ, Bool, true, false, not, ◌&&◌, ◌||◌, List, [], ◌∷◌, ◌++◌, Option, option_map, decimal, codes, filter}
use Rattle.std.specs.List.{list_any, find, filter_map}
use Rattle.list_defs.specs.Members.{same_name}
use Rattle.script_defs.specs.Statements.{Clause, Parts}
use Rattle.script_defs.specs.World.{GivenClause}

-- an option that grows: an update adds to what was given before
abbrev pub grows : List ℕ → Bool
grows option = same_name option (codes "-elements") || same_name option (codes "-exclude_elements") || same_name option (codes "-instance")

-- whether the values are of one key; a value that isn't a pair has no key
abbrev pub same_key : Parts → Parts → Bool
same_key (Parts.pair a x) (Parts.pair b y) = same_name a b
same_key (Parts.pair a x) _ = false
same_key _ (Parts.pair b y) = false
same_key _ _ = true

-- whether two clauses give the same thing: one option, and where its values have keys, one key
abbrev pub same_subject : Clause → Clause → Bool
same_subject a b = same_name a.option b.option && same_key a.parts b.parts

-- whether two values say the same: names by key are compared as names, all else byte by byte
abbrev pub same_parts : Clause → Clause → Bool
same_parts a b = elim a.parts as (λ p. Bool) [
  | Parts.pair key x ↦ (elim b.parts as (λ q. Bool) [ Parts.pair other y ↦ same_name x y | _ ↦ false ])
  | _ ↦ same_name a.bytes b.bytes
]

-- the first clause given before that an update's clause contradicts
abbrev pub contradicted : List GivenClause → Clause → Option GivenClause
contradicted given c = find (λ g. not (grows c.option) && same_subject g.clause c && not (same_parts g.clause c)) given

-- a contradiction: the option, and the line where it was given first
pub record Contradiction : Type 0 where
  pub option : List ℕ
  pub first_line : ℕ

-- the contradictions of an update, in order of its clauses
abbrev pub contradictions : List GivenClause → List Clause → List Contradiction
contradictions given clauses =
    filter_map (λ (c : Clause). option_map (λ g. record { option = c.option; first_line = g.origin.line }) (contradicted given c)) clauses

-- a clause is added where its option grows, or where nothing of its subject was given
abbrev pub is_added : List GivenClause → Clause → Bool
is_added given c = grows c.option || not (list_any (λ g. same_subject g.clause c) given)

-- the clauses given before, and behind them what an update adds
abbrev pub joined_clauses : List GivenClause → List GivenClause → List GivenClause
joined_clauses given more = given ++ filter (λ g. is_added given g.clause) more

-- options that exclude one another
abbrev pub exclusive_pairs : List (List ℕ × List ℕ)
exclusive_pairs =
    (codes "-no_isolation", codes "-force_isolation")
    ∷ (codes "-force_isolation", codes "-no_isolation")
    ∷ (codes "-no_shift", codes "-force_shift")
    ∷ (codes "-force_shift", codes "-no_shift")
    ∷ []

-- the clause given before that excludes an option of an update
abbrev pub excluded_by : List GivenClause → Clause → Option GivenClause
excluded_by given c =
    find
    (λ g. list_any (λ (p : List ℕ × List ℕ). same_name p.0 c.option && same_name p.1 g.clause.option) exclusive_pairs)
    given

-- the options of an update that one given before excludes
abbrev pub exclusions : List GivenClause → List Clause → List Contradiction
exclusions given clauses =
    filter_map (λ (c : Clause). option_map (λ g. record { option = c.option; first_line = g.origin.line }) (excluded_by given c)) clauses

-- how a contradiction is shown: the option, a blank, and the first line
abbrev pub contradiction_text : Contradiction → List ℕ
contradiction_text c = c.option ++ 32 ∷ decimal c.first_line
