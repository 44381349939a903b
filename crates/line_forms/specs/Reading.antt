-- How a text is read from its front: functions that give what was read and the text behind it, put together from
-- smaller ones. The private readers are proved to be these functions; no public contract speaks of them.
use Rattle.std.specs.Prelude.{◌≡◌, ℕ, zero, suc, Bool, true, false, List, [], ◌∷◌, ◌++◌, length, take, drop, Option, Some, None, Result, Ok, Err, ◌==◌, if◌then◌else◌, is_some, codes}
use Rattle.std.specs.List.{prefix_len}
use Rattle.pw_defs.specs.declared.cells.Dir.{Dir}
use Rattle.pw_defs.specs.declared.cells.Dir.TheVariants.{Input, Output}
use Rattle.line_forms.specs.Names.{is_letter, is_name_byte, is_reserved}
use Rattle.line_forms.specs.declared.fault.ReadFault.{ReadFault}
use Rattle.line_forms.specs.declared.fault.ReadFault.TheVariants.{OtherForm, Memory}

-- what was read and the text behind it, or nothing where the text begins with nothing of the kind
abbrev pub Read : Type 0 → Type 0
Read A = List ℕ → Option (A × List ℕ)

infixl 10 ◌>>=◌
abbrev pub ◌>>=◌ : {A B : Type 0} → Option A → (A → Option B) → Option B
(Some x) >>= f = f x
None >>= f = None

-- What a function returned, seen by view, is what reading gives, unless memory ran out.
abbrev pub Fails : {Y : Type 0} → ReadFault → Option Y → Type 0
Fails OtherForm read = read ≡ None
Fails Memory read = Unit {0}

abbrev pub Gives : {X Y : Type 0} → (X → Y) → Result X ReadFault → Option Y → Type 0
Gives view (Ok x) read = read ≡ Some (view x)
Gives view (Err fault) read = Fails fault read

-- the text behind a word that it begins with
unfoldable pub behind : List ℕ → List ℕ → Option (List ℕ)
behind [] text = Some text
behind (c ∷ word) [] = None
behind (c ∷ word) (b ∷ text) = if b == c then behind word text else None

abbrev pub begins : List ℕ → List ℕ → Bool
begins word text = is_some (behind word text)

-- nothing is read, and that means x
abbrev pub nothing_at : {A : Type 0} → A → Read A
nothing_at x text = Some (x, text)

abbrev pub none_at : {A : Type 0} → Read A
none_at text = None

-- a word, and then what r reads
abbrev pub word_at : {A : Type 0} → List ℕ → Read A → Read A
word_at word r text = behind word text >>= r

-- what r reads, and then a word
abbrev pub before_at : {A : Type 0} → Read A → List ℕ → Read A
before_at r word text = r text >>= λ x. behind word x.1 >>= λ rest. Some (x.0, rest)

-- one thing and then another
abbrev pub both_at : {A B : Type 0} → Read A → Read B → Read (A × B)
both_at r q text = r text >>= λ x. q x.1 >>= λ y. Some ((x.0, y.0), y.1)

abbrev pub map_at : {A B : Type 0} → (A → B) → Read A → Read B
map_at f r text = r text >>= λ x. Some (f x.0, x.1)

-- where a word stands, what r reads behind it, and else what q reads
abbrev pub led : {A : Type 0} → Option (List ℕ) → Read A → Option (A × List ℕ) → Option (A × List ℕ)
led (Some rest) r other = r rest
led None r other = other

abbrev pub led_at : {A : Type 0} → List ℕ → Read A → Read A → Read A
led_at word r q text = led (behind word text) r (q text)

-- one after the other, as long as the text goes on, and no more than n
unfoldable pub many_in : {A : Type 0} → ℕ → (List ℕ → Bool) → Read A → Read (List A)
many_in zero goes_on r text = if goes_on text then None else Some ([], text)
many_in (suc n) goes_on r text =
    if goes_on text then (r text >>= λ x. many_in n goes_on r x.1 >>= λ xs. Some (x.0 ∷ xs.0, xs.1)) else Some ([], text)

-- each takes a byte or more, so that there are no more than the text has bytes
unfoldable pub many_at : {A : Type 0} → (List ℕ → Bool) → Read A → Read (List A)
many_at goes_on r text = many_in (length text) goes_on r text

-- further ones behind those that were read
abbrev pub with_front : {A : Type 0} → List A → Option (List A × List ℕ) → Option (List A × List ℕ)
with_front front read = read >>= λ x. Some (front ++ x.0, x.1)

-- one that r reads, and then as many more as there are
unfoldable pub some_at : {A : Type 0} → Read A → (List ℕ → Bool) → Read A → Read (List A)
some_at r goes_on q text = r text >>= λ x. with_front (x.0 ∷ []) (many_at goes_on q x.1)

-- a list, or nothing, and then the end of the line
abbrev pub listed_at : {A : Type 0} → Read A → (List ℕ → Bool) → Read A → Read (List A)
listed_at r goes_on q = led_at (codes ");\n") (nothing_at []) (before_at (some_at r goes_on q) (codes ");\n"))

-- the longest run of bytes of a name, which is one where it begins with a letter or `_`
abbrev pub starts_name : List ℕ → Bool
starts_name [] = false
starts_name (b ∷ bs) = is_letter b

unfoldable pub name_at : Read (List ℕ)
name_at text = if starts_name text then Some (take (prefix_len is_name_byte text) text, drop (prefix_len is_name_byte text) text) else None

-- a name that is no reserved word
unfoldable pub plain_at : Read (List ℕ)
plain_at text = name_at text >>= λ x. if is_reserved x.0 then None else Some x

unfoldable pub dir_at : Read Dir
dir_at = led_at (codes "input") (nothing_at Input) (led_at (codes "output") (nothing_at Output) none_at)

-- whether the text goes on
abbrev pub has_more : List ℕ → Bool
has_more [] = false
has_more (b ∷ text) = true

-- all of the text
abbrev pub ended : {A : Type 0} → A → List ℕ → Option A
ended x [] = Some x
ended x (b ∷ rest) = None

abbrev pub whole : {A : Type 0} → Read A → List ℕ → Option A
whole r text = r text >>= λ x. ended x.0 x.1
