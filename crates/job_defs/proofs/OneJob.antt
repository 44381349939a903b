-- Words are one job.
use Rattle.std.proofs.Common.{◌≡◌, ℕ, List, [], ◌∷◌, ◌++◌, sym, ap, ◌∙◌, refl, arith}
use Rattle.std.specs.Prelude.{codes}
use Rattle.std.specs.List.{filter_map, flat_map}
use Rattle.job_defs.specs.Jobs.{Job, JobOption, IsJob, option_words, script_in, top_in}

-- the second byte of the first word, by which the options differ
abbrev second : List (List ℕ) → ℕ
second [] = 0
second ([] ∷ words) = 0
second ((b ∷ []) ∷ words) = 0
second ((b ∷ c ∷ bytes) ∷ words) = c

abbrev Same : JobOption → JobOption → List (List ℕ) → List (List ℕ) → Type 0
Same a b xs ys = (a ≡ b) × (xs ≡ ys)

-- an option is one by its words
same_option : (a b : JobOption) (xs ys : List (List ℕ)) → option_words a ++ xs ≡ option_words b ++ ys → Same a b xs ys
same_option (JobOption.library f) (JobOption.library g) xs ys e = (let same : f ≡ g = cc in cc, cc)
same_option (JobOption.library f) (JobOption.netlist g) xs ys e = let bytes : 108 ≡ 110 = ap second e in absurd (omega (arith, bytes))
same_option (JobOption.library f) (JobOption.script g) xs ys e = let bytes : 108 ≡ 117 = ap second e in absurd (omega (arith, bytes))
same_option (JobOption.library f) (JobOption.top g) xs ys e = let bytes : 108 ≡ 116 = ap second e in absurd (omega (arith, bytes))
same_option (JobOption.netlist f) (JobOption.library g) xs ys e = let bytes : 110 ≡ 108 = ap second e in absurd (omega (arith, bytes))
same_option (JobOption.netlist f) (JobOption.netlist g) xs ys e = (let same : f ≡ g = cc in cc, cc)
same_option (JobOption.netlist f) (JobOption.script g) xs ys e = let bytes : 110 ≡ 117 = ap second e in absurd (omega (arith, bytes))
same_option (JobOption.netlist f) (JobOption.top g) xs ys e = let bytes : 110 ≡ 116 = ap second e in absurd (omega (arith, bytes))
same_option (JobOption.script f) (JobOption.library g) xs ys e = let bytes : 117 ≡ 108 = ap second e in absurd (omega (arith, bytes))
same_option (JobOption.script f) (JobOption.netlist g) xs ys e = let bytes : 117 ≡ 110 = ap second e in absurd (omega (arith, bytes))
same_option (JobOption.script f) (JobOption.script g) xs ys e = (let same : f ≡ g = cc in cc, cc)
same_option (JobOption.script f) (JobOption.top g) xs ys e = let bytes : 117 ≡ 116 = ap second e in absurd (omega (arith, bytes))
same_option (JobOption.top f) (JobOption.library g) xs ys e = let bytes : 116 ≡ 108 = ap second e in absurd (omega (arith, bytes))
same_option (JobOption.top f) (JobOption.netlist g) xs ys e = let bytes : 116 ≡ 110 = ap second e in absurd (omega (arith, bytes))
same_option (JobOption.top f) (JobOption.script g) xs ys e = let bytes : 116 ≡ 117 = ap second e in absurd (omega (arith, bytes))
same_option (JobOption.top f) (JobOption.top g) xs ys e = (let same : f ≡ g = cc in cc, cc)

some_words : (a : JobOption) (xs : List (List ℕ)) → [] ≡ option_words a ++ xs → ⊥
some_words (JobOption.library f) xs e = cc
some_words (JobOption.netlist f) xs e = cc
some_words (JobOption.script f) xs e = cc
some_words (JobOption.top f) xs e = cc

same_options : (xs ys : List JobOption) → flat_map option_words xs ≡ flat_map option_words ys → xs ≡ ys
same_options [] [] e = refl
same_options [] (y ∷ ys) e = absurd (some_words y (flat_map option_words ys) e)
same_options (x ∷ xs) [] e = absurd (some_words x (flat_map option_words xs) (sym e))
same_options (x ∷ xs) (y ∷ ys) e =
    let both = same_option x y (flat_map option_words xs) (flat_map option_words ys) e in
    let first : x ≡ y = both.0 in
    let rest : xs ≡ ys = same_options xs ys both.1 in
    cc

job_with : {o p : List JobOption} {s t u v : List ℕ} → o ≡ p → s ≡ t → u ≡ v
    → (let j : Job = record { options = o; script = s; top = u } in j) ≡ record { options = p; script = t; top = v }
job_with {o} {p} {s} {t} {u} {v} a b c = cc

same_only : (x y : List ℕ) → x ∷ [] ≡ y ∷ [] → x ≡ y
same_only x y e = cc

-- words are one job
pub one_job : (words : List (List ℕ)) (j k : Job) → IsJob words j → IsJob words k → j ≡ k
one_job words j k p q =
    let spelled : codes "flat" ∷ flat_map option_words j.options ≡ codes "flat" ∷ flat_map option_words k.options = sym p.spelled ∙ q.spelled in
    let rest : flat_map option_words j.options ≡ flat_map option_words k.options = cc in
    let options : j.options ≡ k.options = same_options j.options k.options rest in
    job_with options (same_only j.script k.script (sym p.one_script ∙ ap (filter_map script_in) options ∙ q.one_script))
    (same_only j.top k.top (sym p.one_top ∙ ap (filter_map top_in) options ∙ q.one_top))
