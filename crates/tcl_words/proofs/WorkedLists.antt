-- Lists that were parted by hand.
use Rattle.std.proofs.Common.{[], ◌∷◌, codes, refl}
use Rattle.pw_defs.specs.declared.faults.TclFault.TheVariants.{T1, T2}
use Rattle.tcl_words.specs.ListWords.{PartsInto, HasListFault}
use Rattle.tcl_words.proofs.ListLaws.{parts_so, fault_so}

-- braces keep a word together
pub braces_keep_a_word : PartsInto (codes "a {b c} d") (codes "a" ∷ codes "b c" ∷ codes "d" ∷ [])
braces_keep_a_word = parts_so _ _ refl

-- a byte behind a closed word is a fault
pub text_behind_a_brace : HasListFault (codes "{a}b") (T2 (record { line = 1; name = codes "-" }))
text_behind_a_brace = fault_so _ _ refl

-- a brace that is never closed stands at the line where it opens
pub open_brace : HasListFault (codes "a\n{b\n") (T1 (record { line = 2; name = codes "-" }))
open_brace = fault_so _ _ refl

-- the first fault by place counts
pub first_fault_counts : HasListFault (codes "{a}b {c") (T2 (record { line = 1; name = codes "-" }))
first_fault_counts = fault_so _ _ refl

-- nothing is replaced in a list but what a backslash takes along
pub dollars_stay : PartsInto (codes "$x [y] ;#\\n \"a\\tb\" {c\\}d}") (codes "$x" ∷ codes "[y]" ∷ codes ";#\n" ∷ codes "a\tb" ∷ codes "c\\}d" ∷ [])
dollars_stay = parts_so _ _ refl

-- white space of any kind parts words, and a list may be empty
pub no_words : PartsInto (codes " \t\r\n") []
no_words = parts_so _ _ refl
