-- The lines that say why there is no report. Each ends with a newline.
use Rattle.std.specs.Prelude.{◌≡◌, ℕ, List, [], ◌∷◌, ◌++◌, codes, decimal}
use Rattle.pw_defs.specs.declared.faults.Code.{Code}
use Rattle.pw_defs.specs.declared.faults.Code.TheVariants.{F1, F2, L1, L2, L3, N1, N2, N3, N4, N5, N6, N7, N8, N9, N10, N11, N12, M1, M2, M3, M4, M5, M6, T1, T2, T3, T4, U1, U2, U3, U4, U5, U6, U7, U8, U9, U10, U11, U12, U13, U14, U15, U16, U17, U18, X1, X2, X3, X4, X5, Z1}
use Rattle.pw_defs.specs.declared.faults.Refusal.{Refusal}

abbrev pub code_text : Code → List ℕ
code_text F1 = codes "F1"
code_text F2 = codes "F2"
code_text L1 = codes "L1"
code_text L2 = codes "L2"
code_text L3 = codes "L3"
code_text N1 = codes "N1"
code_text N2 = codes "N2"
code_text N3 = codes "N3"
code_text N4 = codes "N4"
code_text N5 = codes "N5"
code_text N6 = codes "N6"
code_text N7 = codes "N7"
code_text N8 = codes "N8"
code_text N9 = codes "N9"
code_text N10 = codes "N10"
code_text N11 = codes "N11"
code_text N12 = codes "N12"
code_text M1 = codes "M1"
code_text M2 = codes "M2"
code_text M3 = codes "M3"
code_text M4 = codes "M4"
code_text M5 = codes "M5"
code_text M6 = codes "M6"
code_text T1 = codes "T1"
code_text T2 = codes "T2"
code_text T3 = codes "T3"
code_text T4 = codes "T4"
code_text U1 = codes "U1"
code_text U2 = codes "U2"
code_text U3 = codes "U3"
code_text U4 = codes "U4"
code_text U5 = codes "U5"
code_text U6 = codes "U6"
code_text U7 = codes "U7"
code_text U8 = codes "U8"
code_text U9 = codes "U9"
code_text U10 = codes "U10"
code_text U11 = codes "U11"
code_text U12 = codes "U12"
code_text U13 = codes "U13"
code_text U14 = codes "U14"
code_text U15 = codes "U15"
code_text U16 = codes "U16"
code_text U17 = codes "U17"
code_text U18 = codes "U18"
code_text X1 = codes "X1"
code_text X2 = codes "X2"
code_text X3 = codes "X3"
code_text X4 = codes "X4"
code_text X5 = codes "X5"
code_text Z1 = codes "Z1"

-- FILE:LINE: CODE NAME
abbrev pub refusal_text : Refusal → List ℕ
refusal_text r = r.file ++ 58 ∷ decimal r.line ++ codes ": " ++ code_text r.code ++ 32 ∷ r.name ++ 10 ∷ []

abbrev pub usage_line : List ℕ
usage_line = codes "upfsign: usage\n"

abbrev pub bound_line : List ℕ
bound_line = codes "upfsign: bound\n"

abbrev pub outside_line : List ℕ
outside_line = codes "upfsign: outside\n"

abbrev pub memory_line : List ℕ
memory_line = codes "upfsign: memory\n"

-- a line that says why there is no report
pub data IsReason (line : List ℕ) : Type 0 where
  refused : (r : Refusal) → line ≡ refusal_text r → IsReason line
  usage : line ≡ usage_line → IsReason line
  bound : line ≡ bound_line → IsReason line
  outside : line ≡ outside_line → IsReason line
  memory : line ≡ memory_line → IsReason line
