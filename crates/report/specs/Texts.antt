-- The texts that are printed of a sum.
use Rattle.std.specs.Prelude.{ℕ, ◌+◌, List, [], ◌∷◌, ◌++◌, length, codes, decimal, slice_index, nat_lt, if◌then◌else◌, Option, Some, None}
use Rattle.std.specs.Fmt.{signed_decimal}
use Rattle.trees.specs.Texts.{tree_text}
use Rattle.trees.specs.TreeNumbers.{tree_of}
use Rattle.recover_fraction.specs.declared.recovery.Fraction.{Fraction}
use Rattle.problem.specs.Rules.{ProblemView}
use Rattle.problem.specs.Sums.{count_of}
use Rattle.report.specs.Fractions.{residues_of}

-- a word, a space and a number on a line of their own
abbrev pub labelled_line : List ℕ → ℕ → List ℕ
labelled_line word n = word ++ codes " " ++ decimal n ++ codes "\n"

-- `integral <i>`, which is printed exactly if there are two or more integrals
abbrev pub integral_line : ℕ → ℕ → List ℕ
integral_line count i = if nat_lt 1 count then labelled_line (codes "integral") i else []

-- `residue <modulus> <residue>`
abbrev pub residue_line : ℕ → ℕ → List ℕ
residue_line m x = codes "residue " ++ decimal m ++ codes " " ++ decimal x ++ codes "\n"

-- a line for each modulus in order, with its residue
abbrev pub residue_lines : List ℕ → List ℕ → List ℕ
residue_lines [] xs = []
residue_lines (m ∷ ms) [] = []
residue_lines (m ∷ ms) (x ∷ xs) = residue_line m x ++ residue_lines ms xs

-- `fraction <top>/<bottom>`, with a leading `-` if the top is below 0, or `fraction none`
abbrev pub fraction_line : Option Fraction → List ℕ
fraction_line (Some f) = codes "fraction " ++ signed_decimal f.top ++ codes "/" ++ decimal f.bottom ++ codes "\n"
fraction_line None = codes "fraction none\n"

-- the lines of the integral i
abbrev pub integral_lines : ProblemView → List ℕ → ℕ → Option Fraction → List ℕ
integral_lines p residues i found =
    integral_line (length p.integrals) i ++ residue_lines p.moduli (residues_of p residues i) ++ fraction_line found

-- the lines of the integrals from i on
abbrev pub lines_from : ProblemView → List ℕ → ℕ → List (Option Fraction) → List ℕ
lines_from p residues i [] = []
lines_from p residues i (f ∷ fs) = integral_lines p residues i f ++ lines_from p residues (i + 1) fs

-- the count of the trees, and the lines of all integrals
abbrev pub done_text : ProblemView → List ℕ → List (Option Fraction) → List ℕ
done_text p residues found = labelled_line (codes "trees") (count_of p) ++ lines_from p residues 0 found

-- the least bad number, its first modulus and the text of its tree
abbrev pub no_inverse_text : ProblemView → ℕ → ℕ → List ℕ
no_inverse_text p number place =
    codes "no inverse\n" ++ labelled_line (codes "tree") number
    ++ labelled_line (codes "modulus") (slice_index p.moduli place)
    ++ tree_text (tree_of p.shape number) ++ codes "\n"
