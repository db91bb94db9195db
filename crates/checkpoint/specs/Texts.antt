-- The texts of a state, whole.
use Rattle.std.specs.Prelude.{◌≡◌, ℕ, zero, suc, ◌⊎◌, List, [], ◌∷◌, ◌++◌, length, take, drop, codes, decimal}
use Rattle.std.specs.List.{flat_map}
use Rattle.hex.specs.Hex.{encode_lower}
use Rattle.sha2.specs.Sha256.{sha256}
use Rattle.checkpoint.specs.States.{StateView}

-- what a checkpoint has written: its version, a source, the number of the next tree, and residues in rows
pub record Contents : Type 0 where
  pub version : ℕ
  pub source : List ℕ
  pub next : ℕ
  pub rows : List (List ℕ)

-- a word, a number and a line feed
abbrev pub number_line : List ℕ → ℕ → List ℕ
number_line word n = word ++ decimal n ++ codes "\n"

abbrev pub residue_text : ℕ → List ℕ
residue_text r = codes " " ++ decimal r

-- the residues of a row, each after one space
abbrev pub residues_line : List ℕ → List ℕ
residues_line row = codes "residues" ++ flat_map residue_text row ++ codes "\n"

-- a source with its length before it; a line feed of its own follows it
abbrev pub source_text : List ℕ → List ℕ
source_text source = number_line (codes "problem ") (length source) ++ source ++ codes "\n"

-- all but the last line
abbrev pub body_of : Contents → List ℕ
body_of c = number_line (codes "locus-checkpoint ") c.version ++ source_text c.source
    ++ number_line (codes "next ") c.next ++ flat_map residues_line c.rows

-- the last line, with the digest as 64 lower case hexadecimal digits
abbrev pub seal : List ℕ → List ℕ
seal digest = codes "sha256 " ++ encode_lower digest ++ codes "\n"

-- the whole text, with the SHA-256 digest of its body
abbrev pub text_of : Contents → List ℕ
text_of c = body_of c ++ seal (sha256 (body_of c))

-- so many rows of m numbers
abbrev pub rows_of : ℕ → ℕ → List ℕ → List (List ℕ)
rows_of m zero xs = []
rows_of m (suc count) xs = take m xs ∷ rows_of m count (drop m xs)

-- what a checkpoint of a state writes in a version: a row for each integral, with a residue for each modulus
abbrev pub contents_in : ℕ → StateView → Contents
contents_in version s = record {
  version = version;
  source = s.source;
  next = s.next;
  rows = rows_of (length s.problem.moduli) (length s.problem.integrals) s.residues;
}

-- the one text of a state in a version
abbrev pub text_in : ℕ → StateView → List ℕ
text_in version s = text_of (contents_in version s)

-- a text of the state: that of version 2, or that of version 1 if there is one integral
abbrev pub IsTextOf : StateView → List ℕ → Type 0
IsTextOf s text = (text ≡ text_in 2 s) ⊎ ((length s.problem.integrals ≡ 1) × (text ≡ text_in 1 s))
