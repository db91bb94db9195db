-- The text of a shard, whole.
use Rattle.std.specs.Prelude.{ℕ, List, ◌++◌, length, codes, decimal}
use Rattle.std.specs.List.{flat_map}
use Rattle.sha2.specs.Sha256.{sha256}
use Rattle.checkpoint.specs.Texts.{number_line, residues_line, rows_of, seal, source_text}
use Rattle.shard_merge.specs.Shards.{ShardView}

-- what the text of a shard has written: a source, a range, and residues in rows
pub record Contents : Type 0 where
  pub source : List ℕ
  pub first : ℕ
  pub end : ℕ
  pub rows : List (List ℕ)

-- the first number of a range and its end
abbrev pub range_line : ℕ → ℕ → List ℕ
range_line first end = codes "range " ++ decimal first ++ codes " " ++ decimal end ++ codes "\n"

-- all but the first line and the last
abbrev pub rest_of : Contents → List ℕ
rest_of c = source_text c.source ++ range_line c.first c.end ++ flat_map residues_line c.rows

-- all but the last line
abbrev pub body_of : Contents → List ℕ
body_of c = number_line (codes "locus-shard ") 1 ++ rest_of c

-- the whole text, with the SHA-256 digest of its body
abbrev pub text_of : Contents → List ℕ
text_of c = body_of c ++ seal (sha256 (body_of c))

-- what the text of a shard writes: a row for each integral, with a residue for each modulus
abbrev pub contents_in : ShardView → Contents
contents_in s = record {
  source = s.source;
  first = s.first;
  end = s.end;
  rows = rows_of (length s.problem.moduli) (length s.problem.integrals) s.residues;
}

-- the one text of a shard
abbrev pub text_in : ShardView → List ℕ
text_in s = text_of (contents_in s)
