-- What an object of the outside holds, if contracts can see it (`Some`).
use Rattle.std.specs.Prelude.{◌≡◌, ℕ, List, [], ◌∷◌, ◌++◌, Option, Some, None, option_map, String, Vec, string_bytes}
use Rattle.std.specs.declared.alloc.Global.{Global}
use Rattle.std.specs.Str.{bytes_eq}
use Rattle.std.specs.Prelude.{if◌then◌else◌}

-- files, each a name and its bytes; the first of a name counts
abbrev pub NamedFiles : Type 0
NamedFiles = List (List ℕ × List ℕ)

abbrev pub file_of : List ℕ → NamedFiles → Option (List ℕ)
file_of name [] = None
file_of name (f ∷ fs) = if bytes_eq f.0 name then Some f.1 else file_of name fs

-- files in memory as names and bytes
abbrev pub told_files : List (String Global × Vec ℕ Global) → NamedFiles
told_files [] = []
told_files (f ∷ fs) = (string_bytes f.0, f.1.items) ∷ told_files fs

-- if the bytes are seen, they grow by this piece
abbrev pub Appends : Option (List ℕ) → Option (List ℕ) → List ℕ → Type 0
Appends old new piece = new ≡ option_map (λ b. b ++ piece) old

-- if the bytes are seen, they grow by the prefix of this text that stands before the rest
pub record AppendsBefore (old new : Option (List ℕ)) (text rest : List ℕ) : Type 0 where
  pub front : List ℕ
  pub whole : front ++ rest ≡ text
  pub appends : Appends old new front

-- if the bytes are seen, they grow by a prefix of this text
abbrev pub AppendsFront : Option (List ℕ) → Option (List ℕ) → List ℕ → Type 0
AppendsFront old new text = (rest : List ℕ) × AppendsBefore old new text rest
