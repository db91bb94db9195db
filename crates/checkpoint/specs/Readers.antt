-- What the steps of reading give. These serve the proofs alone: what a text of a state is, and when a text is refused,
-- is said in Texts and Refusals, and the contract of `read` speaks of those.
use Rattle.std.specs.Prelude.{ℕ, zero, suc, ◌+◌, ◌-◌, ◌*◌, ◌^◌, min, List, [], ◌∷◌, length, take, drop, codes, Bool, true, false, not, ◌&&◌, ◌||◌, ◌==◌, nat_lt, nat_le, bytes_eq, Option, Some, None, option_map, ok_or, Result, Ok, Err, if◌then◌else◌}
use Rattle.std.specs.List.{concat}
use Rattle.std.specs.Result.{result_ok}
use Rattle.hex.specs.Hex.{encode_lower, decode_sized}
use Rattle.sha2.specs.Sha256.{sha256}
use Rattle.localisation.specs.Agreement.{modulus_at}
use Rattle.problem.specs.Rules.{ProblemView}
use Rattle.problem.specs.Sums.{count_of}
use Rattle.problem_toml.specs.Reading.{reading}
use Rattle.problem_toml.specs.declared.error.ProblemError.{ProblemError}
use Rattle.checkpoint.specs.States.{StateView}
use Rattle.checkpoint.specs.Steps.{◌>>=◌, keep}
use Rattle.checkpoint.specs.Texts.{Contents}
use Rattle.checkpoint.specs.declared.error.CheckpointError.{CheckpointError}
use Rattle.checkpoint.specs.declared.error.CheckpointError.TheVariants.{TooLong, NotCheckpoint, Damaged, BadVersion, BadBody, ProblemRefused, NextTooLarge, LineCount, ResidueCount, ResidueRefused}

-- two steps, of which the second uses what the first found
abbrev pub and_then : {A B : Type 0} → Option A → (A → Option B) → Option B
and_then None f = None
and_then (Some x) f = f x

-- ---- words and numbers

-- what follows a word at the start of a text
abbrev pub after_word : List ℕ → List ℕ → Option (List ℕ)
after_word word text = if bytes_eq (take (length word) text) word then Some (drop (length word) text) else None

-- what stands before a word at the end of a text
abbrev pub before_word : List ℕ → List ℕ → Option (List ℕ)
before_word word text =
    if bytes_eq (drop (length text - length word) text) word then Some (take (length text - length word) text) else None

abbrev pub is_digit : ℕ → Bool
is_digit b = nat_le 48 b && nat_le b 57

-- the number that the digits at the start of a text write after those of n, and what follows them
abbrev pub number_from : ℕ → List ℕ → Option (ℕ × List ℕ)
number_from n [] = Some (n, [])
number_from n (b ∷ bs) =
    if is_digit b then (if nat_lt (n * 10 + (b - 48)) (2 ^ 64) then number_from (n * 10 + (b - 48)) bs else None) else Some (n, b ∷ bs)

-- a digit stands first, and no 0 before another digit
abbrev pub starts_decimal : List ℕ → Bool
starts_decimal [] = false
starts_decimal (b ∷ []) = is_digit b
starts_decimal (b ∷ c ∷ bs) = is_digit b && not (b == 48 && is_digit c)

-- the decimal at the start of a text, and what follows it
unfoldable pub decimal_at : List ℕ → Option (ℕ × List ℕ)
decimal_at text = if starts_decimal text then number_from 0 text else None

-- the number of a line that begins with a word, and what follows the line
unfoldable pub number_line_at : List ℕ → List ℕ → Option (ℕ × List ℕ)
number_line_at word text = and_then (after_word word text) (λ rest. and_then (decimal_at rest) (λ x.
    option_map (λ rest. (x.0, rest)) (after_word (codes "\n") x.1)))

-- ---- the last line and the first

-- the bytes that 64 lower case hexadecimal digits write
unfoldable pub digest_of : List ℕ → Option (List ℕ)
digest_of digits =
    and_then (result_ok (decode_sized digits 32))
    (λ bytes. if bytes_eq (encode_lower bytes) digits then Some bytes else None)

-- all but the last line, and the digest that it keeps
unfoldable pub unsealed_at : List ℕ → Option (List ℕ × List ℕ)
unsealed_at text = and_then (after_word (codes "sha256 ") (drop (length text - 72) text)) (λ rest.
    and_then (before_word (codes "\n") rest)
    (λ digits. option_map (λ kept. (take (length text - 72) text, kept)) (digest_of digits)))

-- ---- rows of residues

abbrev pub starts_with_space : List ℕ → Bool
starts_with_space [] = false
starts_with_space (b ∷ bs) = b == 32

abbrev pub goes_on : List ℕ → Bool
goes_on [] = false
goes_on (b ∷ bs) = true

-- items one after the other, as long as the test holds, but not more than n
unfoldable pub many : {X : Type 0} → (List ℕ → Bool) → (List ℕ → Result (X × List ℕ) CheckpointError) → ℕ → List ℕ
    → Result (List X × List ℕ) CheckpointError
many more item zero text = if more text then Err BadBody else Ok ([], text)
many more item (suc n) text =
    if more text then (item text >>= λ x. many more item n x.1 >>= λ xs. Ok (x.0 ∷ xs.0, xs.1)) else Ok ([], text)

-- a residue after one space
unfoldable pub residue_at : List ℕ → Result (ℕ × List ℕ) CheckpointError
residue_at text = do
  rest ← ok_or (after_word (codes " ") text) BadBody
  ok_or (decimal_at rest) BadBody

unfoldable pub residues_at : List ℕ → Result (List ℕ × List ℕ) CheckpointError
residues_at text = many starts_with_space residue_at (length text) text

-- a line of residues
unfoldable pub row_at : List ℕ → Result (List ℕ × List ℕ) CheckpointError
row_at text = do
  rest ← ok_or (after_word (codes "residues") text) BadBody
  x ← residues_at rest
  rest ← ok_or (after_word (codes "\n") x.1) BadBody
  if length x.0 == 0 then Err BadBody else Ok (x.0, rest)

unfoldable pub rows_at : List ℕ → Result (List (List ℕ) × List ℕ) CheckpointError
rows_at text = many goes_on row_at (length text) text

-- ---- the body

-- a source, whose length stands before it, and what follows its line feed
unfoldable pub source_at : List ℕ → Option (List ℕ × List ℕ)
source_at text = and_then (number_line_at (codes "problem ") text) (λ x.
    if nat_lt (length x.1) x.0 then None
    else option_map (λ rest. (take x.0 x.1, rest)) (after_word (codes "\n") (drop x.0 x.1)))

unfoldable pub contents_at : ℕ → List ℕ → Result Contents CheckpointError
contents_at version text = do
  source ← ok_or (source_at text) BadBody
  next ← ok_or (number_line_at (codes "next ") source.1) BadBody
  rows ← rows_at next.1
  if length rows.0 == 0 || (version == 1 && not (length rows.0 == 1)) then Err BadBody
      else Ok (record { version = version; source = source.0; next = next.0; rows = rows.0 })

unfoldable pub sound_at : List ℕ → List ℕ → ℕ → List ℕ → Result Contents CheckpointError
sound_at kept body version rest = do
  _ ← keep (bytes_eq kept (sha256 body)) (Damaged kept (sha256 body))
  _ ← keep (version == 1 || version == 2) (BadVersion version)
  contents_at version rest

-- what a text writes
unfoldable pub written_at : List ℕ → Result Contents CheckpointError
written_at text = do
  sealed ← ok_or (unsealed_at text) NotCheckpoint
  first ← ok_or (number_line_at (codes "locus-checkpoint ") sealed.0) NotCheckpoint
  sound_at sealed.1 sealed.0 first.0 first.1

-- ---- against the problem

abbrev pub problem_or_refusal : Result ProblemView ProblemError → Result ProblemView CheckpointError
problem_or_refusal (Ok p) = Ok p
problem_or_refusal (Err why) = Err (ProblemRefused why)

-- a count as 32 bits hold it
abbrev pub shown_count : ℕ → ℕ
shown_count count = min count (2 ^ 32 - 1)

abbrev pub counts_fit : ℕ → List (List ℕ) → Result (Unit {0}) CheckpointError
counts_fit wanted [] = Ok tt
counts_fit wanted (row ∷ rows) = do
  _ ← keep (length row == wanted) (ResidueCount (shown_count (length row)) wanted)
  counts_fit wanted rows

-- each residue, from the one at an index on, is below its modulus
abbrev pub residues_fit : List ℕ → ℕ → List ℕ → Result (Unit {0}) CheckpointError
residues_fit moduli place [] = Ok tt
residues_fit moduli place (r ∷ rs) = do
  _ ← keep (nat_lt r (modulus_at moduli place)) (ResidueRefused (shown_count place))
  residues_fit moduli (place + 1) rs

unfoldable pub state_of : Contents → Result StateView CheckpointError
state_of c = do
  p ← problem_or_refusal (reading c.source)
  _ ← keep (nat_le c.next (count_of p)) (NextTooLarge c.next (count_of p))
  _ ← keep (length c.rows == length p.integrals) (LineCount (shown_count (length c.rows)) (length p.integrals))
  _ ← counts_fit (length p.moduli) c.rows
  _ ← residues_fit p.moduli 0 (concat c.rows)
  Ok (record { source = c.source; problem = p; next = c.next; residues = concat c.rows })

-- ---- the whole

unfoldable pub short_reading : List ℕ → Result StateView CheckpointError
short_reading text = do
  c ← written_at text
  state_of c

unfoldable pub checkpoint_reading : List ℕ → Result StateView CheckpointError
checkpoint_reading text = if nat_lt 1052672 (length text) then Err TooLong else short_reading text
