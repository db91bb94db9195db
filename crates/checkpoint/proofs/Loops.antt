-- Reading items one after the other, as a loop does.
use Rattle.std.proofs.Common.{◌≡◌, ℕ, zero, suc, ◌+◌, ◌-◌, ◌≤◌, ◌<◌, Bool, true, false, eqb, List, [], ◌∷◌, ◌++◌, length, Result, Ok, Err, refl, sym, ap, ◌∙◌, append_assoc, length-append, arith}
use Rattle.std.proofs.lemmas.List.{append-nil, nil_from_length}
use Rattle.std.proofs.lemmas.Bool.{eqb-true}
use Rattle.checkpoint.specs.Readers.{many, starts_with_space, goes_on}
use Rattle.checkpoint.specs.Steps.{◌>>=◌}
use Rattle.checkpoint.specs.declared.error.CheckpointError.{CheckpointError}

abbrev pub Reader : Type 0 → Type 0
Reader X = List ℕ → Result (X × List ℕ) CheckpointError

-- what was read, after a prefix
abbrev pub with_prefix : {X : Type 0} → List X → Result (List X × List ℕ) CheckpointError
    → Result (List X × List ℕ) CheckpointError
with_prefix prefix read = read >>= (λ xs. Ok (prefix ++ xs.0, xs.1))

with_one : {X : Type 0} (prefix : List X) (x : X) (read : Result (List X × List ℕ) CheckpointError)
    → with_prefix prefix (read >>= (λ xs. Ok (x ∷ xs.0, xs.1))) ≡ with_prefix (prefix ++ x ∷ []) read
with_one prefix x (Ok xs) = rw append_assoc
with_one prefix x (Err e) = refl

module _ {X : Type 0} (more : List ℕ → Bool) (item : Reader X) where
  many_next : (n : ℕ) (text : List ℕ) (prefix : List X) (x : X) (rest : List ℕ) → more text ≡ true
      → item text ≡ Ok (x, rest)
      → with_prefix prefix (many more item (suc n) text) ≡ with_prefix (prefix ++ x ∷ []) (many more item n rest)
  unfolding many
  many_next n text prefix x rest m read = rw (m, read) (with_one prefix x (many more item n rest))

  many_failed : (n : ℕ) (text : List ℕ) (prefix : List X) (e : CheckpointError) → more text ≡ true → item text ≡ Err e
      → with_prefix prefix (many more item (suc n) text) ≡ Err e
  unfolding many
  many_failed n text prefix e m read = rw (m, read) refl

  many_done : (n : ℕ) (text : List ℕ) (prefix : List X) → more text ≡ false
      → with_prefix prefix (many more item n text) ≡ Ok (prefix, text)
  unfolding many
  many_done zero text prefix m = rw (m, append-nil) refl
  many_done (suc n) text prefix m = rw (m, append-nil) refl

  -- xs were read of a text, and the rest is still to be read
  pub record Continues (text : List ℕ) (xs : List X) (rest : List ℕ) : Type 0 where
    pub goes : (n : ℕ) → with_prefix xs (many more item n rest) ≡ many more item (length xs + n) text
    pub room : length xs + length rest ≤ length text

  with_none : (read : Result (List X × List ℕ) CheckpointError) → with_prefix [] read ≡ read
  with_none (Ok xs) = refl
  with_none (Err e) = refl

  pub begins : (text : List ℕ) → Continues text [] text
  begins text = record { goes = λ n. with_none (many more item n text) ∙ ap (λ k. many more item k text) (omega arith); room = omega arith }

  pub continues : (text : List ℕ) (xs : List X) (rest : List ℕ) (x : X) (after : List ℕ) → Continues text xs rest
      → more rest ≡ true → item rest ≡ Ok (x, after) → length after < length rest
      → Continues text (xs ++ x ∷ []) after
  continues text xs rest x after so_far m read shorter = record {
    goes = λ n. sym (many_next n rest xs x after m read) ∙ so_far.goes (suc n)
        ∙ ap (λ k. many more item k text) (omega (arith, length-append xs (x ∷ [])));
    room = omega (arith, length-append xs (x ∷ []), so_far.room);
  }

  pub fails : (text : List ℕ) (xs : List X) (rest : List ℕ) (e : CheckpointError) → Continues text xs rest
      → more rest ≡ true → 0 < length rest → item rest ≡ Err e
      → many more item (length text) text ≡ Err e
  fails text xs rest e so_far m some read =
      let left : length text ≡ length xs + suc (length text - length xs - 1) = omega (arith, so_far.room) in
      ap (λ k. many more item k text) left ∙ sym (so_far.goes (suc (length text - length xs - 1)))
      ∙ many_failed (length text - length xs - 1) rest xs e m read

  pub ends : (text : List ℕ) (xs : List X) (rest : List ℕ) → Continues text xs rest → more rest ≡ false
      → many more item (length text) text ≡ Ok (xs, rest)
  ends text xs rest so_far m =
      let left : length text ≡ length xs + (length text - length xs) = omega (arith, so_far.room) in
      ap (λ k. many more item k text) left ∙ sym (so_far.goes (length text - length xs))
      ∙ many_done (length text - length xs) rest xs m

pub space_is_some : (text : List ℕ) → starts_with_space text ≡ true → 0 < length text
space_is_some [] h = absurd cc
space_is_some (b ∷ bs) h = omega arith

pub going_is_some : (text : List ℕ) → goes_on text ≡ true → 0 < length text
going_is_some [] h = absurd cc
going_is_some (b ∷ bs) h = omega arith

-- the test that the code makes
pub going : (text : List ℕ) → eqb (length text) 0 ≡ false → goes_on text ≡ true
going [] h = absurd cc
going (b ∷ bs) h = refl

pub gone : (text : List ℕ) → eqb (length text) 0 ≡ true → goes_on text ≡ false
gone [] h = refl
gone (b ∷ bs) h = absurd (omega (arith, eqb-true (length (b ∷ bs)) 0 h))

pub none_left : (text : List ℕ) → eqb (length text) 0 ≡ true → text ≡ []
none_left text h = nil_from_length text (eqb-true _ _ h)
