-- What is loaded of a file is the file, or both are too long: so both are read as the same.
use Rattle.std.proofs.Common.{◌≡◌, ℕ, suc, ◌<◌, ◌≤◌, Bool, true, nat_lt, List, length, Option, Some, None, Ok, Err, IfSome, option_map, refl, sym, ap, ◌∙◌, subst, arith, if◌then◌else◌, ⊎_elim, ◌⊎◌, inl, inr, length-take}
use Rattle.std.proofs.lemmas.Bool.{cases_lt}
use Rattle.std.proofs.lemmas.Bool.Decides.{nat_tests}
use Rattle.std.proofs.lemmas.List.{take_all}
use Rattle.locus_io.specs.Content.{NamedFiles, file_of}
use Rattle.problem.specs.Rules.{ProblemView}
use Rattle.problem_toml.specs.Reading.{reading}
use Rattle.problem_toml.specs.declared.error.ProblemError.{ProblemError}
use Rattle.checkpoint.specs.States.{StateView, IsState}
use Rattle.checkpoint.specs.Texts.{IsTextOf}
use Rattle.checkpoint.specs.Refusals.{IsCheckpointRefusal}
use Rattle.checkpoint.specs.Readers.{checkpoint_reading}
use Rattle.checkpoint.specs.declared.error.CheckpointError.{CheckpointError}
use Rattle.checkpoint.proofs.ReadingLaws.{read_found, read_refused, state_is_read, refusal_is_read}
use Rattle.locus_core.specs.Outside.{Change, FilesState, Holds}
use Rattle.locus_core.specs.Steps.{loaded, Loads}

-- two texts are the same, or both are longer than they may be
abbrev AreAlike : ℕ → List ℕ → List ℕ → Type 0
AreAlike most bytes got = (bytes ≡ got) ⊎ ((most < length bytes) × (most < length got))

-- the file of a name has some bytes that are like those that were loaded
record Read (most : ℕ) (files : Change FilesState) (name got : List ℕ) : Type 0 where
  pub bytes : List ℕ
  pub file : Holds files name bytes
  pub alike : AreAlike most bytes got

alike_loaded : (most : ℕ) (file : List ℕ) → AreAlike most file (loaded most file)
unfolding loaded
alike_loaded most file =
    ⊎_elim
    (λ short. inl (sym (take_all (suc most) file (let l : length file ≤ suc most = omega arith in l))))
    (λ long. let cut = length-take (suc most) file in inr (omega arith, omega (arith, cut)))
    (cases_lt (length file) (suc most))

read_by : (most : ℕ) (content : Option NamedFiles) (name got : List ℕ)
    → IfSome content (λ told. option_map (loaded most) (file_of name told) ≡ Some got)
    → (bytes : List ℕ) × IfSome content (λ told. file_of name told ≡ Some bytes) × AreAlike most bytes got
read_by most None name got h = (got, tt, inl refl)
read_by most (Some files) name got h = by_file (file_of name files) refl h
  where
    by_file : (found : Option (List ℕ)) → file_of name files ≡ found → option_map (loaded most) found ≡ Some got
        → (bytes : List ℕ) × (file_of name files ≡ Some bytes) × AreAlike most bytes got
    by_file (Some file) e h = let l : loaded most file ≡ got = cc in (file, e, subst (AreAlike most file) l (alike_loaded most file))
    by_file None e h = absurd (let f : ⊥ = cc in f)

read : (most : ℕ) (files : Change FilesState) (name got : List ℕ) → Loads most files name got → Read most files name got
read most files name got h =
    let (bytes, file, alike) = read_by most files.before.content name got h in
    record { bytes = bytes; file = file; alike = alike }

-- a test that comes first decides of both
both_long : {A : Type 0} (a b : Bool) (x y z : A) → a ≡ true → b ≡ true → (if a then x else y) ≡ (if b then x else z)
both_long a b x y z p q = rw (p, q) refl

above : (n k : ℕ) → n < k → nat_lt n k ≡ true
above n k h = grind (arith, nat_tests)

same_reading : (bytes got : List ℕ) → AreAlike 1048576 bytes got → reading bytes ≡ reading got
unfolding reading
same_reading bytes got (inl same) = ap reading same
same_reading bytes got (inr (long, longer)) =
    both_long (nat_lt 1048576 (length bytes)) (nat_lt 1048576 (length got)) _ _ _ (above _ _ long) (above _ _ longer)

same_checkpoint : (bytes got : List ℕ) → AreAlike 1052672 bytes got → checkpoint_reading bytes ≡ checkpoint_reading got
unfolding checkpoint_reading
same_checkpoint bytes got (inl same) = ap checkpoint_reading same
same_checkpoint bytes got (inr (long, longer)) =
    both_long (nat_lt 1052672 (length bytes)) (nat_lt 1052672 (length got)) _ _ _ (above _ _ long) (above _ _ longer)

-- ---- problems

-- a text that is too long is read as no problem
too_long : (got : List ℕ) (p : ProblemView) → 1048576 < length got → reading got ≡ Ok p → ⊥
unfolding reading
too_long got p long e = let b = above 1048576 (length got) long in cc

-- a text that is read as a problem is the file
pub problem_read : (files : Change FilesState) (name got : List ℕ) (p : ProblemView) → Loads 1048576 files name got → reading got ≡ Ok p
    → Holds files name got
problem_read files name got p h is = by_alike (read 1048576 files name got h)
  where
    by_alike : Read 1048576 files name got → Holds files name got
    by_alike r =
        ⊎_elim (λ same. subst (Holds files name) same r.file) (λ long. absurd (too_long got p long.1 is)) r.alike

pub problem_refused : (files : Change FilesState) (name got : List ℕ) (error : ProblemError) → Loads 1048576 files name got → reading got ≡ Err error
    → (bytes : List ℕ) × Holds files name bytes × (reading bytes ≡ Err error)
problem_refused files name got error h is =
    let r = read 1048576 files name got h in (r.bytes, r.file, same_reading r.bytes got r.alike ∙ is)

-- ---- checkpoints

pub checkpoint_read : (files : Change FilesState) (name got : List ℕ) (s : StateView) → Loads 1052672 files name got → IsState s → IsTextOf s got
    → (bytes : List ℕ) × Holds files name bytes × IsTextOf s bytes
checkpoint_read files name got s h is text =
    let r = read 1052672 files name got h in
    (r.bytes, r.file, read_found r.bytes s (same_checkpoint r.bytes got r.alike ∙ state_is_read got s is text))

pub checkpoint_refused : (files : Change FilesState) (name got : List ℕ) (error : CheckpointError) → Loads 1052672 files name got → IsCheckpointRefusal got error
    → (bytes : List ℕ) × Holds files name bytes × IsCheckpointRefusal bytes error
checkpoint_refused files name got error h refused =
    let r = read 1052672 files name got h in
    (r.bytes, r.file, read_refused r.bytes error (same_checkpoint r.bytes got r.alike ∙ refusal_is_read got error refused))
