-- The reading of a text gives a state exactly if the text is one of the state, and a refusal exactly if it is that of
-- the text.
use Rattle.std.proofs.Common.{◌≡◌, ◌≢◌, ℕ, ◌<◌, true, false, ltb, List, length, Result, Ok, Err, refl, sym, ap, subst, ◌∙◌, arith, inl, inr}
use Rattle.std.specs.Prelude.{IfOk, IfErr}
use Rattle.std.proofs.lemmas.Bool.{ltb-true, ltb-false, lt-ltb, le-ltb}
use Rattle.sha2.specs.Sha256.{sha256}
use Rattle.problem.specs.Sums.{count_of}
use Rattle.checkpoint.specs.Readers.{written_at, state_of, short_reading, checkpoint_reading}
use Rattle.checkpoint.specs.Refusals.{IsShort, IsKnownVersion, Writes, IsFirstCount, IsCheckpointRefusal}
use Rattle.checkpoint.specs.States.{StateView, IsState}
use Rattle.checkpoint.specs.Steps.{◌>>=◌, Gives}
use Rattle.checkpoint.specs.Texts.{Contents, IsTextOf}
use Rattle.checkpoint.specs.declared.error.CheckpointError.{CheckpointError}
use Rattle.checkpoint.specs.declared.error.CheckpointError.TheVariants.{NoMemory, TooLong, NotCheckpoint, Damaged, BadVersion, BadBody, ProblemRefused, NextTooLarge, LineCount, ResidueCount, ResidueRefused}
use Rattle.checkpoint.proofs.BodyLaws.{written_without_parts, written_damaged, written_of_version, written_sound}
use Rattle.checkpoint.proofs.RowLaws.{same_err}
use Rattle.checkpoint.proofs.StateLaws.{state_ok, state_err, refused_problem, refused_next, refused_lines, refused_counts, refused_residues}
use Rattle.checkpoint.proofs.TextLaws.{written_ok, written_err, written_again, bad_body}
use Rattle.checkpoint.proofs.WordLaws.{bind_ok, bind_err, chosen}
use Rattle.checkpoint.proofs.WrittenStates.{written_state}

-- ---- what the reading gives

pub read_found : (text : List ℕ) (s : StateView) → checkpoint_reading text ≡ Ok s → IsTextOf s text
unfolding checkpoint_reading short_reading
read_found text s h =
    elim (chosen (ltb 1052672 (length text)) (Err TooLong) (written_at text >>= (λ c. state_of c)) (Ok s) h) [
      | inl long ↦ absurd (cc long.1)
      | inr short ↦
          let b = bind_ok (written_at text) (λ c. state_of c) s short.1 in
          state_ok text b.0 s (written_ok text b.0 (ltb-false _ _ short.0) b.1) b.2
    ]

pub read_refused : (text : List ℕ) (e : CheckpointError) → checkpoint_reading text ≡ Err e → IsCheckpointRefusal text e
unfolding checkpoint_reading short_reading
read_refused text e h =
    elim (chosen (ltb 1052672 (length text)) (Err TooLong) (written_at text >>= (λ c. state_of c)) (Err e) h) [
      | inl long ↦ subst (IsCheckpointRefusal text) (same_err {A = StateView} TooLong e long.1) (ltb-true _ _ long.0)
      | inr short ↦
          let fits = ltb-false _ _ short.0 in
          elim (bind_err (written_at text) (λ c. state_of c) e short.1) [
            | inl early ↦ written_err text e fits early
            | inr b ↦ state_err text b.0 e (written_ok text b.0 fits b.1) b.2
          ]
    ]

-- ---- what it has to give

early : (text : List ℕ) (e : CheckpointError) → IsShort text → written_at text ≡ Err e → checkpoint_reading text ≡ Err e
unfolding checkpoint_reading short_reading
early text e fits h = let short : ltb 1052672 (length text) ≡ false = le-ltb _ _ fits in rw (short, h) refl

late : (text : List ℕ) (c : Contents) → Writes text c → checkpoint_reading text ≡ state_of c
unfolding checkpoint_reading short_reading
late text c w =
    let short : ltb 1052672 (length text) ≡ false = le-ltb _ _ w.fits in rw (short, written_again text c w) refl

pub state_is_read : (text : List ℕ) (s : StateView) → IsState s → IsTextOf s text → checkpoint_reading text ≡ Ok s
state_is_read text s is has = let w = written_state s text is has in late text w.contents w.writes ∙ w.read

too_long : (text : List ℕ) → 1052672 < length text → checkpoint_reading text ≡ Err TooLong
unfolding checkpoint_reading
too_long text h = let long : ltb 1052672 (length text) ≡ true = lt-ltb _ _ h in rw long refl

pub refusal_is_read : (text : List ℕ) (e : CheckpointError) → IsCheckpointRefusal text e → checkpoint_reading text ≡ Err e
refusal_is_read text NoMemory r = absurd r
refusal_is_read text TooLong r = too_long text r
refusal_is_read text NotCheckpoint r = early text NotCheckpoint r.0 (written_without_parts text r.1)
refusal_is_read text (Damaged kept computed) r =
    let p = r.1 in
    let is : ◌≡◌ {A = CheckpointError} (Damaged p.kept computed) (Damaged kept computed) =
    ap (λ (k : List ℕ). Damaged k computed) (sym r.3) in
    let digest : ◌≡◌ {A = CheckpointError} (Damaged p.kept (sha256 p.body)) (Damaged p.kept computed) =
    ap (λ (k : List ℕ). Damaged p.kept k) (sym r.4) in
    let other : p.kept ≢ sha256 p.body = λ same. r.5 (r.3 ∙ same ∙ sym r.4) in
    early text (Damaged kept computed) r.0
    (written_damaged text p r.2 other ∙ ap (λ (e : CheckpointError). Err e) (digest ∙ is))
refusal_is_read text (BadVersion version) r =
    let p = r.1 in
    early text (BadVersion version) r.0
    (written_of_version text p r.2 r.3 (subst (λ (v : ℕ). ¬ (IsKnownVersion v)) r.4 r.5) ∙ ap (λ (v : ℕ). Err (BadVersion v)) (sym r.4))
refusal_is_read text BadBody r =
    let p = r.1 in
    early text BadBody r.0 (written_sound text p r.2 r.3 r.4 ∙ bad_body text r.0 p r.2 r.5 r.4)
refusal_is_read text (ProblemRefused why) r = late text r.0 r.1 ∙ refused_problem text r.0 why r.2
refusal_is_read text (NextTooLarge next count) r =
    let c = r.0 in
    let p = r.1 in
    late text c r.2.writes ∙ refused_next text c p r.2 (omega (arith, r.3, r.4, r.5))
    ∙ ap (λ (n : ℕ). Err (NextTooLarge n (count_of p))) (sym r.3) ∙ ap (λ (n : ℕ). Err (NextTooLarge next n)) (sym r.4)
refusal_is_read text (LineCount found wanted) r =
    let c = r.0 in
    let p = r.1 in
    late text c r.2.written.writes ∙ refused_lines text c p r.2 (λ same. r.5 (r.3 ∙ same ∙ sym r.4))
    ∙ ap (λ (n : ℕ). Err (LineCount n (length p.integrals))) (sym r.3)
    ∙ ap (λ (n : ℕ). Err (LineCount found n)) (sym r.4)
refusal_is_read text (ResidueCount found wanted) r =
    let c = r.0 in
    let p = r.1 in
    late text c r.2.written.written.writes
    ∙ refused_counts text c p found r.2 (subst (λ (n : ℕ). IsFirstCount c.rows n found) r.3 r.4)
    ∙ ap (λ (n : ℕ). Err (ResidueCount found n)) (sym r.3)
refusal_is_read text (ResidueRefused place) r =
    let c = r.0 in
    let p = r.1 in
    late text c r.2.written.written.written.writes ∙ refused_residues text c p place r.2 r.3

-- ---- what a call answers that gives the reading

module _ (result : Result StateView CheckpointError) (text : List ℕ) (gives : Gives (λ s. s) result (checkpoint_reading text)) where
  pub gives_state : IfOk result (λ s. IsTextOf s text)
  gives_state = go result gives
    where
      go : (r : Result StateView CheckpointError) → Gives (λ s. s) r (checkpoint_reading text)
          → IfOk r (λ s. IsTextOf s text)
      go (Ok s) h = read_found text s h
      go (Err e) h = tt

  pub gives_refusal : IfErr result (λ e. e ≢ NoMemory → IsCheckpointRefusal text e)
  gives_refusal = go result gives
    where
      go : (r : Result StateView CheckpointError) → Gives (λ s. s) r (checkpoint_reading text)
          → IfErr r (λ e. e ≢ NoMemory → IsCheckpointRefusal text e)
      go (Ok s) h = tt
      go (Err e) h = λ known. read_refused text e (h known)

  -- the reading is all that it gives
  pub gives_only : (read : Result StateView CheckpointError) → checkpoint_reading text ≡ read
      → Gives (λ s. s) result read
  gives_only read is = subst (λ (r : Result StateView CheckpointError). Gives (λ s. s) result r) is gives
