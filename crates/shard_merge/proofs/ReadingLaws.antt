-- The reading of a text gives a shard exactly if the text is that of the shard, and a refusal exactly if it is that of
-- the text.
use Rattle.std.proofs.Common.{◌≡◌, ◌≢◌, ◌⊎◌, ℕ, ◌≤◌, ◌<◌, true, false, ltb, List, length, Result, Ok, Err, refl, sym, ap, subst, ◌∙◌, arith, inl, inr}
use Rattle.std.specs.Prelude.{IfOk, IfErr}
use Rattle.std.proofs.lemmas.Bool.{ltb-true, ltb-false, lt-ltb, le-ltb}
use Rattle.sha2.specs.Sha256.{sha256}
use Rattle.problem.specs.Sums.{count_of}
use Rattle.checkpoint.specs.Refusals.{IsShort, IsFirstCount}
use Rattle.checkpoint.proofs.WordLaws.{chosen}
use Rattle.shard_merge.specs.Readers.{written_at, shard_of, short_reading, shard_reading}
use Rattle.shard_merge.specs.Refusals.{Writes, IsShardRefusal}
use Rattle.shard_merge.specs.Shards.{ShardView, IsShard}
use Rattle.shard_merge.specs.Steps.{◌>>=◌, Gives}
use Rattle.shard_merge.specs.Texts.{Contents, contents_in, text_in}
use Rattle.shard_merge.specs.declared.shard_error.ShardError.{ShardError}
use Rattle.shard_merge.specs.declared.shard_error.ShardError.TheVariants.{NoMemory, TooLong, NotShard, Damaged, BadVersion, BadBody, ProblemRefused, RangeRefused, LineCount, ResidueCount, ResidueRefused}
use Rattle.shard_merge.proofs.ContentsLaws.{written_without_parts, written_damaged, written_of_version, written_sound}
use Rattle.shard_merge.proofs.ShardLaws.{shard_ok, shard_err, refused_problem, refused_range, refused_lines, refused_counts, refused_residues}
use Rattle.shard_merge.proofs.StepLaws.{same_err, bind_ok, bind_err}
use Rattle.shard_merge.proofs.TextLaws.{written_ok, written_err, written_again, bad_body}
use Rattle.shard_merge.proofs.WrittenShards.{shard_again, shard_written}

-- ---- what the reading gives

pub read_found : (text : List ℕ) (s : ShardView) → shard_reading text ≡ Ok s → text ≡ text_in s
unfolding shard_reading short_reading
read_found text s h =
    elim (chosen (ltb 1052672 (length text)) (Err TooLong) (written_at text >>= (λ c. shard_of c)) (Ok s) h) [
      | inl long ↦ absurd (cc long.1)
      | inr short ↦
          let b = bind_ok (written_at text) (λ c. shard_of c) s short.1 in
          shard_ok text b.0 s (written_ok text b.0 (ltb-false _ _ short.0) b.1) b.2
    ]

pub read_refused : (text : List ℕ) (e : ShardError) → shard_reading text ≡ Err e → IsShardRefusal text e
unfolding shard_reading short_reading
read_refused text e h =
    elim (chosen (ltb 1052672 (length text)) (Err TooLong) (written_at text >>= (λ c. shard_of c)) (Err e) h) [
      | inl long ↦ subst (IsShardRefusal text) (same_err {A = ShardView} TooLong e long.1) (ltb-true _ _ long.0)
      | inr short ↦
          let fits = ltb-false _ _ short.0 in
          elim (bind_err (written_at text) (λ c. shard_of c) e short.1) [
            | inl early ↦ written_err text e fits early
            | inr b ↦ shard_err text b.0 e (written_ok text b.0 fits b.1) b.2
          ]
    ]

-- ---- what it has to give

early : (text : List ℕ) (e : ShardError) → IsShort text → written_at text ≡ Err e → shard_reading text ≡ Err e
unfolding shard_reading short_reading
early text e fits h = let short : ltb 1052672 (length text) ≡ false = le-ltb _ _ fits in rw (short, h) refl

late : (text : List ℕ) (c : Contents) → Writes text c → shard_reading text ≡ shard_of c
unfolding shard_reading short_reading
late text c w =
    let short : ltb 1052672 (length text) ≡ false = le-ltb _ _ w.fits in rw (short, written_again text c w) refl

pub shard_is_read : (text : List ℕ) (s : ShardView) → IsShard s → text ≡ text_in s → shard_reading text ≡ Ok s
shard_is_read text s is has = late text (contents_in s) (shard_written s is text has) ∙ shard_again s is

too_long : (text : List ℕ) → 1052672 < length text → shard_reading text ≡ Err TooLong
unfolding shard_reading
too_long text h = let long : ltb 1052672 (length text) ≡ true = lt-ltb _ _ h in rw long refl

pub refusal_is_read : (text : List ℕ) (e : ShardError) → IsShardRefusal text e → shard_reading text ≡ Err e
refusal_is_read text NoMemory r = absurd r
refusal_is_read text TooLong r = too_long text r
refusal_is_read text NotShard r = early text NotShard r.0 (written_without_parts text r.1)
refusal_is_read text (Damaged kept computed) r =
    let p = r.1 in
    let is : ◌≡◌ {A = ShardError} (Damaged p.kept computed) (Damaged kept computed) =
    ap (λ (k : List ℕ). Damaged k computed) (sym r.3) in
    let digest : ◌≡◌ {A = ShardError} (Damaged p.kept (sha256 p.body)) (Damaged p.kept computed) =
    ap (λ (k : List ℕ). Damaged p.kept k) (sym r.4) in
    let other : p.kept ≢ sha256 p.body = λ same. r.5 (r.3 ∙ same ∙ sym r.4) in
    early text (Damaged kept computed) r.0
    (written_damaged text p r.2 other ∙ ap (λ (e : ShardError). Err e) (digest ∙ is))
refusal_is_read text (BadVersion version) r =
    let p = r.1 in
    early text (BadVersion version) r.0
    (written_of_version text p r.2 r.3 (λ one. r.5 (r.4 ∙ one)) ∙ ap (λ (v : ℕ). Err (BadVersion v)) (sym r.4))
refusal_is_read text BadBody r =
    let p = r.1 in
    early text BadBody r.0 (written_sound text p r.2 r.3 r.4 ∙ bad_body text r.0 p r.2 r.5 r.4)
refusal_is_read text (ProblemRefused why) r = late text r.0 r.1 ∙ refused_problem r.0 why r.2
refusal_is_read text (RangeRefused first end count) r =
    let c = r.0 in
    let p = r.1 in
    let n = count_of p in
    let bad = subst (λ (k : ℕ). (end ≤ first) ⊎ (k < end)) r.5 r.6 in
    let there = subst (λ (k : ℕ). (end ≤ k) ⊎ (n < end)) r.3 bad in
    late text c r.2.writes ∙ refused_range text c p r.2 (subst (λ (k : ℕ). (k ≤ c.first) ⊎ (n < k)) r.4 there)
    ∙ ap (λ (k : ℕ). Err (RangeRefused k c.end n)) (sym r.3) ∙ ap (λ (k : ℕ). Err (RangeRefused first k n)) (sym r.4)
    ∙ ap (λ (k : ℕ). Err (RangeRefused first end k)) (sym r.5)
refusal_is_read text (LineCount found wanted) r =
    let c = r.0 in
    let p = r.1 in
    late text c r.2.written.writes ∙ refused_lines text c p r.2 (λ same. r.5 (r.3 ∙ same ∙ sym r.4))
    ∙ ap (λ (n : ℕ). Err (LineCount n (length p.integrals))) (sym r.3)
    ∙ ap (λ (n : ℕ). Err (LineCount found n)) (sym r.4)
refusal_is_read text (ResidueCount found wanted) r =
    let c = r.0 in
    let p = r.1 in
    late text c r.2.written.written.writes
    ∙ refused_counts text c p found r.2 (subst (λ (n : ℕ). IsFirstCount c.rows n found) r.3 r.4)
    ∙ ap (λ (n : ℕ). Err (ResidueCount found n)) (sym r.3)
refusal_is_read text (ResidueRefused place) r =
    let c = r.0 in
    let p = r.1 in
    late text c r.2.written.written.written.writes ∙ refused_residues text c p place r.2 r.3

-- ---- what a call answers that gives the reading

module _ (result : Result ShardView ShardError) (text : List ℕ) (gives : Gives (λ s. s) result (shard_reading text)) where
  pub gives_shard : IfOk result (λ s. text ≡ text_in s)
  gives_shard = go result gives
    where
      go : (r : Result ShardView ShardError) → Gives (λ s. s) r (shard_reading text) → IfOk r (λ s. text ≡ text_in s)
      go (Ok s) h = read_found text s h
      go (Err e) h = tt

  pub gives_refusal : IfErr result (λ e. e ≢ NoMemory → IsShardRefusal text e)
  gives_refusal = go result gives
    where
      go : (r : Result ShardView ShardError) → Gives (λ s. s) r (shard_reading text)
          → IfErr r (λ e. e ≢ NoMemory → IsShardRefusal text e)
      go (Ok s) h = tt
      go (Err e) h = λ known. read_refused text e (h known)

  -- the reading is all that it gives
  pub gives_only : (read : Result ShardView ShardError) → shard_reading text ≡ read → Gives (λ s. s) result read
  gives_only read is = subst (λ (r : Result ShardView ShardError). Gives (λ s. s) result r) is gives
