-- What the reading of a text gives, and what a text is: each is the other.
use Rattle.std.proofs.Common.{◌≡◌, ◌≢◌, ℕ, zero, suc, ◌+◌, ◌-◌, ◌^◌, ◌≤◌, ◌<◌, cond, eqb, ◌||◌, List, [], ◌∷◌, ◌++◌, length, get_or, take, Option, Some, None, Result, Ok, Err, refl, sym, ap, subst, ◌∙◌, inl, inr, length-append, arith}
use Rattle.std.specs.Prelude.{codes, decimal, ok_or, bytes_eq}
use Rattle.std.specs.Int.{byte_at, bytes_high_first, w32, to_be_bytes}
use Rattle.std.specs.List.{concat, flat_map}
use Rattle.std.proofs.lemmas.Bool.{both_ways}
use Rattle.std.proofs.lemmas.Option.{some_pair_parts}
use Rattle.std.proofs.lemmas.Slice.Eq.{bytes_eq-Decides}
use Rattle.sha2.specs.Sha256.{sha256, digest_bytes, final_hash, initial_hash_256}
use Rattle.sha2.proofs.Facts256.{length-sha256}
use Rattle.checkpoint.specs.Readers.{number_line_at, unsealed_at, contents_at, sound_at, written_at, shown_count, residue_at, starts_with_space}
use Rattle.checkpoint.specs.Refusals.{IsShort, IsDigest, Parts, SplitsInto, IsKnownVersion, AreContents, Writes, IsCheckpointRefusal}
use Rattle.checkpoint.specs.Steps.{◌>>=◌, keep}
use Rattle.checkpoint.specs.Texts.{Contents, number_line, source_text, residue_text, residues_line, body_of, seal}
use Rattle.checkpoint.specs.declared.error.CheckpointError.{CheckpointError}
use Rattle.checkpoint.specs.declared.error.CheckpointError.TheVariants.{NotCheckpoint, Damaged, BadVersion, BadBody}
use Rattle.checkpoint.proofs.BodyLaws.{rest_of, body_is, ContentsIn, contents_take, contents_again, contents_err, parts_take, parts_sealed, parts_first, known_test, unknown_test, written_sound}
use Rattle.checkpoint.proofs.Decimals.{number_line_again}
use Rattle.checkpoint.proofs.Fits.{keep_ok, keep_err}
use Rattle.checkpoint.proofs.RowLaws.{IsNumber, rows_long, spelled_long}
use Rattle.checkpoint.proofs.WordLaws.{bind_ok, bind_err, ok_or_ok, ok_or_err}

-- ---- a digest that SHA-256 gives is 32 bytes

byte_small : (i n : ℕ) → byte_at i n < 256
byte_small zero n = omega arith
byte_small (suc i) n = omega arith

abbrev Small : List ℕ → Type 0
Small xs = (i : ℕ) → get_or xs i 0 < 256

high_first_small : (k n : ℕ) → Small (bytes_high_first k n)
high_first_small zero n i = omega arith
high_first_small (suc k) n zero = byte_small k n
high_first_small (suc k) n (suc i) = high_first_small k n i

append_small : (xs ys : List ℕ) → Small xs → Small ys → Small (xs ++ ys)
append_small [] ys h k i = k i
append_small (x ∷ xs) ys h k zero = h zero
append_small (x ∷ xs) ys h k (suc i) = append_small xs ys (λ j. h (suc j)) k i

digest_small : (h : List ℕ) (n : ℕ) → Small (digest_bytes h n)
unfolding digest_bytes
digest_small h zero i = omega arith
digest_small h (suc n) i =
    append_small (digest_bytes h n) (to_be_bytes w32 (get_or h n 0)) (digest_small h n)
    (high_first_small 4 (get_or h n 0)) i

sha256_small : (m : List ℕ) → Small (sha256 m)
unfolding sha256
sha256_small m = digest_small (final_hash initial_hash_256 m) 8

pub sha256_digest : (m : List ℕ) → IsDigest (sha256 m)
sha256_digest m = record { count = length-sha256 m; bytes = sha256_small m }

-- ---- how much a text can write

pub row_in : (rows : List (List ℕ)) (i : ℕ) → length (get_or rows i []) ≤ length (concat rows)
row_in [] i = omega arith
row_in (row ∷ rows) zero = omega (arith, length-append row (concat rows))
row_in (row ∷ rows) (suc i) = omega (arith, length-append row (concat rows), row_in rows i)

row_long : (row : List ℕ) → length row ≤ length (residues_line row)
row_long row =
    let long =
    spelled_long starts_with_space residue_at residue_text IsNumber
    (λ r. omega (arith, length-append (codes " ") (decimal r))) row in
    omega (arith, long, length-append (codes "residues" ++ flat_map residue_text row) (codes "\n"), length-append (codes "residues") (flat_map residue_text row))

pub concat_long : (rows : List (List ℕ)) → length (concat rows) ≤ length (flat_map residues_line rows)
concat_long [] = omega arith
concat_long (row ∷ rows) =
    omega (arith, length-append row (concat rows), length-append (residues_line row) (flat_map residues_line rows), row_long row, concat_long rows)

rows_in_text : (text a s n f k : List ℕ) → text ≡ a ++ s ++ n ++ f ++ k → length f ≤ length text
rows_in_text text a s n f k h =
    let e : length text ≡ length (a ++ s ++ n ++ f ++ k) = ap length h in
    omega (arith, e, length-append (a ++ s ++ n ++ f) k, length-append (a ++ s ++ n) f)

pub record Sizes (c : Contents) : Type 0 where
  pub rows : shown_count (length c.rows) ≡ length c.rows
  pub row : (i : ℕ) → shown_count (length (get_or c.rows i [])) ≡ length (get_or c.rows i [])
  pub place : (i : ℕ) → i < length (concat c.rows) → shown_count i ≡ i

pub sizes : (text : List ℕ) (c : Contents) → Writes text c → Sizes c
sizes text c w =
    let f = flat_map residues_line c.rows in
    let most =
    rows_in_text text (number_line (codes "locus-checkpoint ") c.version) (source_text c.source)
    (number_line (codes "next ") c.next) f (seal (sha256 (body_of c))) w.whole in
    record {
      rows = omega (arith, most, w.fits, rows_long c.rows);
      row = λ i. omega (arith, most, w.fits, concat_long c.rows, row_in c.rows i);
      place = λ i lt. omega (arith, most, w.fits, concat_long c.rows, lt);
    }

-- ---- the contents of a text

known_small : (v : ℕ) → IsKnownVersion v → v < 2 ^ 64
known_small v (inl one) = omega arith
known_small v (inr two) = omega arith

abbrev pub parts_of : Contents → Parts
parts_of c = record { kept = sha256 (body_of c); body = body_of c; version = c.version; rest = rest_of c }

pub written_parts : (text : List ℕ) (c : Contents) → Writes text c → SplitsInto text (parts_of c)
written_parts text c w = record {
  whole = w.whole;
  digest = sha256_digest (body_of c);
  first_line = body_is c;
  version = known_small c.version w.contents.version;
}

pub written_again : (text : List ℕ) (c : Contents) → Writes text c → written_at text ≡ Ok c
written_again text c w =
    written_sound text (parts_of c) (written_parts text c w) refl w.contents.version ∙ contents_again c w.contents

-- the contents of sound parts, and their fault
module _ (text : List ℕ) (fits : IsShort text) (p : Parts) (has : SplitsInto text p) where
  written_whole : (c : Contents) → p.kept ≡ sha256 p.body → ContentsIn p.version p.rest c → Writes text c
  written_whole c sound found =
      let body : p.body ≡ body_of c = has.first_line ∙ ap (λ (v : ℕ). number_line (codes "locus-checkpoint ") v ++ p.rest) (sym found.version_is)
      ∙ ap (λ (r : List ℕ). number_line (codes "locus-checkpoint ") c.version ++ r) found.parts ∙ sym (body_is c) in
      record {
        fits = fits;
        contents = found.contents;
        whole = has.whole ∙ ap (λ (k : List ℕ). p.body ++ seal k) sound
            ∙ ap (λ (b : List ℕ). b ++ seal (sha256 b)) body;
      }

  sound_ok : (c : Contents) → sound_at p.kept p.body p.version p.rest ≡ Ok c → Writes text c
  unfolding sound_at
  sound_ok c h =
      let a =
      keep_ok (bytes_eq p.kept (sha256 p.body)) (Damaged p.kept (sha256 p.body))
      (keep (eqb p.version 1 || eqb p.version 2) (BadVersion p.version) >>= (λ _. contents_at p.version p.rest)) c h in
      let b =
      keep_ok (eqb p.version 1 || eqb p.version 2) (BadVersion p.version) (contents_at p.version p.rest) c a.1 in
      written_whole c ((bytes_eq-Decides p.kept (sha256 p.body)).0 a.0)
      (contents_take p.version p.rest c (known_test p.version b.0) b.1)

  -- a body that is refused is that of no contents
  no_contents : (e : CheckpointError) → contents_at p.version p.rest ≡ Err e → (c : Contents) → AreContents c
      → p.body ≢ body_of c
  no_contents e h c are same =
      let here : number_line_at (codes "locus-checkpoint ") p.body ≡ Some (c.version, rest_of c) = ap (number_line_at (codes "locus-checkpoint ")) (same ∙ body_is c)
      ∙ number_line_again (codes "locus-checkpoint ") c.version (rest_of c) (known_small c.version are.version) in
      let pair = some_pair_parts p.version c.version p.rest (rest_of c) (sym (parts_first text p has) ∙ here) in
      let read : contents_at p.version p.rest ≡ Ok c =
      ap (λ (v : ℕ). contents_at v p.rest) pair.0 ∙ ap (contents_at c.version) pair.1 ∙ contents_again c are in
      let clash = sym h ∙ read in
      cc clash

  sound_err : (e : CheckpointError) → sound_at p.kept p.body p.version p.rest ≡ Err e → IsCheckpointRefusal text e
  unfolding sound_at
  sound_err e h =
      elim (keep_err (bytes_eq p.kept (sha256 p.body)) (Damaged p.kept (sha256 p.body)) e (keep (eqb p.version 1 || eqb p.version 2) (BadVersion p.version) >>= (λ _. contents_at p.version p.rest)) h) [
        | inl damaged ↦ subst (IsCheckpointRefusal text) damaged.1 (fits, p, has, refl, refl, λ same. both_ways _ damaged.0 ((bytes_eq-Decides p.kept (sha256 p.body)).1 same))
        | inr kept ↦
            let sound = (bytes_eq-Decides p.kept (sha256 p.body)).0 kept.0 in
            elim (keep_err (eqb p.version 1 || eqb p.version 2) (BadVersion p.version) e (contents_at p.version p.rest) kept.1) [
              | inl other ↦ subst (IsCheckpointRefusal text) other.1 (fits, p, has, sound, refl, unknown_test p.version other.0)
              | inr known ↦ subst (IsCheckpointRefusal text) (sym (contents_err p.version p.rest e known.1)) (fits, p, has, sound, known_test p.version known.0, no_contents e known.1)
            ]
      ]

  pub bad_body : ((c : Contents) → AreContents c → p.body ≢ body_of c) → IsKnownVersion p.version
      → contents_at p.version p.rest ≡ Err BadBody
  bad_body none known = by_result (contents_at p.version p.rest) refl
    where
      by_result : (r : Result Contents CheckpointError) → contents_at p.version p.rest ≡ r → r ≡ Err BadBody
      by_result (Ok c) h =
          let found = contents_take p.version p.rest c known h in
          absurd
          (none c found.contents (has.first_line ∙ ap (λ (v : ℕ). number_line (codes "locus-checkpoint ") v ++ p.rest) (sym found.version_is)
          ∙ ap (λ (r : List ℕ). number_line (codes "locus-checkpoint ") c.version ++ r) found.parts ∙ sym (body_is c)))
      by_result (Err e) h = ap (λ (d : CheckpointError). Err d) (contents_err p.version p.rest e h)

-- ---- a whole text

abbrev first_step : List ℕ × List ℕ → Result Contents CheckpointError
first_step sealed =
    ok_or (number_line_at (codes "locus-checkpoint ") sealed.0) NotCheckpoint >>=
    (λ first. sound_at sealed.1 sealed.0 first.0 first.1)

pub written_ok : (text : List ℕ) (c : Contents) → IsShort text → written_at text ≡ Ok c → Writes text c
unfolding written_at
written_ok text c fits h =
    let a = bind_ok (ok_or (unsealed_at text) NotCheckpoint) first_step c h in
    let b =
    bind_ok (ok_or (number_line_at (codes "locus-checkpoint ") a.0.0) NotCheckpoint)
    (λ first. sound_at a.0.1 a.0.0 first.0 first.1) c a.2 in
    let p : Parts = record { kept = a.0.1; body = a.0.0; version = b.0.0; rest = b.0.1 } in
    sound_ok text fits p (parts_take text a.0.0 a.0.1 b.0.0 b.0.1 (ok_or_ok _ _ _ a.1) (ok_or_ok _ _ _ b.1)) c b.2

pub some_none : {A : Type 0} (x : A) (o : Option A) → o ≡ Some x → o ≡ None → ⊥
some_none x o h k = let clash = sym h ∙ k in cc clash

pub written_err : (text : List ℕ) (e : CheckpointError) → IsShort text → written_at text ≡ Err e → IsCheckpointRefusal text e
unfolding written_at
written_err text e fits h =
    elim (bind_err (ok_or (unsealed_at text) NotCheckpoint) first_step e h) [
      | inl first ↦
          let none = ok_or_err _ _ _ first in
          subst (IsCheckpointRefusal text) none.1
          (fits, λ p has. some_none (p.body, p.kept) (unsealed_at text) (parts_sealed text p has) none.0)
      | inr a ↦
          elim (bind_err (ok_or (number_line_at (codes "locus-checkpoint ") a.0.0) NotCheckpoint) (λ first. sound_at a.0.1 a.0.0 first.0 first.1) e a.2) [
            | inl second ↦
                let none = ok_or_err _ _ _ second in
                let sealed = ok_or_ok _ _ _ a.1 in
                subst (IsCheckpointRefusal text) none.1 (
                  fits,
                  λ p has.
                      let same = some_pair_parts p.body a.0.0 p.kept a.0.1 (sym (parts_sealed text p has) ∙ sealed) in
                      some_none (p.version, p.rest) (number_line_at (codes "locus-checkpoint ") a.0.0) (ap (number_line_at (codes "locus-checkpoint ")) (sym same.0) ∙ parts_first text p has) none.0,
                )
            | inr b ↦
                let p : Parts = record { kept = a.0.1; body = a.0.0; version = b.0.0; rest = b.0.1 } in
                sound_err text fits p
                (parts_take text a.0.0 a.0.1 b.0.0 b.0.1 (ok_or_ok _ _ _ a.1) (ok_or_ok _ _ _ b.1)) e b.2
          ]
    ]
