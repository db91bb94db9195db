-- What the reading of a text gives, and what a text writes: each is the other.
use Rattle.std.proofs.Common.{◌≡◌, ◌≢◌, ℕ, ◌+◌, ◌≤◌, ◌<◌, eqb, List, [], ◌++◌, length, get_or, Option, Some, None, Result, Ok, Err, refl, sym, ap, subst, ◌∙◌, inl, inr, length-append, arith}
use Rattle.std.specs.Prelude.{codes, ok_or, bytes_eq}
use Rattle.std.specs.List.{concat, flat_map}
use Rattle.std.proofs.lemmas.Bool.{eqb-true, eqb-false, both_ways}
use Rattle.std.proofs.lemmas.Option.{some_pair_parts}
use Rattle.std.proofs.lemmas.Slice.Eq.{bytes_eq-Decides}
use Rattle.sha2.specs.Sha256.{sha256}
use Rattle.checkpoint.specs.Readers.{number_line_at, unsealed_at, shown_count}
use Rattle.checkpoint.specs.Refusals.{IsShort, Parts}
use Rattle.checkpoint.specs.Texts.{number_line, source_text, residues_line, seal}
use Rattle.checkpoint.proofs.Decimals.{number_line_again}
use Rattle.checkpoint.proofs.RowLaws.{rows_long}
use Rattle.checkpoint.proofs.TextLaws.{sha256_digest, row_in, concat_long, some_none}
use Rattle.shard_merge.specs.Readers.{contents_at, sound_at, written_at}
use Rattle.shard_merge.specs.Refusals.{SplitsInto, AreContents, Writes, IsShardRefusal}
use Rattle.shard_merge.specs.Steps.{◌>>=◌, keep}
use Rattle.shard_merge.specs.Texts.{Contents, range_line, rest_of, body_of}
use Rattle.shard_merge.specs.declared.shard_error.ShardError.{ShardError}
use Rattle.shard_merge.specs.declared.shard_error.ShardError.TheVariants.{NotShard, Damaged, BadVersion, BadBody}
use Rattle.shard_merge.proofs.ContentsLaws.{ContentsIn, contents_take, contents_again, contents_err, parts_take, parts_sealed, parts_first, first_step, written_sound}
use Rattle.shard_merge.proofs.StepLaws.{bind_ok, bind_err, ok_or_ok, ok_or_err, keep_ok, keep_err}

-- ---- how much a text can write

rows_in_text : (text a s n f k : List ℕ) → text ≡ (a ++ (s ++ n ++ f)) ++ k → length f ≤ length text
rows_in_text text a s n f k h =
    let e : length text ≡ length ((a ++ (s ++ n ++ f)) ++ k) = ap length h in
    omega (arith, e, length-append (a ++ (s ++ n ++ f)) k, length-append a (s ++ n ++ f), length-append (s ++ n) f)

pub record Sizes (c : Contents) : Type 0 where
  pub rows : shown_count (length c.rows) ≡ length c.rows
  pub row : (i : ℕ) → shown_count (length (get_or c.rows i [])) ≡ length (get_or c.rows i [])
  pub place : (i : ℕ) → i < length (concat c.rows) → shown_count i ≡ i

pub sizes : (text : List ℕ) (c : Contents) → Writes text c → Sizes c
sizes text c w =
    let f = flat_map residues_line c.rows in
    let most =
    rows_in_text text (number_line (codes "locus-shard ") 1) (source_text c.source) (range_line c.first c.end) f
    (seal (sha256 (body_of c))) w.whole in
    record {
      rows = omega (arith, most, w.fits, rows_long c.rows);
      row = λ i. omega (arith, most, w.fits, concat_long c.rows, row_in c.rows i);
      place = λ i lt. omega (arith, most, w.fits, concat_long c.rows, lt);
    }

-- ---- the contents of a text

abbrev pub parts_of : Contents → Parts
parts_of c = record { kept = sha256 (body_of c); body = body_of c; version = 1; rest = rest_of c }

pub written_parts : (text : List ℕ) (c : Contents) → Writes text c → SplitsInto text (parts_of c)
written_parts text c w = record {
  whole = w.whole;
  digest = sha256_digest (body_of c);
  first_line = refl;
  version = omega arith;
}

pub written_again : (text : List ℕ) (c : Contents) → Writes text c → written_at text ≡ Ok c
written_again text c w =
    written_sound text (parts_of c) (written_parts text c w) refl refl ∙ contents_again c w.contents

-- the contents of sound parts, and their fault
module _ (text : List ℕ) (fits : IsShort text) (p : Parts) (has : SplitsInto text p) where
  body_found : (c : Contents) → p.version ≡ 1 → ContentsIn p.rest c → p.body ≡ body_of c
  body_found c one found =
      has.first_line ∙ ap (λ (v : ℕ). number_line (codes "locus-shard ") v ++ p.rest) one
      ∙ ap (λ (r : List ℕ). number_line (codes "locus-shard ") 1 ++ r) found.parts

  written_whole : (c : Contents) → p.kept ≡ sha256 p.body → p.version ≡ 1 → ContentsIn p.rest c → Writes text c
  written_whole c sound one found = record {
    fits = fits;
    contents = found.contents;
    whole = has.whole ∙ ap (λ (k : List ℕ). p.body ++ seal k) sound
        ∙ ap (λ (b : List ℕ). b ++ seal (sha256 b)) (body_found c one found);
  }

  sound_ok : (c : Contents) → sound_at p.kept p.body p.version p.rest ≡ Ok c → Writes text c
  unfolding sound_at
  sound_ok c h =
      let a =
      keep_ok (bytes_eq p.kept (sha256 p.body)) (Damaged p.kept (sha256 p.body))
      (keep (eqb p.version 1) (BadVersion p.version) >>= (λ _. contents_at p.rest)) c h in
      let b = keep_ok (eqb p.version 1) (BadVersion p.version) (contents_at p.rest) c a.1 in
      written_whole c ((bytes_eq-Decides p.kept (sha256 p.body)).0 a.0) (eqb-true _ _ b.0)
      (contents_take p.rest c b.1)

  -- a body that is refused is that of no contents
  no_contents : (e : ShardError) → contents_at p.rest ≡ Err e → (c : Contents) → AreContents c → p.body ≢ body_of c
  no_contents e h c are same =
      let here : number_line_at (codes "locus-shard ") p.body ≡ Some (1, rest_of c) =
      ap (number_line_at (codes "locus-shard ")) same
      ∙ number_line_again (codes "locus-shard ") 1 (rest_of c) (omega arith) in
      let pair = some_pair_parts p.version 1 p.rest (rest_of c) (sym (parts_first text p has) ∙ here) in
      let read : contents_at p.rest ≡ Ok c = ap contents_at pair.1 ∙ contents_again c are in
      let clash = sym h ∙ read in
      cc clash

  sound_err : (e : ShardError) → sound_at p.kept p.body p.version p.rest ≡ Err e → IsShardRefusal text e
  unfolding sound_at
  sound_err e h =
      elim (keep_err (bytes_eq p.kept (sha256 p.body)) (Damaged p.kept (sha256 p.body)) e (keep (eqb p.version 1) (BadVersion p.version) >>= (λ _. contents_at p.rest)) h) [
        | inl damaged ↦ subst (IsShardRefusal text) damaged.1 (fits, p, has, refl, refl, λ same. both_ways _ damaged.0 ((bytes_eq-Decides p.kept (sha256 p.body)).1 same))
        | inr kept ↦
            let sound = (bytes_eq-Decides p.kept (sha256 p.body)).0 kept.0 in
            elim (keep_err (eqb p.version 1) (BadVersion p.version) e (contents_at p.rest) kept.1) [
              | inl other ↦ subst (IsShardRefusal text) other.1 (fits, p, has, sound, refl, eqb-false _ _ other.0)
              | inr known ↦ subst (IsShardRefusal text) (sym (contents_err p.rest e known.1)) (fits, p, has, sound, eqb-true _ _ known.0, no_contents e known.1)
            ]
      ]

  pub bad_body : ((c : Contents) → AreContents c → p.body ≢ body_of c) → p.version ≡ 1
      → contents_at p.rest ≡ Err BadBody
  bad_body none one = by_result (contents_at p.rest) refl
    where
      by_result : (r : Result Contents ShardError) → contents_at p.rest ≡ r → r ≡ Err BadBody
      by_result (Ok c) h =
          let found = contents_take p.rest c h in absurd (none c found.contents (body_found c one found))
      by_result (Err e) h = ap (λ (d : ShardError). Err d) (contents_err p.rest e h)

-- ---- a whole text

pub written_ok : (text : List ℕ) (c : Contents) → IsShort text → written_at text ≡ Ok c → Writes text c
unfolding written_at
written_ok text c fits h =
    let a = bind_ok (ok_or (unsealed_at text) NotShard) first_step c h in
    let b =
    bind_ok (ok_or (number_line_at (codes "locus-shard ") a.0.0) NotShard)
    (λ first. sound_at a.0.1 a.0.0 first.0 first.1) c a.2 in
    let p : Parts = record { kept = a.0.1; body = a.0.0; version = b.0.0; rest = b.0.1 } in
    sound_ok text fits p (parts_take text a.0.0 a.0.1 b.0.0 b.0.1 (ok_or_ok _ _ _ a.1) (ok_or_ok _ _ _ b.1)) c b.2

pub written_err : (text : List ℕ) (e : ShardError) → IsShort text → written_at text ≡ Err e → IsShardRefusal text e
unfolding written_at
written_err text e fits h =
    elim (bind_err (ok_or (unsealed_at text) NotShard) first_step e h) [
      | inl first ↦
          let none = ok_or_err _ _ _ first in
          subst (IsShardRefusal text) none.1
          (fits, λ p has. some_none (p.body, p.kept) (unsealed_at text) (parts_sealed text p has) none.0)
      | inr a ↦
          elim (bind_err (ok_or (number_line_at (codes "locus-shard ") a.0.0) NotShard) (λ first. sound_at a.0.1 a.0.0 first.0 first.1) e a.2) [
            | inl second ↦
                let none = ok_or_err _ _ _ second in
                let sealed = ok_or_ok _ _ _ a.1 in
                subst (IsShardRefusal text) none.1 (
                  fits,
                  λ p has.
                      let same = some_pair_parts p.body a.0.0 p.kept a.0.1 (sym (parts_sealed text p has) ∙ sealed) in
                      some_none (p.version, p.rest) (number_line_at (codes "locus-shard ") a.0.0) (ap (number_line_at (codes "locus-shard ")) (sym same.0) ∙ parts_first text p has) none.0,
                )
            | inr b ↦
                let p : Parts = record { kept = a.0.1; body = a.0.0; version = b.0.0; rest = b.0.1 } in
                sound_err text fits p
                (parts_take text a.0.0 a.0.1 b.0.0 b.0.1 (ok_or_ok _ _ _ a.1) (ok_or_ok _ _ _ b.1)) e b.2
          ]
    ]
