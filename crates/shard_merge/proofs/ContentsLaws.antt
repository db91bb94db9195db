-- What a text writes: its last line and its first, its source, its range and its rows. Each is read as it was written,
-- and what is read was written so.
use Rattle.std.proofs.Common.{◌≡◌, ◌≢◌, ℕ, ◌^◌, ◌≤◌, ◌<◌, Bool, true, false, cond, eqb, List, ◌++◌, length, Option, Some, None, Result, Ok, Err, refl, sym, ap, subst, ◌∙◌, inl, inr, append_assoc, arith}
use Rattle.std.specs.Prelude.{codes, decimal, ok_or, option_map, bytes_eq}
use Rattle.std.specs.List.{flat_map}
use Rattle.std.proofs.lemmas.Bool.{eqb-true, eqb-false, eq-eqb, ne_eqb}
use Rattle.sha2.specs.Sha256.{sha256}
use Rattle.checkpoint.specs.Readers.{and_then, after_word, decimal_at, number_line_at, unsealed_at, source_at, rows_at}
use Rattle.checkpoint.specs.Refusals.{Parts}
use Rattle.checkpoint.specs.Texts.{number_line, source_text, residues_line}
use Rattle.checkpoint.proofs.BodyLaws.{source_takes, source_again, bytes_same, bytes_differ}
use Rattle.checkpoint.proofs.Decimals.{starts_digit, decimal_takes, decimal_again, number_line_takes, number_line_again}
use Rattle.checkpoint.proofs.RowLaws.{rows_take, rows_again, rows_err}
use Rattle.checkpoint.proofs.Seals.{unsealed_takes, unsealed_again}
use Rattle.checkpoint.proofs.WordLaws.{and_then_some, option_map_some, chosen, after_word_takes}
use Rattle.checkpoint.specs.declared.error.CheckpointError.TheVariants as states
use Rattle.shard_merge.specs.Readers.{range_at, contents_at, sound_at, written_at}
use Rattle.shard_merge.specs.Refusals.{SplitsInto, AreContents}
use Rattle.shard_merge.specs.Steps.{◌>>=◌, shard_error, of_shard}
use Rattle.shard_merge.specs.Texts.{Contents, range_line, rest_of}
use Rattle.shard_merge.specs.declared.shard_error.ShardError.{ShardError}
use Rattle.shard_merge.specs.declared.shard_error.ShardError.TheVariants.{NotShard, Damaged, BadVersion, BadBody}
use Rattle.shard_merge.proofs.StepLaws.{same_ok, same_err, bind_ok, bind_err, ok_or_ok, ok_or_err, of_shard_ok, of_shard_err}

-- ---- the range

pub record RangeIn (text : List ℕ) (first end : ℕ) (rest : List ℕ) : Type 0 where
  pub parts : text ≡ range_line first end ++ rest
  pub first_fits : first < 2 ^ 64
  pub end_fits : end < 2 ^ 64

regroup_range : (a b c d e r : List ℕ) → a ++ (b ++ ((c ++ d ++ e) ++ r)) ≡ (a ++ b ++ c ++ d ++ e) ++ r
regroup_range a b c d e r = simp append_assoc

abbrev pub ranged : ℕ × List ℕ → Option ((ℕ × ℕ) × List ℕ)
ranged x = option_map (λ y. ((x.0, y.0), y.1)) (number_line_at (codes " ") x.1)

pub range_takes : (text : List ℕ) (x : (ℕ × ℕ) × List ℕ) → range_at text ≡ Some x → RangeIn text x.0.0 x.0.1 x.1
unfolding range_at
range_takes text x h =
    let a =
    and_then_some (after_word (codes "range ") text) (λ rest. and_then (decimal_at rest) (λ y. ranged y)) x h in
    let b = and_then_some (decimal_at a.0) (λ y. ranged y) x a.2 in
    let n = b.0.0 in
    let d = option_map_some (number_line_at (codes " ") b.0.1) (λ y. ((n, y.0), y.1)) x b.2 in
    let word = after_word_takes (codes "range ") text a.0 a.1 in
    let first = decimal_takes a.0 n b.0.1 b.1 in
    let end = number_line_takes (codes " ") b.0.1 d.0.0 d.0.1 d.1 in
    let P : (ℕ × ℕ) × List ℕ → Type 0 = λ y. RangeIn text y.0.0 y.0.1 y.1 in
    subst P d.2 (record {
      parts = word
          ∙ ap (λ (t : List ℕ). codes "range " ++ t)
          (first.parts ∙ ap (λ (t : List ℕ). decimal n ++ t) end.parts)
          ∙ regroup_range (codes "range ") (decimal n) (codes " ") (decimal d.0.0) (codes "\n") d.0.1;
      first_fits = first.fits;
      end_fits = end.fits;
    })

pub range_again : (first end : ℕ) (rest : List ℕ) → first < 2 ^ 64 → end < 2 ^ 64
    → range_at (range_line first end ++ rest) ≡ Some ((first, end), rest)
unfolding range_at
range_again first end rest small fits =
    let last = number_line (codes " ") end ++ rest in
    let regrouped : range_line first end ++ rest ≡ codes "range " ++ (decimal first ++ last) =
    sym (regroup_range (codes "range ") (decimal first) (codes " ") (decimal end) (codes "\n") rest) in
    let ends : starts_digit last ≡ false = refl in
    ap range_at regrouped
    ∙ rw (decimal_again first last small ends, number_line_again (codes " ") end rest fits) refl

-- ---- the lines after the first

abbrev made : List ℕ → ℕ × ℕ → List (List ℕ) → Contents
made source range rows = record { source = source; first = range.0; end = range.1; rows = rows }

abbrev last_step : List ℕ → ℕ × ℕ → List (List ℕ) × List ℕ → Result Contents ShardError
last_step source range rows = cond (eqb (length rows.0) 0) (Err BadBody) (Ok (made source range rows.0))

abbrev row_steps : List ℕ → (ℕ × ℕ) × List ℕ → Result Contents ShardError
row_steps source range = of_shard (rows_at range.1) >>= (λ rows. last_step source range.0 rows)

abbrev range_steps : List ℕ × List ℕ → Result Contents ShardError
range_steps source = ok_or (range_at source.1) BadBody >>= (λ range. row_steps source.0 range)

pub record ContentsIn (text : List ℕ) (c : Contents) : Type 0 where
  pub parts : text ≡ rest_of c
  pub contents : AreContents c

pub contents_take : (text : List ℕ) (c : Contents) → contents_at text ≡ Ok c → ContentsIn text c
unfolding contents_at
contents_take text c h =
    let a = bind_ok (ok_or (source_at text) BadBody) (λ source. range_steps source) c h in
    let b = bind_ok (ok_or (range_at a.0.1) BadBody) (λ range. row_steps a.0.0 range) c a.2 in
    let d = bind_ok (of_shard (rows_at b.0.1)) (λ rows. last_step a.0.0 b.0.0 rows) c b.2 in
    let range = b.0.0 in
    let rows = d.0.0 in
    let first = source_takes text a.0.0 a.0.1 (ok_or_ok _ _ _ a.1) in
    let second = range_takes a.0.1 b.0 (ok_or_ok _ _ _ b.1) in
    let third = rows_take b.0.1 rows d.0.1 (of_shard_ok _ _ d.1) in
    elim (chosen (eqb (length rows) 0) (Err BadBody) (Ok (made a.0.0 range rows)) (Ok c) d.2) [
      | inl bad ↦ absurd (cc bad.1)
      | inr good ↦
          let other = eqb-false (length rows) 0 good.0 in
          subst (ContentsIn text) (same_ok (made a.0.0 range rows) c good.1) (record {
            parts =
                first.parts
                ∙ ap (λ (t : List ℕ). source_text a.0.0 ++ t)
                (second.parts ∙ ap (λ (t : List ℕ). range_line range.0 range.1 ++ t) third.parts)
                ∙ sym (append_assoc (source_text a.0.0) (range_line range.0 range.1) (flat_map residues_line rows));
            contents = record {
              source = first.fits;
              first = second.first_fits;
              end = second.end_fits;
              rows = third.fit;
              some = omega arith;
            };
          })
    ]

pub contents_again : (c : Contents) → AreContents c → contents_at (rest_of c) ≡ Ok c
unfolding contents_at
contents_again c are =
    let after = range_line c.first c.end ++ flat_map residues_line c.rows in
    let regrouped : rest_of c ≡ source_text c.source ++ after =
    append_assoc (source_text c.source) (range_line c.first c.end) (flat_map residues_line c.rows) in
    let some : length c.rows ≢ 0 = λ none. absurd (omega (arith, none, are.some)) in
    ap contents_at regrouped ∙ rw (
      source_again c.source after are.source,
      range_again c.first c.end (flat_map residues_line c.rows) are.first are.end,
      rows_again c.rows are.rows,
      ne_eqb (length c.rows) 0 some,
    ) refl

pub contents_err : (text : List ℕ) (e : ShardError) → contents_at text ≡ Err e → e ≡ BadBody
unfolding contents_at
contents_err text e h =
    elim (bind_err (ok_or (source_at text) BadBody) (λ source. range_steps source) e h) [
      | inl first ↦ sym (ok_or_err _ _ _ first).1
      | inr a ↦
          elim (bind_err (ok_or (range_at a.0.1) BadBody) (λ range. row_steps a.0.0 range) e a.2) [
            | inl second ↦ sym (ok_or_err _ _ _ second).1
            | inr b ↦
                elim (bind_err (of_shard (rows_at b.0.1)) (λ rows. last_step a.0.0 b.0.0 rows) e b.2) [
                  | inl third ↦
                      let f = of_shard_err (rows_at b.0.1) e third in
                      let bad : f.0 ≡ states.BadBody = rows_err b.0.1 f.0 f.1 in
                      sym f.2 ∙ ap shard_error bad
                  | inr d ↦
                      elim (chosen (eqb (length d.0.0) 0) (Err BadBody) (Ok (made a.0.0 b.0.0 d.0.0)) (Err e) d.2) [
                        | inl bad ↦ sym (same_err {A = Contents} BadBody e bad.1)
                        | inr good ↦ absurd (cc good.1)
                      ]
                ]
          ]
    ]

-- ---- the parts of a text

pub parts_take : (text body kept : List ℕ) (v : ℕ) (rest : List ℕ) → unsealed_at text ≡ Some (body, kept)
    → number_line_at (codes "locus-shard ") body ≡ Some (v, rest)
    → SplitsInto text (record { kept = kept; body = body; version = v; rest = rest })
parts_take text body kept v rest sealed first =
    let s = unsealed_takes text body kept sealed in
    let n = number_line_takes (codes "locus-shard ") body v rest first in
    record { whole = s.whole; digest = s.digest; first_line = n.parts; version = n.fits }

pub parts_sealed : (text : List ℕ) (p : Parts) → SplitsInto text p → unsealed_at text ≡ Some (p.body, p.kept)
parts_sealed text p has = ap unsealed_at has.whole ∙ unsealed_again p.body p.kept has.digest

pub parts_first : (text : List ℕ) (p : Parts) → SplitsInto text p
    → number_line_at (codes "locus-shard ") p.body ≡ Some (p.version, p.rest)
parts_first text p has =
    ap (number_line_at (codes "locus-shard ")) has.first_line
    ∙ number_line_again (codes "locus-shard ") p.version p.rest has.version

parts_written : (text : List ℕ) (p : Parts) → SplitsInto text p
    → written_at text ≡ sound_at p.kept p.body p.version p.rest
unfolding written_at
parts_written text p has = rw (parts_sealed text p has, parts_first text p has) refl

-- ---- what is refused before the contents

abbrev pub first_step : List ℕ × List ℕ → Result Contents ShardError
first_step sealed =
    ok_or (number_line_at (codes "locus-shard ") sealed.0) NotShard >>=
    (λ first. sound_at sealed.1 sealed.0 first.0 first.1)

pub written_without_parts : (text : List ℕ) → ((p : Parts) → ¬ (SplitsInto text p)) → written_at text ≡ Err NotShard
unfolding written_at
written_without_parts text none = by_seal (unsealed_at text) refl
  where
    by_first : (body kept : List ℕ) → unsealed_at text ≡ Some (body, kept) → (o : Option (ℕ × List ℕ))
        → number_line_at (codes "locus-shard ") body ≡ o
        → (ok_or o NotShard >>= (λ first. sound_at kept body first.0 first.1)) ≡ Err NotShard
    by_first body kept sealed None h = refl
    by_first body kept sealed (Some x) h =
        absurd
        (none (record { kept = kept; body = body; version = x.0; rest = x.1 }) (parts_take text body kept x.0 x.1 sealed h))

    by_seal : (o : Option (List ℕ × List ℕ)) → unsealed_at text ≡ o
        → (ok_or o NotShard >>= (λ sealed. first_step sealed)) ≡ Err NotShard
    by_seal None h = refl
    by_seal (Some x) h = by_first x.0 x.1 h (number_line_at (codes "locus-shard ") x.0) refl

module _ (text : List ℕ) (p : Parts) (has : SplitsInto text p) where
  pub written_damaged : p.kept ≢ sha256 p.body → written_at text ≡ Err (Damaged p.kept (sha256 p.body))
  unfolding sound_at
  written_damaged other = parts_written text p has ∙ rw (bytes_differ p.kept (sha256 p.body) other) refl

  module _ (sound : p.kept ≡ sha256 p.body) where
    pub written_of_version : p.version ≢ 1 → written_at text ≡ Err (BadVersion p.version)
    unfolding sound_at
    written_of_version other =
        parts_written text p has ∙ rw (bytes_same p.kept (sha256 p.body) sound, ne_eqb p.version 1 other) refl

    pub written_sound : p.version ≡ 1 → written_at text ≡ contents_at p.rest
    unfolding sound_at
    written_sound one =
        parts_written text p has ∙ rw (bytes_same p.kept (sha256 p.body) sound, eq-eqb p.version 1 one) refl
