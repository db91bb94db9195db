-- What a text writes: its last line and its first, its source, its next number and its rows.
use Rattle.std.proofs.Common.{◌≡◌, ◌≢◌, ℕ, ◌+◌, ◌-◌, ◌^◌, ◌≤◌, ◌<◌, Bool, true, false, cond, not, eqb, ltb, ◌&&◌, ◌||◌, List, [], ◌++◌, length, take, drop, Option, Some, None, Result, Ok, Err, refl, sym, ap, subst, ◌∙◌, inl, inr, append_assoc, length-append, length-take, arith}
use Rattle.std.specs.Prelude.{codes, ok_or, option_map, bytes_eq}
use Rattle.std.specs.List.{flat_map}
use Rattle.std.proofs.lemmas.Bool.{eqb-true, eqb-false, eq-eqb, ne_eqb, ltb-false, le-ltb, or_cases, or_parts, or_left, or_right, false_from_ne_true}
use Rattle.std.proofs.lemmas.List.{take_at, drop_at, take-append-drop}
use Rattle.std.proofs.lemmas.Slice.Eq.{bytes_eq-Decides}
use Rattle.sha2.specs.Sha256.{sha256}
use Rattle.checkpoint.specs.Readers.{and_then, after_word, number_line_at, unsealed_at, rows_at, source_at, contents_at, sound_at, written_at}
use Rattle.checkpoint.specs.Refusals.{Parts, SplitsInto, IsKnownVersion, AreContents}
use Rattle.checkpoint.specs.Steps.{◌>>=◌}
use Rattle.checkpoint.specs.Texts.{Contents, number_line, source_text, residues_line, body_of, seal}
use Rattle.checkpoint.specs.declared.error.CheckpointError.{CheckpointError}
use Rattle.checkpoint.specs.declared.error.CheckpointError.TheVariants.{NotCheckpoint, Damaged, BadVersion, BadBody}
use Rattle.checkpoint.proofs.Decimals.{number_line_takes, number_line_again}
use Rattle.checkpoint.proofs.RowLaws.{rows_take, rows_again, rows_err, same_ok, same_err}
use Rattle.checkpoint.proofs.Seals.{unsealed_takes, unsealed_again}
use Rattle.checkpoint.proofs.WordLaws.{and_then_some, option_map_some, bind_ok, bind_err, ok_or_ok, ok_or_err, chosen, after_word_takes}

-- ---- the source

pub record SourceIn (text source rest : List ℕ) : Type 0 where
  pub parts : text ≡ source_text source ++ rest
  pub fits : length source < 2 ^ 64

pub source_takes : (text source rest : List ℕ) → source_at text ≡ Some (source, rest) → SourceIn text source rest
unfolding source_at
source_takes text source rest h =
    let found : ℕ × List ℕ → Option (List ℕ × List ℕ) =
    λ x. option_map (λ rest. (take x.0 x.1, rest)) (after_word (codes "\n") (drop x.0 x.1)) in
    let a =
    and_then_some (number_line_at (codes "problem ") text) (λ x. cond (ltb (length x.1) x.0) None (found x))
    (source, rest) h in
    let n = a.0.0 in
    let more = a.0.1 in
    let first = number_line_takes (codes "problem ") text n more a.1 in
    elim (chosen (ltb (length more) n) None (found (n, more)) (Some (source, rest)) a.2) [
      | inl short ↦ absurd (cc short.1)
      | inr long ↦
          let enough : n ≤ length more = ltb-false _ _ long.0 in
          let e =
          option_map_some (after_word (codes "\n") (drop n more)) (λ rest. (take n more, rest))
          (source, rest) long.1 in
          let second = after_word_takes (codes "\n") (drop n more) e.0 e.1 in
          let len : length (take n more) ≡ n = omega (arith, length-take n more) in
          let regrouped : number_line (codes "problem ") n ++ (take n more ++ (codes "\n" ++ e.0)) ≡ (number_line (codes "problem ") n ++ take n more ++ codes "\n") ++ e.0 = simp append_assoc in
          let P : List ℕ × List ℕ → Type 0 = λ p. SourceIn text p.0 p.1 in
          subst P e.2 (record {
            parts = first.parts ∙ ap (λ (t : List ℕ). number_line (codes "problem ") n ++ t) (sym (take-append-drop n more) ∙ ap (λ (t : List ℕ). take n more ++ t) second) ∙ regrouped
                ∙ ap (λ (k : ℕ). (number_line (codes "problem ") k ++ take n more ++ codes "\n") ++ e.0) (sym len);
            fits = omega (arith, len, first.fits);
          })
    ]

pub source_again : (source rest : List ℕ) → length source < 2 ^ 64
    → source_at (source_text source ++ rest) ≡ Some (source, rest)
unfolding source_at
source_again source rest small =
    let n = length source in
    let regrouped : source_text source ++ rest ≡ number_line (codes "problem ") n ++ (source ++ (codes "\n" ++ rest)) =
    simp append_assoc in
    let long : ltb (length (source ++ (codes "\n" ++ rest))) n ≡ false =
    le-ltb _ _ (omega (arith, length-append source (codes "\n" ++ rest))) in
    ap source_at regrouped
    ∙ rw
    (number_line_again (codes "problem ") n (source ++ (codes "\n" ++ rest)) small, long, take_at source (codes "\n" ++ rest) n refl, drop_at source (codes "\n" ++ rest) n refl) refl

-- ---- the lines after the first

-- the body without its first line
abbrev pub rest_of : Contents → List ℕ
rest_of c = source_text c.source ++ number_line (codes "next ") c.next ++ flat_map residues_line c.rows

regroup_four : (a s n f : List ℕ) → a ++ s ++ n ++ f ≡ a ++ (s ++ n ++ f)
regroup_four a s n f = simp append_assoc

pub body_is : (c : Contents) → body_of c ≡ number_line (codes "locus-checkpoint ") c.version ++ rest_of c
body_is c =
    regroup_four (number_line (codes "locus-checkpoint ") c.version) (source_text c.source)
    (number_line (codes "next ") c.next) (flat_map residues_line c.rows)

some_rows : (v n : ℕ) → (eqb n 0 || (eqb v 1 && not (eqb n 1))) ≡ false → (1 ≤ n) × (v ≡ 1 → n ≡ 1)
some_rows v n h =
    let parts = or_parts (eqb n 0) (eqb v 1 && not (eqb n 1)) h in
    let other = eqb-false n 0 parts.0 in
    (omega arith, λ one. single (eqb n 1) (eqb-true n 1) (rw (eq-eqb v 1 one) at parts.1))
  where
    single : (b : Bool) → (b ≡ true → n ≡ 1) → not b ≡ false → n ≡ 1
    single true is h = is refl
    single false is h = absurd cc

rows_pass : (v n : ℕ) → 1 ≤ n → (v ≡ 1 → n ≡ 1) → (eqb n 0 || (eqb v 1 && not (eqb n 1))) ≡ false
rows_pass v n some one =
    let none : eqb n 0 ≡ false = ne_eqb n 0 (λ z. absurd (omega (arith, z, some))) in
    rw none (by_version (eqb v 1) (eqb-true v 1))
  where
    by_version : (b : Bool) → (b ≡ true → v ≡ 1) → (b && not (eqb n 1)) ≡ false
    by_version true is = rw (eq-eqb n 1 (one (is refl))) refl
    by_version false is = refl

abbrev made : ℕ → List ℕ → ℕ → List (List ℕ) → Contents
made version source next rows = record { version = version; source = source; next = next; rows = rows }

abbrev last_step : ℕ → List ℕ → ℕ → List (List ℕ) × List ℕ → Result Contents CheckpointError
last_step version source next rows =
    cond (eqb (length rows.0) 0 || (eqb version 1 && not (eqb (length rows.0) 1))) (Err BadBody)
    (Ok (made version source next rows.0))

pub record ContentsIn (version : ℕ) (text : List ℕ) (c : Contents) : Type 0 where
  pub version_is : c.version ≡ version
  pub parts : text ≡ rest_of c
  pub contents : AreContents c

pub contents_take : (version : ℕ) (text : List ℕ) (c : Contents) → IsKnownVersion version
    → contents_at version text ≡ Ok c → ContentsIn version text c
unfolding contents_at
contents_take version text c known h =
    let a =
    bind_ok (ok_or (source_at text) BadBody)
    (λ source. ok_or (number_line_at (codes "next ") source.1) BadBody >>= (λ next. rows_at next.1 >>= (λ rows. last_step version source.0 next.0 rows))) c h in
    let b =
    bind_ok (ok_or (number_line_at (codes "next ") a.0.1) BadBody)
    (λ next. rows_at next.1 >>= (λ rows. last_step version a.0.0 next.0 rows)) c a.2 in
    let d = bind_ok (rows_at b.0.1) (λ rows. last_step version a.0.0 b.0.0 rows) c b.2 in
    let first = source_takes text a.0.0 a.0.1 (ok_or_ok _ _ _ a.1) in
    let second = number_line_takes (codes "next ") a.0.1 b.0.0 b.0.1 (ok_or_ok _ _ _ b.1) in
    let third = rows_take b.0.1 d.0.0 d.0.1 d.1 in
    elim (chosen (eqb (length d.0.0) 0 || (eqb version 1 && not (eqb (length d.0.0) 1))) (Err BadBody) (Ok (made version a.0.0 b.0.0 d.0.0)) (Ok c) d.2) [
      | inl bad ↦ absurd (cc bad.1)
      | inr good ↦
          let counts = some_rows version (length d.0.0) good.0 in
          subst (ContentsIn version text) (same_ok (made version a.0.0 b.0.0 d.0.0) c good.1) (record {
            version_is = refl;
            parts =
                first.parts
                ∙ ap (λ (t : List ℕ). source_text a.0.0 ++ t)
                (second.parts ∙ ap (λ (t : List ℕ). number_line (codes "next ") b.0.0 ++ t) third.parts)
                ∙ sym (append_assoc (source_text a.0.0) (number_line (codes "next ") b.0.0) (flat_map residues_line d.0.0));
            contents = record { version = known; source = first.fits; next = second.fits; rows = third.fit; some = counts.0; one = counts.1 };
          })
    ]

pub contents_again : (c : Contents) → AreContents c → contents_at c.version (rest_of c) ≡ Ok c
unfolding contents_at
contents_again c are =
    let after = number_line (codes "next ") c.next ++ flat_map residues_line c.rows in
    let regrouped : rest_of c ≡ source_text c.source ++ after =
    append_assoc (source_text c.source) (number_line (codes "next ") c.next) (flat_map residues_line c.rows) in
    ap (contents_at c.version) regrouped ∙ rw (
      source_again c.source after are.source,
      number_line_again (codes "next ") c.next (flat_map residues_line c.rows) are.next,
      rows_again c.rows are.rows,
      rows_pass c.version (length c.rows) are.some are.one,
    ) refl

pub contents_err : (version : ℕ) (text : List ℕ) (e : CheckpointError) → contents_at version text ≡ Err e → e ≡ BadBody
unfolding contents_at
contents_err version text e h =
    elim (bind_err (ok_or (source_at text) BadBody) (λ source. ok_or (number_line_at (codes "next ") source.1) BadBody >>= (λ next. rows_at next.1 >>= (λ rows. last_step version source.0 next.0 rows))) e h) [
      | inl first ↦ sym (ok_or_err _ _ _ first).1
      | inr a ↦
          elim (bind_err (ok_or (number_line_at (codes "next ") a.0.1) BadBody) (λ next. rows_at next.1 >>= (λ rows. last_step version a.0.0 next.0 rows)) e a.2) [
            | inl second ↦ sym (ok_or_err _ _ _ second).1
            | inr b ↦
                elim (bind_err (rows_at b.0.1) (λ rows. last_step version a.0.0 b.0.0 rows) e b.2) [
                  | inl third ↦ rows_err b.0.1 e third
                  | inr d ↦
                      elim (chosen (eqb (length d.0.0) 0 || (eqb version 1 && not (eqb (length d.0.0) 1))) (Err BadBody) (Ok (made version a.0.0 b.0.0 d.0.0)) (Err e) d.2) [
                        | inl bad ↦ sym (same_err {A = Contents} BadBody e bad.1)
                        | inr good ↦ absurd (cc good.1)
                      ]
                ]
          ]
    ]

-- ---- the parts of a text

pub known_test : (v : ℕ) → (eqb v 1 || eqb v 2) ≡ true → IsKnownVersion v
known_test v h =
    elim (or_cases (eqb v 1) (eqb v 2) h) [
      | inl one ↦ inl (eqb-true v 1 one)
      | inr two ↦ inr (eqb-true v 2 two)
    ]

pub unknown_test : (v : ℕ) → (eqb v 1 || eqb v 2) ≡ false → ¬ (IsKnownVersion v)
unknown_test v h known =
    let parts = or_parts (eqb v 1) (eqb v 2) h in
    elim known [
      | inl one ↦ eqb-false v 1 parts.0 one
      | inr two ↦ eqb-false v 2 parts.1 two
    ]

test_known : (v : ℕ) → IsKnownVersion v → (eqb v 1 || eqb v 2) ≡ true
test_known v (inl one) = or_left (eqb v 1) (eqb v 2) (eq-eqb v 1 one)
test_known v (inr two) = or_right (eqb v 1) (eqb v 2) (eq-eqb v 2 two)

test_unknown : (v : ℕ) → ¬ (IsKnownVersion v) → (eqb v 1 || eqb v 2) ≡ false
test_unknown v other = false_from_ne_true _ (λ h. other (known_test v h))

pub bytes_same : (xs ys : List ℕ) → xs ≡ ys → bytes_eq xs ys ≡ true
bytes_same xs ys h = (bytes_eq-Decides xs ys).1 h

pub bytes_differ : (xs ys : List ℕ) → xs ≢ ys → bytes_eq xs ys ≡ false
bytes_differ xs ys h = false_from_ne_true _ (λ same. h ((bytes_eq-Decides xs ys).0 same))

pub parts_take : (text body kept : List ℕ) (v : ℕ) (rest : List ℕ) → unsealed_at text ≡ Some (body, kept)
    → number_line_at (codes "locus-checkpoint ") body ≡ Some (v, rest)
    → SplitsInto text (record { kept = kept; body = body; version = v; rest = rest })
parts_take text body kept v rest sealed first =
    let s = unsealed_takes text body kept sealed in
    let n = number_line_takes (codes "locus-checkpoint ") body v rest first in
    record { whole = s.whole; digest = s.digest; first_line = n.parts; version = n.fits }

pub parts_sealed : (text : List ℕ) (p : Parts) → SplitsInto text p → unsealed_at text ≡ Some (p.body, p.kept)
parts_sealed text p has = ap unsealed_at has.whole ∙ unsealed_again p.body p.kept has.digest

pub parts_first : (text : List ℕ) (p : Parts) → SplitsInto text p
    → number_line_at (codes "locus-checkpoint ") p.body ≡ Some (p.version, p.rest)
parts_first text p has =
    ap (number_line_at (codes "locus-checkpoint ")) has.first_line
    ∙ number_line_again (codes "locus-checkpoint ") p.version p.rest has.version

parts_written : (text : List ℕ) (p : Parts) → SplitsInto text p
    → written_at text ≡ sound_at p.kept p.body p.version p.rest
unfolding written_at
parts_written text p has = rw (parts_sealed text p has, parts_first text p has) refl

-- ---- what is refused before the contents

pub written_without_parts : (text : List ℕ) → ((p : Parts) → ¬ (SplitsInto text p)) → written_at text ≡ Err NotCheckpoint
unfolding written_at
written_without_parts text none = by_seal (unsealed_at text) refl
  where
    by_first : (body kept : List ℕ) → unsealed_at text ≡ Some (body, kept) → (o : Option (ℕ × List ℕ))
        → number_line_at (codes "locus-checkpoint ") body ≡ o
        → (ok_or o NotCheckpoint >>= (λ first. sound_at kept body first.0 first.1)) ≡ Err NotCheckpoint
    by_first body kept sealed None h = refl
    by_first body kept sealed (Some x) h =
        absurd
        (none (record { kept = kept; body = body; version = x.0; rest = x.1 }) (parts_take text body kept x.0 x.1 sealed h))

    by_seal : (o : Option (List ℕ × List ℕ)) → unsealed_at text ≡ o
        → (ok_or o NotCheckpoint >>= (λ sealed. ok_or (number_line_at (codes "locus-checkpoint ") sealed.0) NotCheckpoint >>= (λ first. sound_at sealed.1 sealed.0 first.0 first.1)))
        ≡ Err NotCheckpoint
    by_seal None h = refl
    by_seal (Some x) h = by_first x.0 x.1 h (number_line_at (codes "locus-checkpoint ") x.0) refl

module _ (text : List ℕ) (p : Parts) (has : SplitsInto text p) where
  pub written_damaged : p.kept ≢ sha256 p.body → written_at text ≡ Err (Damaged p.kept (sha256 p.body))
  unfolding sound_at
  written_damaged other = parts_written text p has ∙ rw (bytes_differ p.kept (sha256 p.body) other) refl

  module _ (sound : p.kept ≡ sha256 p.body) where
    pub written_of_version : ¬ (IsKnownVersion p.version) → written_at text ≡ Err (BadVersion p.version)
    unfolding sound_at
    written_of_version other =
        parts_written text p has ∙ rw (bytes_same p.kept (sha256 p.body) sound, test_unknown p.version other) refl

    pub written_sound : IsKnownVersion p.version → written_at text ≡ contents_at p.version p.rest
    unfolding sound_at
    written_sound known =
        parts_written text p has ∙ rw (bytes_same p.kept (sha256 p.body) sound, test_known p.version known) refl
