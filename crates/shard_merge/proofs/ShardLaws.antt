-- What is read against a problem: the shard, or the first refusal.
use Rattle.std.proofs.Common.{◌≡◌, ◌≢◌, ◌⊎◌, ℕ, ◌+◌, ◌≤◌, ◌<◌, Bool, true, false, eqb, ltb, leb, ◌&&◌, List, length, get_or, Result, Ok, Err, refl, sym, ap, subst, ◌∙◌, arith, inl, inr}
use Rattle.std.specs.List.{concat, AllByRecursion}
use Rattle.std.proofs.lemmas.Bool.{and_parts, and_from, and_cases, and_left, and_right, eqb-true, eqb-false, leb-true, leb-false, ltb-true, ltb-false, lt-ltb, le-ltb, le-leb, lt-leb, eq-eqb, ne_eqb}
use Rattle.localisation.specs.Agreement.{modulus_at}
use Rattle.problem.specs.Rules.{ProblemView}
use Rattle.problem.specs.Sums.{count_of}
use Rattle.problem_toml.specs.Reading.{reading}
use Rattle.problem_toml.specs.declared.error.ProblemError.{ProblemError}
use Rattle.checkpoint.specs.Readers.{shown_count, counts_fit, residues_fit}
use Rattle.checkpoint.specs.Refusals.{IsFirstCount, IsFirstRefused}
use Rattle.checkpoint.specs.Texts.{rows_of}
use Rattle.checkpoint.specs.declared.error.CheckpointError.{CheckpointError}
use Rattle.checkpoint.specs.declared.error.CheckpointError.TheVariants as states
use Rattle.checkpoint.proofs.Fits.{counts_fit_each, counts_fit_from, counts_fit_other, counts_fit_at, residues_fit_above, residues_fit_at}
use Rattle.checkpoint.proofs.StateLaws.{rows_of_concat}
use Rattle.shard_merge.specs.Readers.{problem_or_refusal, shard_of}
use Rattle.shard_merge.specs.Refusals.{Writes, WritesFor, HasRange, HasRows, ReachesResidues, IsShardRefusal}
use Rattle.shard_merge.specs.Shards.{ShardView}
use Rattle.shard_merge.specs.Steps.{◌>>=◌, keep, shard_error, of_shard}
use Rattle.shard_merge.specs.Texts.{Contents, text_of, text_in}
use Rattle.shard_merge.specs.declared.shard_error.ShardError.{ShardError}
use Rattle.shard_merge.specs.declared.shard_error.ShardError.TheVariants.{ProblemRefused, RangeRefused, LineCount, ResidueCount, ResidueRefused}
use Rattle.shard_merge.proofs.StepLaws.{same_ok, bind_ok, bind_err, keep_ok, keep_err, of_shard_ok, of_shard_err}
use Rattle.shard_merge.proofs.TextLaws.{sizes}

-- ---- the test of a range

abbrev pub is_range : ℕ → ℕ → ℕ → Bool
is_range first end count = ltb first end && leb end count

range_kept : (first end count : ℕ) → first < end → end ≤ count → is_range first end count ≡ true
range_kept first end count some most = and_from _ _ (lt-ltb first end some) (le-leb end count most)

range_broken : (first end count : ℕ) → (end ≤ first) ⊎ (count < end) → is_range first end count ≡ false
range_broken first end count (inl none) = and_left _ _ (le-ltb _ _ none)
range_broken first end count (inr large) = and_right _ _ (lt-leb end count large)

range_parts : (first end count : ℕ) → is_range first end count ≡ true → (first < end) × (end ≤ count)
range_parts first end count h = let k = and_parts _ _ h in (ltb-true _ _ k.0, leb-true _ _ k.1)

range_fault : (first end count : ℕ) → is_range first end count ≡ false → (end ≤ first) ⊎ (count < end)
range_fault first end count h =
    elim (and_cases (ltb first end) (leb end count) h) [
      | inl none ↦ inl (ltb-false _ _ none)
      | inr large ↦ inr (leb-false _ _ large)
    ]

-- ---- what the reading gives in each case

module _ (c : Contents) where
  pub at_problem : (e : ShardError) → problem_or_refusal (reading c.source) ≡ Err e → shard_of c ≡ Err e
  unfolding shard_of
  at_problem e h = rw h refl

  module _ (p : ProblemView) (read : problem_or_refusal (reading c.source) ≡ Ok p) where
    pub at_range : (c.end ≤ c.first) ⊎ (count_of p < c.end)
        → shard_of c ≡ Err (RangeRefused c.first c.end (count_of p))
    unfolding shard_of
    at_range bad = rw (read, range_broken c.first c.end (count_of p) bad) refl

    module _ (some : c.first < c.end) (most : c.end ≤ count_of p) where
      pub at_lines : length c.rows ≢ length p.integrals
          → shard_of c ≡ Err (LineCount (shown_count (length c.rows)) (length p.integrals))
      unfolding shard_of
      at_lines other =
          rw (read, range_kept c.first c.end (count_of p) some most, ne_eqb (length c.rows) (length p.integrals) other) refl

      module _ (lines : length c.rows ≡ length p.integrals) where
        pub at_counts : (e : CheckpointError) → counts_fit (length p.moduli) c.rows ≡ Err e
            → shard_of c ≡ Err (shard_error e)
        unfolding shard_of
        at_counts e h =
            rw (read, range_kept c.first c.end (count_of p) some most, eq-eqb (length c.rows) (length p.integrals) lines, h) refl

        pub at_residues : (e : CheckpointError) → counts_fit (length p.moduli) c.rows ≡ Ok tt
            → residues_fit p.moduli 0 (concat c.rows) ≡ Err e → shard_of c ≡ Err (shard_error e)
        unfolding shard_of
        at_residues e counts h =
            rw (read, range_kept c.first c.end (count_of p) some most, eq-eqb (length c.rows) (length p.integrals) lines, counts, h) refl

        pub at_shard : counts_fit (length p.moduli) c.rows ≡ Ok tt → residues_fit p.moduli 0 (concat c.rows) ≡ Ok tt
            → shard_of c ≡ Ok (record {
              source = c.source;
              problem = p;
              first = c.first;
              end = c.end;
              residues = concat c.rows;
            })
        unfolding shard_of
        at_shard counts h =
            rw (read, range_kept c.first c.end (count_of p) some most, eq-eqb (length c.rows) (length p.integrals) lines, counts, h) refl

-- ---- what was read is written

problem_ok : (r : Result ProblemView ProblemError) (p : ProblemView) → problem_or_refusal r ≡ Ok p → r ≡ Ok p
problem_ok (Ok q) p h = cc
problem_ok (Err why) p h = absurd cc

problem_err : (r : Result ProblemView ProblemError) (e : ShardError) → problem_or_refusal r ≡ Err e
    → (why : ProblemError) × (r ≡ Err why) × (ProblemRefused why ≡ e)
problem_err (Ok q) e h = absurd cc
problem_err (Err why) e h = (why, refl, cc)

abbrev shard_in : Contents → ProblemView → ShardView
shard_in c p = record { source = c.source; problem = p; first = c.first; end = c.end; residues = concat c.rows }

abbrev last_rule : Contents → ProblemView → Result ShardView ShardError
last_rule c p = of_shard (residues_fit p.moduli 0 (concat c.rows)) >>= (λ _. Ok (shard_in c p))

abbrev count_rules : Contents → ProblemView → Result ShardView ShardError
count_rules c p = of_shard (counts_fit (length p.moduli) c.rows) >>= (λ _. last_rule c p)

abbrev line_rules : Contents → ProblemView → Result ShardView ShardError
line_rules c p =
    keep (eqb (length c.rows) (length p.integrals)) (LineCount (shown_count (length c.rows)) (length p.integrals)) >>=
    (λ _. count_rules c p)

abbrev range_rules : Contents → ProblemView → Result ShardView ShardError
range_rules c p =
    keep (is_range c.first c.end (count_of p)) (RangeRefused c.first c.end (count_of p)) >>= (λ _. line_rules c p)

text_of_shard : (text : List ℕ) (c : Contents) (p : ProblemView) → Writes text c → length c.rows ≡ length p.integrals
    → AllByRecursion (λ row. length row ≡ length p.moduli) c.rows → text ≡ text_in (shard_in c p)
text_of_shard text c p w lines each =
    let m = length p.moduli in
    let rows : rows_of m (length p.integrals) (concat c.rows) ≡ c.rows =
    ap (λ (n : ℕ). rows_of m n (concat c.rows)) (sym lines) ∙ rows_of_concat m c.rows each in
    w.whole ∙ ap
    (λ (r : List (List ℕ)). text_of (record { source = c.source; first = c.first; end = c.end; rows = r })) (sym rows)

pub shard_ok : (text : List ℕ) (c : Contents) (s : ShardView) → Writes text c → shard_of c ≡ Ok s → text ≡ text_in s
unfolding shard_of
shard_ok text c s w h =
    let a = bind_ok (problem_or_refusal (reading c.source)) (range_rules c) s h in
    let p = a.0 in
    let k1 =
    keep_ok (is_range c.first c.end (count_of p)) (RangeRefused c.first c.end (count_of p)) (line_rules c p) s a.2 in
    let k2 =
    keep_ok (eqb (length c.rows) (length p.integrals))
    (LineCount (shown_count (length c.rows)) (length p.integrals)) (count_rules c p) s k1.1 in
    let b = bind_ok (of_shard (counts_fit (length p.moduli) c.rows)) (λ _. last_rule c p) s k2.1 in
    let d = bind_ok (of_shard (residues_fit p.moduli 0 (concat c.rows))) (λ _. Ok (shard_in c p)) s b.2 in
    let made = same_ok (shard_in c p) s d.2 in
    let counts = of_shard_ok (counts_fit (length p.moduli) c.rows) b.0 b.1 in
    subst (λ (t : ShardView). text ≡ text_in t) made
    (text_of_shard text c p w (eqb-true _ _ k2.0) (counts_fit_each (length p.moduli) c.rows counts))

-- the refusal of a text whose rows have another count, or a residue that is not below its modulus
module _ (text : List ℕ) (c : Contents) (p : ProblemView) (rows : HasRows p text c) where
  refused_count : (e : ShardError) → of_shard (counts_fit (length p.moduli) c.rows) ≡ Err e → IsShardRefusal text e
  refused_count e h =
      let size = sizes text c rows.written.written.writes in
      let fault = of_shard_err (counts_fit (length p.moduli) c.rows) e h in
      let other = counts_fit_other (length p.moduli) c.rows fault.0 fault.1 in
      let first = other.first in
      let shown : shown_count other.found ≡ other.found =
      ap shown_count (sym first.count) ∙ size.row first.place ∙ first.count in
      let is : ◌≡◌ {A = ShardError} (ResidueCount other.found (length p.moduli)) e =
      ap (λ (n : ℕ). ResidueCount n (length p.moduli)) (sym shown) ∙ ap shard_error (sym other.is) ∙ fault.2 in
      subst (IsShardRefusal text) is (c, p, rows, refl, first)

  refused_residue : (e : ShardError) → counts_fit (length p.moduli) c.rows ≡ Ok tt
      → of_shard (residues_fit p.moduli 0 (concat c.rows)) ≡ Err e → IsShardRefusal text e
  refused_residue e counts h =
      let size = sizes text c rows.written.written.writes in
      let fault = of_shard_err (residues_fit p.moduli 0 (concat c.rows)) e h in
      let above = residues_fit_above p.moduli 0 (concat c.rows) fault.0 fault.1 in
      let shown : above.place ≡ shown_count (0 + above.place) =
      sym (size.place above.place above.within) ∙ ap shown_count (omega arith) in
      let all : ReachesResidues p text c =
      record { written = rows; residues = counts_fit_each (length p.moduli) c.rows counts } in
      let is : ◌≡◌ {A = ShardError} (ResidueRefused above.place) e =
      ap (λ (n : ℕ). ResidueRefused n) shown ∙ ap shard_error (sym above.is) ∙ fault.2 in
      subst (IsShardRefusal text) is (
        c,
        p,
        all,
        record {
          within = above.within;
          refused = subst
              (λ (n : ℕ). modulus_at p.moduli n ≤ get_or (concat c.rows) above.place 0)
              (omega arith) above.refused;
          first = λ j lt. subst (λ (n : ℕ). get_or (concat c.rows) j 0 < modulus_at p.moduli n) (omega arith) (above.first j lt);
        },
      )

pub shard_err : (text : List ℕ) (c : Contents) (e : ShardError) → Writes text c → shard_of c ≡ Err e
    → IsShardRefusal text e
unfolding shard_of
shard_err text c e w h =
    let size = sizes text c w in
    elim (bind_err (problem_or_refusal (reading c.source)) (range_rules c) e h) [
      | inl fault ↦
          let why = problem_err (reading c.source) e fault in
          subst (IsShardRefusal text) why.2 (c, w, why.1)
      | inr a ↦
          let p = a.0 in
          let for : WritesFor p text c = record { writes = w; problem = problem_ok (reading c.source) p a.1 } in
          elim (keep_err (is_range c.first c.end (count_of p)) (RangeRefused c.first c.end (count_of p)) e (line_rules c p) a.2) [
            | inl bad ↦ subst (IsShardRefusal text) bad.1 (c, p, for, refl, refl, refl, range_fault _ _ _ bad.0)
            | inr k1 ↦
                let within = range_parts c.first c.end (count_of p) k1.0 in
                let range : HasRange p text c = record { written = for; some = within.0; most = within.1 } in
                elim (keep_err (eqb (length c.rows) (length p.integrals)) (LineCount (shown_count (length c.rows)) (length p.integrals)) e (count_rules c p) k1.1) [
                  | inl lines ↦ subst (IsShardRefusal text) lines.1 (c, p, range, size.rows, refl, λ same. eqb-false _ _ lines.0 (sym size.rows ∙ same))
                  | inr k2 ↦
                      let rows : HasRows p text c = record { written = range; rows = eqb-true _ _ k2.0 } in
                      elim (bind_err (of_shard (counts_fit (length p.moduli) c.rows)) (λ _. last_rule c p) e k2.1) [
                        | inl counts ↦ refused_count text c p rows e counts
                        | inr b ↦
                            let counts = of_shard_ok (counts_fit (length p.moduli) c.rows) b.0 b.1 in
                            elim (bind_err (of_shard (residues_fit p.moduli 0 (concat c.rows))) (λ _. Ok (shard_in c p)) e b.2) [
                              | inl residues ↦ refused_residue text c p rows e counts residues
                              | inr d ↦ absurd (cc d.2)
                            ]
                      ]
                ]
          ]
    ]

-- ---- what is refused is refused so

pub refused_problem : (c : Contents) (why : ProblemError) → reading c.source ≡ Err why
    → shard_of c ≡ Err (ProblemRefused why)
refused_problem c why read = at_problem c (ProblemRefused why) (ap problem_or_refusal read)

read_of : (text : List ℕ) (c : Contents) (p : ProblemView) → WritesFor p text c → problem_or_refusal (reading c.source) ≡ Ok p
read_of text c p for = ap problem_or_refusal for.problem

pub refused_range : (text : List ℕ) (c : Contents) (p : ProblemView) → WritesFor p text c
    → (c.end ≤ c.first) ⊎ (count_of p < c.end) → shard_of c ≡ Err (RangeRefused c.first c.end (count_of p))
refused_range text c p for bad = at_range c p (read_of text c p for) bad

pub refused_lines : (text : List ℕ) (c : Contents) (p : ProblemView) → HasRange p text c
    → length c.rows ≢ length p.integrals → shard_of c ≡ Err (LineCount (length c.rows) (length p.integrals))
refused_lines text c p range other =
    at_lines c p (read_of text c p range.written) range.some range.most other
    ∙ ap (λ (n : ℕ). Err (LineCount n (length p.integrals))) (sizes text c range.written.writes).rows

pub refused_counts : (text : List ℕ) (c : Contents) (p : ProblemView) (found : ℕ) → HasRows p text c
    → IsFirstCount c.rows (length p.moduli) found → shard_of c ≡ Err (ResidueCount found (length p.moduli))
refused_counts text c p found rows first =
    let range = rows.written in
    let m = length p.moduli in
    let shown : shown_count found ≡ found =
    ap shown_count (sym first.count) ∙ (sizes text c range.written.writes).row first.place ∙ first.count in
    at_counts c p (read_of text c p range.written) range.some range.most rows.rows
    (states.ResidueCount (shown_count found) m)
    (counts_fit_at m c.rows found first.place first.within first.count first.other first.first)
    ∙ ap (λ (n : ℕ). Err (ResidueCount n m)) shown

pub refused_residues : (text : List ℕ) (c : Contents) (p : ProblemView) (place : ℕ) → ReachesResidues p text c
    → IsFirstRefused p.moduli (concat c.rows) place → shard_of c ≡ Err (ResidueRefused place)
refused_residues text c p place all first =
    let rows = all.written in
    let range = rows.written in
    let shown : shown_count (0 + place) ≡ place =
    ap shown_count (omega arith) ∙ (sizes text c range.written.writes).place place first.within in
    at_residues c p (read_of text c p range.written) range.some range.most rows.rows
    (states.ResidueRefused (shown_count (0 + place))) (counts_fit_from (length p.moduli) c.rows all.residues)
    (residues_fit_at p.moduli 0 (concat c.rows) place first.within (subst (λ (n : ℕ). modulus_at p.moduli n ≤ get_or (concat c.rows) place 0) (omega arith) first.refused)
    (λ j lt. subst (λ (n : ℕ). get_or (concat c.rows) j 0 < modulus_at p.moduli n) (omega arith) (first.first j lt)))
    ∙ ap (λ (n : ℕ). Err (ResidueRefused n)) shown
