-- The bad word, by how many numbers up to each x were reported and seen: how reports and looks keep it the least.
-- For any representation of the claims.
use Rattle.std.proofs.Common.{◌≡◌, ℕ, suc, ◌+◌, ◌<◌, ◌≤◌, leb, min, List, [], ◌∷◌, map, refl, ◌∙◌, arith}
use Rattle.std.specs.Prelude.{All}
use native.Mathlib.Decide.{dec_le}
use Rattle.claim_table.specs.declared.claimer.Record.{Record}
use Rattle.claim_table.specs.Counts.{bit, up_to, total, nothing_bad}
use Rattle.claim_table.specs.Claims.{all_reported}
use Rattle.claim_table.specs.Views.{IsLeastReported}
use Rattle.claim_table.proofs.Lists.{up_to-append, at_most_or, bit_le, bit_not_le, least_is, least_most, least_there, none_less_than_least, all_at_most, none_up_to}

-- the word is the least number reported, or 2^64 - 1 if there is none, and at most each number seen
pub record IsLeastWord (word : ℕ) (reported seen : ℕ → ℕ) : Type 0 where
  pub most : word ≤ nothing_bad
  pub some_reported : (x : ℕ) → x < nothing_bad → word ≤ x → 0 < reported x
  pub none_less : (x : ℕ) → x < word → reported x ≡ 0
  pub none_seen : (x : ℕ) → x < word → seen x ≡ 0

-- before the first report
pub least_opens : (reported seen : ℕ → ℕ) → ((x : ℕ) → reported x ≡ 0) → ((x : ℕ) → seen x ≡ 0)
    → IsLeastWord nothing_bad reported seen
least_opens reported seen r s = record {
  most = omega arith;
  some_reported = λ x less le. absurd (omega arith);
  none_less = λ x less. r x;
  none_seen = λ x less. s x;
}

-- nothing was reported or seen
pub least_stays : (word : ℕ) (reported seen reported' seen' : ℕ → ℕ) → ((x : ℕ) → reported' x ≡ reported x)
    → ((x : ℕ) → seen' x ≡ seen x)
    → IsLeastWord word reported seen → IsLeastWord word reported' seen'
least_stays word reported seen reported' seen' r s h = record {
  most = h.most;
  some_reported = λ x less le. omega (arith, r x, h.some_reported x less le);
  none_less = λ x less. r x ∙ h.none_less x less;
  none_seen = λ x less. s x ∙ h.none_seen x less;
}

-- a report brings a number up to x, or there was one
some_up_to : (number x word was now : ℕ) → now ≡ was + bit (leb number x) → (word ≤ x → 0 < was)
    → min word number ≤ x → Dec (number ≤ x) → 0 < now
some_up_to number x word was now e h le (yes d) = omega (arith, bit_le number x d)
some_up_to number x word was now e h le (no d) = omega (arith, h (omega arith))

-- a number was reported, and the word is the lesser of it and what it was
pub least_reports : (word number : ℕ) (reported seen reported' seen' : ℕ → ℕ)
    → ((x : ℕ) → reported' x ≡ reported x + bit (leb number x)) → ((x : ℕ) → seen' x ≡ seen x)
    → IsLeastWord word reported seen → IsLeastWord (min word number) reported' seen'
least_reports word number reported seen reported' seen' r s h = record {
  most = omega (arith, h.most);
  some_reported = λ x less le. some_up_to number x word (reported x) (reported' x) (r x)
      (h.some_reported x less) le (dec_le number x);
  none_less = λ x less. omega (arith, r x, h.none_less x (omega arith), bit_not_le number x (omega arith));
  none_seen = λ x less. s x ∙ h.none_seen x (omega arith);
}

-- the word was seen
pub least_sees : (word : ℕ) (reported seen reported' seen' : ℕ → ℕ)
    → ((x : ℕ) → reported' x ≡ reported x) → ((x : ℕ) → seen' x ≡ seen x + bit (leb word x))
    → IsLeastWord word reported seen → IsLeastWord word reported' seen'
least_sees word reported seen reported' seen' r s h = record {
  most = h.most;
  some_reported = λ x less le. omega (arith, r x, h.some_reported x less le);
  none_less = λ x less. r x ∙ h.none_less x less;
  none_seen = λ x less. omega (arith, s x, h.none_seen x less, bit_not_le word x less);
}

-- how many numbers up to x the worker of a record has reported, and seen
abbrev pub reports_to : {R : Type 0} → (R → Record) → ℕ → R → ℕ
reports_to done x r = up_to x (done r).reported

abbrev pub sees_to : {R : Type 0} → (R → Record) → ℕ → R → ℕ
sees_to done x r = up_to x (done r).seens

module _ {R : Type 0} (done : R → Record) where
  up_to_reports : (x : ℕ) (rs : List R) → up_to x (all_reported (map done rs)) ≡ total (reports_to done x) rs
  up_to_reports x [] = refl
  up_to_reports x (r ∷ rs) = omega (
    arith,
    up_to_reports x rs,
    up_to-append x (done r).reported (all_reported (map done rs)),
  )

  seens_to : (n x : ℕ) (rs : List R) → x < n → All (λ r. All (λ number. n ≤ number) (done r).seens) rs
      → total (sees_to done x) rs ≡ 0
  seens_to n x [] less h = refl
  seens_to n x (r ∷ rs) less h =
      omega (
        arith,
        none_up_to n x (done r).seens less (h 0 r (omega arith)),
        seens_to n x rs less (λ k d lt. h (suc k) d (omega arith)),
      )

  -- the counts say the same of the records themselves
  pub least_from : (word : ℕ) (rs : List R)
      → IsLeastWord word (λ x. total (reports_to done x) rs) (λ x. total (sees_to done x) rs)
      → IsLeastReported done word rs
  least_from word rs h = record {
    least = least_is word (all_reported (map done rs)) h.most
        (λ x lt le. omega (arith, h.some_reported x lt le, up_to_reports x rs))
        (λ x less. omega (arith, h.none_less x less, up_to_reports x rs));
    seen = λ k d lt. all_at_most word _
        (λ x less. omega (arith, h.none_seen x less, at_most_or (sees_to done x) rs k d lt));
  }

  pub least_to : (word : ℕ) (rs : List R) → IsLeastReported done word rs
      → IsLeastWord word (λ x. total (reports_to done x) rs) (λ x. total (sees_to done x) rs)
  least_to word rs h =
      let is = h.least in record {
        most = omega (arith, least_most (all_reported (map done rs)));
        some_reported = λ x less le. omega (
          arith,
          least_there x (all_reported (map done rs)) (omega arith) less,
          up_to_reports x rs,
        );
        none_less = λ x less. omega (
          arith,
          none_less_than_least x (all_reported (map done rs)) (omega arith),
          up_to_reports x rs,
        );
        none_seen = λ x less. seens_to word x rs less h.seen;
      }
