-- The cursor rule as sums over views, in which each step is a matter of arithmetic, and that it says the same.
use Rattle.std.proofs.Common.{◌≡◌, ℕ, ◌+◌, ◌≤◌, min, List, length, sym, ◌∙◌, arith}
use Rattle.claim_table.specs.declared.claimer.Plan.{Plan}
use Rattle.claim_table.specs.declared.claimer.Record.{Record}
use Rattle.claim_table.specs.declared.view.View.{View}
use Rattle.claim_table.specs.Counts.{once_below}
use Rattle.claim_table.specs.Claims.{taken_count, dry_count, takes_of}
use Rattle.claim_table.specs.Cursor.{cursor, bad, itself, IsClaimed}
use Rattle.claim_table.proofs.Views.{over, over_all}
use Rattle.claim_table.proofs.Records.{AreCounted, IsLeastOver, records_counted, counted_records, least_over, over_least}

pub record IsCounted (p : Plan) (words : List ℕ) (views : List (View Record)) : Type 0 where
  pub limits : (p.blocks ≤ 1024) × (p.workers ≤ 64)
  pub two_words : length words ≡ 2
  pub records : AreCounted itself p views
  pub each_once : (block : ℕ) → over (takes_of block) views ≡ once_below (min (cursor words) p.blocks) block
  pub takes : over taken_count views ≡ min (cursor words) p.blocks
  pub counts : cursor words ≡ over taken_count views + over dry_count views
  pub least : IsLeastOver itself (bad words) views

pub counted : (p : Plan) (words : List ℕ) (views : List (View Record)) → IsClaimed p words views
    → IsCounted p words views
counted p words views h = record {
  limits = h.limits;
  two_words = h.two_words;
  records = records_counted itself p views h.records;
  each_once = λ b. over_all (takes_of b) views ∙ h.each_once b;
  takes = over_all taken_count views ∙ h.takes;
  counts = omega (arith, over_all taken_count views, over_all dry_count views, h.counts);
  least = least_over itself (bad words) views h.least;
}

pub claimed : (p : Plan) (words : List ℕ) (views : List (View Record)) → IsCounted p words views
    → IsClaimed p words views
claimed p words views h = record {
  limits = h.limits;
  two_words = h.two_words;
  records = counted_records itself p views h.records;
  each_once = λ b. sym (over_all (takes_of b) views) ∙ h.each_once b;
  takes = sym (over_all taken_count views) ∙ h.takes;
  counts = omega (arith, over_all taken_count views, over_all dry_count views, h.counts);
  all_taken = λ some_dry. omega (arith, over_all taken_count views, over_all dry_count views, h.counts, h.takes);
  least = over_least itself (bad words) views h.least;
}
