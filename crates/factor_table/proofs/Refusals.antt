-- Weights that are copied are not refused.
use Rattle.std.proofs.Common.{◌≡◌, ℕ, ◌<◌, ◌≤◌, ◌⊎◌, ◌↔◌, ⊎_elim, true, Result, Err, Some, List, length, get_or, refl, ℤ, pos, arith}
use Rattle.std.specs.List.{position}
use Rattle.std.proofs.lemmas.List.Quantifiers.{position-Some}
use Rattle.std.proofs.lemmas.Bool.Decides.{nat_tests}
use Rattle.residue.specs.declared.setup.SetupError.{SetupError}
use Rattle.residue.specs.declared.setup.SetupError.TheVariants.{BadCount, BadWeight}
use Rattle.residue.specs.Limits.{IsWeight, is_beyond_limit}

not_beyond : (w : ℤ) → IsWeight w → is_beyond_limit w ≡ true → ⊥
not_beyond w h e = grind (arith, nat_tests)

pub never_refused : (ws : List ℤ) (e : SetupError) → 2 ≤ length ws → length ws ≤ 13
    → ((colour : ℕ) → colour < length ws → IsWeight (get_or ws colour (pos 0)))
    → ((◌≡◌ {A = Result (List ℤ) SetupError} (Err e) (Err BadCount)) ↔ ((length ws < 2) ⊎ (13 < length ws)))
    → ((place : ℕ) → (◌≡◌ {A = Result (List ℤ) SetupError} (Err e) (Err (BadWeight place))) ↔ ((2 ≤ length ws) × (length ws ≤ 13) × (position is_beyond_limit ws ≡ Some place)))
    → ⊥
never_refused ws BadCount least most within count weight = ⊎_elim (λ h. omega arith) (λ h. omega arith) (count.0 refl)
never_refused ws (BadWeight place) least most within count weight =
    let found = position-Some is_beyond_limit ws place (pos 0) ((weight place).0 refl).2 in
    not_beyond (get_or ws place (pos 0)) (within place found.0) found.1
