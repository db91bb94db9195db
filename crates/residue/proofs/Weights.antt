-- Weights within their limit, and the first that is not.
use Rattle.std.proofs.Common.{◌≡◌, ℕ, ◌+◌, ◌≤◌, ℤ, Bool, true, false, cond, List, [], ◌∷◌, ◌++◌, length, take, Option, Some, None, position, All, unsigned_abs, refl, sym, ◌∙◌, arith}
use Rattle.std.specs.List.{position_from}
use Rattle.std.proofs.Math.Seq.{take-append_seam}
use Rattle.std.proofs.lemmas.Bool.{ltb-false}
use Rattle.std.proofs.lemmas.Iterator.Adapters.{position_from-zero}
use Rattle.std.proofs.lemmas.List.Elements.{All-cons}
use Rattle.residue.specs.Limits.{IsWeight, AreWeights, is_beyond_limit}

none_from : (ws : List ℤ) (i : ℕ) → position_from is_beyond_limit i ws ≡ None → All IsWeight ws
none_from [] i h = λ k d below. absurd (omega arith)
none_from (w ∷ ws) i h = by_test i w ws (is_beyond_limit w) refl h (none_from ws (i + 1))
  where
    by_test : (i : ℕ) (w : ℤ) (ws : List ℤ) (b : Bool) → is_beyond_limit w ≡ b → cond b (Some i) (position_from is_beyond_limit (i + 1) ws) ≡ None
        → (position_from is_beyond_limit (i + 1) ws ≡ None → All IsWeight ws) → All IsWeight (w ∷ ws)
    by_test i w ws true e h rest = cc
    by_test i w ws false e h rest = All-cons IsWeight w ws (ltb-false 1000000000 (unsigned_abs w) e) (rest h)

-- 2 to 13 weights of which none is beyond the limit
pub are_weights : (ws : List ℤ) (r : Option ℕ) → 2 ≤ length ws → length ws ≤ 13 → r ≡ position is_beyond_limit ws → r ≡ None → AreWeights ws
are_weights ws r least most e none = record {
  at_least_2 = least;
  at_most_13 = most;
  within = none_from ws 0 (sym (position_from-zero is_beyond_limit ws) ∙ sym e ∙ none);
}

pub kept_weights : (ws front back : List ℤ) → front ≡ ws → AreWeights ws → AreWeights (take (length ws) (front ++ back))
kept_weights ws front back e h = rw e (rw take-append_seam h)
