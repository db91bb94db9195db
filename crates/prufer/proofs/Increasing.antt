-- Increasing lists of pairs, index by index.
use Rattle.std.proofs.Common.{◌≡◌, ℕ, ◌+◌, ◌-◌, ◌<◌, ◌≤◌, true, ◌&&◌, List, [], ◌∷◌, length, drop, get_or, refl, sym, ap, ◌∙◌, arith}
use Rattle.std.proofs.lemmas.List.{drop_more}
use Rattle.trees.specs.Edges.{comes_before, is_increasing}

increasing_pair : (e f : ℕ × ℕ) (es : List (ℕ × ℕ)) → comes_before e f ≡ true → is_increasing (e ∷ f ∷ es) ≡ is_increasing (f ∷ es)
increasing_pair e f es h = ap (λ b. b && is_increasing (f ∷ es)) h

-- if a pair comes before the next one, the list increases from the one on if it does from the other on
pub increasing-drop : (es : List (ℕ × ℕ)) (p : ℕ) → 1 ≤ p → p < length es → comes_before (get_or es (p - 1) (0, 0)) (get_or es p (0, 0)) ≡ true
    → is_increasing (drop (p + 1 - 1) es) ≡ is_increasing (drop (p - 1) es)
increasing-drop es p some h before =
    at (p - 1) (let e : p ≡ (p - 1) + 1 = omega arith in e) before
  where
    at : (q : ℕ) → p ≡ q + 1 → comes_before (get_or es q (0, 0)) (get_or es p (0, 0)) ≡ true → is_increasing (drop (p + 1 - 1) es) ≡ is_increasing (drop q es)
    at q e before =
        let here : drop (p + 1 - 1) es ≡ get_or es p (0, 0) ∷ drop (p + 1) es = ap (λ i. drop i es) (let same : p + 1 - 1 ≡ p = omega arith in same) ∙ drop_more es p (0, 0) h in
        let front : drop q es ≡ get_or es q (0, 0) ∷ drop (q + 1) es = drop_more es q (0, 0) (omega arith) in
        let next : drop (q + 1) es ≡ get_or es p (0, 0) ∷ drop (p + 1) es = ap (λ i. drop i es) (sym e) ∙ drop_more es p (0, 0) h in
        ap is_increasing here ∙ sym (increasing_pair (get_or es q (0, 0)) (get_or es p (0, 0)) (drop (p + 1) es) before)
        ∙ ap (λ l. is_increasing (get_or es q (0, 0) ∷ l)) (sym next) ∙ ap is_increasing (sym front)

-- one pair is increasing
pub increasing_short : (es : List (ℕ × ℕ)) → length es ≤ 1 → is_increasing es ≡ true
increasing_short [] h = refl
increasing_short (e ∷ []) h = refl
increasing_short (e ∷ f ∷ es) h = absurd (omega arith)
