-- The products over the vertices of what the ends at each give are products over the edges.
use Rattle.std.proofs.Common.{◌≡◌, ◌≢◌, ℕ, zero, suc, ◌<◌, ◌≤◌, ⊎_elim, Bool, true, false, ◌==◌, if◌then◌else◌, List, [], ◌∷◌, ◌++◌, map, pos, refl, sym, ap, ap₂, ◌∙◌, arith}
use Rattle.std.proofs.lemmas.List.{map-append}
use Rattle.std.proofs.lemmas.Bool.{cases_lt, true≢false}
use Rattle.arithmetic.specs.Fractions.{Fraction, fraction, times, product_of_fractions}
use Rattle.arithmetic.proofs.FractionSums.{times-one}
use Rattle.arithmetic.proofs.FractionProducts.{times-assoc, one-times, product_of_fractions-push}
use Rattle.lists.specs.Ranges.{below}
use Rattle.localisation.specs.VertexFraction.{End}
use Rattle.localisation.specs.ClassValue.{ends_among}
use Rattle.regrouping.specs.Spread.{over, JoinsBelow, end_of, both_shares}
use Rattle.regrouping.proofs.ExtensionLaws.{crosswise}

pub times-crosswise : (f g h k : Fraction) → times (times f g) (times h k) ≡ times (times f h) (times g k)
times-crosswise f g h k = ap₂ fraction (crosswise f.top g.top h.top k.top) (crosswise f.bottom g.bottom h.bottom k.bottom)

pub product_of_fractions-append : (fs gs : List Fraction) → product_of_fractions (fs ++ gs) ≡ times (product_of_fractions fs) (product_of_fractions gs)
product_of_fractions-append [] gs = sym (one-times (product_of_fractions gs))
product_of_fractions-append (f ∷ fs) gs = ap (times f) (product_of_fractions-append fs gs) ∙ sym (times-assoc f (product_of_fractions fs) (product_of_fractions gs))

-- ---- products over the vertices
pub over-suc : (n : ℕ) (f : ℕ → Fraction) → over (suc n) f ≡ times (over n f) (f n)
over-suc n f = ap product_of_fractions (map-append f (below n) (n ∷ [])) ∙ product_of_fractions-push (map f (below n)) (f n)

among-times : (vs : List ℕ) (f g : ℕ → Fraction)
    → product_of_fractions (map (λ v. times (f v) (g v)) vs) ≡ times (product_of_fractions (map f vs)) (product_of_fractions (map g vs))
among-times [] f g = refl
among-times (v ∷ vs) f g = ap (times (times (f v) (g v))) (among-times vs f g)
    ∙ times-crosswise (f v) (g v) (product_of_fractions (map f vs)) (product_of_fractions (map g vs))

pub over-times : (n : ℕ) (f g : ℕ → Fraction) → over n (λ v. times (f v) (g v)) ≡ times (over n f) (over n g)
over-times n f g = among-times (below n) f g

among-same : (vs : List ℕ) (f g : ℕ → Fraction) → ((v : ℕ) → f v ≡ g v) → product_of_fractions (map f vs) ≡ product_of_fractions (map g vs)
among-same [] f g h = refl
among-same (v ∷ vs) f g h = ap₂ times (h v) (among-same vs f g h)

pub over-same : (n : ℕ) (f g : ℕ → Fraction) → ((v : ℕ) → f v ≡ g v) → over n f ≡ over n g
over-same n f g h = among-same (below n) f g h

-- the factor of one vertex, and 1 at all others
abbrev pub pick : ℕ → (ℕ → Fraction) → ℕ → Fraction
pick a f v = if a == v then f v else fraction (pos 1) (pos 1)

over-pick_above : (n a : ℕ) (f : ℕ → Fraction) → n ≤ a → over n (pick a f) ≡ fraction (pos 1) (pos 1)
over-pick_above zero a f h = refl
over-pick_above (suc n) a f h =
    over-suc n (pick a f) ∙ ap₂ times (over-pick_above n a f (omega arith)) (other a n (f n) (let l : a ≢ n = omega arith in l))
  where
    other : (a n : ℕ) (x : Fraction) → a ≢ n → (if a == n then x else fraction (pos 1) (pos 1)) ≡ fraction (pos 1) (pos 1)
    other a n x h = grind (arith, h)

pub over-pick : (n a : ℕ) (f : ℕ → Fraction) → a < n → over n (pick a f) ≡ f a
over-pick zero a f h = absurd (omega arith)
over-pick (suc n) a f h =
    over-suc n (pick a f)
    ∙ ⊎_elim (λ l. ap₂ times (over-pick n a f l) (other a n (f n) (let k : a ≢ n = omega arith in k)) ∙ times-one (f a))
    (λ l. ap₂ times (over-pick_above n a f l) (itself a n f (omega arith)) ∙ one-times (f a)) (cases_lt a n)
  where
    other : (a n : ℕ) (x : Fraction) → a ≢ n → (if a == n then x else fraction (pos 1) (pos 1)) ≡ fraction (pos 1) (pos 1)
    other a n x h = grind (arith, h)

    itself : (a n : ℕ) (f : ℕ → Fraction) → a ≡ n → pick a f n ≡ f a
    itself a n f e = grind (arith, e)

-- ---- what the ends at a vertex give
abbrev given : (ℕ → End → Fraction) → List ℕ → List (ℕ × ℕ) → List ℕ → ℕ → Fraction
given f colours es ds v = product_of_fractions (map (f v) (ends_among v colours es ds))

-- the end that one edge has there, if any
abbrev first : List ℕ → ℕ × ℕ → ℕ → Bool → Bool → List End
first colours e a p q = if p then end_of colours e.1 a ∷ [] else if q then end_of colours e.0 a ∷ [] else []

given-cons : (f : ℕ → End → Fraction) (colours : List ℕ) (e : ℕ × ℕ) (es : List (ℕ × ℕ)) (a : ℕ) (ds : List ℕ) (v : ℕ) → e.0 ≢ e.1
    → given f colours (e ∷ es) (a ∷ ds) v
    ≡ times (times (pick e.0 (λ u. f u (end_of colours e.1 a)) v) (pick e.1 (λ u. f u (end_of colours e.0 a)) v)) (given f colours es ds v)
given-cons f colours e es a ds v h =
    ap product_of_fractions (map-append (f v) (first colours e a (e.0 == v) (e.1 == v)) (ends_among v colours es ds))
    ∙ product_of_fractions-append (map (f v) (first colours e a (e.0 == v) (e.1 == v))) (map (f v) (ends_among v colours es ds))
    ∙ ap (λ x. times x (given f colours es ds v)) (by_case (e.0 == v) (e.1 == v) (apart (e.0) (e.1) v h))
  where
    apart : (i j v : ℕ) → i ≢ j → (i == v) ≡ true → (j == v) ≡ false
    apart i j v h p = grind (arith, h, p)

    by_case : (p q : Bool) → (p ≡ true → q ≡ false) → product_of_fractions (map (f v) (first colours e a p q))
        ≡ times (if p then f v (end_of colours e.1 a) else fraction (pos 1) (pos 1)) (if q then f v (end_of colours e.0 a) else fraction (pos 1) (pos 1))
    by_case true true k = absurd (true≢false (k refl))
    by_case true false k = refl
    by_case false true k = times-one (f v (end_of colours e.0 a)) ∙ sym (one-times (f v (end_of colours e.0 a)))
    by_case false false k = refl

pub over-none : (n : ℕ) → over n (λ v. fraction (pos 1) (pos 1)) ≡ fraction (pos 1) (pos 1)
over-none zero = refl
over-none (suc n) = over-suc n (λ v. fraction (pos 1) (pos 1)) ∙ ap (λ x. times x (fraction (pos 1) (pos 1))) (over-none n)

-- the product over the vertices of what the ends at each give is the product over the edges
pub over-ends : (n : ℕ) (f : ℕ → End → Fraction) (colours : List ℕ) (es : List (ℕ × ℕ)) (ds : List ℕ) → JoinsBelow n es
    → over n (λ v. product_of_fractions (map (f v) (ends_among v colours es ds))) ≡ product_of_fractions (both_shares f colours es ds)
over-ends n f colours [] ds h = over-none n
over-ends n f colours (e ∷ es) [] h = over-none n
over-ends n f colours (e ∷ es) (a ∷ ds) h =
    over-same n _ _ (λ v. given-cons f colours e es a ds v h.2)
    ∙ over-times n (λ v. times (pick e.0 (λ u. f u (end_of colours e.1 a)) v) (pick e.1 (λ u. f u (end_of colours e.0 a)) v)) (given f colours es ds)
    ∙ ap₂ times
    (over-times n (pick e.0 (λ u. f u (end_of colours e.1 a))) (pick e.1 (λ u. f u (end_of colours e.0 a)))
    ∙ ap₂ times (over-pick n e.0 (λ u. f u (end_of colours e.1 a)) h.0) (over-pick n e.1 (λ u. f u (end_of colours e.0 a)) h.1))
    (over-ends n f colours es ds h.3)

pub over-same_below : (n : ℕ) (f g : ℕ → Fraction) → ((v : ℕ) → v < n → f v ≡ g v) → over n f ≡ over n g
over-same_below zero f g h = refl
over-same_below (suc n) f g h =
    over-suc n f ∙ ap₂ times (over-same_below n f g (λ v l. h v (omega arith))) (h n (omega arith)) ∙ sym (over-suc n g)
