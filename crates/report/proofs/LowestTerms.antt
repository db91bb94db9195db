-- A fraction in lowest terms has the residues of the fraction itself.
use Rattle.std.proofs.Common.{◌≡◌, ℕ, ◌*◌, ◌%◌, ◌<◌, pos, ◌-ℤ◌, ◌*ℤ◌, nat_abs, sym, ap, ◌∙◌, arith}
use Rattle.std.specs.Int.{◌∣◌}
use Rattle.std.proofs.Math.Nat.{mod-eq_of_lt}
use Rattle.arithmetic.specs.Numbers.{gcd, reduce}
use Rattle.arithmetic.specs.Fractions as unreduced
use Rattle.arithmetic.proofs.Congruences.{Same, same_refl, same_of_eq, same_sym, same_trans, same_mul, same_mod}
use Rattle.arithmetic.proofs.Divisors.{cancel_unit}
use Rattle.arithmetic.proofs.ReduceLaws.{reduce-*ℤ, reduce-pos, reduce_below, divides_from_same}
use Rattle.arithmetic.proofs.Residues.{gcd-reduce, residue_equation}
use Rattle.recover_fraction.specs.declared.recovery.Fraction.{Fraction}
use Rattle.report.specs.Fractions.{IsInLowestTerms}

-- with the bottom d of a fraction n / d, a unit, and its residue x: b x leaves what a leaves, if a d = n b
crossed : (m x n d a b : ℕ) → 0 < m → gcd d m ≡ 1 → (x * d) % m ≡ n % m → (a * d) % m ≡ (n * b) % m → Same m (b * x) a
crossed m x n d a b h unit e f =
    cancel_unit m d (b * x) a h unit
    (same_trans (same_of_eq m _ _ (turned d b x))
    (same_trans (same_mul (same_refl m b) (record { is = e }))
    (same_trans (same_of_eq m _ _ (exchanged b n)) (same_trans (same_sym (record { is = f })) (same_of_eq m _ _ (exchanged a d))))))
  where
    turned : (d b x : ℕ) → d * (b * x) ≡ b * (x * d)
    turned d b x = omega arith

    exchanged : (b n : ℕ) → b * n ≡ n * b
    exchanged b n = omega arith

pub residue_in_lowest_terms : (m x : ℕ) (s : unreduced.Fraction) (f : Fraction) → unreduced.IsResidue m s x
    → IsInLowestTerms s f
    → m ∣ nat_abs (pos f.bottom *ℤ pos x -ℤ f.top)
residue_in_lowest_terms m x s f r l =
    let some : 0 < m = let b = r.below in omega (arith, b) in
    let n = reduce m s.top in
    let d = reduce m s.bottom in
    let a = reduce m f.top in
    let equation : (x * d) % m ≡ n % m =
    residue_equation m s x some r ∙ sym (mod-eq_of_lt (reduce_below m s.top some)) in
    let equal : (a * d) % m ≡ (n * f.bottom) % m =
    sym (reduce-*ℤ m f.top s.bottom some) ∙ ap (reduce m) l.equal ∙ reduce-*ℤ m s.top (pos f.bottom) some
    ∙ ap (λ q. (n * q) % m) (reduce-pos m f.bottom) ∙ (same_mul (same_refl m n) (same_mod m f.bottom)).is in
    divides_from_same m (pos f.bottom *ℤ pos x) f.top some
    (reduce-pos m (f.bottom * x)
    ∙ (crossed m x n d a f.bottom some (gcd-reduce m s.bottom some ∙ r.unit) equation equal).is
    ∙ mod-eq_of_lt (reduce_below m f.top some))
