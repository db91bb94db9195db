-- Residues, fractions and the least bad tree of a problem are determined, and so is what is printed of them: two runs at the
-- end of chains of one text print one text.
use Rattle.std.proofs.Common.{◌≡◌, ◌⊎◌, ℕ, inl, inr, ◌*◌, ◌%◌, ◌<◌, Bool, List, ◌++◌, length, get_or, Option, Some, None, option_map, refl, sym, ap, ap₂, ◌∙◌, subst, arith, ⊎_elim, mul_comm}
use Rattle.std.proofs.lemmas.Bool.{cases_lt}
use Rattle.std.proofs.lemmas.List.{append_cancel_left, ext_get_or}
use Rattle.std.proofs.lemmas.Option.{same_Some}
use Rattle.std.proofs.Math.Nat.{mod-eq_of_lt}
use Rattle.arithmetic.specs.Numbers.{gcd, reduce}
use Rattle.arithmetic.specs.Fractions.{Fraction, IsResidue}
use Rattle.arithmetic.proofs.Divisors.{cancel_unit}
use Rattle.arithmetic.proofs.Residues.{gcd-reduce, residue_equation}
use Rattle.trees.specs.TreeNumbers.{tree_of}
use Rattle.localisation.specs.Agreement.{modulus_at, integral_at, IsLeastBad, IsFirstBad}
use Rattle.localisation.specs.Contribution.{kontsevich_sum}
use Rattle.recover_fraction.specs.declared.recovery.Fraction as recovered
use Rattle.problem.specs.Rules.{ProblemView}
use Rattle.problem.specs.Sums.{count_of, places_of, is_bad_of, is_bad_modulo, HasBadTree, AreKontsevichSums}
use Rattle.checkpoint.specs.States.{AreResidues}
use Rattle.report.specs.Outcome.{LacksInverse}
use Rattle.report.specs.Fractions.{AreFractions, IsOnlyFraction}
use Rattle.report.specs.Report.{done_status}
use Rattle.report.specs.Texts.{done_text, no_inverse_text}
use Rattle.locus_core.specs.Outside.{TakesText}
use Rattle.locus_core.specs.Ends.{Run}
use Rattle.locus_core.specs.Chains.{HasPrinted, PrintsKontsevichSums, NamesLeastOfAll}
use Rattle.locus_core.proofs.Decided.{tree_bad}

-- what was printed is what the sink took
pub same_text : (r : Run) (printed text : List ℕ) → HasPrinted r printed → TakesText r.out text → text ≡ printed
same_text r printed text h t =
    let grown : Some (h.earlier ++ printed) ≡ Some (h.earlier ++ text) =
    sym h.after ∙ t.appended ∙ ap (λ w. option_map (λ b. b ++ text) w) h.before in
    append_cancel_left h.earlier text printed (sym (same_Some (h.earlier ++ printed) (h.earlier ++ text) grown))

-- ---- what is determined
residue_once : (m : ℕ) (f : Fraction) (x y : ℕ) → IsResidue m f x → IsResidue m f y → x ≡ y
residue_once m f x y p q =
    let some : 0 < m = positive p.below in
    let b = reduce m f.bottom in
    let unit : gcd b m ≡ 1 = gcd-reduce m f.bottom some ∙ p.unit in
    let products : (b * x) % m ≡ (b * y) % m =
    ap (λ z. z % m) (mul_comm b x) ∙ residue_equation m f x some p ∙ sym (residue_equation m f y some q) ∙ ap (λ z. z % m) (mul_comm y b) in
    let same = cancel_unit m b x y some unit (record { is = products }) in
    sym (mod-eq_of_lt p.below) ∙ same.is ∙ mod-eq_of_lt q.below
  where
    positive : x < m → 0 < m
    positive h = omega (arith, h)

residues_once : (p : ProblemView) (xs ys : List ℕ) → AreResidues p xs → AreKontsevichSums p xs → AreResidues p ys → AreKontsevichSums p ys → xs ≡ ys
residues_once p xs ys a s b t =
    ext_get_or 0 xs ys (a.one_each ∙ sym b.one_each)
    (λ place l.
    let within : place < places_of p = subst (λ z. place < z) a.one_each l in
    residue_once (modulus_at p.moduli place) (kontsevich_sum p.weights p.shape (integral_at p.moduli p.integrals place))
    (get_or xs place 0) (get_or ys place 0) (s.each place within) (t.each place within))

fractions_once : (p : ProblemView) (residues : List ℕ) (fs gs : List (Option recovered.Fraction)) → AreFractions p residues fs → AreFractions p residues gs
    → fs ≡ gs
fractions_once p residues fs gs a b =
    ext_get_or None fs gs (a.as_many ∙ sym b.as_many)
    (λ i l.
    let within : i < length p.integrals = subst (λ z. i < z) a.as_many l in
    only (get_or fs i None) (get_or gs i None) (a.each i within) (b.each i within))
  where
    only : {ms xs : List ℕ} {most_top most_bottom : ℕ} (f g : Option recovered.Fraction) → IsOnlyFraction ms xs most_top most_bottom f
        → IsOnlyFraction ms xs most_top most_bottom g → f ≡ g
    only (Some f) g h k = sym ((k f).0 ((h f).1 refl))
    only None (Some g) h k = (h g).0 ((k g).1 refl)
    only None None h k = refl

least_once : (bad : ℕ → Bool) (count k l : ℕ) → IsLeastBad bad 0 count k → IsLeastBad bad 0 count l → k ≡ l
least_once bad count k l a b =
    ⊎_elim
    (λ less. absurd (b.least k (omega arith) less a.is_bad))
    (λ most. ⊎_elim (λ less. absurd (a.least l (omega arith) less b.is_bad)) (λ least. omega (arith, most, least)) (cases_lt l k))
    (cases_lt k l)

first_once : (bad : ℕ → Bool) (ms : List ℕ) (i j : ℕ) → IsFirstBad bad ms i → IsFirstBad bad ms j → i ≡ j
first_once bad ms i j a b =
    ⊎_elim
    (λ less. absurd (b.first i less a.is_bad))
    (λ most. ⊎_elim (λ less. absurd (a.first j less b.is_bad)) (λ least. omega (arith, most, least)) (cases_lt j i))
    (cases_lt i j)

-- the least bad number has a bad tree
some_bad : (p : ProblemView) (number index : ℕ) → LacksInverse p number index → HasBadTree p
some_bad p number index h = (tree_of p.shape number, h.tree, tree_bad p number h.least.is_bad)

-- ---- the end of a chain
-- its sums were printed, or the least bad tree was
abbrev pub Concludes : ProblemView → Run → ℕ → Type 0
Concludes p r n = PrintsKontsevichSums p r n ⊎ ((n ≡ 4) × NamesLeastOfAll p r)

pub same_end : (p : ProblemView) (r other : Run) (n m : ℕ) (text : List ℕ) → Concludes p r n → Concludes p other m → HasPrinted other text
    → (n ≡ m) × TakesText r.out text
same_end p r other n m text (inl a) (inl b) printed =
    let xs = residues_once p a.residues b.residues a.are_residues a.sums b.are_residues b.sums in
    let fs = fractions_once p a.residues a.fractions b.fractions a.agree (subst (λ x. AreFractions p x b.fractions) (sym xs) b.agree) in (
      a.status ∙ ap done_status fs ∙ sym b.status,
      subst (TakesText r.out)
          (ap₂ (done_text p) xs fs ∙ same_text other text (done_text p b.residues b.fractions) printed b.out) a.out,
    )
same_end p r other n m text (inr (four, a)) (inr (also, b)) printed =
    let numbers = least_once (is_bad_of p) (count_of p) a.number b.number a.is.least b.is.least in
    let indices =
    first_once (is_bad_modulo p a.number) p.moduli a.index b.index a.is.first
    (subst (λ k. IsFirstBad (is_bad_modulo p k) p.moduli b.index) (sym numbers) b.is.first) in (
      four ∙ sym also,
      subst (TakesText r.out)
          (ap₂ (no_inverse_text p) numbers indices ∙ same_text other text (no_inverse_text p b.number b.index) printed b.out) a.out,
    )
same_end p r other n m text (inl a) (inr (four, b)) printed = absurd (a.none_bad (some_bad p b.number b.index b.is))
same_end p r other n m text (inr (four, a)) (inl b) printed = absurd (b.none_bad (some_bad p a.number a.index a.is))
