-- Words and the answers that they stand for.
use Rattle.std.proofs.Common.{◌≡◌, ◌≢◌, ℕ, ◌-◌, inl, inr, Result, Ok, Err, refl, subst, arith}
use Rattle.arithmetic.specs.Fractions.{Fraction, IsResidue}
use Rattle.residue.specs.declared.errors.NoUnit.{NoUnit}
use Rattle.residue.specs.Answers.{GivesResidue}
use Rattle.factor_table.specs.Factors.{IsWordOf, answer_word}

-- the word of an answer that gives the residue
pub word_of_answer : (m : ℕ) (f : Fraction) (answer : Result ℕ NoUnit) → GivesResidue m f answer
    → IsWordOf m f (answer_word answer)
word_of_answer m f (Ok x) g = inl (x, g.value, refl)
word_of_answer m f (Err e) g = inr (g.refused.0 refl, refl)

pub word_not_zero : (answer : Result ℕ NoUnit) → answer_word answer ≢ 0
word_not_zero (Ok x) = λ h. omega arith
word_not_zero (Err e) = λ h. omega arith

-- a word other than 2^64 - 1 is a residue plus 1
pub value_of_word : (m : ℕ) (f : Fraction) (word : ℕ) → IsWordOf m f word → word ≢ 18446744073709551615
    → GivesResidue m f (Ok (word - 1))
value_of_word m f word (inl t) differs =
    let e = t.2 in let x : t.0 ≡ word - 1 = omega arith in
    record { value = subst (IsResidue m f) x t.1; refused = (λ h. cc, λ h. absurd (h t.1.unit)) }
value_of_word m f word (inr t) differs = absurd (differs t.1)
