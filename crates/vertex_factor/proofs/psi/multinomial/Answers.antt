use Rattle.std.proofs.Common.{ap, ◌-◌, ◌∙◌, sum, arith}
use Rattle.arithmetic.specs.Numbers.{factorial}
use Rattle.arithmetic.proofs.Factorials.{factorial_positive}
use Rattle.vertex_factor.proofs.Multinomials.{multinomial_fits, positive_product}
use Rattle.vertex_factor.proofs.psi.multinomial.Goals as goal

pub overflow_mul-result : goal.overflow_mul-result
overflow_mul-result c =
    omega (
      arith,
      multinomial_fits c.args.n
          (sum c.args.exponents.now) c.product_of_factorials.result _ c.requires.limited c.requires.within
          c.product_of_factorials.ensures.bounded (c.factorial-2.ensures ∙ ap (λ s. factorial (c.args.n - s)) c.sum.ensures),
    )

pub nonzero_div-result : goal.nonzero_div-result
nonzero_div-result c =
    positive_product c.product_of_factorials.result _ c.product_of_factorials.ensures.positive
    (rw c.factorial-2.ensures (factorial_positive _))
