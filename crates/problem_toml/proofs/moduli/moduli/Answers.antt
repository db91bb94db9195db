use Rattle.std.proofs.Common.{◌≡◌, ◌≤◌, ◌<◌, ◌^◌, ◌∙◌, ap, sym, subst, length, Ok}
use Rattle.lists.specs.Digits.{product_of}
use Rattle.problem_toml.specs.Moduli.{coprime_from}
use Rattle.problem_toml.proofs.ModulusLists.{pairwise_coprime}
use Rattle.problem_toml.proofs.moduli.moduli.Goals as goal

pub returns-clause-limits : goal.returns-clause-limits
returns-clause-limits c =
    let ms = c.in_ok-moduli.moduli.items in
    let count : length ms ≡ length c.args.written.now.moduli.items =
    c.in_ok-moduli.ensures.count ∙ ap length c.as_slice.ensures.value in
    let none : coprime_from 0 ms ≡ Ok tt =
    sym (ap (coprime_from 0) c.as_slice-2.ensures.value) ∙ c.in_ok-check_coprime.ensures in
    record {
      least = subst (λ n. 1 ≤ n) (sym count) c.requires.least;
      most = subst (λ n. n ≤ 8) (sym count) c.requires.most;
      each = c.in_ok-moduli.ensures.limits;
      coprime = pairwise_coprime ms none;
      product = subst (λ ns. product_of ns < 2 ^ 126) c.as_slice-3.ensures.value c.in_ok-check_bounds.ensures.product;
    }
