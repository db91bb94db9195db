use Rattle.arithmetic.proofs.Modular.{Leaves-mul, Leaves-add}
use Rattle.vertex_factor.specs.Ends.{end}
use Rattle.vertex_factor.proofs.EndLaws.{degrees-push, differences-push, crossed-push}
use Rattle.vertex_factor.proofs.sums.with_end.Goals as goal

pub returns : goal.returns
returns c = λ es before.
    let ws = c.args.setup.now in
    let more = end c.args.u c.args.a in
    record {
      degrees = rw (degrees-push es more) (Leaves-mul before.degrees c.of_u64-degree.ensures c.mul.ensures.value);
      differences = rw (differences-push ws c.args.c es more)
          (Leaves-mul before.differences c.difference-difference.ensures c.mul-2.ensures.value);
      crossed = rw (crossed-push ws c.args.c es more)
          (Leaves-add (Leaves-mul before.crossed c.difference-difference.ensures c.mul-old_ends.ensures.value)
          (Leaves-mul c.of_u64-degree.ensures before.differences c.mul-new_end.ensures.value) c.add.ensures.value);
    }
