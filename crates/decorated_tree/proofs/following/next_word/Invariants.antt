use Rattle.decorated_tree.proofs.NextDigits.{IsCounted}
use Rattle.decorated_tree.proofs.following.next_word.Given as goal

abbrev pub invariant-loop-place : goal.invariant-loop-place
invariant-loop-place l = IsCounted l.base l.fn.letters l.letters l.place
