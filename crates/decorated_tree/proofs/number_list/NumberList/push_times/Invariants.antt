use Rattle.std.proofs.Common.{◌≡◌, ◌++◌, replicate}
use Rattle.decorated_tree.proofs.number_list.NumberList.push_times.Given as goal

abbrev pub invariant-loop : goal.invariant-loop
invariant-loop l = l.self ≡ l.initial.self ++ replicate l.counter l.number
