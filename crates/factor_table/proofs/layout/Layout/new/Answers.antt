use Rattle.std.proofs.Common.{arith}
use Rattle.factor_table.proofs.Strides.{limited}
use Rattle.factor_table.proofs.layout.Layout.new.Goals as goal

pub overflow_add-first_class_edge : goal.overflow_add-first_class_edge
overflow_add-first_class_edge c = let m = limited c.args.sizes c.requires in let l = c.requires in omega arith

pub overflow_add-first_class_vertex : goal.overflow_add-first_class_vertex
overflow_add-first_class_vertex c = let m = limited c.args.sizes c.requires in let l = c.requires in omega arith

pub overflow_add-end : goal.overflow_add-end
overflow_add-end c = let m = limited c.args.sizes c.requires in let l = c.requires in omega arith
