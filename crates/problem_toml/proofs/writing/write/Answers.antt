use Rattle.std.proofs.Common.{◌≤◌, Some, ap, ◌∙◌, string_bytes}
use Rattle.toml.specs.Data.{members_depth}
use Rattle.toml.specs.View.{table_view}
use Rattle.problem.specs.Problems.{view as problem_view}
use Rattle.problem_toml.specs.Reading.{reading_of_any_length}
use Rattle.problem_toml.proofs.Rereading.{printed_reads, table_depth}
use Rattle.problem_toml.proofs.writing.write.Goals as goal

pub returns-in-Ok : goal.returns-in-Ok
returns-in-Ok c =
    let p = c.args.problem.now in
    let view_is = c.in_ok-table.ensures in
    let shallow : members_depth (table_view c.in_ok-table.table) ≤ 80 = rw view_is (table_depth (problem_view p)) in
    let parsed = c.in-Ok.ensures.reads_back shallow ∙ ap Some view_is in
    let utf8 = rw c.as_str.ensures.value at c.as_str.utf8 in
    let again = printed_reads (problem_view p) (string_bytes c.in-Ok.text) p.rules utf8 parsed in
    let bytes = c.as_bytes.ensures.value ∙ c.as_str.ensures.value in
    ap reading_of_any_length (c.in_ok-from_slice-in-Ok.ensures.items ∙ bytes) ∙ again
