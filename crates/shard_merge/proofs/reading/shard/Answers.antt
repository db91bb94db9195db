-- The problem is read first. Then each test in its order gives the refusal of its own cause, and the tests before it
-- rule out those that come earlier.
use Rattle.std.proofs.Common.{◌≡◌, ◌≢◌, ◌<◌, ◌≤◌, length, arith}
use Rattle.std.proofs.lemmas.Result.{err_from_is_err_and}
use Rattle.problem.specs.Problems as problems
use Rattle.problem.specs.Sums.{count_of}
use Rattle.checkpoint.specs.Bodies.{numbers_of}
use Rattle.checkpoint.proofs.Fits.{numbers_count}
use Rattle.shard_merge.specs.Bodies.{contents_of}
use Rattle.shard_merge.proofs.ShardLaws.{at_lines, at_counts, at_residues, at_shard}
use Rattle.shard_merge.proofs.reading.shard.Goals as goal

pub returns-then-len-wanted-clause-value : goal.returns-then-len-wanted-clause-value
returns-then-len-wanted-clause-value c =
    let p = problems.view c.in_ok-problem.problem in
    let n = numbers_count c.args.body.rows.items in
    let some : c.args.body.first < c.args.body.end = omega arith in
    let most : c.args.body.end ≤ count_of p = omega arith in
    let other : length (numbers_of c.args.body.rows.items) ≢ length p.integrals =
    λ same. c.if-len-wanted.true (omega (arith, same, n)) in
    let k : c.len-then-len-wanted.result ≡ length (numbers_of c.args.body.rows.items) = omega (arith, n) in
    λ _. rw (c.shown_count.ensures, k, c.len-wanted.ensures) (at_lines (contents_of c.args.body) p c.in_ok-problem.ensures some most other)

pub returns-in_err-check_counts-clause-value : goal.returns-in_err-check_counts-clause-value
returns-in_err-check_counts-clause-value c =
    let r =
    err_from_is_err_and c.from_residual-in_err-check_counts.result c.from_residual-in_err-check_counts.ensures.1 in
    let p = problems.view c.in_ok-problem.problem in
    let n = numbers_count c.args.body.rows.items in
    let some : c.args.body.first < c.args.body.end = omega arith in
    let most : c.args.body.end ≤ count_of p = omega arith in
    let lines : length (numbers_of c.args.body.rows.items) ≡ length p.integrals = omega (arith, n) in
    let fault = rw (c.as_slice.ensures.value, c.len-2.ensures) at c.in_err-check_counts.ensures.value in
    rw (r.1, r.2) (λ _. at_counts (contents_of c.args.body) p c.in_ok-problem.ensures some most lines _ fault)

pub returns-in_err-check_residues-clause-value : goal.returns-in_err-check_residues-clause-value
returns-in_err-check_residues-clause-value c =
    let r =
    err_from_is_err_and c.from_residual-in_err-check_residues.result c.from_residual-in_err-check_residues.ensures.1 in
    let p = problems.view c.in_ok-problem.problem in
    let n = numbers_count c.args.body.rows.items in
    let some : c.args.body.first < c.args.body.end = omega arith in
    let most : c.args.body.end ≤ count_of p = omega arith in
    let lines : length (numbers_of c.args.body.rows.items) ≡ length p.integrals = omega (arith, n) in
    let counts = rw (c.as_slice.ensures.value, c.len-2.ensures) at c.in_ok-check_counts.ensures.value in
    let joined = rw c.as_slice-2.ensures.value at c.in_ok-residues.ensures in
    let fault = rw (c.as_slice-3.ensures.value, joined) at c.in_err-check_residues.ensures.value in
    rw (r.1, r.2) (λ _. at_residues (contents_of c.args.body) p c.in_ok-problem.ensures some most lines _ counts fault)

pub returns-clause-value : goal.returns-clause-value
returns-clause-value c =
    let p = problems.view c.in_ok-problem.problem in
    let n = numbers_count c.args.body.rows.items in
    let some : c.args.body.first < c.args.body.end = omega arith in
    let most : c.args.body.end ≤ count_of p = omega arith in
    let lines : length (numbers_of c.args.body.rows.items) ≡ length p.integrals = omega (arith, n) in
    let counts = rw (c.as_slice.ensures.value, c.len-2.ensures) at c.in_ok-check_counts.ensures.value in
    let joined = rw c.as_slice-2.ensures.value at c.in_ok-residues.ensures in
    let fit = rw (c.as_slice-3.ensures.value, joined) at c.in_ok-check_residues.ensures.value in
    rw (c.new.ensures.value, c.of.ensures, c.of-2.ensures, c.in_ok-source.ensures.items, joined) (at_shard (contents_of c.args.body) p c.in_ok-problem.ensures some most lines counts fit)
