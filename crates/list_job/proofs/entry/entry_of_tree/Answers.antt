use Rattle.std.proofs.Common.{◌≡◌, ◌≤◌, ◌<◌, ◌*◌, ◌/◌, ◌%◌, ◌∙◌, [], length, length-set, get_or, slice_index, refl, ap, ap₂, subst, arith}
use Rattle.std.proofs.lemmas.List.{get_or-set_other, get_or-replicate}
use Rattle.trees.specs.TreeNumbers.{tree_of}
use Rattle.decorated_tree.specs.Trees.{tree_view}
use Rattle.localisation.specs.Contribution.{contribution}
use Rattle.localisation.specs.Agreement.{modulus_at, integral_at}
use Rattle.problem.specs.declared.problem.Problem.{Problem}
use Rattle.range_sum.proofs.SumIndices.{added_next, within_64}
use Rattle.table_sum.specs.Trees.{KnowsEdges}
use Rattle.table_sum.specs.Sums.{problem_of, table_of}
use Rattle.table_sum.proofs.Later.{later_same, later_after}
use Rattle.list_job.specs.Entries.{no_residue, Tells}
use Rattle.list_job.proofs.Telling.{edges_next, edges_all}
use Rattle.list_job.proofs.entry.entry_of_tree.Goals as goal

pub loop-place-init : goal.loop-place-init
loop-place-init c = record {
  size = refl;
  seat = later_same (table_of c.args.sum.now) c.args.seat.now c.requires.seat;
  told = λ q below. absurd (omega arith);
  rest = λ q past below. get_or-replicate 64 q no_residue 0 below;
  edges = λ q below. absurd (omega arith);
}

pub loop-place-preserved : goal.loop-place-preserved
loop-place-preserved c =
    let p = problem_of c.args.sum.now in
    let t = table_of c.args.sum.now in
    let g = tree_view c.tree-tree.result in
    let place = c.loop-place.place in
    let before = c.loop-place.invariant in
    let moduli : c.len-moduli.result ≡ length p.moduli =
    c.len-moduli.ensures ∙ ap (λ (q : Problem). length q.moduli) c.problem-problem.ensures in
    let integrals : c.len.result ≡ length p.integrals =
    c.len.ensures ∙ ap (λ (q : Problem). length q.integrals) c.problem-problem.ensures in
    let within : place < length p.integrals * length p.moduli =
    subst (λ n. place < n) (ap₂ (λ a b. a * b) integrals moduli) c.loop-place-test.true in
    let small = within_64 p place within in
    let size = before.size in
    record {
      size = length-set c.loop-place.values place _ ∙ size;
      seat = later_after _ _ _ _ before.seat c.value.ensures.seat;
      told =
          added_next
          (λ q old x. Tells (modulus_at p.moduli q) (contribution p.setup (integral_at p.moduli p.integrals q) g) x)
          c.loop-place.values c.loop-place.values 0 c.value.result place (omega arith) before.told refl
          (subst
          (λ n. Tells (slice_index p.moduli (place % n)) (contribution p.setup (get_or p.integrals (place / n) []) g) c.value.result) moduli
          c.value.ensures.value);
      rest = λ q past below.
          get_or-set_other c.loop-place.values place q c.value.result 0 (λ same. absurd (omega arith)) ∙ before.rest q (omega arith) below;
      edges = edges_next t _ _ g (length p.moduli) place c.value.ensures.seat before.edges
          (subst (λ n. KnowsEdges c.value.new.seat t g (place % n)) moduli c.value.ensures.edges);
    }

pub returns-clause-entry : goal.returns-clause-entry
returns-clause-entry c =
    let p = problem_of c.args.sum.now in
    let last = c.loop-place.invariant in
    let all : length p.integrals * length p.moduli ≤ c.loop-place.place =
    subst (λ n. n ≤ c.loop-place.place)
    (ap₂ (λ a b. a * b) (c.len.ensures ∙ ap (λ (q : Problem). length q.integrals) c.problem-problem.ensures)
    (c.len-moduli.ensures ∙ ap (λ (q : Problem). length q.moduli) c.problem-problem.ensures))
    c.loop-place-test.false in
    let most : c.loop-place.place ≤ length p.integrals * length p.moduli =
    subst (λ n. c.loop-place.place ≤ n)
    (ap₂ (λ a b. a * b) (c.len.ensures ∙ ap (λ (q : Problem). length q.integrals) c.problem-problem.ensures)
    (c.len-moduli.ensures ∙ ap (λ (q : Problem). length q.moduli) c.problem-problem.ensures))
    c.loop-place.auto.place-end in
    let tree = c.tree-tree.ensures.value
    ∙ ap (λ (q : Problem). tree_of q.shape c.args.number) c.problem-problem.ensures in
    record {
      number = refl;
      places = last.size;
      values = λ q below.
          subst
          (λ g. Tells (modulus_at p.moduli q) (contribution p.setup (integral_at p.moduli p.integrals q) g) (slice_index c.loop-place.values q)) tree
          (last.told q (omega (arith, all, below)));
      rest = λ q past below. last.rest q (omega (arith, most, past)) below;
    }

pub returns-clause-edges : goal.returns-clause-edges
returns-clause-edges c = λ index below.
    let p = problem_of c.args.sum.now in
    let t = table_of c.args.sum.now in
    let tree = c.tree-tree.ensures.value
    ∙ ap (λ (q : Problem). tree_of q.shape c.args.number) c.problem-problem.ensures in
    let all : length p.integrals * length p.moduli ≤ c.loop-place.place =
    subst (λ n. n ≤ c.loop-place.place)
    (ap₂ (λ a b. a * b) (c.len.ensures ∙ ap (λ (q : Problem). length q.integrals) c.problem-problem.ensures)
    (c.len-moduli.ensures ∙ ap (λ (q : Problem). length q.moduli) c.problem-problem.ensures))
    c.loop-place-test.false in
    subst (λ g. KnowsEdges c.loop-place.seat t g index) tree
    (edges_all t c.loop-place.seat (tree_view c.tree-tree.result) (length p.integrals) (length p.moduli) c.loop-place.place
    p.rules.some_integrals all c.loop-place.invariant.edges index below)
