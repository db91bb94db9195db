use Rattle.std.proofs.Common.{◌≡◌, ℕ, ◌+◌, ◌<◌, ◌≤◌, ◌==◌, Bool, true, false, if◌then◌else◌, List, drop, length, set, get_or, arith, ◌∙◌, length-set}
use Rattle.trees.specs.Words.{degree_of}
use Rattle.prufer.proofs.DegreeCounts.{get_or-raised, degree_of-drop, degree_of_le, touches_twice, EndsAt, ends_at}
use Rattle.prufer.proofs.degrees.degrees_of_edges.Goals as goal

raise : List ℕ → ℕ → List ℕ
raise ds x = set ds x (get_or ds x 0 + 1)

length-raise : (ds : List ℕ) (x : ℕ) → length (raise ds x) ≡ length ds
unfolding raise
length-raise ds x = length-set ds x (get_or ds x 0 + 1)

get_or-raise : (ds : List ℕ) (x v : ℕ) → x < length ds → get_or (raise ds x) v 0 ≡ get_or ds v 0 + (if x == v then 1 else 0)
unfolding raise
get_or-raise ds x v h = get_or-raised ds x v h

bounded : (ds : List ℕ) (es : List (ℕ × ℕ)) (i v : ℕ) → length es ≤ 10 → get_or ds v 0 + degree_of v (drop i es) ≡ degree_of v es → get_or ds v 0 ≤ 10
bounded ds es i v h e = omega (arith, degree_of_le v es)

raised_bounded : (ds : List ℕ) (es : List (ℕ × ℕ)) (i : ℕ) → length ds ≡ 11 → length es ≤ 10 → EndsAt 11 (get_or es i (0, 0))
    → get_or ds (get_or es i (0, 0)).1 0 + degree_of (get_or es i (0, 0)).1 (drop i es) ≡ degree_of (get_or es i (0, 0)).1 es
    → get_or (set ds (get_or es i (0, 0)).0 (get_or ds (get_or es i (0, 0)).0 0 + 1)) (get_or es i (0, 0)).1 0 ≤ 11
raised_bounded ds es i long short ends e =
    let a = (get_or es i (0, 0)).0 in
    let b = (get_or es i (0, 0)).1 in
    let up = ends.upward in
    let less = ends.below in
    step (a == b) (get_or ds b 0) (get_or-raised ds a b (omega arith)) (bounded ds es i b short e)
  where
    step : (t : Bool) (d : ℕ) {r : ℕ} → r ≡ d + (if t then 1 else 0) → d ≤ 10 → r ≤ 11
    step true d e h = omega arith
    step false d e h = omega arith

-- the degrees after one more edge
one_edge : (ds : List ℕ) (es : List (ℕ × ℕ)) (i v : ℕ) → length ds ≡ 11 → i < length es → EndsAt 11 (get_or es i (0, 0))
    → get_or ds v 0 + degree_of v (drop i es) ≡ degree_of v es
    → get_or (raise (raise ds (get_or es i (0, 0)).0) (get_or es i (0, 0)).1) v 0 + degree_of v (drop (i + 1) es) ≡ degree_of v es
one_edge ds es i v long h ends e =
    let a = (get_or es i (0, 0)).0 in
    let b = (get_or es i (0, 0)).1 in
    let up = ends.upward in
    let less = ends.below in
    let first = get_or-raise ds a v (omega arith) in
    let second = get_or-raise (raise ds a) b v (let l = length-raise ds a in omega arith) in
    let split = degree_of-drop es i v h in
    let twice = touches_twice (get_or es i (0, 0)) v up in
    omega arith

pub overflow_add-degrees : goal.overflow_add-degrees
overflow_add-degrees c =
    let i = c.loop-edge.edge-index in
    let ends = ends_at 11 c.args.edges.now i c.requires.within c.loop-edge-test.true in
    omega (arith, bounded c.loop-edge.degrees c.args.edges.now i _ c.requires.short (c.loop-edge.invariant.counts (get_or c.args.edges.now i (0, 0)).0 (let u = ends.upward in let b = ends.below in omega arith)))

pub overflow_add-degrees-in-loop-edge : goal.overflow_add-degrees-in-loop-edge
overflow_add-degrees-in-loop-edge c =
    let i = c.loop-edge.edge-index in
    let ends = ends_at 11 c.args.edges.now i c.requires.within c.loop-edge-test.true in
    omega (arith, raised_bounded c.loop-edge.degrees c.args.edges.now i c.loop-edge.invariant.long c.requires.short ends (c.loop-edge.invariant.counts (get_or c.args.edges.now i (0, 0)).1 ends.below))

pub loop-edge-preserved : goal.loop-edge-preserved
unfolding raise
loop-edge-preserved c = record {
  long = length-set _ _ _ ∙ length-set _ _ _ ∙ c.loop-edge.invariant.long;
  counts = λ v h. one_edge c.loop-edge.degrees c.args.edges.now c.loop-edge.edge-index v c.loop-edge.invariant.long c.loop-edge-test.true
      (ends_at 11 c.args.edges.now c.loop-edge.edge-index c.requires.within c.loop-edge-test.true) (c.loop-edge.invariant.counts v h);
}
