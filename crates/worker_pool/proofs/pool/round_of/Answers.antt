-- The seats that are closed are those that the loops left: `run_all` writes all of the list that was started.
use Rattle.std.proofs.Common.{◌≡◌, ℕ, ◌<◌, ◌≤◌, true, List, length, map, get_or, arith, sym, refl, subst, ap, ◌∙◌}
use Rattle.std.specs.Prelude.{All}
use Rattle.claim_table.specs.declared.claimer.Plan.{Plan}
use Rattle.claim_table.specs.Counts.{least_of}
use Rattle.claim_table.specs.Claims.{plan, all_reported, IsLegal}
use Rattle.worker_pool.specs.Rounds.{AreLoops}
use Rattle.worker_pool.proofs.Ends.{whole_again, ends_dry, ends_in_order, round, least_bad_is}
use Rattle.worker_pool.proofs.pool.round_of.Goals as goal

pub close-owners-requires-clause-seated : goal.close-owners-requires-clause-seated
close-owners-requires-clause-seated g c =
    let start = c.in_ok-board.ensures in
    let slice = c.as_mut_slice.ensures in
    let items = c.in_ok-board.seats.items in
    let new = c.run_all.new.seats in
    let bad = g.J.Job.least_bad c.args.job.now in
    let stands = g.J.Job.stands_for c.args.job.now in
    let same : length new ≡ length c.in_ok-board.seats.items = c.run_all.auto.seats ∙ ap length slice.value in
    let is = whole_again c.in_ok-board.seats.len items new same (sym slice.len ∙ ap length slice.value) in
    let Loops : List g.row.C.Denot → Type 0 =
    λ x. AreLoops bad stands g.C.Claimer.record_of x c.args.parts.now new c.run_all.new.parts in
    let Ends : List g.row.C.Denot → Type 0 =
    λ x. (k : ℕ) (d : g.row.C.Denot) → k < length x
    → g.C.Claimer.sits_at (get_or x k d) c.in_ok-board.board × g.C.Claimer.is_free (get_or x k d)
    × ((g.C.Claimer.record_of (get_or x k d)).dry ≡ true) in
    let dry = ends_dry bad stands g.C.Claimer.record_of items new c.args.parts.now c.run_all.new.parts start.seats
    c.requires.parts.0 start.fresh same c.run_all.auto.parts (subst Loops slice.value c.run_all.ensures.loops) in
    subst Ends (sym is) (λ k d lt. let sits = c.run_all.ensures.seats k d lt in (sits.0, sits.1, dry k d lt))

pub close-owners-requires-clause-in_order : goal.close-owners-requires-clause-in_order
close-owners-requires-clause-in_order g c =
    let start = c.in_ok-board.ensures in
    let slice = c.as_mut_slice.ensures in
    let items = c.in_ok-board.seats.items in
    let new = c.run_all.new.seats in
    let bad = g.J.Job.least_bad c.args.job.now in
    let stands = g.J.Job.stands_for c.args.job.now in
    let same : length new ≡ length c.in_ok-board.seats.items = c.run_all.auto.seats ∙ ap length slice.value in
    let is = whole_again c.in_ok-board.seats.len items new same (sym slice.len ∙ ap length slice.value) in
    let Loops : List g.row.C.Denot → Type 0 =
    λ x. AreLoops bad stands g.C.Claimer.record_of x c.args.parts.now new c.run_all.new.parts in
    let Ends : List g.row.C.Denot → Type 0 =
    λ x. (k : ℕ) (d : g.row.C.Denot) → k < length x → (g.C.Claimer.record_of (get_or x k d)).worker ≡ k in
    subst Ends (sym is) (ends_in_order bad stands g.C.Claimer.record_of items new c.args.parts.now c.run_all.new.parts
    start.seats c.requires.parts.0 start.fresh same c.run_all.auto.parts
    (subst Loops slice.value c.run_all.ensures.loops))

pub returns-clause-worked : goal.returns-clause-worked
returns-clause-worked g c =
    let start = c.in_ok-board.ensures in
    let slice = c.as_mut_slice.ensures in
    let closed = c.close-owners.ensures in
    let result = c.close-owners.result in
    let items = c.in_ok-board.seats.items in
    let new = c.run_all.new.seats in
    let bad = g.J.Job.least_bad c.args.job.now in
    let stands = g.J.Job.stands_for c.args.job.now in
    let same : length new ≡ length c.in_ok-board.seats.items = c.run_all.auto.seats ∙ ap length slice.value in
    let is = whole_again c.in_ok-board.seats.len items new same (sym slice.len ∙ ap length slice.value) in
    let p : Plan = plan c.args.blocks (length c.args.parts.now) in
    let Loops : List g.row.C.Denot → Type 0 =
    λ x. AreLoops bad stands g.C.Claimer.record_of x c.args.parts.now new c.run_all.new.parts in
    let Legal : Plan → List g.row.C.Denot → Type 0 =
    λ q x. IsLegal q c.close-owners.result.owners (map (λ s. (g.C.Claimer.record_of s).taken) x) in
    let Seen : List g.row.C.Denot → Type 0 =
    λ x. All (λ s. All (λ n. c.close-owners.result.least_bad ≤ n) (g.C.Claimer.record_of s).seens) x in
    let legal =
    subst (λ q. Legal q new) start.board (subst (Legal (g.C.Claimer.plan_of c.in_ok-board.board)) is closed.legal) in
    round bad stands g.C.Claimer.record_of items new c.args.parts.now c.run_all.new.parts start.seats
    c.requires.parts.0 start.fresh same c.run_all.auto.parts (subst Loops slice.value c.run_all.ensures.loops)
    p result.owners result.least_bad refl legal (subst Seen is closed.seen)

pub returns-clause-least : goal.returns-clause-least
returns-clause-least g c =
    let start = c.in_ok-board.ensures in
    let slice = c.as_mut_slice.ensures in
    let closed = c.close-owners.ensures in
    let result = c.close-owners.result in
    let items = c.in_ok-board.seats.items in
    let new = c.run_all.new.seats in
    let bad = g.J.Job.least_bad c.args.job.now in
    let stands = g.J.Job.stands_for c.args.job.now in
    let same : length new ≡ length c.in_ok-board.seats.items = c.run_all.auto.seats ∙ ap length slice.value in
    let is = whole_again c.in_ok-board.seats.len items new same (sym slice.len ∙ ap length slice.value) in
    let p : Plan = plan c.args.blocks (length c.args.parts.now) in
    let Loops : List g.row.C.Denot → Type 0 =
    λ x. AreLoops bad stands g.C.Claimer.record_of x c.args.parts.now new c.run_all.new.parts in
    let Legal : Plan → List g.row.C.Denot → Type 0 =
    λ q x. IsLegal q c.close-owners.result.owners (map (λ s. (g.C.Claimer.record_of s).taken) x) in
    let Seen : List g.row.C.Denot → Type 0 =
    λ x. All (λ s. All (λ n. c.close-owners.result.least_bad ≤ n) (g.C.Claimer.record_of s).seens) x in
    let Least : List g.row.C.Denot → Type 0 =
    λ x. c.close-owners.result.least_bad ≡ least_of (all_reported (map g.C.Claimer.record_of x)) in
    let legal =
    subst (λ q. Legal q new) start.board (subst (Legal (g.C.Claimer.plan_of c.in_ok-board.board)) is closed.legal) in
    let job = g.met.J.Job g.world.𝓛 g.world.𝓜 g.world.𝓡 ((λ s x. x), (λ x. x), (λ x. x), λ x. x) in
    least_bad_is bad stands g.C.Claimer.record_of items new c.args.parts.now c.run_all.new.parts start.seats
    c.requires.parts.0 start.fresh same c.run_all.auto.parts (subst Loops slice.value c.run_all.ensures.loops)
    p result.owners result.least_bad refl legal (subst Seen is closed.seen) (subst Least is closed.least)
    (λ b number lt e. job.bad_below c.args.job.now b number (omega (arith, legal.blocks, c.requires.blocks.0)) e)
