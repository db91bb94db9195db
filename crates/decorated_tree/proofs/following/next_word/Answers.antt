-- The loop goes from the end and keeps that the letters from its index on went back to 0 (`IsCounted`). A letter that
-- can be raised gives the next word; if none can, the word was the last.
use Rattle.std.proofs.Common.{◌-◌, arith}
use Rattle.decorated_tree.proofs.NextDigits.{letter_below, counted_on, counted_next, counted_through}
use Rattle.decorated_tree.proofs.following.next_word.Goals as goal

pub overflow_add-letters : goal.overflow_add-letters
overflow_add-letters c =
    let b =
    letter_below c.args.base c.args.letters.now c.loop-place.letters c.loop-place.place (c.loop-place.place - 1)
    (omega arith) c.loop-place.invariant in
    omega (arith, b)

pub returns-then-letters-place : goal.returns-then-letters-place
returns-then-letters-place c =
    counted_next c.args.base c.args.letters.now c.loop-place.letters c.loop-place.place (c.loop-place.place - 1)
    (omega arith) (omega arith) c.if-letters-place.true c.loop-place.invariant

pub loop-place-preserved : goal.loop-place-preserved
loop-place-preserved c =
    counted_on c.args.base c.args.letters.now c.loop-place.letters c.loop-place.place (c.loop-place.place - 1)
    (omega arith) (omega arith) c.if-letters-place.false c.loop-place.invariant

pub returns : goal.returns
returns c =
    counted_through c.args.base c.args.letters.now c.loop-place.letters c.loop-place.place
    (omega arith) c.requires c.loop-place.invariant
