use Rattle.std.proofs.Common.{◌≡◌, true, sym, ◌∙◌, List, ℕ, Ok, ap}
use Rattle.std.proofs.lemmas.Result.{err_from_is_err_and}
use Rattle.std.proofs.lemmas.List.{map_push}
use Rattle.checkpoint.specs.Bodies.{numbers_of}
use Rattle.checkpoint.specs.Readers.{goes_on, row_at, rows_at}
use Rattle.checkpoint.proofs.Loops.{continues, fails, ends, going_is_some, going, gone, none_left}
use Rattle.checkpoint.proofs.rows.rows.Goals as goal

pub returns-in_err-residues : goal.returns-in_err-residues
unfolding rows_at
returns-in_err-residues c =
    let p = err_from_is_err_and c.from_residual.result c.from_residual.ensures.1 in
    let more : goes_on c.loop-rest.rest.now ≡ true = going _ (sym c.is_empty.ensures ∙ c.loop-rest-test.true) in
    rw (p.1, p.2) (λ ne. fails goes_on row_at c.args.text.now (numbers_of c.loop-rest.rows.items) c.loop-rest.rest.now _ c.loop-rest.invariant more (going_is_some _ more) (c.in_err-residues.ensures.value ne))

pub loop-rest-preserved : goal.loop-rest-preserved
loop-rest-preserved c =
    let more : goes_on c.loop-rest.rest.now ≡ true = going _ (sym c.is_empty.ensures ∙ c.loop-rest-test.true) in
    rw (c.in_ok-push.ensures.items, map_push) (continues goes_on row_at c.args.text.now (numbers_of c.loop-rest.rows.items) c.loop-rest.rest.now c.in_ok-residues.residues.items c.in_ok-residues.after.now c.loop-rest.invariant more c.in_ok-residues.ensures.value c.in_ok-residues.ensures.shorter)

pub returns : goal.returns
unfolding rows_at
returns c =
    let none = sym c.is_empty.ensures ∙ c.loop-rest-test.false in
    ends goes_on row_at c.args.text.now (numbers_of c.loop-rest.rows.items) c.loop-rest.rest.now c.loop-rest.invariant
    (gone _ none)
    ∙ ap (λ (rest : List ℕ). Ok (numbers_of c.loop-rest.rows.items, rest)) (none_left _ none)
